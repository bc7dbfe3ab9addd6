-- What is known where no refusal is given.
use Rattle.std.specs.Prelude.{ℕ, ◌≤◌, ◌<◌, List, Bool, take, drop, Ok, Err}
use Rattle.std.proofs.Math.Path.{◌≡◌, refl}
use Rattle.std.proofs.Common.{sym, arith, length-append, take_at}
use Rattle.std.proofs.Math.Bool.{true, false, cond}
use borrow.Author.Tests.{leb-true, leb-false, le-leb, lt-leb}
use Rattle.std.proofs.Math.Dec.{leb}
use Rattle.std.proofs.Math.ListN.{length}
use Rattle.base_common.proofs.UptoLaws.{and_right_lem}
use Rattle.table_records.specs.Table.{kind_of, count}
use Rattle.table_records.specs.Kinds as k
use Rattle.table_records.specs.Facts.{Tree}
use Rattle.refusal_verdict.specs.declared.Refusal.TheVariants as refusal
use Rattle.refusal_verdict.specs.declared.Refused.{Refused}
use Rattle.refusal_verdict.specs.declared.Refused.TheVariants.{Short}
use Rattle.refusal_verdict.specs.Verdict.{Verdict, Passed, unless}
use Rattle.refusal_verdict.proofs.VerdictLaws.{no_pass}
use Rattle.refusal_input.specs.WellFormed.{WellFormed}
use Rattle.refusal_input.specs.Input.{input_refusal}
use Rattle.refusal_input.proofs.InputLaws.{input_well_formed}
use Rattle.route_completion.specs.Tree.{Stmts}
use Rattle.route_completion.specs.Route.{route}
use Rattle.code_flat.specs.Code.{unit}
use Rattle.code_flat.specs.Machine.{code_route}
use Rattle.code_flat.proofs.ClaimsLaws.{claims}
use Rattle.route_list.specs.Over.{over}
use Rattle.code_tree.specs.Statements.{unit_of}
use Rattle.code_tree.proofs.RoomLaws.{unit_room_lem}
use Rattle.code_wellformed.proofs.HolderReady.{holder_ready}
use Rattle.code_length.specs.Length.{code_length}
use Rattle.code_length.proofs.LengthLaws.{code_length_lem}
use Rattle.code_assemble.specs.Assembled.{short, assembled, assembled_slice}
use Rattle.code_assemble.specs.Ready.{Ready}
use Rattle.route_viewer.specs.Shown.{shown_answer, shown_slice}
use Rattle.check_jumps.specs.Jumps.{is_unit}
use Rattle.check_dispatch.specs.Rule.{rule}
use Rattle.refusal_state.specs.Targets.{refused_or, state_answer}
use Rattle.refusal_state.proofs.TargetsLaws.{state_passed}
use Rattle.refusal_state.specs.Targets.{Sound}
use Rattle.call_routes.specs.Calls.{code_refusal}
use Rattle.call_routes.specs.Made.{made_answer, made_slice}

pub both : (v w : Verdict) → refused_or v w ≡ Passed → (v ≡ Passed) × (w ≡ Passed)
both (Err f) w e = no_pass f e
both (Ok u) w e = (refl, e)

pub unit_kind_lem : (kind : ℕ) → is_unit kind ≡ true → kind ≤ 3
unit_kind_lem kind e = leb-true kind 3 (and_right_lem (leb 0 kind) (leb kind 3) e)

-- A unit of well-formed tables can be coded.
pub unit_ready_lem : (source_type : ℕ) (ns ss source names : List ℕ) (u : ℕ) → WellFormed source_type ns ss source names → u < count ns → kind_of ns u ≤ k.StaticBlock → Ready ns names u
unit_ready_lem source_type ns ss source names u w h l =
    record {
      tree = w.input.tree;
      root = h;
      held = λ b q. holder_ready ns u h l b q w.input.tree w.listed w.shaped.placed w.shaped.counted names w.input.named;
    }

module _ (source_type async_bodies : ℕ) (ns ss source names : List ℕ) (u : ℕ) (e : code_refusal (rule source_type async_bodies ns ss source names) u ≡ Passed) where
  parted : (input_refusal source_type ns ss source names ≡ Passed) × (state_answer (rule source_type async_bodies ns ss source names) u ≡ Passed)
  unfolding code_refusal
  parted = both (input_refusal source_type ns ss source names) (state_answer (rule source_type async_bodies ns ss source names) u) e

  formed : WellFormed source_type ns ss source names
  formed = input_well_formed source_type ns ss source names parted.0

  sound : Sound source_type ns ss source names u
  sound = state_passed source_type async_bodies ns ss source names u parted.1

  pub ready : Ready ns names u
  ready = unit_ready_lem source_type ns ss source names u formed sound.below (unit_kind_lem (kind_of ns u) sound.unit)

  -- The sum that 11 gives is the length of the code.
  pub exact : length (unit (unit_of ns names u)) ≡ code_length ns u
  exact =
      let w = formed in
      code_length_lem ns w.input.tree w.listed w.shaped.placed w.shaped.counted u sound.below sound.unit names w.input.named

-- The run of the unit's code is its route by the completion rules: its finally blocks find room.
pub code_route_lem : (ns names : List ℕ) (t : Tree ns) (u : ℕ) (answers : List ℕ) → code_route (unit (unit_of ns names u)) answers ≡ route (unit_of ns names u) answers
code_route_lem ns names t u answers = (claims (unit_of ns names u) (unit_room_lem ns names t u) answers).same

-- What the maker answered says of the code and the slice.
module _ (c : List ℕ) (len : ℕ) where
  pub told_code : (n : ℕ) → Ok n ≡ assembled c len → (n ≡ length c) × (length c ≤ len)
  unfolding assembled
  told_code n = go (leb (length c) len) refl
    where
      go : (x : Bool) → leb (length c) len ≡ x → Ok n ≡ cond x (Ok (length c)) (short (length c)) → (n ≡ length c) × (length c ≤ len)
      go true q e = (cc, leb-true (length c) len q)
      go false q e = let z : ◌≡◌ {A = ℕ} 0 1 = cc in absurd (omega arith)

  pub told_short : (e : Refused) → Err e ≡ assembled c len → (e ≡ Short refusal.CodeSlice (length c)) × (len < length c)
  unfolding assembled
  told_short e = go (leb (length c) len) refl
    where
      go : (x : Bool) → leb (length c) len ≡ x → Err e ≡ cond x (Ok (length c)) (short (length c)) → (e ≡ Short refusal.CodeSlice (length c)) × (len < length c)
      go true q f = let z : ◌≡◌ {A = ℕ} 0 1 = cc in absurd (omega arith)
      go false q f = (cc, leb-false (length c) len q)

pub slice_over : (c s : List ℕ) → length c ≤ length s → assembled_slice c s ≡ over c s
unfolding assembled_slice
slice_over c s h = rw (le-leb (length c) (length s) h)

-- What is made of a unit, by whether there is room.
module _ (ss : Stmts) (answers : List ℕ) (codeLen : ℕ) where
  pub made_room : length (unit ss) ≤ codeLen → (len : ℕ) → made_answer ss answers codeLen len ≡ shown_answer (route ss answers) len
  unfolding made_answer
  made_room h len = rw (le-leb (length (unit ss)) codeLen h)

  pub kept_room : length (unit ss) ≤ codeLen → (s : List ℕ) → made_slice ss answers codeLen s ≡ shown_slice (route ss answers) s
  unfolding made_slice
  kept_room h s = rw (le-leb (length (unit ss)) codeLen h)

  pub made_short : codeLen < length (unit ss) → (len : ℕ) → made_answer ss answers codeLen len ≡ short (length (unit ss))
  unfolding made_answer
  made_short h len = rw (lt-leb (length (unit ss)) codeLen h)

  pub kept_short : codeLen < length (unit ss) → (s : List ℕ) → made_slice ss answers codeLen s ≡ s
  unfolding made_slice
  kept_short h s = rw (lt-leb (length (unit ss)) codeLen h)

-- An answer, or a slice, where there is no refusal before 11: n is the code's length, l the sum.
pub by_room : {A : Type 0} (v : Verdict) → v ≡ Passed → (n l len : ℕ) → n ≡ l → (f : Refused → A) (a : A) (s : ℕ → A)
    → cond (leb n len) a (s n) ≡ unless v f (cond (leb l len) a (s l))
by_room v e n l len q f a s = λ i. unless (sym e i) f (cond (leb (q i) len) a (s (q i)))

-- The front of a slice that has the code.
pub front_code : (l s : List ℕ) (n : ℕ) → n ≡ length l → take n (over l s) ≡ l
front_code l s n h = take_at l (drop (length l) s) n (sym h)

pub over_length : (l s : List ℕ) → length l ≤ length (over l s)
over_length l s = omega (arith, length-append l (drop (length l) s))

pub coded_by_lem : (c : List ℕ) (len : ℕ) → assembled c len ≡ cond (leb (length c) len) (Ok (length c)) (short (length c))
unfolding assembled
coded_by_lem c len = refl
