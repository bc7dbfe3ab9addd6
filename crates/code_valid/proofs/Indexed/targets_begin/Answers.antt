use Rattle.code_valid.proofs.ReadingLaws.{standing_in, stands_in, names_one, names_two, names_none}
use Rattle.code_flat.specs.Opcodes as op
use native.Mathlib.Omega.{arith}
use lib.ListN.{get_or}
use mathlib.Core.List.{[], ◌∷◌}
use mathlib.Core.Logic.{◌⊎◌, inl, inr}
use mathlib.Core.Path.{◌≡◌, refl, sym, ◌∙◌, ap}
use Prim.Native.Nat.{ℕ, ◌+◌, ◌≤◌, ◌<◌}
use Rattle.std.proofs.Math.Decide.{dec_lt}
use Rattle.std.proofs.lemmas.Grind.{common_steps}
use Rattle.std.specs.Prelude.{◌≢◌}
use borrow.Author.Rules.{rules}
use Rattle.code_valid.proofs.Indexed.targets_begin.Goals as goal

-- An ASK or a SELECT.
either_of : (x : ℕ) → op.Ask ≤ x → x < op.Open → (x ≡ op.Ask) ⊎ (x ≡ op.Select)
either_of x h k = elim (dec_lt x op.Select) [ yes l ↦ inl (omega arith) | no l ↦ inr (omega arith) ]

pub offset_bounds-self-p : goal.offset_bounds-self-p
offset_bounds-self-p c = omega (arith, standing_in c.args.self.now.code.now c.args.p c.requires)

pub bounds-self-p : goal.bounds-self-p
bounds-self-p c = standing_in c.args.self.now.code.now c.args.p c.requires

pub begins_named-requires : goal.begins_named-requires
begins_named-requires c =
    let s = stands_in c.args.self.now.code.now c.args.p c.requires in
    elim c.in-2.is [ inl e ↦ omega (arith, s op.Leave e) | inr e ↦ omega (arith, s op.Open e) ]

pub both_begin-requires : goal.both_begin-requires
both_begin-requires c = omega (arith, stands_in c.args.self.now.code.now c.args.p c.requires op.Case c.in-7.is)

pub both_begin-requires-in-3 : goal.both_begin-requires-in-3
both_begin-requires-in-3 c =
    let s = stands_in c.args.self.now.code.now c.args.p c.requires in
    elim (either_of (get_or c.args.self.now.code.now c.args.p 0) (grind (arith, common_steps)) (omega arith)) [ inl e ↦ omega (arith, s op.Ask e) | inr e ↦ omega (arith, s op.Select e) ]

pub returns-in-2 : goal.returns-in-2
returns-in-2 c =
    let C = c.args.self.now.code.now in
    elim c.in-2.is [
      | inl e ↦ c.begins_named.ensures ∙ sym (names_one C c.args.p c.requires op.Leave (get_or C (c.args.p + 1) 0) e refl)
      | inr e ↦ c.begins_named.ensures ∙ sym (names_one C c.args.p c.requires op.Open (get_or C (c.args.p + 1) 0) e refl)
    ]

pub returns-in-7 : goal.returns-in-7
returns-in-7 c =
    let C = c.args.self.now.code.now in
    let e : c.args.p + 2 ≡ c.args.p + 1 + 1 = omega arith in
    c.both_begin.ensures ∙ sym (names_two C c.args.p c.requires op.Case (get_or C (c.args.p + 1) 0) (get_or C (c.args.p + 1 + 1) 0) c.in-7.is (ap (λ k. get_or C (c.args.p + 1) 0 ∷ get_or C k 0 ∷ []) e))

pub returns-in-3 : goal.returns-in-3
returns-in-3 c =
    let C = c.args.self.now.code.now in
    let n : c.args.p + 3 ≡ c.args.p + 2 + 1 = omega arith in
    let two = ap (λ k. get_or C (c.args.p + 2) 0 ∷ get_or C k 0 ∷ []) n in
    elim (either_of (get_or C c.args.p 0) (grind (arith, common_steps)) (omega arith)) [
      | inl e ↦ c.both_begin-in-3.ensures ∙ sym (names_two C c.args.p c.requires op.Ask (get_or C (c.args.p + 2) 0) (get_or C (c.args.p + 2 + 1) 0) e two)
      | inr e ↦ c.both_begin-in-3.ensures ∙ sym (names_two C c.args.p c.requires op.Select (get_or C (c.args.p + 2) 0) (get_or C (c.args.p + 2 + 1) 0) e two)
    ]

pub returns-in_default : goal.returns-in_default
returns-in_default c =
    sym (names_none c.args.self.now.code.now c.args.p c.requires (grind (arith, common_steps)) (grind (arith, common_steps)) (grind (arith, common_steps)) (grind (arith, common_steps)) (grind (arith, common_steps)))

pub returns-in_default-2 : goal.returns-in_default-2
returns-in_default-2 c =
    let C = c.args.self.now.code.now in
    let n : get_or C c.args.p 0 ≢ op.Leave = grind (arith, common_steps) in
    let o : get_or C c.args.p 0 ≢ op.Open = search rules in
    sym (names_none C c.args.p c.requires n (omega arith) (omega arith) o (omega arith))
