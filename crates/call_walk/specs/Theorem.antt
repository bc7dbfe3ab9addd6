-- BOTH ENGINES: "For every tree, unit and answer list it gives the list, end and count of answers of the code engine. That equality is proved for all
-- statement kinds, `try` and static blocks included. It gives the refusals of the route call except 11."
use Rattle.std.specs.Prelude.{ℕ, ◌≤◌, List, Bool, cond, leb, length, Ok, Err}
use Rattle.std.proofs.Math.Path.{◌≡◌, refl, ap}
use Rattle.std.proofs.Common.{sym, ◌∙◌, arith, le-leb}
use Rattle.std.proofs.Math.Bool.{true, false}
use Rattle.table_records.specs.Facts.{Tree}
use Rattle.refusal_verdict.specs.declared.Refusal.TheVariants as refusal
use Rattle.refusal_verdict.specs.declared.Refused.{Refused}
use Rattle.refusal_verdict.specs.declared.Refused.TheVariants.{At, Short}
use Rattle.refusal_verdict.specs.Verdict.{Verdict, Passed, unless}
use Rattle.route_completion.specs.Route.{Route, route}
use Rattle.route_viewer.specs.Shown.{routed, shown_answer, shown_slice}
use Rattle.code_assemble.specs.Assembled.{short as code_short}
use Rattle.route_list.specs.Listing.{saturated}
use Rattle.code_flat.specs.Code.{unit}
use Rattle.code_flat.specs.Machine.{code_route}
use Rattle.code_tree.specs.Statements.{unit_of}
use Rattle.code_length.specs.Length.{code_length}
use Rattle.check_dispatch.specs.Rule.{Rule}
use Rattle.call_routes.specs.Calls.{code_refusal, if_room, route_answer, route_slice}
use Rattle.call_routes.proofs.CallsLaws.{code_route_lem, ready}
use Rattle.call_routes.proofs.PlacedLaws.{Placed, code_placed}
use Rattle.call_walk.specs.Walked.{walk_answer, walk_slice}

-- What holds of a rule, a unit and a list of answers, refused or not.
pub record BothEngines (r : Rule) (u : ℕ) (answers : List ℕ) : Type 0 where
  -- With every code slice that has room, the route call answers and leaves what the walk does: the refusals, the list, the end and the count of answers.
  pub answer : (codeLen : ℕ) → code_length r.nodes u ≤ codeLen → (len : ℕ) → route_answer r u answers codeLen len ≡ walk_answer r u answers len
  pub slice : (codeLen : ℕ) → code_length r.nodes u ≤ codeLen → (s : List ℕ) → route_slice r u answers codeLen s ≡ walk_slice r u answers s
  -- What the walk shows of a unit that is not refused is the run of its code.
  pub shown : code_refusal r u ≡ Passed → (len : ℕ) → walk_answer r u answers len ≡ shown_answer (code_route (unit (unit_of r.nodes r.names u)) answers) len
  pub left : code_refusal r u ≡ Passed → (s : List ℕ) → walk_slice r u answers s ≡ shown_slice (code_route (unit (unit_of r.nodes r.names u)) answers) s
  -- It never gives 11.
  pub no11 : (len needed : ℕ) → walk_answer r u answers len ≡ code_short needed → ⊥

module _ (r : Rule) (u : ℕ) (answers : List ℕ) where
  abbrev R : Route
  R = route (unit_of r.nodes r.names u) answers

  roomy : {A : Type 0} (codeLen : ℕ) → code_length r.nodes u ≤ codeLen → (f : Refused → A) (a short : A) → unless (code_refusal r u) f (if_room r u codeLen a short) ≡ unless (code_refusal r u) f a
  roomy codeLen h f a short = ap (λ x. unless (code_refusal r u) f (cond x a short)) (le-leb (code_length r.nodes u) codeLen h)

  module _ (e : code_refusal r u ≡ Passed) where
    runs : route (unit_of r.nodes r.names u) answers ≡ code_route (unit (unit_of r.nodes r.names u)) answers
    runs = sym (code_route_lem r.nodes r.names (ready r.source_type r.async_bodies r.nodes r.scopes r.source r.names u e).tree u answers)

    passed_answer_lem : (len : ℕ) → walk_answer r u answers len ≡ shown_answer (code_route (unit (unit_of r.nodes r.names u)) answers) len
    unfolding walk_answer
    passed_answer_lem len = ap (λ v. unless v Err (shown_answer R len)) e ∙ ap (λ w. shown_answer w len) runs

    passed_slice_lem : (s : List ℕ) → walk_slice r u answers s ≡ shown_slice (code_route (unit (unit_of r.nodes r.names u)) answers) s
    unfolding walk_slice
    passed_slice_lem s = ap (λ v. unless v (λ e. s) (shown_slice R s)) e ∙ ap (λ w. shown_slice w s) runs

  never11 : (len needed : ℕ) → walk_answer r u answers len ≡ code_short needed → ⊥
  unfolding walk_answer shown_answer
  never11 len needed = go (code_refusal r u) (code_placed r u) (leb (length R.list) len)
    where
      go : (v : Verdict) → Placed v → (x : Bool) → unless v Err (cond x (routed R.end (length R.list) R.taken) (Err (Short refusal.RouteSlice (saturated (length R.list))))) ≡ code_short needed → ⊥
      go (Err (At n p)) h x q = let z : ◌≡◌ {A = ℕ} 0 1 = cc in absurd (omega arith)
      go (Err (Short n k)) h x q = h.placed n k refl
      go (Ok u) h true q = let z : ◌≡◌ {A = ℕ} 0 1 = cc in absurd (omega arith)
      go (Ok u) h false q = let z : ◌≡◌ {A = ℕ} 0 1 = cc in absurd (omega arith)

  -- THE THEOREM
  pub both_engines : BothEngines r u answers
  unfolding route_answer route_slice walk_answer walk_slice
  both_engines =
      record {
        answer = λ codeLen h len. roomy codeLen h Err (shown_answer R len) (code_short (code_length r.nodes u));
        slice = λ codeLen h s. roomy codeLen h (λ e. s) (shown_slice R s) s;
        shown = passed_answer_lem;
        left = passed_slice_lem;
        no11 = never11;
      }

-- For all trees, refused or not: the run of a unit's code is the route by the completion rules, which the walk is proved to give.
pub every_tree : (ns names : List ℕ) → Tree ns → (u : ℕ) (answers : List ℕ) → code_route (unit (unit_of ns names u)) answers ≡ route (unit_of ns names u) answers
every_tree ns names t u answers = code_route_lem ns names t u answers
