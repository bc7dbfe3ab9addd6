-- A refusal before 11 has a place: it tells of no slice that is too short.
use Rattle.std.specs.Prelude.{ℕ, ◌≡◌, Bool, true, false, cond, Option, Some, None, Ok, Err}
use Rattle.std.proofs.Common.{arith}
use Rattle.refusal_verdict.specs.declared.Refusal.{Refusal}
use Rattle.refusal_verdict.specs.declared.Refused.TheVariants.{At, Short}
use Rattle.refusal_verdict.specs.Verdict.{Verdict, Passed, or_next}
use Rattle.refusal_verdict.specs.declared.Refusal.TheVariants as refusal
use Rattle.refusal_verdict.specs.First.{first}
use Rattle.table_records.specs.Table.{count, count_scopes}
use Rattle.check_supers.specs.Super.{fails_at}
use Rattle.refusal_fields.specs.Fields.{wrong_sizes, unlisted_at, stray_at}
use Rattle.refusal_tree.specs.Tree.{misplaced_at}
use Rattle.refusal_scopes.specs.Scopes.{broken_at, misscoped_at}
use Rattle.refusal_standing.specs.Standing.{misplaced_child_at}
use Rattle.refusal_counts.specs.Counts.{wrong_count_at}
use Rattle.refusal_return.specs.Return.{return_in_static}
use Rattle.refusal_input.specs.Input.{tables_or, shape_refusal, input_refusal}
use Rattle.refusal_state.specs.Targets.{names_unit, state_place, unit_refusal, refused_or, state_answer}
use Rattle.check_dispatch.specs.Rule.{Rule}
use Rattle.call_routes.specs.Calls.{code_refusal}

pub record Placed (v : Verdict) : Type 0 where
  pub placed : (k : Refusal) (needed : ℕ) → v ≡ Err (Short k needed) → ⊥

at : (k : Refusal) (p : ℕ) → Placed (Err (At k p))
at k p = record { placed = λ l needed e. let z : ◌≡◌ {A = ℕ} 0 1 = cc in absurd (omega arith) }

none : Placed Passed
none = record { placed = λ l needed e. let z : ◌≡◌ {A = ℕ} 0 1 = cc in absurd (omega arith) }

next : (k : Refusal) (p : Option ℕ) (r : Verdict) → Placed r → Placed (or_next k p r)
next k (Some j) r h = at k j
next k None r h = h

test : (k : Refusal) (p : ℕ) (x : Bool) (r : Verdict) → Placed r → Placed (cond x (Err (At k p)) r)
test k p true r h = at k p
test k p false r h = h

unless_unit : (k : Refusal) (p : ℕ) (x : Bool) → Placed (cond x Passed (Err (At k p)))
unless_unit k p true = none
unless_unit k p false = at k p

either : (v w : Verdict) → Placed v → Placed w → Placed (refused_or v w)
either (Err e) w a b = a
either (Ok u) w a b = b

pub code_placed : (r : Rule) (u : ℕ) → Placed (code_refusal r u)
unfolding code_refusal input_refusal tables_or shape_refusal state_answer unit_refusal
code_placed r u =
    let n = count r.nodes in
    either (input_refusal r.source_type r.nodes r.scopes r.source r.names) (state_answer r u)
    (test refusal.Sizes 0 (wrong_sizes r.source_type r.nodes r.scopes r.source r.names) _
    (next refusal.Unlisted (first (unlisted_at r.source_type r.nodes) 0 n) _
    (next refusal.Tree (first (misplaced_at r.nodes) 0 n) _
    (next refusal.Bytes (first (stray_at r.nodes r.source r.names) 0 n) _
    (next refusal.Scopes (first (broken_at r.scopes) 0 (count_scopes r.scopes)) _
    (next refusal.Scopes (first (misscoped_at r.nodes r.scopes) 0 n) _
    (next refusal.Misplaced (first (misplaced_child_at r.nodes) 0 n) _
    (next refusal.WrongCount (first (wrong_count_at r.nodes) 0 n) _
    (next refusal.Walk (first (fails_at r.nodes r.scopes) 0 n) _
    (next refusal.ReturnInStatic (first (return_in_static r.nodes) 0 n) Passed none))))))))))
    (either (unit_refusal r.nodes u) (or_next refusal.Findings (state_place r) Passed)
    (unless_unit refusal.Unit u (names_unit r.nodes u)) (next refusal.Findings (state_place r) Passed none))
