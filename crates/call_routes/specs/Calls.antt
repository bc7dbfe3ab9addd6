-- What `code` and `route` answer and leave, for every input and all slices.
use Rattle.std.specs.Prelude.{ℕ, List, cond, leb, length, Result, Ok, Err}
use Rattle.refusal_verdict.specs.declared.Refused.{Refused}
use Rattle.refusal_verdict.specs.Verdict.{Verdict, unless}
use Rattle.refusal_input.specs.Input.{input_refusal}
use Rattle.route_completion.specs.Route.{route}
use Rattle.code_flat.specs.Code.{unit}
use Rattle.code_tree.specs.Statements.{unit_of}
use Rattle.code_length.specs.Length.{code_length}
use Rattle.check_dispatch.specs.Rule.{Rule}
use Rattle.refusal_state.specs.Targets.{refused_or, state_answer}
use Rattle.code_assemble.specs.Assembled.{short as code_short}
use Rattle.route_list.specs.Over.{over}
use Rattle.route_viewer.specs.Shown.{Routed, shown_answer, shown_slice}

-- The refusals before 11: "the code call 1-9 and 11", without 8, which "is no longer given"; 13 and 14 "in every call that gives 6", 15 "in every call".
unfoldable pub code_refusal : Rule → ℕ → Verdict
code_refusal r u = refused_or (input_refusal r.source_type r.nodes r.scopes r.source r.names) (state_answer r u)

-- "11 is now given if the slice is shorter than that sum; it also gives the sum": len is the length of the code slice.
abbrev pub if_room : {A : Type 0} → Rule → ℕ → ℕ → A → A → A
if_room r u len a short = cond (leb (code_length r.nodes u) len) a short

-- the length of the unit's code
unfoldable pub code_answer : Rule → ℕ → ℕ → Result ℕ Refused
code_answer r u len =
    unless (code_refusal r u) Err (if_room r u len (Ok (length (unit (unit_of r.nodes r.names u)))) (code_short (code_length r.nodes u)))

-- the unit's code; a refusal leaves the slice as it was
unfoldable pub code_slice : Rule → ℕ → List ℕ → List ℕ
code_slice r u s = unless (code_refusal r u) (λ e. s) (if_room r u (length s) (over (unit (unit_of r.nodes r.names u)) s) s)

-- "the route call 1-9, 11 and 12", without 8: the route is the unit's by the completion rules. Of the code slice it leaves what the code call does, 12 or not.
unfoldable pub route_answer : Rule → ℕ → List ℕ → ℕ → ℕ → Routed
route_answer r u answers codeLen len =
    unless (code_refusal r u) Err (if_room r u codeLen (shown_answer (route (unit_of r.nodes r.names u) answers) len) (code_short (code_length r.nodes u)))

unfoldable pub route_slice : Rule → ℕ → List ℕ → ℕ → List ℕ → List ℕ
route_slice r u answers codeLen s =
    unless (code_refusal r u) (λ e. s) (if_room r u codeLen (shown_slice (route (unit_of r.nodes r.names u) answers) s) s)
