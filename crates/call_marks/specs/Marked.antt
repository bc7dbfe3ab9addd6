-- What `route_stop`, `route_resume` and `route_resume_stop` answer and leave, for every input, every array of marks and all slices.
use Rattle.std.specs.Prelude.{ℕ, List, cond, ltb, length, Err}
use Rattle.check_dispatch.specs.Rule.{Rule}
use Rattle.refusal_verdict.specs.declared.Refusal.TheVariants as refusal
use Rattle.refusal_verdict.specs.declared.Refused.TheVariants.{At}
use Rattle.refusal_verdict.specs.Verdict.{Verdict, Passed, unless}
use Rattle.refusal_state.specs.Targets.{refused_or}
use Rattle.code_flat.specs.Code.{unit}
use Rattle.code_tree.specs.Statements.{unit_of}
use Rattle.code_length.specs.Length.{code_length}
use Rattle.code_marks.specs.Stop.{Stop}
use Rattle.code_machine.specs.Halted.{route_to}
use Rattle.route_list.specs.Over.{over}
use Rattle.code_assemble.specs.Assembled.{short as code_short}
use Rattle.route_viewer.specs.Shown.{Routed, shown_answer, shown_slice}
use Rattle.route_marks.specs.Marks.{marks, is_set, place_of}
use Rattle.route_marks.specs.Taken.{begins_at, marks_shown}
use Rattle.route_marks.specs.declared.Begin.{Begin}
use Rattle.route_marks.specs.declared.Begin.TheVariants.{Start, Mark}
use Rattle.call_routes.specs.Calls.{code_refusal, if_room}

-- "Errors, place the mark (the one taken up first): 16 (mark above 7, or not set where it is taken up)".
abbrev pub to_refusal : ℕ → Verdict
to_refusal m = cond (ltb m marks) Passed (Err (At refusal.Mark m))

abbrev pub from_refusal : List ℕ → ℕ → Verdict
from_refusal M m = cond (is_set M m) Passed (Err (At refusal.Mark m))

-- "17 (one taken up that holds a place where no instruction of the unit's code begins)".
abbrev pub place_refusal : List ℕ → List ℕ → ℕ → Verdict
place_refusal M C m = cond (begins_at C (place_of M m)) Passed (Err (At refusal.MarkPlace m))

-- Both, of a route that begins at its start or at a mark, and is to be stopped under the mark `to`.
abbrev pub sixteen_of : List ℕ → Begin → ℕ → Verdict
sixteen_of M Start to = to_refusal to
sixteen_of M (Mark m) to = refused_or (from_refusal M m) (to_refusal to)

abbrev pub seventeen_of : List ℕ → List ℕ → Begin → Verdict
seventeen_of M C Start = Passed
seventeen_of M C (Mark m) = place_refusal M C m

abbrev pub code_of : Rule → ℕ → List ℕ
code_of r u = unit (unit_of r.nodes r.names u)

-- "16 .., after 9 and before 11; 17 .., after 11 and before 12": the answer of a call by its 16, its 17 and what its run comes to.
unfoldable pub mark_answer : Rule → ℕ → Verdict → Verdict → Stop → ℕ → ℕ → Routed
mark_answer r u sixteen seventeen s codeLen len =
    unless (refused_or (code_refusal r u) sixteen) Err
    (if_room r u codeLen (unless seventeen Err (shown_answer (route_to s) len)) (code_short (code_length r.nodes u)))

-- "the code slice then holding the code" at 17, as it does at 12.
unfoldable pub mark_code : Rule → ℕ → Verdict → List ℕ → List ℕ
mark_code r u sixteen k = unless (refused_or (code_refusal r u) sixteen) (λ e. k) (if_room r u (length k) (over (code_of r u) k) k)

unfoldable pub mark_slice : Rule → ℕ → Verdict → Verdict → Stop → ℕ → List ℕ → List ℕ
mark_slice r u sixteen seventeen s codeLen o =
    unless (refused_or (code_refusal r u) sixteen) (λ e. o) (if_room r u codeLen (unless seventeen (λ e. o) (shown_slice (route_to s) o)) o)

-- "A route that ends before the named number sets no mark, nor does a refusal": M is the array as it was, `to` the mark that is to be set.
unfoldable pub marks_left : Rule → ℕ → Verdict → Verdict → Stop → ℕ → ℕ → List ℕ → ℕ → List ℕ
marks_left r u sixteen seventeen s codeLen len M to =
    unless (refused_or (code_refusal r u) sixteen) (λ e. M) (if_room r u codeLen (unless seventeen (λ e. M) (marks_shown M to s len)) M)
