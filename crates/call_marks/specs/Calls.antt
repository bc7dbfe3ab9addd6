-- The three calls by themselves: what each answers and leaves of the code slice k, the route slice o and the array of marks M. r is the rule, u the unit.
use Rattle.std.specs.Prelude.{ℕ, List}
use Rattle.check_dispatch.specs.Rule.{Rule}
use Rattle.refusal_verdict.specs.Verdict.{Verdict}
use Rattle.refusal_state.specs.Targets.{refused_or}
use Rattle.code_marks.specs.Stop.{Stop}
use Rattle.route_viewer.specs.Shown.{Routed}
use Rattle.route_marks.specs.Taken.{stop_of, gone_on}
use Rattle.route_marks.specs.declared.Begin.TheVariants.{Start, Mark}
use Rattle.call_marks.specs.Marked.{code_of, to_refusal, from_refusal, place_refusal, seventeen_of, mark_answer, mark_code, mark_slice, marks_left}

-- "A route may be stopped right after the entry that takes the last of a named number of answers (for 0, at its start), with end 4, under one of eight marks"
abbrev pub stop_answer : Rule → ℕ → List ℕ → ℕ → ℕ → List ℕ → ℕ → ℕ → Routed
stop_answer r u answers mark stop M codeLen len =
    mark_answer r u (to_refusal mark) (seventeen_of M (code_of r u) Start) (stop_of M (code_of r u) answers Start stop) codeLen len

abbrev pub stop_code : Rule → ℕ → ℕ → List ℕ → List ℕ
stop_code r u mark k = mark_code r u (to_refusal mark) k

abbrev pub stop_slice : Rule → ℕ → List ℕ → ℕ → ℕ → List ℕ → ℕ → List ℕ → List ℕ
stop_slice r u answers mark stop M codeLen o =
    mark_slice r u (to_refusal mark) (seventeen_of M (code_of r u) Start) (stop_of M (code_of r u) answers Start stop) codeLen o

abbrev pub stop_marks : Rule → ℕ → List ℕ → ℕ → ℕ → List ℕ → ℕ → ℕ → List ℕ
stop_marks r u answers mark stop M codeLen len =
    marks_left r u (to_refusal mark) (seventeen_of M (code_of r u) Start) (stop_of M (code_of r u) answers Start stop) codeLen len M mark

-- ".. and taken up again from there with further answers"; it sets no mark
abbrev pub resume_answer : Rule → ℕ → ℕ → List ℕ → List ℕ → ℕ → ℕ → Routed
resume_answer r u mark answers M codeLen len =
    mark_answer r u (from_refusal M mark) (place_refusal M (code_of r u) mark) (gone_on M (code_of r u) answers mark) codeLen len

abbrev pub resume_code : Rule → ℕ → ℕ → List ℕ → List ℕ → List ℕ
resume_code r u mark M k = mark_code r u (from_refusal M mark) k

abbrev pub resume_slice : Rule → ℕ → ℕ → List ℕ → List ℕ → ℕ → List ℕ → List ℕ
resume_slice r u mark answers M codeLen o =
    mark_slice r u (from_refusal M mark) (place_refusal M (code_of r u) mark) (gone_on M (code_of r u) answers mark) codeLen o

-- "A route taken up may be stopped again"; of the two marks the one taken up goes first
abbrev pub either_refusal : List ℕ → ℕ → ℕ → Verdict
either_refusal M from to = refused_or (from_refusal M from) (to_refusal to)

abbrev pub again_of : Rule → ℕ → ℕ → List ℕ → ℕ → List ℕ → Stop
again_of r u from answers stop M = stop_of M (code_of r u) answers (Mark from) stop

abbrev pub resume_stop_answer : Rule → ℕ → ℕ → List ℕ → ℕ → ℕ → List ℕ → ℕ → ℕ → Routed
resume_stop_answer r u from answers to stop M codeLen len =
    mark_answer r u (either_refusal M from to) (place_refusal M (code_of r u) from) (again_of r u from answers stop M) codeLen len

abbrev pub resume_stop_code : Rule → ℕ → ℕ → ℕ → List ℕ → List ℕ → List ℕ
resume_stop_code r u from to M k = mark_code r u (either_refusal M from to) k

abbrev pub resume_stop_slice : Rule → ℕ → ℕ → List ℕ → ℕ → ℕ → List ℕ → ℕ → List ℕ → List ℕ
resume_stop_slice r u from answers to stop M codeLen o =
    mark_slice r u (either_refusal M from to) (place_refusal M (code_of r u) from) (again_of r u from answers stop M) codeLen o

abbrev pub resume_stop_marks : Rule → ℕ → ℕ → List ℕ → ℕ → ℕ → List ℕ → ℕ → ℕ → List ℕ
resume_stop_marks r u from answers to stop M codeLen len =
    marks_left r u (either_refusal M from to) (place_refusal M (code_of r u) from) (again_of r u from answers stop M) codeLen len M to
