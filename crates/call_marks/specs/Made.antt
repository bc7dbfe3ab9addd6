-- What the functions of the calls come to for a section of a route.
use Rattle.std.specs.Prelude.{ℕ, List, cond, leb, length, Err}
use Rattle.check_dispatch.specs.Rule.{Rule}
use Rattle.refusal_verdict.specs.Verdict.{unless}
use Rattle.code_machine.specs.Halted.{route_to}
use Rattle.code_assemble.specs.Assembled.{short as code_short}
use Rattle.route_viewer.specs.Shown.{Routed, shown_answer, shown_slice}
use Rattle.route_marks.specs.Taken.{stop_of_section, marks_shown}
use Rattle.route_marks.specs.declared.Section.{Section}
use Rattle.call_marks.specs.Marked.{sixteen_of, seventeen_of, code_of, mark_answer, mark_code, mark_slice, marks_left}

-- On the code C and the array of marks M,
module _ (C M : List ℕ) (s : Section) where
  -- by 17,
  abbrev pub shown_or : ℕ → Routed
  shown_or len = unless (seventeen_of M C s.begin) Err (shown_answer (route_to (stop_of_section M C s)) len)

  abbrev pub list_or : List ℕ → List ℕ
  list_or o = unless (seventeen_of M C s.begin) (λ e. o) (shown_slice (route_to (stop_of_section M C s)) o)

  abbrev pub marks_or : ℕ → List ℕ
  marks_or len = unless (seventeen_of M C s.begin) (λ e. M) (marks_shown M s.to (stop_of_section M C s) len)

  -- and by whether the code slice has room for the code.
  unfoldable pub made_answer : ℕ → ℕ → Routed
  made_answer codeLen len = cond (leb (length C) codeLen) (shown_or len) (code_short (length C))

  unfoldable pub made_slice : ℕ → List ℕ → List ℕ
  made_slice codeLen o = cond (leb (length C) codeLen) (list_or o) o

  unfoldable pub made_marks : ℕ → ℕ → List ℕ
  made_marks codeLen len = cond (leb (length C) codeLen) (marks_or len) M

-- For every input: r is the rule, u the unit.
module _ (r : Rule) (u : ℕ) (M : List ℕ) (s : Section) where
  abbrev pub section_answer : ℕ → ℕ → Routed
  section_answer codeLen len = mark_answer r u (sixteen_of M s.begin s.to) (seventeen_of M (code_of r u) s.begin) (stop_of_section M (code_of r u) s) codeLen len

  abbrev pub section_code : List ℕ → List ℕ
  section_code k = mark_code r u (sixteen_of M s.begin s.to) k

  abbrev pub section_slice : ℕ → List ℕ → List ℕ
  section_slice codeLen o = mark_slice r u (sixteen_of M s.begin s.to) (seventeen_of M (code_of r u) s.begin) (stop_of_section M (code_of r u) s) codeLen o

  abbrev pub section_marks : ℕ → ℕ → List ℕ
  section_marks codeLen len = marks_left r u (sixteen_of M s.begin s.to) (seventeen_of M (code_of r u) s.begin) (stop_of_section M (code_of r u) s) codeLen len M s.to
