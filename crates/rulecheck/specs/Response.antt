-- What `rulecheck` prints, from the bytes that it reads (document 01, "The reader program").
use Rattle.std.specs.Prelude.{Result, Ok, Err, ℕ, ◌*◌, cond, List, [], ◌∷◌, ◌++◌, leb, length}
use Rattle.check_diagnostics.specs.declared.Finding.{Finding}
use Rattle.check_diagnostics.specs.Finding.{numbers}
use Rattle.refusal_verdict.specs.declared.Refusal.TheVariants as refusal
use Rattle.refusal_verdict.specs.declared.Refused.TheVariants.{At, Short}
use Rattle.refusal_verdict.specs.Verdict.{Verdict}
use Rattle.refusal_input.specs.Input.{input_refusal}
use Rattle.check_dispatch.specs.Findings.{findings_of}
use Rattle.line_input.specs.declared.Tables.{Tables}
use Rattle.line_input.specs.declared.Unread.{Unread}
use Rattle.line_input.specs.Format.{Reading, lent, read_input}
use Rattle.line_print.specs.Print.{line_of}
use Rattle.line_answers.specs.Answer.{refusal_text, findings_room}

-- "It prints F with the seven numbers": a line for each finding
unfoldable pub lines_for : List Finding → List ℕ
lines_for [] = []
lines_for (f ∷ fs) = line_of 70 (numbers f) ++ lines_for fs

-- "then E with the count"
abbrev pub found_text : List Finding → List ℕ
found_text fs = lines_for fs ++ line_of 69 (length fs ∷ [])

-- "or only R with number and place" (refusal_text); more findings than the program has room for are refusal 10, place 0
unfoldable pub verdict_text : Verdict → List Finding → List ℕ
verdict_text (Err e) fs = refusal_text e
verdict_text (Ok u) fs = cond (leb (7 * length fs) findings_room) (found_text fs) (refusal_text (Short refusal.FindingsSlice (7 * length fs)))

-- the text of tables that are read
unfoldable pub check_text : ℕ → List ℕ → List ℕ → List ℕ → List ℕ → List ℕ
check_text source_type ns ss source names = verdict_text (input_refusal source_type ns ss source names) (findings_of source_type ns ss source names)

-- "(R,0,line, from 1, where a line can't be read or is missing)"
abbrev pub input_text : Result Tables Unread → Reading → List ℕ
input_text (Err e) d = refusal_text (At refusal.Unread e.line)
input_text (Ok t) d = check_text t.kind d.nodes d.scopes d.source d.names

unfoldable pub response : List ℕ → List ℕ
response b = input_text (read_input lent b).answer (read_input lent b)
