-- What is printed of a check's answer (document 01, "The reader program"): "It prints F with the seven numbers, then E with the count, or only R with
-- number and place".
use Rattle.std.specs.Prelude.{ℕ, zero, suc, ◌*◌, ◌≤◌, List, [], ◌∷◌, ◌++◌, take, drop, Result, Ok, Err}
use Rattle.line_print.specs.Print.{line_of}
use Rattle.refusal_verdict.specs.declared.Refused.{Refused}
use Rattle.refusal_verdict.specs.Refusals.{number_of, place_of}

-- a line F for each of n findings, which stand one behind the other, seven numbers each
unfoldable pub finding_lines : ℕ → List ℕ → List ℕ
finding_lines zero l = []
finding_lines (suc n) l = line_of 70 (take 7 l) ++ finding_lines n (drop 7 l)

-- these, and a line E with their count
abbrev pub findings_text : ℕ → List ℕ → List ℕ
findings_text n l = finding_lines n l ++ line_of 69 (n ∷ [])

-- a line R
abbrev pub refusal_line : ℕ → ℕ → List ℕ
refusal_line number place = line_of 82 (number ∷ place ∷ [])

abbrev pub refusal_text : Refused → List ℕ
refusal_text e = refusal_line (number_of e) (place_of e)

-- a slice that is too short for the findings is refusal 10, place 0
unfoldable pub answer_text : Result ℕ Refused → List ℕ → List ℕ
answer_text (Ok n) l = findings_text n l
answer_text (Err e) l = refusal_text e

-- the findings that an answer counts stand in a slice of this length
abbrev pub Counted : Result ℕ Refused → ℕ → Type 0
Counted (Ok n) len = 7 * n ≤ len
Counted (Err e) len = Unit {0}

-- A program's room: for 8,192 findings of seven numbers, and for their lines, of at most 79 bytes each, with the line of their count.
abbrev pub findings_room : ℕ
findings_room = 57344

abbrev pub text_room : ℕ
text_room = 655360
