-- What `check` answers and leaves, for every input and every slice.
use Rattle.std.specs.Prelude.{ℕ, ◌*◌, List, ◌++◌, cond, leb, length, drop, Result, Ok, Err}
use Rattle.check_diagnostics.specs.declared.Finding.{Finding}
use Rattle.check_diagnostics.specs.Finding.{flat}
use Rattle.refusal_verdict.specs.declared.Refusal.TheVariants as refusal
use Rattle.refusal_verdict.specs.declared.Refused.{Refused}
use Rattle.refusal_verdict.specs.declared.Refused.TheVariants.{Short}
use Rattle.refusal_verdict.specs.Verdict.{unless}
use Rattle.refusal_input.specs.Input.{input_refusal}
use Rattle.check_dispatch.specs.Rule.{Rule}
use Rattle.check_dispatch.specs.Reported.{reported}

-- how many findings there are, or 10: "The findings slice is shorter than 7 × findings", with the length needed
unfoldable pub report_answer : List Finding → ℕ → Result ℕ Refused
report_answer fs len = cond (leb (7 * length fs) len) (Ok (length fs)) (Err (Short refusal.FindingsSlice (7 * length fs)))

-- the findings from the slice's start, and no entry past the last one changed; a refusal leaves the slice as it was
unfoldable pub report_slice : List Finding → List ℕ → List ℕ
report_slice fs s = cond (leb (7 * length fs) (length s)) (flat fs ++ drop (7 * length fs) s) s

-- "The check gives 1-6 and 10"; 13 and 14 "in every call that gives 6"
unfoldable pub check_answer : Rule → ℕ → Result ℕ Refused
check_answer r len = unless (input_refusal r.source_type r.nodes r.scopes r.source r.names) Err (report_answer (reported r) len)

unfoldable pub check_slice : Rule → List ℕ → List ℕ
check_slice r s = unless (input_refusal r.source_type r.nodes r.scopes r.source r.names) (λ e. s) (report_slice (reported r) s)
