-- Request 9: "11 is given exactly when the slice is shorter than" the code; then nothing is written.
use Rattle.std.specs.Prelude.{ℕ, List, cond, leb, length, Result, Ok, Err}
use Rattle.route_list.specs.Over.{over}
use Rattle.refusal_verdict.specs.declared.Refusal.TheVariants as refusal
use Rattle.refusal_verdict.specs.declared.Refused.{Refused}
use Rattle.refusal_verdict.specs.declared.Refused.TheVariants.{Short}

-- 11, with the length needed
abbrev pub short : {A : Type 0} → ℕ → Result A Refused
short needed = Err (Short refusal.CodeSlice needed)

-- The answer for the code c and a slice of some length.
unfoldable pub assembled : List ℕ → ℕ → Result ℕ Refused
assembled c len = cond (leb (length c) len) (Ok (length c)) (short (length c))

unfoldable pub assembled_slice : List ℕ → List ℕ → List ℕ
assembled_slice c s = cond (leb (length c) (length s)) (over c s) s
