-- The lines that the programs print: a letter and numbers with commas between them, and byte 10.
use Rattle.std.specs.Prelude.{ℕ, zero, suc, ◌+◌, ◌/◌, ◌%◌, cond, List, [], ◌∷◌, ◌++◌, map, ltb}
use Rattle.line_fields.specs.Split.{joined}

-- n's decimal digits, the most significant first, no zero in front: the digits of n / 10, and then n % 10. Each takes a step of the first number.
unfoldable pub spelled : ℕ → ℕ → List ℕ
spelled zero n = []
spelled (suc f) n = cond (ltb n 10) ((48 + n) ∷ []) (spelled f (n / 10) ++ (48 + n % 10) ∷ [])

-- n + 1 steps are enough
unfoldable pub decimal : ℕ → List ℕ
decimal n = spelled (suc n) n

-- fields behind the first, each with its comma
unfoldable pub tails : List (List ℕ) → List ℕ
tails [] = []
tails (f ∷ fs) = 44 ∷ f ++ tails fs

-- numbers, each behind a comma
unfoldable pub fields_for : List ℕ → List ℕ
fields_for ns = tails (map decimal ns)

unfoldable pub line_of : ℕ → List ℕ → List ℕ
line_of letter ns = joined ((letter ∷ []) ∷ map decimal ns) ++ 10 ∷ []
