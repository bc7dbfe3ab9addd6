-- The findings of a list that have a code, and those that have another.
use Rattle.std.specs.Prelude.{ℕ, List, [], ◌∷◌, cond, eqb}
use Rattle.check_diagnostics.specs.declared.Finding.{Finding}

unfoldable pub with_code : ℕ → List Finding → List Finding
with_code c [] = []
with_code c (f ∷ fs) = cond (eqb f.code c) (f ∷ with_code c fs) (with_code c fs)

unfoldable pub without_code : ℕ → List Finding → List Finding
without_code c [] = []
without_code c (f ∷ fs) = cond (eqb f.code c) (without_code c fs) (f ∷ without_code c fs)
