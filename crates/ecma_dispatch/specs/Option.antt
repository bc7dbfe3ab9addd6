-- The option on async bodies: the codes that it adds.
use Rattle.std.specs.Prelude.{ℕ}
use mathlib.Core.List.{List, [], ◌∷◌}

abbrev pub of_body : List ℕ
of_body = 34 ∷ []
