-- A line that document 01 shows printed: F,22,4,0,1,14,15,0
use Rattle.std.specs.Prelude.{◌≡◌, refl, [], ◌∷◌}
use Rattle.line_fields.specs.Split.{joined}
use Rattle.line_print.specs.Print.{spelled, decimal, line_of}

pub example : line_of 70 (22 ∷ 4 ∷ 0 ∷ 1 ∷ 14 ∷ 15 ∷ 0 ∷ [])
    ≡ 70 ∷ 44 ∷ 50 ∷ 50 ∷ 44 ∷ 52 ∷ 44 ∷ 48 ∷ 44 ∷ 49 ∷ 44 ∷ 49 ∷ 52 ∷ 44 ∷ 49 ∷ 53 ∷ 44 ∷ 48 ∷ 10 ∷ []
unfolding joined spelled decimal line_of
example = refl
