-- What document 01 shows printed: F,22,4,0,1,14,15,0 and E,1
use Rattle.std.specs.Prelude.{◌≡◌, refl, [], ◌∷◌, Ok}
use Rattle.line_fields.specs.Split.{joined}
use Rattle.line_print.specs.Print.{spelled, decimal, line_of}
use Rattle.line_answers.specs.Answer.{finding_lines, answer_text}

pub example : answer_text (Ok 1) (22 ∷ 4 ∷ 0 ∷ 1 ∷ 14 ∷ 15 ∷ 0 ∷ 0 ∷ 0 ∷ [])
    ≡ 70 ∷ 44 ∷ 50 ∷ 50 ∷ 44 ∷ 52 ∷ 44 ∷ 48 ∷ 44 ∷ 49 ∷ 44 ∷ 49 ∷ 52 ∷ 44 ∷ 49 ∷ 53 ∷ 44 ∷ 48 ∷ 10 ∷ 69 ∷ 44 ∷ 49 ∷ 10 ∷ []
unfolding joined spelled decimal line_of finding_lines answer_text
example = refl
