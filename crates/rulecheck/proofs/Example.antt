-- What is printed where there is nothing to read: R,0,1
use Rattle.std.specs.Prelude.{◌≡◌, refl, [], ◌∷◌}
use Rattle.line_fields.specs.Split.{joined, lines_of}
use Rattle.line_input.specs.Format.{read_lines}
use Rattle.line_print.specs.Print.{spelled, decimal, line_of}
use Rattle.rulecheck.specs.Response.{response}

pub example : response [] ≡ 82 ∷ 44 ∷ 48 ∷ 44 ∷ 49 ∷ 10 ∷ []
unfolding joined lines_of read_lines spelled decimal line_of response
example = refl
