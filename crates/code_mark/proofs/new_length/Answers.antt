use Rattle.code_mark.proofs.KeptLaws.{kept_length}
use mathlib.Core.Path.{◌∙◌}
use Rattle.code_mark.proofs.new_length.Goals as goal

pub returns-clause-value : goal.returns-clause-value
returns-clause-value c = λ C v m. c.kept_before.ensures.value C v m ∙ kept_length C v c.args.code.now m
