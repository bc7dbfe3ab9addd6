use mathlib.Core.Path.{sym, ◌∙◌}
use Rattle.code_assemble.proofs.code_unit.Goals as goal

pub code_body-requires : goal.code_body-requires
code_body-requires c = c.requires.held _ (sym c.holder.ensures.value ∙ c.in-Some.is)
