use Rattle.code_machine.specs.Kept.{told_run}
use mathlib.Core.Path.{refl}
use Rattle.code_machine.proofs.run.Goals as goal

pub returns : goal.returns
returns c = let facts = told_run _ _ _ _ _ _ _ c.run_to-halt.ensures.told refl in record { end = facts.0; entries = facts.1.0; taken = facts.1.1.0; list = facts.1.1.1 }
