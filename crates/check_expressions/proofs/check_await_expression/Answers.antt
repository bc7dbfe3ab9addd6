use Rattle.check_diagnostics.specs.Finding.{listed}
use Rattle.check_diagnostics.proofs.RaisesLaws.{adds_then}
use Rattle.check_expressions.proofs.check_await_expression.Goals as goal

pub returns-clause-adds : goal.returns-clause-adds
returns-clause-adds c = let a = c.args in
    rw (← c.in_parameter.ensures, ← c.in_block.ensures) (adds_then _ _ _ (listed c.in_parameter.result) (listed c.in_block.result) c.raise.ensures.adds c.raise-2.ensures.adds)
