use native.Mathlib.Omega.{arith}
use mathlib.Core.Path.{◌≡◌, sym, ◌∙◌}
use mathlib.Core.Bool.{false}
use Rattle.base_common.specs.Tests.{within}
use Rattle.table_records.specs.Kinds as k
use Rattle.table_records.specs.Table.{kind_of}
use Rattle.check_expressions.proofs.ExpressionLaws.{parameter_on}
use Rattle.std.proofs.lemmas.Bool.Decides.{nat_tests}
use Rattle.check_expressions.proofs.is_in_formal_parameters.Goals as goal

pub loop-at-preserved : goal.loop-at-preserved
loop-at-preserved c = let a = c.args in
    let w : within (kind_of a.nodes.now c.up-at.result.0) k.Program k.Arrow ≡ false = grind (arith, nat_tests) in
    (omega arith, cc (parameter_on a.nodes.now c.up-at.ensures.tree c.loop-at.at.0 c.up-at.result.0 (omega arith) (omega arith) c.up-at.ensures.result_value (sym c.is_parameter.ensures ∙ c.if-is_parameter.false) w))
