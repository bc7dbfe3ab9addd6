use Prim.Native.Nat.{◌<◌, ◌-◌}
use mathlib.Core.Path.{◌≡◌}
use Rattle.table_records.specs.Table.{count}
use Rattle.check_expressions.specs.Expressions.{inner_expression}
use Rattle.check_expressions.proofs.get_inner_expression.Given as goal

abbrev pub invariant-loop-at : goal.invariant-loop-at
invariant-loop-at l = (l.at.0 < count l.nodes) × (inner_expression l.nodes l.at.0 ≡ inner_expression l.nodes l.initial.at.0)

abbrev pub decreases-loop-at : goal.decreases-loop-at
decreases-loop-at l = count l.nodes - l.at.0
