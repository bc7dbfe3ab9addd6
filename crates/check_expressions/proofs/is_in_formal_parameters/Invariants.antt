use Prim.Native.Nat.{◌<◌}
use mathlib.Core.Path.{◌≡◌}
use Rattle.table_records.specs.Table.{count}
use Rattle.check_expressions.specs.Expressions.{in_formal_parameters}
use Rattle.check_expressions.proofs.is_in_formal_parameters.Given as goal

abbrev pub invariant-loop-at : goal.invariant-loop-at
invariant-loop-at l = (l.at.0 < count l.nodes) × (in_formal_parameters l.nodes l.at.0 ≡ in_formal_parameters l.nodes l.initial.at.0)

abbrev pub decreases-loop-at : goal.decreases-loop-at
decreases-loop-at l = l.at.0
