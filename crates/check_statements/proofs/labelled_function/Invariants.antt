use mathlib.Core.Path.{◌≡◌}
use Prim.Native.Nat.{◌<◌}
use Rattle.table_records.specs.Table.{count}
use Rattle.check_statements.specs.Statements.{labelled_function}
use Rattle.check_statements.proofs.labelled_function.Given as goal

abbrev pub invariant-loop-at : goal.invariant-loop-at
invariant-loop-at l = (l.at.0 < count l.nodes) × (labelled_function l.nodes l.n.0 l.function.0 l.at.0 ≡ labelled_function l.nodes l.n.0 l.function.0 l.initial.at.0)

abbrev pub decreases-loop-at : goal.decreases-loop-at
decreases-loop-at l = l.at.0
