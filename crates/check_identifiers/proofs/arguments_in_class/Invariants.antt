use Prim.Native.Nat.{◌<◌}
use mathlib.Core.Path.{◌≡◌}
use Rattle.table_records.specs.Table.{count}
use Rattle.check_identifiers.specs.Identifiers.{arguments_from}
use Rattle.check_identifiers.proofs.arguments_in_class.Given as goal

abbrev pub invariant-loop-previous : goal.invariant-loop-previous
invariant-loop-previous l = (l.previous.0 < count l.nodes) × (arguments_from l.nodes l.n.0 l.previous.0 ≡ arguments_from l.nodes l.n.0 l.initial.previous.0)

abbrev pub decreases-loop-previous : goal.decreases-loop-previous
decreases-loop-previous l = l.previous.0
