use Prim.Native.Nat.{◌<◌}
use mathlib.Core.Path.{◌≡◌}
use Rattle.table_records.specs.Table.{count}
use Rattle.check_identifiers.specs.Identifiers.{let_from}
use Rattle.check_identifiers.proofs.let_declared.Given as goal

abbrev pub invariant-loop-at : goal.invariant-loop-at
invariant-loop-at l = (l.at.0 < count l.nodes) × (let_from l.nodes l.n.0 l.at.0 ≡ let_from l.nodes l.n.0 l.initial.at.0)

abbrev pub decreases-loop-at : goal.decreases-loop-at
decreases-loop-at l = l.at.0
