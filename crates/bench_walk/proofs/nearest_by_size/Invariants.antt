use Rattle.table_ancestry.specs.Ancestry.{nearest_of}
use Rattle.table_records.specs.Table.{count}
use mathlib.Core.Path.{◌≡◌}
use Prim.Native.Nat.{◌<◌}
use Rattle.bench_walk.proofs.nearest_by_size.Given as goal

abbrev pub invariant-loop-at : goal.invariant-loop-at
invariant-loop-at l = (l.at.0 < count l.nodes) × (nearest_of l.nodes l.low l.high l.at.0 ≡ nearest_of l.nodes l.low l.high l.initial.at.0)

abbrev pub decreases-loop-at : goal.decreases-loop-at
decreases-loop-at l = l.at.0
