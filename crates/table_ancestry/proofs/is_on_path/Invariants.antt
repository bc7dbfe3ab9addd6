use Prim.Native.Nat.{◌≤◌}
use mathlib.Core.Path.{◌≡◌}
use Rattle.table_records.specs.Table.{parent_of}
use Rattle.base_walk.specs.On.{on}
use Rattle.table_ancestry.proofs.is_on_path.Given as goal

abbrev pub invariant-loop-at : goal.invariant-loop-at
invariant-loop-at l = (l.at.0 ≤ l.initial.at.0) × (on (parent_of l.nodes) l.a l.at.0 ≡ on (parent_of l.nodes) l.a l.initial.at.0)

abbrev pub decreases-loop-at : goal.decreases-loop-at
decreases-loop-at l = l.at.0
