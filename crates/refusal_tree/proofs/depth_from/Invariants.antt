use Prim.Native.Nat.{◌≤◌}
use mathlib.Core.Path.{◌≡◌}
use Rattle.table_records.specs.Table.{parent_of, depth_of}
use Rattle.base_walk.specs.On.{on}
use Rattle.refusal_tree.proofs.depth_from.Given as goal

abbrev pub invariant-loop-a : goal.invariant-loop-a
invariant-loop-a l = (l.a.0 ≤ l.initial.a.0) × (l.d ≡ depth_of l.nodes l.a.0) × (on (parent_of l.nodes) l.p l.a.0 ≡ on (parent_of l.nodes) l.p l.initial.a.0)

abbrev pub decreases-loop-a : goal.decreases-loop-a
decreases-loop-a l = l.a.0
