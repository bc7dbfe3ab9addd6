use Rattle.std.proofs.Common.{◌≡◌, ◌-◌}
use Rattle.base_walk.specs.Above.{Falls}
use Rattle.table_records.specs.Table.{count, parent_of, depth_of}
use Rattle.refusal_verdict.specs.First.{first}
use Rattle.refusal_tree.specs.Tree.{misplaced_at}
use Rattle.refusal_tree.proofs.misplaced.Given as goal

abbrev pub invariant-loop-i : goal.invariant-loop-i
invariant-loop-i l = Falls (parent_of l.nodes) l.i × (l.depth ≡ depth_of l.nodes (l.i - 1)) × (first (misplaced_at l.nodes) l.i (count l.nodes) ≡ first (misplaced_at l.nodes) 0 (count l.nodes))
