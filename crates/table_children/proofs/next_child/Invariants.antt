use Rattle.table_children.specs.Children.{next_child}
use Rattle.table_records.specs.Table.{count}
use mathlib.Core.Path.{◌≡◌}
use Prim.Native.Nat.{◌≤◌}
use Rattle.table_children.proofs.next_child.Given as goal

abbrev pub invariant-loop-i : goal.invariant-loop-i
invariant-loop-i l = (l.from ≤ l.i-iterator.start) × (l.i-iterator.start ≤ count l.nodes) × (next_child l.nodes l.p.0 l.part.low l.part.high l.part.first l.part.last l.i-iterator.start ≡ next_child l.nodes l.p.0 l.part.low l.part.high l.part.first l.part.last l.from)
