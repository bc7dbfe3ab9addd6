use Rattle.std.proofs.Common.{◌≡◌, ◌≤◌, ◌+◌}
use Rattle.table_children.proofs.ChildrenLaws.{tally}
use Rattle.table_children.proofs.how_many.Given as goal

abbrev pub invariant-loop-i : goal.invariant-loop-i
invariant-loop-i l = (l.c ≤ l.i) × (l.c + tally l.nodes l.p.0 l.part.low l.part.high l.part.first l.part.last l.i ≡ tally l.nodes l.p.0 l.part.low l.part.high l.part.first l.part.last (l.p.0 + 1))
