use mathlib.Core.Path.{◌≡◌}
use Prim.Native.Nat.{◌<◌}
use Rattle.table_records.specs.Table.{count}
use Rattle.check_jumps.specs.Jumps.{walk_up, labelled_break_at}
use Rattle.check_jumps.proofs.labelled_break.Given as goal

abbrev pub invariant-loop-at : goal.invariant-loop-at
invariant-loop-at l = (l.at.0 < count l.named.nodes) × (walk_up l.named.nodes (labelled_break_at l.named.nodes l.named.names l.n.0 l.label.0) l.at.0 ≡ walk_up l.named.nodes (labelled_break_at l.named.nodes l.named.names l.n.0 l.label.0) l.initial.at.0)

abbrev pub decreases-loop-at : goal.decreases-loop-at
decreases-loop-at l = l.at.0
