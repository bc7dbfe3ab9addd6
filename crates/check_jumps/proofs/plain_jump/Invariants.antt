use mathlib.Core.Path.{◌≡◌}
use Rattle.std.specs.Prelude.{cond}
use Prim.Native.Nat.{◌<◌}
use Rattle.table_records.specs.Table.{count}
use Rattle.check_jumps.specs.Jumps.{walk_up, plain_break_at, plain_continue_at}
use Rattle.check_jumps.proofs.plain_jump.Given as goal

abbrev pub invariant-loop-at : goal.invariant-loop-at
invariant-loop-at l = (l.at.0 < count l.nodes) × (walk_up l.nodes (cond l.is_break (plain_break_at l.nodes l.n.0) (plain_continue_at l.nodes l.n.0)) l.at.0 ≡ walk_up l.nodes (cond l.is_break (plain_break_at l.nodes l.n.0) (plain_continue_at l.nodes l.n.0)) l.initial.at.0)

abbrev pub decreases-loop-at : goal.decreases-loop-at
decreases-loop-at l = l.at.0
