use mathlib.Core.Path.{◌≡◌}
use lib.ListN.{length}
use Rattle.code_machine.specs.Pending.{stack}
use Rattle.route_marks.specs.Marks.{ends_at}
use Rattle.route_marks.proofs.load.Given as goal

abbrev pub invariant-loop-i : goal.invariant-loop-i
invariant-loop-i l = (length l.ends ≡ length l.initial.ends) × (stack l.ends l.i ≡ ends_at l.marks l.at l.i)
