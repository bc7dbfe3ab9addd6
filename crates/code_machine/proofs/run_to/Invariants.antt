use Rattle.code_machine.specs.Kept.{Kept}
use Rattle.code_machine.specs.Pending.{stack}
use Rattle.code_marks.specs.Stop.{stopped}
use Rattle.code_flat.specs.Machine.{room, pos, measure}
use lib.ListN.{length, drop}
use mathlib.Core.Path.{◌≡◌}
use Prim.Native.Nat.{◌≤◌}
use Rattle.code_machine.proofs.run_to.Given as goal

abbrev pub invariant-loop-p : goal.invariant-loop-p
invariant-loop-p l = (length l.out ≡ length l.initial.out) × ((l.p.pending ≤ room) × Kept l.code l.answers l.stop (stopped room l.code l.stop (pos l.initial.p.pc (stack l.initial.ends l.initial.p.pending)) l.answers) l.ends l.initial.out l.out l.p l.entries)

abbrev pub decreases-loop-p : goal.decreases-loop-p
decreases-loop-p l = measure l.code l.p.budget (drop l.p.at l.answers)
