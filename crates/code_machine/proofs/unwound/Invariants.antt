use Prim.Native.Nat.{◌≤◌}
use mathlib.Core.Path.{◌≡◌}
use Rattle.code_flat.specs.Machine.{room, unwind}
use Rattle.code_machine.specs.Pending.{stack}
use Rattle.code_machine.proofs.unwound.Given as goal

abbrev pub invariant-loop-top : goal.invariant-loop-top
invariant-loop-top l = (l.top ≤ room) × (unwind (stack l.ends l.top) l.on.place l.on.depth ≡ unwind (stack l.initial.ends l.pending) l.initial.on.place l.initial.on.depth)
