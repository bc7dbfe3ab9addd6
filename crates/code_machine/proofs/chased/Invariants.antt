use Rattle.code_flat.specs.Machine.{chase}
use mathlib.Core.Path.{◌≡◌}
use Prim.Native.Nat.{◌<◌}
use Rattle.code_machine.proofs.chased.Given as goal

abbrev pub invariant-loop-p : goal.invariant-loop-p
invariant-loop-p l = (l.to < 4294967296) × (chase l.code l.from l.to l.e l.left ≡ chase l.code l.p l.c l.e l.a)

abbrev pub decreases-loop-p : goal.decreases-loop-p
decreases-loop-p l = l.left
