use Prim.Native.Nat.{◌≤◌, ◌-◌}
use mathlib.Core.Path.{◌≡◌}
use lib.ListN.{length, drop}
use Rattle.check_literals.specs.Escapes.{bad_escape}
use Rattle.check_literals.proofs.first_bad_escape.Given as goal

abbrev pub invariant-loop-i : goal.invariant-loop-i
invariant-loop-i l = (l.i ≤ l.len) × (l.len ≡ length l.raw) × (bad_escape l.i (drop l.i l.raw) ≡ bad_escape 0 l.raw)

abbrev pub decreases-loop-i : goal.decreases-loop-i
decreases-loop-i l = l.len - l.i
