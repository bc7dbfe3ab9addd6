use lib.ListN.{length}
use mathlib.Core.Path.{◌≡◌}
use Prim.Native.Nat.{◌*◌, ◌≤◌}
use Rattle.call_labels.specs.Written.{names_to}
use Rattle.call_labels.proofs.names_length.Given as goal

abbrev pub invariant-loop-i : goal.invariant-loop-i
invariant-loop-i l = (l.w ≡ length (names_to l.labels.nodes l.labels.names l.i)) × (l.w ≤ l.i * 1048576)
