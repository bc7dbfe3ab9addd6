-- `line_fields::count` meets its contract. The loop keeps: what is left of the work, with what is done, is the whole.
use Rattle.line_fields.specs.Split.{fields_in}
use lib.ListN.{length}
use mathlib.Core.Path.{◌≡◌}
use Prim.Native.Nat.{◌≤◌, ◌+◌}
use Rattle.line_fields.proofs.count.Given as goal

abbrev pub invariant-loop-t : goal.invariant-loop-t
invariant-loop-t l = (l.n + length l.t ≤ length l.tail) × (l.n + length (fields_in l.t) ≡ length (fields_in l.tail))

abbrev pub decreases-loop-t : goal.decreases-loop-t
decreases-loop-t l = length l.t
