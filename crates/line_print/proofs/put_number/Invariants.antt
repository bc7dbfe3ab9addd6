-- `print::put_number` meets its contract. The loop keeps: what is left of the work, with what is done, is the whole.
use Prim.Native.Nat.{◌+◌, ◌≤◌}
use Rattle.line_print.specs.Print.{decimal}
use Rattle.base_common.specs.Wrote.{put}
use lib.ListN.{length, take, drop}
use mathlib.Core.List.{◌++◌}
use mathlib.Core.Path.{◌≡◌}
use Rattle.line_print.proofs.put_number.Given as goal

abbrev pub invariant-loop-rest : goal.invariant-loop-rest
invariant-loop-rest l = (l.i ≡ l.w + length (decimal l.rest)) × (l.i ≤ l.end) × (length l.out ≡ length l.initial.out) × (take l.w l.out ++ decimal l.rest ++ drop l.i l.out ≡ put l.initial.out l.w (decimal l.n))

abbrev pub decreases-loop-rest : goal.decreases-loop-rest
decreases-loop-rest l = l.rest
