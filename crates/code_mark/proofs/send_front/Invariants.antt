use Rattle.code_mark.proofs.SendLaws.{Sending}
use Rattle.code_pass.specs.Stages.{Marked, Split}
use Rattle.code_valid.specs.Valid.{Valid}
use lib.ListN.{length}
use mathlib.Core.List.{List}
use mathlib.Core.Path.{◌≡◌}
use Prim.Native.Nat.{ℕ, ◌-◌}
use Rattle.code_mark.proofs.send_front.Given as goal

abbrev pub invariant-loop-p : goal.invariant-loop-p
invariant-loop-p l = (length l.code ≡ length l.initial.code) × ((C : List ℕ) → Valid C → Marked C l.initial.code → Split C l.split → Sending C l.code l.split l.p)

abbrev pub decreases-loop-p : goal.decreases-loop-p
decreases-loop-p l = l.split - l.p
