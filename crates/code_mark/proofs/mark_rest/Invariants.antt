use Rattle.code_mark.proofs.MarkLaws.{Marks}
use Rattle.code_mark.specs.Marks.{Started}
use Rattle.code_shorten.specs.Marking.{low, bit}
use Rattle.code_valid.specs.Valid.{Valid}
use mathlib.Core.List.{List}
use lib.ListN.{length}
use mathlib.Core.Path.{◌≡◌}
use Prim.Native.Nat.{ℕ, ◌+◌}
use Rattle.code_mark.proofs.mark_rest.Given as goal

abbrev pub invariant-loop-again : goal.invariant-loop-again
invariant-loop-again l = (length l.code ≡ length l.initial.code) × ((C : List ℕ) → Valid C → Started C l.initial.code → Marks C l.code l.again)

abbrev pub decreases-loop-again : goal.decreases-loop-again
decreases-loop-again l = low l.code + bit l.again
