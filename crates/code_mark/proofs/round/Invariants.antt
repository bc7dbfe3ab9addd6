use Rattle.code_mark.proofs.MarkLaws.{Going}
use Rattle.code_mark.specs.Marks.{Inked}
use Rattle.code_shorten.specs.Marking.{low, bit}
use Rattle.code_valid.specs.Valid.{Valid}
use lib.ListN.{length}
use mathlib.Core.List.{List}
use mathlib.Core.Path.{◌≡◌}
use Prim.Native.Nat.{ℕ, ◌+◌, ◌-◌, ◌≤◌}
use Rattle.code_mark.proofs.round.Given as goal

abbrev pub invariant-loop-p : goal.invariant-loop-p
invariant-loop-p l = (length l.code ≡ length l.initial.code) × ((low l.code + bit l.news ≤ low l.initial.code) × ((C : List ℕ) (v : Valid C) (S : List ℕ) → Inked C S l.initial.code → Going C v S l.code l.p l.news))

abbrev pub decreases-loop-p : goal.decreases-loop-p
decreases-loop-p l = length l.initial.code - l.p
