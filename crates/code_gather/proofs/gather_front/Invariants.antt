use Rattle.code_gather.proofs.FrontLaws.{Fronting}
use Rattle.code_pass.specs.Stages.{Split, Sent}
use Rattle.code_valid.specs.Valid.{Valid}
use lib.ListN.{length}
use mathlib.Core.List.{List}
use mathlib.Core.Path.{◌≡◌}
use Prim.Native.Nat.{ℕ, ◌+◌, ◌*◌, ◌-◌, ◌≤◌}
use Rattle.code_gather.proofs.gather_front.Given as goal

abbrev pub invariant-loop-p : goal.invariant-loop-p
invariant-loop-p l = (length l.code ≡ length l.initial.code) × (l.p ≤ length l.code) × (l.front.kept + 3 * l.front.saved ≤ l.p)
    × ((C : List ℕ) → Valid C → Split C l.split → Sent C l.initial.code l.split → Fronting C l.initial.code l.code l.split l.p l.front.kept l.front.saved)

abbrev pub decreases-loop-p : goal.decreases-loop-p
decreases-loop-p l = l.split - l.p
