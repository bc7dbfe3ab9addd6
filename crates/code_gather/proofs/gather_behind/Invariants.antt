use Rattle.code_gather.proofs.BehindLaws.{Going}
use Rattle.code_gather.specs.Gather.{Saved}
use Rattle.code_pass.specs.Stages.{kept_to, Fronted}
use Rattle.code_places.specs.Placing.{PlacedBy}
use lib.ListN.{length}
use mathlib.Core.List.{List}
use mathlib.Core.Path.{◌≡◌}
use Prim.Native.Nat.{ℕ, ◌+◌, ◌*◌, ◌-◌, ◌≤◌}
use Rattle.code_gather.proofs.gather_behind.Given as goal

abbrev pub invariant-loop-p : goal.invariant-loop-p
invariant-loop-p l = (length l.code ≡ length l.initial.code) × (l.places.split ≤ l.p) × (l.q ≤ l.p)
    × ((C : List ℕ) → PlacedBy C l.places → Fronted C l.initial.code l.places.split → l.kept ≡ kept_to C l.places.split → (n : ℕ) → l.initial.block + 3 * n ≡ l.places.split
    → Saved C l.initial.code l.places.split l.places.split l.initial.block n → Going C l.code l.places.split l.p l.q l.block)

abbrev pub decreases-loop-p : goal.decreases-loop-p
decreases-loop-p l = length l.code - l.p
