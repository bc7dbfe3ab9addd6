use Rattle.std.proofs.Common.{◌-◌, ◌≡◌, List, length}
use Rattle.code_shorten.specs.Short.{shorter}
use Rattle.code_pass.specs.Stages.{Gathered}
use Rattle.code_places.specs.Placing.{PlacedBy}
use Rattle.code_close.proofs.ClosingLaws.{Moving}
use Prim.Native.Nat.{ℕ}
use Rattle.code_close.proofs.move_targets.Given as goal

abbrev pub invariant-loop-q : goal.invariant-loop-q
invariant-loop-q l = record {
  same : length l.code ≡ length l.initial.code;
  moving : (C : List ℕ) → PlacedBy C l.places → l.end ≡ length (shorter C) → Gathered C l.initial.code l.places.split (length C)
      → Moving C l.code l.places.split l.q;
}

abbrev pub decreases-loop-q : goal.decreases-loop-q
decreases-loop-q l = l.end - l.q
