use Rattle.std.proofs.Common.{List, ℕ, ◌≡◌, ◌≤◌}
use Rattle.code_shorten.specs.Closes.{In}
use Rattle.code_pass.specs.Stages.{kept_places}
use Rattle.code_places.specs.Placing.{Tagged, PlacedBy}
use Rattle.code_places.proofs.PlacingLaws.{Counting}
use Rattle.code_places.proofs.index.Places.tail_place.Given as goal

abbrev pub invariant-loop-instruction : goal.invariant-loop-instruction
invariant-loop-instruction l =
    let walk = l.instruction-iterator in record {
      code : walk.code.0.now ≡ l.code;
      end : walk.end ≡ l.o;
      counting : (C : List ℕ) → PlacedBy C l.self → Tagged C l.code l.self.split → l.self.split ≤ l.o → In (kept_places C) l.o
          → Counting C l.self.split l.o walk.at l.place;
    }
