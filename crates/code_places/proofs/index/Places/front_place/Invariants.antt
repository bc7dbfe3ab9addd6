use Rattle.std.proofs.Common.{List, ℕ, ◌≡◌, ◌<◌}
use Rattle.code_places.specs.Placing.{Tagged, PlacedBy}
use Rattle.code_places.proofs.PlacingLaws.{Seeking}
use Rattle.code_places.proofs.index.Places.front_place.Given as goal

abbrev pub invariant-loop-instruction : goal.invariant-loop-instruction
invariant-loop-instruction l =
    let walk = l.instruction-iterator in record {
      code : walk.code.0.now ≡ l.code;
      end : walk.end ≡ l.end;
      seeking : (C : List ℕ) → PlacedBy C l.self → Tagged C l.code l.self.split → l.o < l.self.split → Seeking C l.self.stride l.o walk.at;
    }
