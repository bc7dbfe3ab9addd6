use Rattle.std.proofs.Common.{ℕ, List, ◌≡◌, ◌≤◌, length}
use Rattle.code_valid.specs.Valid.{Valid}
use Rattle.code_gather.specs.Gather.{entered, Behind}
use Rattle.code_gather.proofs.EnteredLaws.{At}
use Rattle.code_gather.proofs.is_entered.Given as goal

abbrev pub invariant-loop-instruction : goal.invariant-loop-instruction
invariant-loop-instruction l =
    let walk = l.instruction-iterator in record {
      code : walk.code.0.now ≡ l.code;
      end : walk.end ≡ length l.code;
      low : l.from ≤ walk.at;
      entered : (C : List ℕ) → Valid C → Behind C l.code l.split → l.split ≤ l.from → At C l.from
          → At C walk.at × (entered C l.split l.x walk.at ≡ entered C l.split l.x l.from);
    }
