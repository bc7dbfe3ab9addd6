use Rattle.std.proofs.Common.{ℕ, List, ◌≡◌, ◌≤◌, true, length}
use Rattle.code_valid.specs.Valid.{Valid}
use Rattle.code_pass.specs.Stages.{Split, Sent}
use Rattle.code_gather.specs.Gather.{entered, dropped}
use Rattle.code_gather.proofs.EnteredLaws.{At}
use Rattle.code_gather.proofs.is_any_entered.Given as goal

abbrev pub invariant-loop-instruction : goal.invariant-loop-instruction
invariant-loop-instruction l =
    let walk = l.instruction-iterator in record {
      code : walk.code.0.now ≡ l.code;
      end : walk.end ≡ length l.code;
      low : l.split ≤ walk.at;
      none : (C : List ℕ) → Valid C → Split C l.split → Sent C l.code l.split
          → At C walk.at × ((x : ℕ) → dropped C l.split x ≡ true → entered C l.split x walk.at ≡ entered C l.split x l.split);
    }
