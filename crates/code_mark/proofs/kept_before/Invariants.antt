use Rattle.std.proofs.Common.{◌≡◌, ◌≤◌, ℕ, List, length}
use Rattle.code_pass.specs.Stages.{Marked}
use Rattle.code_valid.specs.Valid.{Valid}
use Rattle.code_mark.proofs.KeptLaws.{Kept}
use Rattle.code_mark.proofs.kept_before.Given as goal

abbrev pub invariant-loop-instruction : goal.invariant-loop-instruction
invariant-loop-instruction l =
    let walk = l.instruction-iterator in record {
      code : walk.code.0.now ≡ l.code;
      end : walk.end ≡ l.place;
      within : walk.at ≤ length l.code;
      low : l.kept ≤ walk.at;
      kept : (C : List ℕ) → Valid C → Marked C l.code → Kept C l.place walk.at l.kept;
    }
