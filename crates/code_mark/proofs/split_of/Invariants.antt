use Rattle.std.proofs.Common.{◌≡◌, ℕ, List, length}
use Rattle.code_pass.specs.Stages.{Marked}
use Rattle.code_valid.specs.Valid.{Valid}
use Rattle.code_shorten.specs.Short.{shorter}
use Rattle.code_mark.proofs.KeptLaws.{Splitting}
use Rattle.code_mark.proofs.split_of.Given as goal

abbrev pub invariant-loop-instruction : goal.invariant-loop-instruction
invariant-loop-instruction l =
    let walk = l.instruction-iterator in record {
      code : walk.code.0.now ≡ l.code;
      end : walk.end ≡ length l.code;
      splitting : (C : List ℕ) → Valid C → Marked C l.code → l.new_length ≡ length (shorter C) → Splitting C walk.at;
    }
