use Rattle.std.proofs.Common.{ℕ, List, ◌≡◌, ◌≤◌, length}
use Rattle.code_valid.specs.Valid.{Valid}
use Rattle.code_pass.specs.Stages.{Marked}
use Rattle.code_places.specs.Placing.{begins, news}
use Rattle.code_places.proofs.IndexLaws.{Filling}
use Rattle.code_places.proofs.fill.Given as goal

abbrev pub invariant-loop-instruction : goal.invariant-loop-instruction
invariant-loop-instruction l =
    let walk = l.instruction-iterator in record {
      code : walk.code.0.now ≡ l.code;
      end : walk.end ≡ length l.code;
      within : walk.at ≤ length l.code;
      kept_low : l.kept ≤ walk.at;
      filling : (C : List ℕ) → Valid C → Marked C l.code → Filling C (length l.initial.index) (begins l.index) (news l.index) l.stride walk.at l.kept l.k l.next;
    }
