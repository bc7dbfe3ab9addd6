use Rattle.code_valid.specs.Reading.{from}
use Rattle.code_valid.specs.Valid.{first_bad}
use Rattle.code_valid.specs.Instrs.{parse}
use Rattle.std.proofs.Common.{◌≡◌, ◌-◌, length}
use Rattle.code_valid.proofs.Indexed.first_bad.Given as goal

abbrev pub invariant-loop-instruction : goal.invariant-loop-instruction
invariant-loop-instruction l =
    let C = l.self.code.now in record {
      code : l.instructions.code.0.now ≡ C;
      end : l.instructions.end ≡ length C;
      judged : first_bad (parse C) (from C l.instructions.at) l.instructions.at ≡ first_bad (parse C) (parse C) 0;
    }

abbrev pub decreases-loop-instruction : goal.decreases-loop-instruction
decreases-loop-instruction l = length l.self.code.now - l.instructions.at
