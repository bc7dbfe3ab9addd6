use Rattle.std.proofs.Common.{◌≡◌, length}
use Rattle.code_valid.specs.Reading.{from}
use Rattle.code_valid.specs.Instrs.{begins}
use Rattle.code_valid.proofs.begins_from.Given as goal

abbrev pub invariant-loop-instruction : goal.invariant-loop-instruction
invariant-loop-instruction l =
    let walk = l.instruction-iterator in record {
      code : walk.code.0.now ≡ l.code;
      end : walk.end ≡ length l.code;
      search : begins (from l.code walk.at) walk.at l.to ≡ begins (from l.code l.start) l.start l.to;
    }
