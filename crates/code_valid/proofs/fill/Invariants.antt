use Rattle.std.proofs.Common.{◌≡◌, length}
use Rattle.code_valid.specs.Reading.{Entry, Table}
use Rattle.code_valid.proofs.fill.Given as goal

abbrev pub invariant-loop-instruction : goal.invariant-loop-instruction
invariant-loop-instruction l = record {
  code : l.instruction-iterator.code.0.now ≡ l.code;
  same : length l.table ≡ length l.initial.table;
  table : Table l.code l.table l.stride;
  entry : Entry l.code l.instruction-iterator.at;
}
