use Rattle.std.proofs.Common.{◌≡◌}
use Prim.Native.Nat.{◌<◌}
use Rattle.route_marks.proofs.BeginsLaws.{Scanned}
use Rattle.route_marks.proofs.begins.Given as goal

abbrev pub invariant-loop-instruction : goal.invariant-loop-instruction
invariant-loop-instruction l = record {
  code : l.instruction-iterator.code.0.now ≡ l.code;
  reaches : l.x < l.instruction-iterator.end;
  scanned : Scanned l.code l.place l.instruction-iterator.at;
}
