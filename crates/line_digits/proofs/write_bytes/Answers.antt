use Rattle.line_digits.proofs.HexLaws.{byte_turn, bytes_done}
use Rattle.line_digits.specs.Hex.{bytes_of}
use native.Mathlib.Omega.{arith}
use Rattle.line_digits.proofs.write_bytes.Goals as goal

pub loop-t-preserved : goal.loop-t-preserved
loop-t-preserved c = byte_turn c.args.out.now c.loop-t.out c.loop-t.k c.loop-t.t.now (bytes_of c.args.s.now) c.loop-t.invariant.0 (omega arith) c.loop-t.invariant.1 c.nibble.result c.nibble-in-len2-up.result c.nibble.ensures.0 c.nibble-in-len2-up.ensures.0

pub returns : goal.returns
returns c = bytes_done c.args.out.now c.loop-t.out c.loop-t.k c.loop-t.t.now (bytes_of c.args.s.now) (omega arith) c.loop-t.invariant.1
