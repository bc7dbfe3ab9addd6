use Rattle.std.proofs.Common.{◌-◌, rules, length, subst}
use Rattle.std.specs.Io.KnownBytes.{Consumes}
use Rattle.std.proofs.KnownBytes.{Consumes-trans}
use Rattle.line_stream.proofs.Front.{front_grows}
use Rattle.line_stream.proofs.read_full.Goals as goal

pub loop-done-preserved : goal.loop-done-preserved
loop-done-preserved g c =
    let at = c.loop-done.done in
    let n = c.in_ok-n.n in
    let within = c.loop-done.invariant.1 in
    let more = front_grows at (length c.loop-done.out - at) n c.loop-done.out c.read.new.buf within c.in_ok-n.ensures.bound.0 in
    (search rules, search rules, subst (Consumes _ _) more (Consumes-trans _ _ _ _ _ c.loop-done.invariant.2 c.in_ok-n.ensures.bytes.0))
