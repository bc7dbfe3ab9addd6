use Prim.Native.Nat.{◌-◌}
use Rattle.line_print.proofs.PrintLaws.{length_more, digit_turn}
use lib.ListN.{length-set}
use native.Mathlib.Omega.{arith}
use mathlib.Core.Path.{◌∙◌}
use Rattle.line_print.proofs.put_number.Goals as goal

pub loop-rest-preserved : goal.loop-rest-preserved
loop-rest-preserved c =
    let o = c.loop-rest in
    let a = c.args in
    let v = o.invariant in
    let e = v.0 in
    let l = v.2 in
    let b = v.1 in
    let n = length_more o.rest c.loop-rest-test.true in
    let p = c.places.ensures.1 in
    let q = c.requires in
    rw c.glyph.ensures (omega arith, omega arith, length-set o.out (o.i - 1) _ ∙ l, digit_turn o.out _ a.w o.i o.rest e (omega arith) v.3 c.loop-rest-test.true)
