-- `print::put_line` meets its contract.
use Rattle.line_print.proofs.PrintLaws.{length_line}
use lib.ListN.{length-set}
use native.Mathlib.Omega.{arith}
use mathlib.Core.List.{map}
use Rattle.line_print.proofs.put_line.Goals as goal

pub put_fields-end-requires : goal.put_fields-end-requires
put_fields-end-requires g c = let p = c.requires in simp length-set (omega (arith, length_line c.args.letter (map g.T.Decimal.number c.args.numbers.now)))

pub bounds-out-end : goal.bounds-out-end
bounds-out-end g c =
    let p = c.requires in
    let e = c.put_fields-end.ensures.0 in
    let n = length_line c.args.letter (map g.T.Decimal.number c.args.numbers.now) in
    let k = c.put_fields-end.auto.out in
    let s = length-set c.args.out.now c.args.w c.args.letter in
    omega arith
