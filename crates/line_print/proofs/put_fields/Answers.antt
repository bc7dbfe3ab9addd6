use Rattle.line_print.proofs.PrintLaws.{put_done, fields_turn, fields_room, fields_end}
use Rattle.line_print.specs.Print.{fields_for}
use Rattle.std.proofs.lemmas.List.{get_or-map, length-map}
use native.Mathlib.Omega.{arith}
use mathlib.Core.List.{map}
use mathlib.Core.Path.{◌≡◌, ◌∙◌, ap, sym}
use lib.ListN.{get_or}
use Rattle.line_print.proofs.put_fields.Goals as goal

pub put_field-at-requires : goal.put_field-at-requires
put_field-at-requires g c =
    let a = c.args in
    let o = c.loop-n in
    let ns = map g.T.Decimal.number a.numbers.now in
    let e : c.word.result ≡ get_or ns o.n-index 0 = c.word.ensures ∙ ap g.T.Decimal.number c.n-item.is ∙ sym (get_or-map g.T.Decimal.number a.numbers.now o.n-index c.n-item.result 0 c.loop-n-test.true) in
    let l = length-map a.numbers.now g.T.Decimal.number in
    rw e (fields_room a.out.now o.out o.at ns o.n-index _ o.invariant (omega arith))

pub loop-n-preserved : goal.loop-n-preserved
loop-n-preserved g c =
    let a = c.args in
    let o = c.loop-n in
    let ns = map g.T.Decimal.number a.numbers.now in
    let e : c.word.result ≡ get_or ns o.n-index 0 = c.word.ensures ∙ ap g.T.Decimal.number c.n-item.is ∙ sym (get_or-map g.T.Decimal.number a.numbers.now o.n-index c.n-item.result 0 c.loop-n-test.true) in
    let l = length-map a.numbers.now g.T.Decimal.number in
    let p = c.put_field-at.ensures in
    rw (p.1, p.0, e) (fields_turn a.out.now o.out o.at ns o.n-index _ o.invariant (omega arith))

pub returns : goal.returns
returns g c =
    let a = c.args in
    let o = c.loop-n in
    let p = c.requires in
    let ns = map g.T.Decimal.number a.numbers.now in
    let e = length-map a.numbers.now g.T.Decimal.number in
    put_done a.out.now o.out a.w o.at (fields_for ns) (omega arith) (fields_end a.out.now o.out o.at ns o.n-index _ o.invariant (omega arith))
