use Rattle.line_reader.proofs.StepLaws.{step_number, past_drop}
use Rattle.line_reader.specs.Step.{number_at}
use Rattle.line_fields.specs.Split.{field_of, next_of}
use Rattle.line_fields.proofs.FieldLaws.{values_turn, count_turn, tail_some, number_first, numbers_rest}
use Rattle.line_digits.specs.Number.{value_of}
use lib.ListN.{length, drop}
use native.Mathlib.Omega.{arith}
use mathlib.Core.Path.{◌≡◌, ◌∙◌, ap}
use Prim.Native.Nat.{◌<◌, ◌-◌, ◌+◌}
use Rattle.line_reader.proofs.write_numbers.Goals as goal

pub unwrap-number-requires : goal.unwrap-number-requires
unwrap-number-requires c =
    let o = c.loop-k in
    let i = o.invariant in
    let l = c.args.tail.now in
    let t = drop o.at l in
    let left = c.args.w + c.args.n - o.k in
    let h : 0 < left = omega arith in
    let s : 0 < length t = tail_some t (omega arith) in
    let e = step_number l o.at (number_first left t h s i.1) in
    rw (c.next_from.ensures, e)

pub loop-k-preserved : goal.loop-k-preserved
loop-k-preserved c =
    let o = c.loop-k in
    let i = o.invariant in
    let l = c.args.tail.now in
    let t = drop o.at l in
    let left = c.args.w + c.args.n - o.k in
    let h : 0 < left = omega arith in
    let s : 0 < length t = tail_some t (omega arith) in
    let e = step_number l o.at (number_first left t h s i.1) in
    let r = c.unwrap-number.result in
    let q : r ≡ number_at l o.at = cc in
    let v : r.value ≡ value_of (field_of t) = ap (λ x. x.value) q in
    let d : drop r.past l ≡ next_of t = ap (λ x. drop x.past l) q ∙ past_drop l o.at in
    let m = count_turn t s in
    let k : c.args.w + c.args.n - (o.k + 1) ≡ left - 1 = omega arith in
    rw (d, v, k) (omega arith, numbers_rest left t h s i.1, values_turn c.args.out.now o.out o.k left t _ h s i.2)
