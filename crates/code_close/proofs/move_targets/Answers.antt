use Rattle.std.proofs.Common.{◌+◌, ◌<◌, length, sym, ◌∙◌, subst, refl, arith, rules}
use Rattle.code_shorten.proofs.PlaceLaws.{len_most}
use Rattle.code_mark.specs.Read.{standing_in}
use Rattle.code_close.proofs.ClosingLaws.{Moving, moving_first, moving_tagged, old, old_in, moving_size, moving_some, moving_read, moving_next, moving_end}
use Rattle.code_close.proofs.move_targets.Goals as goal

pub loop-q-init : goal.loop-q-init
loop-q-init c = record { same = refl; moving = λ C k e g. moving_first C k.valid c.args.places.now.split k.cut c.args.code.now g }

pub returns-then-size-eq0 : goal.returns-then-size-eq0
returns-then-size-eq0 c =
    λ C k e g.
    absurd (moving_some C k.valid c.args.places.now.split k.cut c.loop-q.code c.loop-q.q (c.loop-q.invariant.moving C k e g) (omega arith) (sym c.size_at-size.ensures.value ∙ c.if-size-eq0.true))

pub move_at-requires : goal.move_at-requires
move_at-requires c = record {
  size_bound = omega (arith, c.size_at-size.ensures.value, len_most (standing_in c.loop-q.code c.loop-q.q));
  in_bounds = omega (arith, c.size_at-size.ensures.upper_bound);
}

pub loop-q-preserved : goal.loop-q-preserved
loop-q-preserved c = record {
  same = search rules;
  moving = λ C k e g.
      let split = c.args.places.now.split in
      let f = c.loop-q.code in
      let q = c.loop-q.q in
      let m = c.loop-q.invariant.moving C k e g in
      let l : q < length (Rattle.code_shorten.specs.Short.shorter C) = omega arith in
      subst (λ w. Moving C c.move_at.new.code split (q + w)) (sym c.size_at-size.ensures.value)
      (moving_next C k.valid split k.cut f q m l c.move_at.new.code
      (c.move_at.ensures C (old C k.valid split k.cut f q m l) k (moving_tagged C k.valid split k.cut f q m) (old_in C k.valid split k.cut f q m l) (moving_read C k.valid split k.cut f q m l)
      (c.size_at-size.ensures.value ∙ moving_size C k.valid split k.cut f q m l)));
}

pub returns : goal.returns
returns c = λ C k e g. moving_end C k.valid c.args.places.now.split k.cut c.loop-q.code c.loop-q.q (c.loop-q.invariant.moving C k e g) (omega arith)
