use Rattle.std.proofs.Common.{refl, ap, ◌∙◌, arith}
use Rattle.code_mark.proofs.KeptLaws.{kept_start, kept_turn, kept_done, turn_within}
use Rattle.code_mark.proofs.kept_before.Goals as goal

pub loop-instruction-init : goal.loop-instruction-init
loop-instruction-init c =
    rw (c.into_iter-instruction-iterator.ensures.into_iter_gives, c.between-instruction-items.ensures)
    (record { code = refl; end = refl; within = omega arith; low = omega arith; kept = λ C v m. kept_start C v c.args.code.now m c.args.place })

pub loop-instruction-preserved : goal.loop-instruction-preserved
loop-instruction-preserved c =
    let f = c.args.code.now in
    let l = c.loop-instruction in
    let s = c.in-Some.ensures.steps in
    let t = rw l.invariant.code at s.turn in
    let k = c.kept_at-kept.ensures in record {
      code = ap (λ w. w.0.now) s.code ∙ l.invariant.code;
      end = s.end ∙ l.invariant.end;
      within = turn_within f _ _ _ t;
      low = omega (arith, k.upper_bound, t.next);
      kept = λ C v m. rw k.value (kept_turn C v f m _ _ _ t c.args.place l.kept (l.invariant.kept C v m) (omega (arith, s.inside, l.invariant.end)));
    }

pub returns-clause-value : goal.returns-clause-value
returns-clause-value c =
    λ C v m.
    let l = c.loop-instruction in
    kept_done C v c.args.code.now m c.args.place _ _ l.kept (l.invariant.kept C v m) l.invariant.end (rw l.invariant.code at c.in-None.ensures.steps.none)
