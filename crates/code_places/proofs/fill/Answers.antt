use Rattle.std.proofs.Common.{◌≡◌, length, refl, sym, ◌∙◌, ap, subst, arith}
use Rattle.code_places.specs.Placing.{begins, news, stride_for}
use Rattle.code_pass.specs.Stages.{Index}
use Rattle.code_valid.proofs.WalkLaws.{turn_here}
use Rattle.code_mark.proofs.KeptLaws.{turn_within}
use Rattle.code_places.proofs.IndexLaws.{filling_first, filling_last, filling_skip, filling_put, filling_rest}
use Rattle.code_places.proofs.fill.Goals.{then-k-index+then-next-instruction, else-k-index, else-k-index-via-then-k-index+else-next-instruction, else-k-index-via-else-k-index}
use Rattle.code_places.proofs.fill.Goals as goal

pub loop-instruction-init : goal.loop-instruction-init
loop-instruction-init c =
    rw (c.into_iter-instruction-iterator.ensures.into_iter_gives, c.between-instruction-items.ensures)
    (record {
      code = refl;
      end = refl;
      within = omega arith;
      kept_low = omega arith;
      filling = λ C v m. filling_first C c.args.code.now v m (length c.args.index.now) c.stride_of-stride.result c.stride_of-stride.ensures.lower_bound (begins c.args.index.now) (news c.args.index.now);
    })

pub loop-instruction-preserved : goal.loop-instruction-preserved
loop-instruction-preserved c =
    let f = c.args.code.now in
    let l = c.loop-instruction in
    let s = c.in-Some.ensures.steps in
    let i = c.in-Some.instruction in
    let t = rw l.invariant.code at s.turn in
    let h = turn_here _ _ _ _ t in
    let w = turn_within f _ _ _ t in
    let e = t.place in
    let n = t.next in
    let inside = s.inside in
    let stride = c.stride_of-stride.result in record {
      code = ap (λ k. k.0.now) s.code ∙ l.invariant.code;
      end = s.end ∙ l.invariant.end;
      within = w;
      kept_low = omega (arith, l.invariant.kept_low, c.kept_at-kept.ensures.upper_bound);
      filling = λ C v m.
          let g = rw (sym e) at (l.invariant.filling C v m) in
          elim c.if-k-index.branch [
            | then-k-index+then-next-instruction b ↦
                rw (b.index-is, b.k-is, b.next-is, h.next)
                (filling_put C f v m (length c.args.index.now) stride c.stride_of-stride.ensures.lower_bound l.index i.place l.kept l.k l.next g (omega (arith, l.invariant.end))
                i.size c.kept_at-kept.result h.size c.kept_at-kept.ensures.value (omega (arith, l.auto.index, b.if-k-index.true)) (omega (arith, b.if-next-instruction.true))
                b.if-k-index.true)
            | else-k-index b ↦
                rw (b.index-is, b.k-is, b.next-is, h.next)
                (filling_skip C f v m (length c.args.index.now) stride c.stride_of-stride.ensures.lower_bound (begins l.index) (news l.index) i.place l.kept l.k l.next g (omega (arith, l.invariant.end))
                i.size c.kept_at-kept.result h.size c.kept_at-kept.ensures.value
                (λ x. elim b.else-k-index.branch [
                  | else-k-index-via-then-k-index+else-next-instruction b' ↦ b'.if-next-instruction.false
                  | else-k-index-via-else-k-index b' ↦ absurd (omega (arith, l.auto.index, b'.if-k-index.false))
                ]))
          ];
    }

pub returns : goal.returns
returns c =
    λ C v m.
    let f = c.args.code.now in
    let l = c.loop-instruction in
    let strides = length c.args.index.now in
    let g = l.invariant.filling C v m in
    let e = filling_last C f v m strides c.stride_of-stride.result c.stride_of-stride.ensures.lower_bound (begins l.index) (news l.index) _ l.kept l.k l.next g _ l.invariant.within l.invariant.end (rw l.invariant.code at c.in-None.ensures.steps.none) in
    let s : c.stride_of-stride.result ≡ stride_for strides (length C) = c.stride_of-stride.ensures.value ∙ ap (stride_for strides) m.same in
    subst (Index C (begins c.fill_rest.new.index) (news c.fill_rest.new.index)) s
    (filling_rest C f v m strides c.stride_of-stride.result c.stride_of-stride.ensures.lower_bound l.index (length f) l.kept l.k l.next (rw e at g) (omega (arith, c.requires)) (omega arith) s
    c.stride_of-stride.ensures.upper_bound c.fill_rest.new.index (c.fill_rest.ensures.same ∙ l.auto.index)
    c.fill_rest.ensures.before (λ j x y. c.fill_rest.ensures.rest j x (omega (arith, c.fill_rest.ensures.same))))
