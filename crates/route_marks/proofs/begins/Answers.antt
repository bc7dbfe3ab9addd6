use Rattle.std.proofs.Common.{refl, ap, sym, ◌∙◌, true≢false, arith}
use Rattle.route_marks.proofs.BeginsLaws.{turn_more, turn_here, scan_end}
use Rattle.route_marks.proofs.begins.Goals as goal

pub returns-then-instruction-x : goal.returns-then-instruction-x
returns-then-instruction-x c =
    let l = c.loop-instruction in
    let t = rw l.invariant.code at c.in-Some.ensures.steps.turn in
    ((λ e. turn_here _ _ _ l.invariant.scanned _ _ t c.if-instruction-x.true), λ b. refl)

pub loop-instruction-preserved : goal.loop-instruction-preserved
loop-instruction-preserved c =
    let l = c.loop-instruction in
    let s = c.in-Some.ensures.steps in
    let t = rw l.invariant.code at s.turn in record {
      code = ap (λ k. k.0.now) s.code ∙ l.invariant.code;
      reaches = omega (arith, s.end, l.invariant.reaches);
      scanned = turn_more _ _ _ l.invariant.scanned _ _ t c.if-instruction-x.false;
    }

pub returns : goal.returns
returns c =
    let l = c.loop-instruction in
    let s = c.in-None.ensures.steps in (
      λ e. absurd (true≢false (sym e)),
      λ b. absurd (scan_end _ _ _ l.invariant.scanned _ l.invariant.reaches (rw l.invariant.code at s.none) b),
    )
