use Rattle.std.proofs.Common.{◌≤◌, ap, sym, ◌∙◌, arith}
use Rattle.code_valid.proofs.WalkLaws.{turn_here}
use Rattle.code_gather.proofs.EnteredLaws.{at_begin, at_next, at_done, entered_next, entered_here, entered_end}
use Rattle.code_gather.proofs.is_entered.Goals as goal

pub returns-then-enters-clause-value : goal.returns-then-enters-clause-value
returns-then-enters-clause-value c =
    λ C v h l a.
    let w = c.loop-instruction.invariant in
    let g = c.in-Some.ensures.steps in
    let e = g.turn.place in
    let inside = g.inside in
    let p = c.in-Some.instruction.place in
    let i = rw (sym e) at (w.entered C v h l a) in
    let b = at_begin C p _ h.same i.0 (omega (arith, w.end)) in
    sym (sym i.1 ∙ entered_here C v c.args.code.now c.args.split h p b (omega (arith, w.low)) c.args.x (sym c.enters.ensures.value ∙ c.if-enters.true))

pub loop-instruction-preserved : goal.loop-instruction-preserved
loop-instruction-preserved c =
    let w = c.loop-instruction.invariant in
    let g = c.in-Some.ensures.steps in
    let e = g.turn.place in
    let n = g.turn.next in
    let inside = g.inside in
    let p = c.in-Some.instruction.place in
    let t = turn_here _ _ _ _ (rw w.code at g.turn) in record {
      code = ap (λ k. k.0.now) g.code ∙ w.code;
      end = g.end ∙ w.end;
      low = omega (arith, w.low);
      entered = λ C v h l a.
          let i = rw (sym e) at (w.entered C v h l a) in
          let b = at_begin C p _ h.same i.0 (omega (arith, w.end)) in
          let m : c.args.split ≤ p = omega (arith, w.low) in
          rw t.next (
            at_next C v c.args.code.now c.args.split h p b m _ t.size,
            entered_next C v c.args.code.now c.args.split h p b m c.args.x _ t.size (sym c.enters.ensures.value ∙ c.if-enters.false) ∙ i.1,
          );
    }

pub returns-clause-value : goal.returns-clause-value
returns-clause-value c =
    λ C v h l a.
    let w = c.loop-instruction.invariant in
    let i = w.entered C v h l a in
    let d = at_done C v c.args.code.now c.args.split h _ _ i.0 (omega (arith, w.low)) w.end (rw w.code at c.in-None.ensures.steps.none) in
    sym (sym i.1 ∙ entered_end C v c.args.code.now c.args.split h c.args.x _ d)
