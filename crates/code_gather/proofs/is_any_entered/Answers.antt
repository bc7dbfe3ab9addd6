use Rattle.std.proofs.Common.{◌≤◌, ap, sym, ◌∙◌, true≢false, arith}
use Rattle.code_valid.proofs.WalkLaws.{turn_here}
use Rattle.code_gather.specs.Gather.{comes, entry_read}
use Rattle.code_gather.proofs.EnteredLaws.{at_begin, split_behind, at_next, at_done, entered_next, entered_end, needed_none, dropped_low, if_not}
use Rattle.code_gather.proofs.is_any_entered.Goals as goal

pub loop-instruction-preserved : goal.loop-instruction-preserved
loop-instruction-preserved c =
    let w = c.loop-instruction.invariant in
    let g = c.in-Some.ensures.steps in
    let e = g.turn.place in
    let n = g.turn.next in
    let inside = g.inside in
    let p = c.in-Some.instruction.place in
    let code = c.args.code.now in
    let split = c.args.split in
    let t = turn_here _ _ _ _ (rw w.code at g.turn) in record {
      code = ap (λ k. k.0.now) g.code ∙ w.code;
      end = g.end ∙ w.end;
      low = omega (arith, w.low);
      none = λ C v s f.
          let i = rw (sym e) at (w.none C v s f) in
          let h = split_behind C code split f in
          let b = at_begin C p _ h.same i.0 (omega (arith, w.end)) in
          let m : split ≤ p = omega (arith, w.low) in
          rw t.next (
            at_next C v code split h p b m _ t.size,
            λ x d.
                entered_next C v code split h p b m x _ t.size (if_not (comes x (entry_read code split p)) (λ q. let y = dropped_low C v code split x f d in true≢false (sym (c.enters_dropped.ensures x q y.0 y.1) ∙ c.if-enters_dropped.false)))
                ∙ i.1 x d,
          );
    }

pub returns : goal.returns
returns c =
    λ C v s f e.
    let w = c.loop-instruction.invariant in
    let i = w.none C v s f in
    let h = split_behind C c.args.code.now c.args.split f in
    let d = at_done C v c.args.code.now c.args.split h _ _ i.0 w.low w.end (rw w.code at c.in-None.ensures.steps.none) in
    needed_none C c.args.split (λ x o. sym (i.1 x o) ∙ entered_end C v c.args.code.now c.args.split h x _ d)
