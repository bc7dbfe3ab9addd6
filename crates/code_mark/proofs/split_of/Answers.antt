use Rattle.std.proofs.Common.{ap, ◌∙◌, arith}
use Rattle.code_mark.proofs.KeptLaws.{turn_within, splitting_turn, splitting_found, splitting_done}
use Rattle.code_mark.proofs.split_of.Goals as goal

pub returns-then-new_length-instruction : goal.returns-then-new_length-instruction
returns-then-new_length-instruction c =
    let l = c.loop-instruction in
    let t = rw l.invariant.code at c.in-Some.ensures.steps.turn in record {
      value = λ C v m e. splitting_found C v c.args.code.now m _ _ _ t (l.invariant.splitting C v m e) (omega arith);
      upper_bound = omega (arith, turn_within c.args.code.now _ _ _ t, t.next, t.place);
    }

pub loop-instruction-preserved : goal.loop-instruction-preserved
loop-instruction-preserved c =
    let l = c.loop-instruction in
    let s = c.in-Some.ensures.steps in
    let t = rw l.invariant.code at s.turn in record {
      code = ap (λ w. w.0.now) s.code ∙ l.invariant.code;
      end = s.end ∙ l.invariant.end;
      splitting = λ C v m e. splitting_turn C v c.args.code.now m _ _ _ t (l.invariant.splitting C v m e) (omega arith);
    }

pub returns-clause-value : goal.returns-clause-value
returns-clause-value c =
    λ C v m e.
    let l = c.loop-instruction in
    splitting_done C v c.args.code.now m _ _ (l.invariant.splitting C v m e) l.invariant.end (rw l.invariant.code at c.in-None.ensures.steps.none)
