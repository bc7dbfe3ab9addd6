use Rattle.std.proofs.Common.{Err, ap, sym, ◌∙◌, arith}
use Rattle.code_valid.specs.Instrs.{parse}
use Rattle.code_valid.proofs.ReadingLaws.{bad_end, bad_none}
use Rattle.code_valid.proofs.WalkLaws.{none_left, turn_sound, turn_bad}
use Rattle.code_valid.proofs.Indexed.first_bad.Goals as goal

pub returns-then-not-sound_at : goal.returns-then-not-sound_at
returns-then-not-sound_at c =
    let l = c.loop-instruction in
    let t = rw l.invariant.code at c.in-Some.ensures.steps.turn in
    turn_bad _ _ _ _ t (parse c.args.self.now.code.now) (sym c.sound_at.ensures ∙ c.if-not-sound_at.true) ∙ l.invariant.judged

pub loop-instruction-preserved : goal.loop-instruction-preserved
loop-instruction-preserved c =
    let l = c.loop-instruction in
    let s = c.in-Some.ensures.steps in
    let t = rw l.invariant.code at s.turn in record {
      code = ap (λ k. k.0.now) s.code ∙ l.invariant.code;
      end = s.end ∙ l.invariant.end;
      judged = turn_sound _ _ _ _ t (parse c.args.self.now.code.now) (sym c.sound_at.ensures ∙ c.if-not-sound_at.false) ∙ l.invariant.judged;
    }

pub returns-then-instructions-self : goal.returns-then-instructions-self
returns-then-instructions-self c =
    let C = c.args.self.now.code.now in
    let l = c.loop-instruction in
    let s = c.in_default.ensures.steps in
    let h = c.if-instructions-self.true in
    let e = ap (λ w. w.at) s.same in
    ap Err e ∙ sym (bad_none C (parse C) l.instructions.at (omega arith) (none_left C _ _ l.invariant.end (rw l.invariant.code at s.none))) ∙ l.invariant.judged

pub returns : goal.returns
returns c =
    let C = c.args.self.now.code.now in
    let l = c.loop-instruction in
    let h = c.if-instructions-self.false in
    let e = ap (λ w. w.at) c.in_default.ensures.steps.same in sym (bad_end C (parse C) l.instructions.at (omega arith)) ∙ l.invariant.judged
