use Rattle.std.proofs.Common.{ap, sym, ◌∙◌}
use Rattle.code_valid.proofs.ReadingLaws.{search_none}
use Rattle.code_valid.proofs.WalkLaws.{none_left, turn_search, turn_found}
use Rattle.code_valid.proofs.begins_from.Goals as goal

pub returns-then-to-instruction : goal.returns-then-to-instruction
returns-then-to-instruction c =
    let l = c.loop-instruction in
    let t = rw l.invariant.code at c.in-Some.ensures.steps.turn in turn_found _ _ _ _ t c.args.to c.if-to-instruction.true ∙ l.invariant.search

pub loop-instruction-preserved : goal.loop-instruction-preserved
loop-instruction-preserved c =
    let l = c.loop-instruction in
    let s = c.in-Some.ensures.steps in
    let t = rw l.invariant.code at s.turn in record {
      code = ap (λ k. k.0.now) s.code ∙ l.invariant.code;
      end = s.end ∙ l.invariant.end;
      search = turn_search _ _ _ _ t c.args.to c.if-to-instruction.false ∙ l.invariant.search;
    }

pub returns : goal.returns
returns c =
    let l = c.loop-instruction in
    let s = c.in-None.ensures.steps in
    sym (search_none c.args.code.now l.instruction-iterator.at c.args.to (none_left _ _ _ l.invariant.end (rw l.invariant.code at s.none))) ∙ l.invariant.search
