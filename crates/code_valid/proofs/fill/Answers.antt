use Rattle.std.proofs.Common.{ap, ◌∙◌, rules}
use Rattle.code_valid.proofs.ReadingLaws.{table_more}
use Rattle.code_valid.proofs.WalkLaws.{turn_inside, turn_entry}
use Rattle.code_valid.proofs.fill.Goals as goal

pub overflow_add-k : goal.overflow_add-k
overflow_add-k c =
    let h = turn_inside _ _ _ _ (rw c.loop-instruction.invariant.code at c.in-Some.ensures.steps.turn) in search rules

pub loop-instruction-preserved-then-k-table : goal.loop-instruction-preserved-then-k-table
loop-instruction-preserved-then-k-table c =
    let l = c.loop-instruction in
    let s = c.in-Some.ensures.steps in
    let t = rw l.invariant.code at s.turn in record {
      code = ap (λ k. k.0.now) s.code ∙ l.invariant.code;
      same = search rules;
      table = rw t.place (table_more _ _ _ _ l.invariant.table l.invariant.entry);
      entry = turn_entry _ _ _ _ t l.invariant.entry;
    }

pub loop-instruction-preserved : goal.loop-instruction-preserved
loop-instruction-preserved c =
    let l = c.loop-instruction in
    let s = c.in-Some.ensures.steps in record {
      code = ap (λ k. k.0.now) s.code ∙ l.invariant.code;
      same = l.invariant.same;
      table = l.invariant.table;
      entry = turn_entry _ _ _ _ (rw l.invariant.code at s.turn) l.invariant.entry;
    }
