use Rattle.code_mark.proofs.MarkLaws.{marks_next}
use borrow.Author.Rules.{rules}
use Rattle.code_mark.proofs.mark_rest.Goals as goal

pub loop-again-preserved : goal.loop-again-preserved
loop-again-preserved c = (search rules, λ C v h. marks_next C v c.loop-again.code _ c.round-again.result (c.loop-again.invariant.1 C v h).started (c.round-again.ensures.rounded C v))
