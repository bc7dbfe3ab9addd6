use Rattle.refusal_counts.specs.Tally.{Notes}
use Rattle.refusal_counts.proofs.wrong_count_at.Given as goal

abbrev pub invariant-loop-c : goal.invariant-loop-c
invariant-loop-c l = Notes l.nodes l.n.0 l.seen l.c
