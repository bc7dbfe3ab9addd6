use Rattle.refusal_counts.specs.Tally.{Tallied}
use Rattle.refusal_counts.proofs.tally.Given as goal

abbrev pub invariant-loop-c : goal.invariant-loop-c
invariant-loop-c l = Tallied l.nodes l.seen l.c
