use Rattle.code_machine.proofs.NextLaws.{Quiet}
use Rattle.code_flat.specs.Machine.{measure}
use lib.ListN.{drop}
use Rattle.code_machine.proofs.next_entry.Given as goal

abbrev pub invariant-loop-end : goal.invariant-loop-end
invariant-loop-end l = Quiet l.code l.answers l.initial.ends l.ends l.initial.p l.p

abbrev pub decreases-loop-end : goal.decreases-loop-end
decreases-loop-end l = measure l.code l.p.budget (drop l.p.at l.answers)
