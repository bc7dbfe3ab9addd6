use mathlib.Core.Path.{subst}
use Rattle.code_machine.proofs.NextLaws.{quiet_on}
use Rattle.code_machine.specs.Turn.{Turned}
use Rattle.code_machine.proofs.next_entry.Goals as goal

pub loop-end-preserved : goal.loop-end-preserved
loop-end-preserved c = quiet_on c.args.code.now c.args.answers.now c.args.ends.now c.loop-end.ends c.turn-s.new.ends c.args.here c.loop-end.p c.in-On.q c.loop-end.invariant (subst (λ r. Turned c.args.code.now c.args.answers.now c.loop-end.ends c.turn-s.new.ends c.loop-end.p r) c.in-On.is c.turn-s.ensures)
