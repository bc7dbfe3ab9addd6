use Rattle.code_machine.proofs.TurnLaws.{pass_on}
use Rattle.code_machine.proofs.passed.Goals as goal

pub returns : goal.returns
returns c = λ C qs ends after to. pass_on C qs ends after c.args.p c.args.pc c.args.pending to c.if-p-eq0.false c.requires
