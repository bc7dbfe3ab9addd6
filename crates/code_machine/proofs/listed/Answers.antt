use Rattle.code_machine.proofs.TurnLaws.{list_on}
use Rattle.code_machine.proofs.listed.Goals as goal

pub returns : goal.returns
returns c = λ C qs ends to. list_on C qs ends c.args.p c.args.n c.args.next to c.if-p-eq0.false c.requires
