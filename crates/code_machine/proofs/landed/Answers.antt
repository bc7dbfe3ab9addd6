use mathlib.Core.Path.{refl}
use Rattle.code_machine.proofs.TurnLaws.{land_zero, land_on}
use Rattle.code_machine.proofs.landed.Goals as goal

pub returns-then-to-eq0 : goal.returns-then-to-eq0
returns-then-to-eq0 c = λ C qs ends after to. land_zero C qs ends after c.args.p c.args.to to c.if-to-eq0.true

pub returns : goal.returns
returns c = λ C qs ends after to. c.passed.ensures C qs ends after (land_on C qs ends after c.args.p c.args.to to c.if-to-eq0.false c.args.to.place refl)
