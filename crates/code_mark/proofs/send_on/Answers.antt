use Rattle.code_shorten.specs.Threading.{written}
use Rattle.code_mark.specs.Read.{sent_in}
use mathlib.Core.Path.{◌∙◌, ap, sym}
use Rattle.code_mark.proofs.send_on.Goals as goal

pub returns-in-Some : goal.returns-in-Some
unfolding sent_in
returns-in-Some c = ap (written c.args.code.now c.args.q) (sym c.in-Some.is ∙ c.last_target.ensures)

pub returns-in_default : goal.returns-in_default
unfolding sent_in
returns-in_default c = ap (written c.args.code.now c.args.q) (sym c.in_default.is ∙ c.last_target.ensures)
