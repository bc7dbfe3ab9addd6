-- `lines::unit` meets its contract.
use Rattle.line_input.proofs.RouteLaws.{unit_told}
use Rattle.line_input.proofs.unit.Goals as goal

pub returns : goal.returns
returns c = cc (unit_told c.args.l.now c.requires).1
