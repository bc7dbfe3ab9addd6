use native.Mathlib.Omega.{arith}
use lib.ListN.{set}
use Rattle.code_machine.proofs.TurnLaws.{open_none, open_on}
use Rattle.code_machine.proofs.opened.Goals as goal

pub returns-then-pending-eq512 : goal.returns-then-pending-eq512
returns-then-pending-eq512 c = λ C qs to. open_none C qs c.args.ends.now c.args.p c.args.f c.args.next to (omega arith)

pub returns : goal.returns
returns c = λ C qs to. c.passed.ensures C qs c.args.ends.now (set c.args.ends.now c.args.p.pending c.pending_end.result) (open_on C qs c.args.ends.now c.args.p c.args.f c.args.next to (omega arith) c.if-pending-eq512.false c.requires.pending_le_room c.pending_end.result c.pending_end.ensures)
