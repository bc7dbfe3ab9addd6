use Rattle.code_mark.proofs.ReadLaws.{size_past, size_fits, size_cut}
use native.Mathlib.Omega.{arith}
use Rattle.code_mark.proofs.size_at.Goals as goal

pub returns-then-code-p-clause-value : goal.returns-then-code-p-clause-value
returns-then-code-p-clause-value c = size_past c.args.code.now c.args.p (omega arith)

pub returns-then-size-code-clause-value : goal.returns-then-size-code-clause-value
returns-then-size-code-clause-value c = size_fits c.args.code.now c.args.p c.width-size.result c.opcode_at.result c.opcode_at.ensures c.width-size.ensures (omega arith) (omega arith)

pub returns-clause-value : goal.returns-clause-value
returns-clause-value c = size_cut c.args.code.now c.args.p c.width-size.result c.opcode_at.result c.opcode_at.ensures c.width-size.ensures (omega arith)
