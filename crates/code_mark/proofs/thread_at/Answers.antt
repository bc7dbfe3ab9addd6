use Rattle.code_mark.proofs.SendLaws.{thread_leave, thread_case, thread_other, stands_in}
use Rattle.code_flat.specs.Opcodes as op
use native.Mathlib.Omega.{arith}
use mathlib.Core.Path.{sym, ◌∙◌}
use Rattle.code_mark.proofs.thread_at.Goals as goal

pub send_on-requires : goal.send_on-requires
send_on-requires c = omega (arith, stands_in c.args.code.now c.args.p c.requires op.Leave (sym c.opcode_at.ensures ∙ c.in-2.is))

pub send_on-requires-in-7 : goal.send_on-requires-in-7
send_on-requires-in-7 c = omega (arith, stands_in c.args.code.now c.args.p c.requires op.Case (sym c.opcode_at.ensures ∙ c.in-7.is))

pub returns-in-2 : goal.returns-in-2
returns-in-2 c = c.send_on.ensures ∙ sym (thread_leave c.args.code.now c.args.p (sym c.opcode_at.ensures ∙ c.in-2.is))

pub returns-in-7 : goal.returns-in-7
returns-in-7 c = c.send_on-in-7.ensures ∙ sym (thread_case c.args.code.now c.args.p (sym c.opcode_at.ensures ∙ c.in-7.is))

pub returns-in_default : goal.returns-in_default
returns-in_default c = sym (thread_other c.args.code.now c.args.p (omega arith) (omega arith))
