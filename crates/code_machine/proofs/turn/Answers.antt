use native.Mathlib.Omega.{arith}
use Prim.Native.Nat.{◌+◌}
use mathlib.Core.Path.{refl, sym, ◌∙◌, ap}
use mathlib.Core.List.{[]}
use lib.ListN.{get_or, drop}
use Rattle.code_flat.specs.Machine.{res}
use Rattle.code_marks.specs.Stop.{over}
use Rattle.code_flat.specs.Opcodes as op
use Rattle.code_machine.proofs.TurnLaws.{on_past, on_instr, on_none}
use Rattle.code_machine.proofs.turn.Goals as goal

pub returns-then-code-pc : goal.returns-then-code-pc
returns-then-code-pc c = on_past c.args.code.now c.args.answers.now c.args.ends.now c.args.p c.if-code-pc.true

pub returns-in-1 : goal.returns-in-1
returns-in-1 c = c.listed.ensures c.args.code.now c.args.answers.now c.args.ends.now (on_instr c.args.code.now c.args.answers.now c.args.ends.now c.args.p c.word.result c.word-x.result c.word-y.result (get_or c.args.code.now (c.args.p.pc + 3) 0) c.word.ensures c.word-x.ensures c.word-y.ensures refl op.List c.in-1.is)

pub returns-in-2 : goal.returns-in-2
returns-in-2 c = c.left.ensures c.args.code.now c.args.answers.now (on_instr c.args.code.now c.args.answers.now c.args.ends.now c.args.p c.word.result c.word-x.result c.word-y.result (get_or c.args.code.now (c.args.p.pc + 3) 0) c.word.ensures c.word-x.ensures c.word-y.ensures refl op.Leave c.in-2.is)

pub returns-in-3 : goal.returns-in-3
returns-in-3 c = c.asked.ensures c.args.ends.now

pub returns-in-4 : goal.returns-in-4
returns-in-4 c = c.selected.ensures c.args.ends.now

pub returns-in-5 : goal.returns-in-5
returns-in-5 c = c.opened.ensures c.args.code.now c.args.answers.now (on_instr c.args.code.now c.args.answers.now c.args.ends.now c.args.p c.word.result c.word-x.result c.word-y.result (get_or c.args.code.now (c.args.p.pc + 3) 0) c.word.ensures c.word-x.ensures c.word-y.ensures refl op.Open c.in-5.is)

pub returns-in-6 : goal.returns-in-6
returns-in-6 c = λ m. on_instr c.args.code.now c.args.answers.now c.args.ends.now c.args.p c.word.result c.word-x.result c.word-y.result (get_or c.args.code.now (c.args.p.pc + 3) 0) c.word.ensures c.word-x.ensures c.word-y.ensures refl op.End c.in-6.is m ∙ ap (λ k. over (res [] k (drop c.args.p.at c.args.answers.now))) (sym c.end_as.ensures)

pub returns-in-7 : goal.returns-in-7
returns-in-7 c = c.left-in-7.ensures c.args.code.now c.args.answers.now (on_instr c.args.code.now c.args.answers.now c.args.ends.now c.args.p c.word.result c.word-x.result c.word-y.result c.word-in-7.result c.word.ensures c.word-x.ensures c.word-y.ensures c.word-in-7.ensures op.Case c.in-7.is)

pub returns-in_default : goal.returns-in_default
returns-in_default c = on_none c.args.code.now c.args.answers.now c.args.ends.now c.args.p c.word.result c.word-x.result c.word-y.result (get_or c.args.code.now (c.args.p.pc + 3) 0) c.word.ensures c.word-x.ensures c.word-y.ensures refl (omega arith) (omega arith) (omega arith) (omega arith) (omega arith) (omega arith) (omega arith)
