use native.Mathlib.Omega.{arith}
use mathlib.Core.Path.{sym, subst}
use Rattle.code_machine.specs.Turn.{Turned}
use Rattle.code_machine.proofs.TurnLaws.{ask_no, ask_yes, ask_none}
use Rattle.code_machine.proofs.asked.Goals as goal

pub returns-then-answers-at : goal.returns-then-answers-at
returns-then-answers-at c = λ ends. ask_none c.args.code.now c.args.answers.now ends c.args.p c.requires.pc_value c.if-answers-at.true

pub returns-then-answers-at-eq0 : goal.returns-then-answers-at-eq0
returns-then-answers-at-eq0 c =
    let a = c.args in
    λ ends. subst (λ r. Turned a.code.now a.answers.now ends ends a.p r) (sym c.answered.ensures)
    (ask_no a.code.now a.answers.now ends a.p c.requires.pc_value c.word-n.result c.word-z.result c.word-n.ensures c.word-z.ensures (omega arith) c.requires.pending_le_room (omega arith) c.if-answers-at-eq0.true)

pub returns : goal.returns
returns c =
    let a = c.args in
    λ ends. subst (λ r. Turned a.code.now a.answers.now ends ends a.p r) (sym c.answered-2.ensures)
    (ask_yes a.code.now a.answers.now ends a.p c.requires.pc_value c.word-n.result c.word-y.result c.word-n.ensures c.word-y.ensures (omega arith) c.requires.pending_le_room (omega arith) c.if-answers-at-eq0.false)
