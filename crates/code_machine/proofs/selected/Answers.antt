use native.Mathlib.Omega.{arith}
use mathlib.Core.Path.{sym, subst}
use Rattle.code_machine.specs.Turn.{Turned}
use Rattle.code_machine.proofs.TurnLaws.{select_case, select_none}
use Rattle.code_machine.proofs.selected.Goals as goal

pub returns-then-answers-at : goal.returns-then-answers-at
returns-then-answers-at c = λ ends. select_none c.args.code.now c.args.answers.now ends c.args.p c.requires.pc_value c.if-answers-at.true

pub returns : goal.returns
returns c =
    let a = c.args in
    λ ends. subst (λ r. Turned a.code.now a.answers.now ends ends a.p r) (sym c.answered.ensures)
    (select_case a.code.now a.answers.now ends a.p c.requires.pc_value c.word-n.result c.word-c.result c.word-e.result c.chased-t.result c.word-n.ensures c.word-c.ensures c.word-e.ensures c.chased-t.ensures (omega arith) c.requires.pending_le_room (omega arith))
