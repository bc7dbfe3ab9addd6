use Rattle.std.proofs.Common.{sym, ◌∙◌, ap}
use Rattle.route_completion.specs.Sem.{pick}
use Rattle.code_pass.specs.Stages.{new_place}
use Rattle.code_close.proofs.ClosingLaws.{first_in, second_in, third_in, moves}
use Rattle.code_close.proofs.move_at.Goals as goal

pub returns : goal.returns
returns c =
    λ C o k t i r e.
    let f = c.args.code.now in
    let q = c.args.q in
    let φ = new_place C in
    let x = c.opcode_at-x.result in
    let ex = c.opcode_at-x.ensures in
    let ea = c.word.ensures in
    let eb = c.word-2.ensures in
    let ec = c.word-3.ensures in
    moves C k.valid f q o i r x c.word.result c.word-2.result c.word-3.result ex ea eb ec _ c.args.size _ _ _ _ e c.word-4.ensures
    (c.new_operand-a.ensures C k t (λ h. first_in C k.valid f q o i r x c.word.result c.word-2.result c.word-3.result ex ea eb ec (sym c.names_first.ensures ∙ h)) ∙ ap (λ b. pick b (φ c.word.result) c.word.result) c.names_first.ensures)
    (c.new_operand-b.ensures C k t (λ h. second_in C k.valid f q o i r x c.word.result c.word-2.result c.word-3.result ex ea eb ec (sym c.names_second.ensures ∙ h)) ∙ ap (λ b. pick b (φ c.word-2.result) c.word-2.result) c.names_second.ensures)
    (c.new_operand-c.ensures C k t (λ h. third_in C k.valid f q o i r x c.word.result c.word-2.result c.word-3.result ex ea eb ec (sym c.names_third.ensures ∙ h)) ∙ ap (λ b. pick b (φ c.word-3.result) c.word-3.result) c.names_third.ensures)
    c.put_words.ensures
