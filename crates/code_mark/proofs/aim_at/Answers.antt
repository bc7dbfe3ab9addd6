use Rattle.code_flat.specs.Opcodes as op
use native.Mathlib.Omega.{arith}
use mathlib.Core.Path.{sym, ◌∙◌}
use Rattle.std.specs.Prelude.{◌≢◌}
use Rattle.code_shorten.specs.Short.{to}
use Rattle.code_mark.proofs.SendLaws.{aim_leave, aim_case, aim_none}
use Rattle.code_mark.proofs.aim_at.Goals as goal

pub returns-in-2 : goal.returns-in-2
returns-in-2 c = (λ j. to (c.word.ensures j) (c.word-in-2.ensures j)) ∙ sym (aim_leave c.args.code.now c.args.p (sym c.opcode_at.ensures ∙ c.in-2.is))

pub returns-in-7 : goal.returns-in-7
returns-in-7 c = (λ j. to (c.word-in-7.ensures j) (c.word-in-7-2.ensures j)) ∙ sym (aim_case c.args.code.now c.args.p (sym c.opcode_at.ensures ∙ c.in-7.is))

pub returns-in_default : goal.returns-in_default
returns-in_default c =
    let h : c.opcode_at.result ≢ op.Leave = omega arith in
    let k : c.opcode_at.result ≢ op.Case = omega arith in
    sym (aim_none c.args.code.now c.args.p (λ q. h (c.opcode_at.ensures ∙ q)) (λ q. k (c.opcode_at.ensures ∙ q)))
