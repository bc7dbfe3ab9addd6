use native.Mathlib.Omega.{arith}
use mathlib.Core.Path.{sym, ◌∙◌}
use Rattle.code_gather.proofs.JumpLaws.{entry_unmarked, entry_none, entry_jump}
use Rattle.code_gather.proofs.entry_of.Goals as goal

pub returns-then-word-lt-RAISE : goal.returns-then-word-lt-RAISE
returns-then-word-lt-RAISE c = sym (entry_unmarked c.args.code.now c.args.split c.args.p (omega (arith, c.word.ensures)))

pub returns-in-Some : goal.returns-in-Some
returns-in-Some c =
    let aim = c.in-Some.aim in
    c.last_behind.ensures ∙ sym (entry_jump c.args.code.now c.args.split c.args.p (omega (arith, c.word.ensures)) aim.place aim.depth (sym c.aim_at.ensures ∙ c.in-Some.is))

pub returns-in-None : goal.returns-in-None
returns-in-None c = sym (entry_none c.args.code.now c.args.split c.args.p (omega (arith, c.word.ensures)) (sym c.aim_at.ensures ∙ c.in-None.is))
