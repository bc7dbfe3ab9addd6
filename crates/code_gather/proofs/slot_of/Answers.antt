use Prim.Native.Nat.{◌+◌}
use mathlib.Core.Path.{◌∙◌}
use native.Mathlib.Omega.{arith}
use Rattle.code_gather.proofs.SlotLaws.{none_more}
use Rattle.code_gather.proofs.slot_of.Goals as goal

pub loop-at-preserved : goal.loop-at-preserved
loop-at-preserved c =
    let i = c.loop-at.invariant in
    (i.0 + 1, omega (arith, i.1), none_more c.args.code.now c.args.block c.args.t i.0 c.loop-at.at i.1 i.2 (λ e. c.if-word-t.false (c.word.ensures ∙ e)))
