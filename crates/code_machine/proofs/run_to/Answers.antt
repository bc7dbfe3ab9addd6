use Rattle.code_machine.specs.Kept.{kept_first, kept_on, kept_more, kept_held, kept_stands, kept_over, over_stands}
use native.Mathlib.Omega.{arith}
use mathlib.Core.Path.{refl}
use borrow.Author.Rules.{rules}
use Rattle.code_machine.proofs.run_to.Goals as goal

pub loop-p-init : goal.loop-p-init
loop-p-init c = (refl, (c.requires.pending_le_room, kept_first _ _ _ _ _ _ _ _ (omega arith) refl))

pub returns-then-p-stop-clause-told : goal.returns-then-p-stop-clause-told
returns-then-p-stop-clause-told c = kept_held _ _ _ _ _ _ _ _ _ c.loop-p.invariant.1.1 c.if-p-stop.true

pub returns-then-p-stop-clause-stands : goal.returns-then-p-stop-clause-stands
returns-then-p-stop-clause-stands c = kept_stands _ _ _ _ _ _ _ _ _ c.loop-p.invariant.1.1 c.if-p-stop.true _ refl

pub returns-in-Over-clause-told : goal.returns-in-Over-clause-told
returns-in-Over-clause-told c = kept_over _ _ _ _ _ _ _ _ _ c.loop-p.invariant.1.1 c.if-p-stop.false c.in-Over.end (search rules)

pub returns-in-Over-clause-stands : goal.returns-in-Over-clause-stands
returns-in-Over-clause-stands c = over_stands _ _ _ _ _ _ _ _ _ c.loop-p.invariant.1.1 c.if-p-stop.false c.in-Over.end (search rules) _

pub loop-p-preserved-in-On : goal.loop-p-preserved-in-On
loop-p-preserved-in-On c = (search rules, (search rules, kept_on _ _ _ _ _ _ _ _ _ _ c.loop-p.invariant.1.1 c.if-p-stop.false c.in-On.q (search rules)))

pub loop-p-preserved : goal.loop-p-preserved
loop-p-preserved c = (
  search rules,
  (
    search rules,
    rw (c.add-entries.ensures.written, c.add-entries.ensures.counted) (kept_more _ _ _ _ _ _ _ _ _ _ (omega arith) c.loop-p.invariant.1.1 c.if-p-stop.false c.in-Listed.entry.node c.in-Listed.entry.then (search rules)),
  ),
)
