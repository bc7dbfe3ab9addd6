use Rattle.route_shared.proofs.InStepLaws.{in_step_first, first_over, second_over, differ, in_step_more}
use native.Mathlib.Omega.{arith}
use mathlib.Core.Path.{ap}
use borrow.Author.Rules.{rules}
use Rattle.route_shared.proofs.shared_over.Goals as goal

pub loop-one-init : goal.loop-one-init
loop-one-init c = (omega (arith, ap (λ x. x.pending) c.start-p.ensures), (omega (arith, ap (λ x. x.pending) c.start-q.ensures), in_step_first _ _ _ _ _ _ _ c.start-p.ensures c.start-q.ensures))

pub returns-in_default : goal.returns-in_default
returns-in_default c = first_over _ _ _ _ _ _ _ _ c.loop-one.invariant.1.1 c.in_default.field-0 (search rules)

pub returns-in_default-next_entry : goal.returns-in_default-next_entry
returns-in_default-next_entry c = second_over _ _ _ _ _ _ _ _ c.loop-one.invariant.1.1 c.in_default-next_entry.field-0 (search rules)

pub returns-then-one-other : goal.returns-then-one-other
returns-then-one-other c = differ _ _ _ _ _ _ _ _ c.loop-one.invariant.1.1 c.next_entry.new.ends c.next_entry-in-loop-one.new.ends c.in-Ok.one.node c.in-Ok.one.then (search rules) c.in-Ok-next_entry.other.node c.in-Ok-next_entry.other.then (search rules) c.if-one-other.true

pub loop-one-preserved : goal.loop-one-preserved
loop-one-preserved c = (search rules, (search rules, rw c.next-entries.ensures (in_step_more _ _ _ _ _ _ _ _ c.loop-one.invariant.1.1 c.next_entry.new.ends c.next_entry-in-loop-one.new.ends c.in-Ok.one.node c.in-Ok.one.then (search rules) c.in-Ok-next_entry.other.node c.in-Ok-next_entry.other.then (search rules) c.if-one-other.false)))
