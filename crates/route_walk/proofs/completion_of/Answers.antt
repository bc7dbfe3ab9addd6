use Rattle.std.specs.Prelude.{Some, None}
use native.Mathlib.Omega.{arith}
use mathlib.Core.Path.{sym, ◌∙◌}
use Rattle.route_steps.proofs.StatementLaws.{comp_break, comp_continue}
use Rattle.route_walk.proofs.completion_of.Goals as goal

pub returns-in-None-clause-result_value : goal.returns-in-None-clause-result_value
returns-in-None-clause-result_value c = rw (← c.given.view_is) (comp_break _ _ _ _ (rw c.deref.ensures.same at c.kind.ensures) None (sym c.in-None.is ∙ c.label_of-label.ensures.value) (omega arith))

pub returns-in-Some-clause-result_value : goal.returns-in-Some-clause-result_value
returns-in-Some-clause-result_value c = rw (← c.given.view_is) (comp_break _ _ _ _ (rw c.deref.ensures.same at c.kind.ensures) (Some c.in-Some.l) (sym c.in-Some.is ∙ c.label_of-label.ensures.value) (omega arith))

pub returns-in-None-label-clause-result_value : goal.returns-in-None-label-clause-result_value
returns-in-None-label-clause-result_value c = rw (← c.given.view_is) (comp_continue _ _ _ _ (rw c.deref.ensures.same at c.kind.ensures) None (sym c.in-None-label.is ∙ c.label_of-label.ensures.value) (omega arith) (omega arith))

pub returns-in-Some-label-clause-result_value : goal.returns-in-Some-label-clause-result_value
returns-in-Some-label-clause-result_value c = rw (← c.given.view_is) (comp_continue _ _ _ _ (rw c.deref.ensures.same at c.kind.ensures) (Some c.in-Some-label.l) (sym c.in-Some-label.is ∙ c.label_of-label.ensures.value) (omega arith) (omega arith))
