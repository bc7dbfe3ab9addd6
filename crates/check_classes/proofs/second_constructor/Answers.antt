use Rattle.std.specs.Prelude.{Option}
use Rattle.table_records.specs.declared.ClassId.{ClassId}
use Rattle.table_records.specs.declared.NodeId.{NodeId}
use Prim.Native.Nat.{◌+◌, ◌≤◌, ◌<◌}
use mathlib.Core.Path.{◌≡◌, sym, ap, subst, ◌∙◌}
use native.Mathlib.Omega.{arith}
use Rattle.table_records.specs.Table.{count}
use Rattle.table_children.specs.Children.{below}
use Rattle.check_diagnostics.proofs.Gather.{found_from}
use Rattle.check_classes.proofs.ClassChecksLaws.{none_found, one_found, two_found}
use Rattle.check_classes.specs.ClassChecks.{second_by, is_constructor_of, next_constructor}
use Rattle.check_classes.proofs.second_constructor.Goals as goal

pub returns-in_err-a : goal.returns-in_err-a
returns-in_err-a c = let a = c.args in
    c.from_residual-in_err-a.ensures ∙ sym (ap (second_by a.source_type a.nodes.now a.n.0) (sym c.class_body_of.ensures.value ∙ c.in_ok-body.was) ∙ none_found a.source_type a.nodes.now c.in_ok-body.body.0 a.n.0 (ap (λ (x : ClassId). next_constructor a.nodes.now x.0 (c.in_ok-body.body.0 + 1)) (sym c.from-c.ensures) ∙ sym c.next_constructor.ensures.value ∙ c.in_err-a.was))

pub next_constructor-requires-2 : goal.next_constructor-requires-2
next_constructor-requires-2 c = let a = c.args in
    let h : c.in_ok-a.a.0 < count a.nodes.now = subst (λ (f : Option NodeId). below a.nodes.now f) c.in_ok-a.was c.next_constructor.ensures.below in
    let e : c.from-c.result.0 ≡ c.in_ok-body.body.0 = ap (λ (x : ClassId). x.0) c.from-c.ensures in
    let l : c.in_ok-body.body.0 + 1 ≤ c.in_ok-a.a.0 = found_from (is_constructor_of a.nodes.now c.in_ok-body.body.0) (count a.nodes.now) (c.in_ok-body.body.0 + 1) c.in_ok-a.a.0 (ap (λ (x : ClassId). next_constructor a.nodes.now x.0 (c.in_ok-body.body.0 + 1)) (sym c.from-c.ensures) ∙ sym c.next_constructor.ensures.value ∙ c.in_ok-a.was) in
    record { c_lt_from = omega arith; from_bound = omega arith }

pub returns-in_err-b : goal.returns-in_err-b
returns-in_err-b c = let a = c.args in
    c.from_residual-in_err-b.ensures ∙ sym (ap (second_by a.source_type a.nodes.now a.n.0) (sym c.class_body_of.ensures.value ∙ c.in_ok-body.was) ∙ one_found a.source_type a.nodes.now c.in_ok-body.body.0 a.n.0 c.in_ok-a.a.0 (ap (λ (x : ClassId). next_constructor a.nodes.now x.0 (c.in_ok-body.body.0 + 1)) (sym c.from-c.ensures) ∙ sym c.next_constructor.ensures.value ∙ c.in_ok-a.was) (ap (λ (x : ClassId). next_constructor a.nodes.now x.0 (c.in_ok-a.a.0 + 1)) (sym c.from-c.ensures) ∙ sym c.next_constructor-2.ensures.value ∙ c.in_err-b.was))

pub returns : goal.returns
returns c = let a = c.args in
    (rw (c.from.ensures, c.from-2.ensures) at c.duplicate_constructor.ensures) ∙ sym (ap (second_by a.source_type a.nodes.now a.n.0) (sym c.class_body_of.ensures.value ∙ c.in_ok-body.was) ∙ two_found a.source_type a.nodes.now c.in_ok-body.body.0 a.n.0 c.in_ok-a.a.0 c.in_ok-b.b.0 (ap (λ (x : ClassId). next_constructor a.nodes.now x.0 (c.in_ok-body.body.0 + 1)) (sym c.from-c.ensures) ∙ sym c.next_constructor.ensures.value ∙ c.in_ok-a.was) (ap (λ (x : ClassId). next_constructor a.nodes.now x.0 (c.in_ok-a.a.0 + 1)) (sym c.from-c.ensures) ∙ sym c.next_constructor-2.ensures.value ∙ c.in_ok-b.was))
