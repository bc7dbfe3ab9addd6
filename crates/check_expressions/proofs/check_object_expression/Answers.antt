use Rattle.std.specs.Prelude.{Option}
use Rattle.table_records.specs.declared.NodeId.{NodeId}
use mathlib.Core.List.{[], ◌++◌}
use native.Mathlib.Omega.{arith}
use Prim.Native.Nat.{◌+◌}
use mathlib.Core.Path.{◌≡◌, ap, sym, subst, ◌∙◌}
use Rattle.table_records.specs.Kinds as k
use Rattle.check_diagnostics.specs.Finding.{listed}
use Rattle.table_children.specs.Children.{below}
use Rattle.table_children.proofs.ChildrenLaws.{found_child}
use Rattle.check_diagnostics.proofs.Gather.{left_start, left_turn, left_end}
use Rattle.check_expressions.proofs.ExpressionLaws.{repeats_from, keys_from, keys_start, later_below, object_turn, object_end}
use borrow.Author.Rules.{rules}
use Rattle.check_expressions.proofs.check_object_expression.Goals as goal

pub loop-p-init : goal.loop-p-init
loop-p-init c = let a = c.args in
    (omega arith, omega arith, omega arith, search rules, left_start _ _ _ (sym (keys_start a.named.now.nodes a.named.now.names a.n.0)))

pub loop-p-smaller : goal.loop-p-smaller
loop-p-smaller c = let g = found_child c.args.named.now.nodes c.args.n.0 k.ObjectProperty k.ObjectProperty 0 7 c.loop-p.from c.in-Some.p.0 (sym (rw (c.of_kind.ensures, ap (λ v. v.nodes) c.named.view_is) at c.next_child.ensures.value) ∙ c.in-Some.is) in let x = g.from in let y = g.below in omega arith

pub loop-p-preserved : goal.loop-p-preserved
loop-p-preserved c = let a = c.args in
    let g = found_child a.named.now.nodes a.n.0 k.ObjectProperty k.ObjectProperty 0 7 c.loop-p.from c.in-Some.p.0 (sym (rw (c.of_kind.ensures, ap (λ v. v.nodes) c.named.view_is) at c.next_child.ensures.value) ∙ c.in-Some.is) in
    let x = g.from in
    let y = g.below in
    let t : repeats_from a.named.now.nodes a.n.0 c.loop-p.previous (keys_from a.named.now.nodes a.named.now.names a.n.0 c.loop-p.from) ≡ listed c.repeated.result ++ repeats_from a.named.now.nodes a.n.0 c.later-previous.result (keys_from a.named.now.nodes a.named.now.names a.n.0 (c.in-Some.p.0 + 1)) =
    object_turn a.named.now.nodes a.named.now.names a.n.0 c.loop-p.from c.in-Some.p.0 c.loop-p.previous c.proto_key-key.result (sym (rw (c.of_kind.ensures, ap (λ v. v.nodes) c.named.view_is) at c.next_child.ensures.value) ∙ c.in-Some.is) c.proto_key-key.ensures.value ∙ rw (← rw (ap (λ v. v.nodes) c.named.view_is) at c.repeated.ensures, ← c.later-previous.ensures) in (
      omega arith,
      omega arith,
      omega (arith, c.raise.ensures.upper_bound),
      subst (λ (x : Option NodeId). below a.named.now.nodes x) (sym c.later-previous.ensures) (later_below a.named.now.nodes c.loop-p.previous c.proto_key-key.result c.loop-p.invariant.3 c.proto_key-key.ensures.below),
      left_turn _ _ _ _ _ (listed c.repeated.result) _ c.loop-p.invariant.4 t c.raise.ensures.adds,
    )

pub returns-in_default-clause-adds : goal.returns-in_default-clause-adds
returns-in_default-clause-adds c = let a = c.args in
    let e : repeats_from a.named.now.nodes a.n.0 c.loop-p.previous (keys_from a.named.now.nodes a.named.now.names a.n.0 c.loop-p.from) ≡ [] = object_end a.named.now.nodes a.named.now.names a.n.0 c.loop-p.from c.loop-p.previous (sym (rw (c.of_kind.ensures, ap (λ v. v.nodes) c.named.view_is) at c.next_child.ensures.value) ∙ c.in_default.is) in
    left_end _ _ _ _ c.loop-p.invariant.4 e
