use Rattle.table_records.specs.declared.ScopeId.{ScopeId}
use Rattle.std.specs.Prelude.{Option, Some, List}
use Rattle.table_records.specs.declared.ClassId.{ClassId}
use Rattle.check_super_search.specs.Search.{scopes_in, AroundSuper}
use Rattle.check_super_search.proofs.SearchLaws.{node_in, around_super, all_spent, class_fails, class_value, class_key, scope_stops, scope_goes, not_stop, place_value, place_key}
use Rattle.check_supers.specs.Super.{place_of, leave_class, reach_from, reach_of, body_of}
use Rattle.check_supers.proofs.SuperLaws.{place_root, place_none}
use Rattle.check_supers.specs.declared.ElementPart.{ElementPart}
use Rattle.check_supers.specs.declared.Step.TheVariants.{Stop}
use Rattle.table_records.specs.Table.{scope_of, scope_parent_of, scope_node_of}
use Rattle.base_walk.specs.On.{on}
use Rattle.base_walk.proofs.OnLaws.{on_self}
use native.Mathlib.Omega.{arith}
use mathlib.Core.Bool.{true}
use mathlib.Core.Path.{◌≡◌, refl, sym, subst, ap, ◌∙◌}
use Prim.Native.Nat.{ℕ}
use Rattle.check_super_search.proofs.reach.Goals as goal

pub scopes-init : goal.scopes-init
unfolding reach_of
scopes-init c = let e : c.scope.result.0 ≡ scope_of c.args.nodes.now c.args.n.0 = c.scope.ensures ∙ ap (λ (ns : List ℕ). scope_of ns c.args.n.0) c.deref.ensures.same in
    ((omega (arith, c.requires.scoped.scope c.args.n.0 c.requires.n_bound, e), subst (λ (x : ℕ). on (scope_parent_of c.args.scopes.now) x (scope_of c.args.nodes.now c.args.n.0) ≡ true) (sym e) (on_self (scope_parent_of c.args.scopes.now) (scope_of c.args.nodes.now c.args.n.0))), c.class_around-class.ensures.below, c.requires.n_bound, rw (e, c.class_around-class.ensures.result_value, c.is_call-call.ensures))

pub scope_step-requires-clause-s_bound_2 : goal.scope_step-requires-clause-s_bound_2
scope_step-requires-clause-s_bound_2 c = rw c.deref-then-not-is_class_scope.ensures.same (node_in c.args.nodes.now c.args.scopes.now c.deref.ensures.tree c.requires.scoped c.args.n.0 c.in-Some.s.0 c.requires.n_bound (subst (AroundSuper c.args.nodes.now c.args.scopes.now c.args.n.0) c.in-Some.is c.scopes.invariant.0).1)

pub scopes-preserved-then-not-is_class_scope : goal.scopes-preserved-then-not-is_class_scope
scopes-preserved-then-not-is_class_scope c = let b : c.scope_node-start.result.0 ≡ scope_node_of c.args.scopes.now c.in-Some.s.0 = rw c.deref-in-scopes.ensures.same at c.scope_node-start.ensures in
    (around_super c.args.scopes.now c.deref-in-scopes.ensures.chained c.in-Some.s.0 (subst (AroundSuper c.args.nodes.now c.args.scopes.now c.args.n.0) c.in-Some.is c.scopes.invariant.0).0 c.around-left.result c.around-left.ensures c.args.nodes.now c.args.n.0 (c.requires.scoped.scope c.args.n.0 c.requires.n_bound) (subst (AroundSuper c.args.nodes.now c.args.scopes.now c.args.n.0) c.in-Some.is c.scopes.invariant.0).1, c.scopes.invariant.1, omega (arith, node_in c.args.nodes.now c.args.scopes.now c.deref.ensures.tree c.requires.scoped c.args.n.0 c.in-Some.s.0 c.requires.n_bound (subst (AroundSuper c.args.nodes.now c.args.scopes.now c.args.n.0) c.in-Some.is c.scopes.invariant.0).1, b), scope_goes c.args.nodes.now c.args.scopes.now c.deref.ensures.tree c.args.n.0 c.requires.n_bound c.is_call-call.result (body_of c.scopes.class) c.scopes.start.0 c.in-Some.s.0 (subst (λ (x : Option ScopeId). reach_from c.args.nodes.now c.args.scopes.now c.args.n.0 c.is_call-call.result (scopes_in c.args.scopes.now x) (body_of c.scopes.class) c.scopes.start.0 ≡ reach_of c.args.nodes.now c.args.scopes.now c.args.n.0) c.in-Some.is c.scopes.invariant.3) c.deref-in-scopes.ensures.chained (sym c.is_class_scope.ensures ∙ c.if-not-is_class_scope.true) c.scope_step.result (rw c.deref-then-not-is_class_scope.ensures.same at c.scope_step.ensures) (not_stop c.scope_step.result c.in_default-scope_step.not-Stop) (subst (AroundSuper c.args.nodes.now c.args.scopes.now c.args.n.0) c.in-Some.is c.scopes.invariant.0).0 c.around-left.result c.around-left.ensures c.scope_node-start.result.0 b)

pub scopes-preserved : goal.scopes-preserved
scopes-preserved c = let b : c.scope_node-start.result.0 ≡ scope_node_of c.args.scopes.now c.in-Some.s.0 = rw c.deref-in-scopes.ensures.same at c.scope_node-start.ensures in
    (around_super c.args.scopes.now c.deref-in-scopes.ensures.chained c.in-Some.s.0 (subst (AroundSuper c.args.nodes.now c.args.scopes.now c.args.n.0) c.in-Some.is c.scopes.invariant.0).0 c.around-left.result c.around-left.ensures c.args.nodes.now c.args.n.0 (c.requires.scoped.scope c.args.n.0 c.requires.n_bound) (subst (AroundSuper c.args.nodes.now c.args.scopes.now c.args.n.0) c.in-Some.is c.scopes.invariant.0).1, c.leave_class-class.ensures.below_2, omega (arith, node_in c.args.nodes.now c.args.scopes.now c.deref.ensures.tree c.requires.scoped c.args.n.0 c.in-Some.s.0 c.requires.n_bound (subst (AroundSuper c.args.nodes.now c.args.scopes.now c.args.n.0) c.in-Some.is c.scopes.invariant.0).1, b), class_key c.args.nodes.now c.args.scopes.now c.deref.ensures.tree c.args.n.0 c.requires.n_bound c.is_call-call.result (body_of c.scopes.class) c.scopes.start.0 c.in-Some.s.0 (subst (λ (x : Option ScopeId). reach_from c.args.nodes.now c.args.scopes.now c.args.n.0 c.is_call-call.result (scopes_in c.args.scopes.now x) (body_of c.scopes.class) c.scopes.start.0 ≡ reach_of c.args.nodes.now c.args.scopes.now c.args.n.0) c.in-Some.is c.scopes.invariant.3) c.deref-in-scopes.ensures.chained (sym c.is_class_scope.ensures ∙ c.if-not-is_class_scope.false) (sym c.loop-x.invariant.1 ∙ place_key c.args.nodes.now c.deref.ensures.tree c.loop-x.x.0 c.up-a.result.0 c.up-a.ensures.result_value (omega arith) c.loop-x.invariant.0 (sym c.part_at.ensures ∙ c.in-Some-Key.is ∙ ap (λ (p : ElementPart). Some p) c.in-Some-Key.field-0-is)) (subst (AroundSuper c.args.nodes.now c.args.scopes.now c.args.n.0) c.in-Some.is c.scopes.invariant.0).0 c.around-left.result c.around-left.ensures (body_of c.leave_class-class.result) (c.leave_class-class.ensures.result_value ∙ ap (λ (y : Option ClassId). leave_class c.args.nodes.now (body_of y)) c.loop-x.invariant.2) c.scope_node-start.result.0 b)

pub loop-x-preserved : goal.loop-x-preserved
loop-x-preserved c = (omega (arith, c.up-a.ensures.result_lt_n, c.loop-x.invariant.0), sym (place_none c.args.nodes.now c.deref.ensures.tree c.loop-x.x.0 c.up-a.result.0 c.up-a.ensures.result_value (omega arith) c.loop-x.invariant.0 (sym c.part_at.ensures ∙ c.in-None.is)) ∙ c.loop-x.invariant.1, c.loop-x.invariant.2)

pub returns-in_default : goal.returns-in_default
returns-in_default c = let facts = all_spent c.args.nodes.now c.args.scopes.now c.deref.ensures.tree c.args.n.0 c.requires.n_bound c.is_call-call.result (body_of c.scopes.class) c.scopes.start.0 (subst (λ (x : Option ScopeId). reach_from c.args.nodes.now c.args.scopes.now c.args.n.0 c.is_call-call.result (scopes_in c.args.scopes.now x) (body_of c.scopes.class) c.scopes.start.0 ≡ reach_of c.args.nodes.now c.args.scopes.now c.args.n.0) c.in_default.is c.scopes.invariant.3) in record { value = facts.0; underived_in = facts.1 }

pub returns-in-Stop : goal.returns-in-Stop
returns-in-Stop c = let facts = scope_stops c.args.nodes.now c.args.scopes.now c.deref.ensures.tree c.args.n.0 c.requires.n_bound c.is_call-call.result (body_of c.scopes.class) c.scopes.start.0 c.in-Some.s.0 (subst (λ (x : Option ScopeId). reach_from c.args.nodes.now c.args.scopes.now c.args.n.0 c.is_call-call.result (scopes_in c.args.scopes.now x) (body_of c.scopes.class) c.scopes.start.0 ≡ reach_of c.args.nodes.now c.args.scopes.now c.args.n.0) c.in-Some.is c.scopes.invariant.3) (sym c.is_class_scope.ensures ∙ c.if-not-is_class_scope.true) (Stop c.in-Stop.r) (rw c.deref-then-not-is_class_scope.ensures.same at c.in-Stop.ensures) refl c.in-Stop.r refl in record { value = facts.0; underived_in = facts.1 }

pub returns-then-x-eq0 : goal.returns-then-x-eq0
returns-then-x-eq0 c = let facts = class_fails c.args.nodes.now c.args.scopes.now c.deref.ensures.tree c.args.n.0 c.requires.n_bound c.is_call-call.result (body_of c.scopes.class) c.scopes.start.0 c.in-Some.s.0 (subst (λ (x : Option ScopeId). reach_from c.args.nodes.now c.args.scopes.now c.args.n.0 c.is_call-call.result (scopes_in c.args.scopes.now x) (body_of c.scopes.class) c.scopes.start.0 ≡ reach_of c.args.nodes.now c.args.scopes.now c.args.n.0) c.in-Some.is c.scopes.invariant.3) (sym c.is_class_scope.ensures ∙ c.if-not-is_class_scope.false) (sym c.loop-x.invariant.1 ∙ ap (place_of c.args.nodes.now) c.if-x-eq0.true ∙ place_root c.args.nodes.now c.deref.ensures.tree) in record { value = facts.0; underived_in = facts.1 }

pub returns-in-Some-Value : goal.returns-in-Some-Value
returns-in-Some-Value c = let facts = class_value c.args.nodes.now c.args.scopes.now c.deref.ensures.tree c.args.n.0 c.requires.n_bound c.is_call-call.result (body_of c.scopes.class) c.scopes.start.0 c.in-Some.s.0 (subst (λ (x : Option ScopeId). reach_from c.args.nodes.now c.args.scopes.now c.args.n.0 c.is_call-call.result (scopes_in c.args.scopes.now x) (body_of c.scopes.class) c.scopes.start.0 ≡ reach_of c.args.nodes.now c.args.scopes.now c.args.n.0) c.in-Some.is c.scopes.invariant.3) (sym c.is_class_scope.ensures ∙ c.if-not-is_class_scope.false) (sym c.loop-x.invariant.1 ∙ place_value c.args.nodes.now c.deref.ensures.tree c.loop-x.x.0 c.up-a.result.0 c.up-a.ensures.result_value (omega arith) c.loop-x.invariant.0 (sym c.part_at.ensures ∙ c.in-Some-Value.is ∙ ap (λ (p : ElementPart). Some p) c.in-Some-Value.field-0-is)) c.if_call.result c.if_call.ensures in record { value = facts.0; underived_in = facts.1 }
