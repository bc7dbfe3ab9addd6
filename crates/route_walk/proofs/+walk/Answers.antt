use Rattle.std.specs.Prelude.{Option, Some, None}
use Rattle.table_records.specs.declared.NodeId.{NodeId}
use native.Mathlib.Omega.{arith}
use Prim.Native.Nat.{zero, suc}
use mathlib.Core.Path.{◌≡◌, refl, ap, sym, ◌∙◌, subst}
use mathlib.Core.List.{List, []}
use mathlib.Core.Logic.{◌⊎◌, inl, inr}
use mathlib.Core.Bool.{Bool, true, false, not, ◌||◌}
use Rattle.route_completion.specs.Tree.{Stmt}
use Rattle.route_completion.specs.Sem.{Out, out, normal, is_normal, is_throw, is_spent, is_yes, loop_continues, no_break, no_label, unbreak, exec, execs}
use Rattle.route_completion.proofs.Laws.{rounds_law}
use Rattle.route_completion.proofs.RestLaws.{exec_rest}
use Rattle.code_tree.specs.Parts.{is_labeled}
use Rattle.code_layout.specs.Shaped.{Good}
use Rattle.code_tree.specs.Statements.{test_at}
use Rattle.route_walk.specs.declared.Progress.{Progress}
use Rattle.route_walk.specs.declared.Completion.{Completion}
use Rattle.route_walk.specs.Walk.{Read, comp_at, label_in, Walked}
use Rattle.route_steps.specs.Steps.{caught_by}
use Rattle.route_steps.proofs.StepsLaws.{from_part}
use Rattle.route_walk.proofs.WalkLaws.{still, goes, stays, lists_then, asks_on, asks_none, ends_as, lasts}
use Rattle.route_steps.proofs.StatementLaws.{labels_on, labels_off, class_is, with_is_lem, label_is_lem, list_on_lem, list_end, one_end}
use Prim.Native.Nat.{ℕ}
use Rattle.route_walk.proofs.+walk.Goals.{walk_turns-else-heeds-via-then-heeds+else-a-eq0, walk_turns-else-heeds-via-else-heeds}
use Rattle.route_walk.proofs.+walk.Goals as goal

same : {s : Read} {start : Progress} {o p : Out} {r : Progress} {how : Completion} → o ≡ p → Walked s start p r how → Walked s start o r how
same {s} {start} {o} {p} {r} {how} e w = subst (λ x. Walked s start x r how) (sym e) w

-- A break without a label ends at a loop or a switch.
left : {s : Read} {start : Progress} {o : Out} {r : Progress} {how how' : Completion} → ((ns names : List ℕ) → comp_at ns names how' ≡ no_break (comp_at ns names how)) → ((ns : List ℕ) → label_in ns how → label_in ns how')
    → Walked s start o r how → Walked s start (unbreak o) r how'
left {s} {start} {o} {r} {how} {how'} e l u = ends_as s start r o (no_break o.comp) how how' (ap no_break u.ended ∙ sym (e s.nodes s.names)) (l s.nodes u.label) u

caught-normal : (S : ℕ → Stmt) (x : Option NodeId) (qs : List ℕ) → caught_by S x (out [] normal qs) ≡ out [] normal qs
caught-normal S (Some h) qs = refl
caught-normal S None qs = refl

-- A turn runs the body, unless the loop heeds its answer and that is no.
runs : (a : ℕ) (t : Bool) → ((t ≡ true) × (a ≡ 0 → ⊥)) ⊎ (t ≡ false) → (is_yes a || not t) ≡ true
runs zero t (inl w) = absurd (w.1 refl)
runs zero t (inr e) = ap not e
runs (suc a) t w = refl

pub walk_caught-returns-in_default : goal.walk_caught-returns-in_default
walk_caught-returns-in_default t c =
    rw (sym c.part_with_role.ensures.value ∙ c.in_default.is) (same (caught-normal _ _ _) (still _ _ _ _ _ refl c.requires.taken_in_bounds refl tt))

pub walk_caught-returns : goal.walk_caught-returns
walk_caught-returns t c =
    let p = rw c.in-Some.is at c.part_with_role.ensures.part_of in
    let q = rw c.in-Some-part_with_role.is at c.part_with_role-2.ensures.part_of in
    let u = rw (p.parent, c.requires.n_value) at c.walk_node-done.ensures in
    let v = rw (q.parent, c.requires.n_value) at c.walk_node.ensures in
    let e = ap is_throw u.ended ∙ sym (c.is_throw.ensures _ _) ∙ c.if-not-is_throw.false in
    rw (sym c.part_with_role.ensures.value ∙ c.in-Some.is, sym c.part_with_role-2.ensures.value ∙ c.in-Some-part_with_role.is) (goes _ _ _ _ _ _ _ _ _ e u v)

pub walk_if-returns-in_default : goal.walk_if-returns-in_default
walk_if-returns-in_default t c = let w = rw c.in_default.is at c.take_answer.ensures in asks_none _ _ _ _ _ _ w.none c.requires.taken_in_bounds w.same refl tt

pub walk_if-returns-in_default-branch_of : goal.walk_if-returns-in_default-branch_of
walk_if-returns-in_default-branch_of t c =
    let w = rw c.in-Some.is at c.take_answer.ensures in
    let u = w.walked in
    asks_on _ _ _ _ _ _ _ _ _ w.left w.answer w.taken w.walked (rw (sym c.branch_of.ensures.value ∙ c.in_default-branch_of.is) (still _ _ _ _ _ refl u.inside u.ended u.label))

pub walk_if-returns : goal.walk_if-returns
walk_if-returns t c =
    let w = rw c.in-Some.is at c.take_answer.ensures in
    let p = rw c.in-Some-branch_of.is at c.branch_of.ensures.part_of in
    let v = rw (p.parent, c.requires.n_value) at c.walk_node.ensures in
    asks_on _ _ _ _ _ _ _ _ _ w.left w.answer w.taken w.walked (rw (sym c.branch_of.ensures.value ∙ c.in-Some-branch_of.is) v)

pub walk_loop-returns-then-is_before : goal.walk_loop-returns-then-is_before
walk_loop-returns-then-is_before t c =
    rw (sym (rw (c.deref.ensures.same, ap (λ v. v.nodes) c.given.view_is) at c.is_before.ensures) ∙ c.if-is_before.true) (left c.unbroken.ensures.by_index c.unbroken.ensures.by_index_2 c.walk_turns-done.ensures)

pub walk_loop-returns-then-not-loop_continues : goal.walk_loop-returns-then-not-loop_continues
walk_loop-returns-then-not-loop_continues t c =
    let u = rw c.requires.n_value at c.walk_one-first.ensures in
    let e = ap (loop_continues _) u.ended ∙ sym c.loop_continues.ensures ∙ c.if-not-loop_continues.true in
    rw (sym (rw (c.deref.ensures.same, ap (λ v. v.nodes) c.given.view_is) at c.is_before.ensures) ∙ c.if-is_before.false) (left c.unbroken-then-not-loop_continues.ensures.by_index c.unbroken-then-not-loop_continues.ensures.by_index_2 (stays _ _ _ _ _ _ _ e u))

pub walk_loop-returns : goal.walk_loop-returns
walk_loop-returns t c =
    let u = rw c.requires.n_value at c.walk_one-first.ensures in
    let e = ap (loop_continues _) u.ended ∙ sym c.loop_continues.ensures ∙ c.if-not-loop_continues.false in
    rw (sym (rw (c.deref.ensures.same, ap (λ v. v.nodes) c.given.view_is) at c.is_before.ensures) ∙ c.if-is_before.false) (left c.unbroken-2.ensures.by_index c.unbroken-2.ensures.by_index_2 (goes _ _ _ _ _ _ _ _ _ e u c.walk_turns-done-2.ensures))

pub walk_node-returns-in-Class : goal.walk_node-returns-in-Class
walk_node-returns-in-Class t c =
    let x = sym (rw (c.deref.ensures.same, ap (λ v. v.nodes) c.given.view_is) at c.shape_of.ensures) ∙ c.in-Class.is in
    same (class_is _ _ (subst (λ v. Good v.nodes) c.given.view_is c.given.invariant.good) _ c.requires.n_bound _ _ x) (lists_then _ _ _ _ _ _ _ (execs _) (c.list.ensures _ c.requires.taken_in_bounds) c.walk_parts.ensures)

pub walk_node-returns-in-With : goal.walk_node-returns-in-With
walk_node-returns-in-With t c =
    let g = subst (λ v. Good v.nodes) c.given.view_is c.given.invariant.good in
    let x = sym (rw (c.deref.ensures.same, ap (λ v. v.nodes) c.given.view_is) at c.shape_of.ensures) ∙ c.in-With.is in
    let v = rw (labels_off _ c.args.given.now.names g _ (ap is_labeled x)) at c.walk_one.ensures in
    same (with_is_lem _ _ g _ c.requires.n_bound _ _ x) (lists_then _ _ _ _ _ _ _ (exec _ []) (c.list-in-With.ensures _ c.requires.taken_in_bounds) v)

pub walk_node-returns-in-Label : goal.walk_node-returns-in-Label
walk_node-returns-in-Label t c =
    let g = subst (λ v. Good v.nodes) c.given.view_is c.given.invariant.good in
    let h = c.requires.n_bound in
    let x = sym (rw (c.deref.ensures.same, ap (λ v. v.nodes) c.given.view_is) at c.shape_of.ensures) ∙ c.in-Label.is in
    let v = rw (labels_on _ c.args.given.now.names g _ c.requires.n_nonzero h x) at c.walk_one-done.ensures in
    same (label_is_lem _ _ g _ h _ _ x) (ends_as _ _ _ _ _ _ _ (ap (no_label _) v.ended ∙ sym c.unlabelled.ensures.result_value) c.unlabelled.ensures.label_in_2 v)

pub walk_one-returns-in_default : goal.walk_one-returns-in_default
walk_one-returns-in_default t c =
    same (one_end _ _ (subst (λ v. Good v.nodes) c.given.view_is c.given.invariant.good) _ _ _ (rw c.in_default.is at c.next_part.ensures)) (still _ _ _ _ _ refl c.requires.taken_in_bounds refl tt)

pub walk_parts-returns : goal.walk_parts-returns
walk_parts-returns t c =
    c.loop-c.invariant.3 _ _ (same (list_end _ _ (subst (λ v. Good v.nodes) c.given.view_is c.given.invariant.good) _ _ (rw c.in_default.is at c.next_part.ensures)) (still _ _ _ _ _ refl c.loop-c.invariant.2 refl tt))

pub walk_parts-returns-then-not-is_normal : goal.walk_parts-returns-then-not-is_normal
walk_parts-returns-then-not-is_normal t c =
    let w = rw c.in-Some.is at c.next_part.ensures in
    let u = rw (w.1.parent, c.requires.n_value) at c.walk_node-done.ensures in
    let e = ap is_normal u.ended ∙ sym (c.is_normal.ensures _ _) ∙ c.if-not-is_normal.true in
    c.loop-c.invariant.3 _ _ (same (list_on_lem _ _ (subst (λ v. Good v.nodes) c.given.view_is c.given.invariant.good) _ _ _ _ w.0) (stays _ _ _ _ _ _ _ e u))

pub walk_parts-loop-c-preserved : goal.walk_parts-loop-c-preserved
walk_parts-loop-c-preserved t c =
    let w = rw c.in-Some.is at c.next_part.ensures in
    let i = w.1.inside in
    let u = rw (w.1.parent, c.requires.n_value) at c.walk_node-done.ensures in
    let e = ap is_normal u.ended ∙ sym (c.is_normal.ensures _ _) ∙ c.if-not-is_normal.false in
    (omega arith, omega arith, u.inside, λ r how v. c.loop-c.invariant.3 r how (same (list_on_lem _ _ (subst (λ v. Good v.nodes) c.given.view_is c.given.invariant.good) _ _ _ _ w.0) (goes _ _ _ _ _ _ _ _ _ e u v)))

pub walk_switch-returns-in_default : goal.walk_switch-returns-in_default
walk_switch-returns-in_default t c = let w = rw c.in_default.is at c.take_answer.ensures in asks_none _ _ _ _ _ _ w.none c.requires.taken_in_bounds w.same refl tt

pub walk_switch-returns-in_default-case_of : goal.walk_switch-returns-in_default-case_of
walk_switch-returns-in_default-case_of t c =
    let w = rw c.in-Some.is at c.take_answer.ensures in
    let u = w.walked in
    let e = list_end _ c.args.given.now.names (subst (λ v. Good v.nodes) c.given.view_is c.given.invariant.good) _ _ (rw c.in_default-case_of.is at c.case_of.ensures) in
    asks_on _ _ _ _ _ _ _ _ _ w.left w.answer w.taken w.walked (same (ap unbreak e) (still _ _ _ _ _ refl u.inside u.ended u.label))

pub walk_switch-returns : goal.walk_switch-returns
walk_switch-returns t c =
    let a = rw c.in-Some.is at c.take_answer.ensures in
    let w = rw c.in-Some-case_of.is at c.case_of.ensures in
    asks_on _ _ _ _ _ _ _ _ _ a.left a.answer a.taken a.walked (rw (w.0 ∙ sym (from_part _ _ _ w.1)) (left c.unbroken.ensures.by_index c.unbroken.ensures.by_index_2 c.walk_parts-done.ensures))

pub walk_try-returns-then-is_normal : goal.walk_try-returns-then-is_normal
walk_try-returns-then-is_normal t c =
    let p = rw c.in-Some.is at c.part_with_role.ensures.part_of in
    let u = c.walk_caught-done.ensures in
    let v = rw (p.parent, c.requires.n_value) at c.walk_node-end.ensures in
    let e = ap is_spent u.ended ∙ sym (c.is_spent.ensures _ _) ∙ c.if-is_spent.false in
    let y = sym (c.is_normal.ensures c.args.given.now.nodes c.args.given.now.names) ∙ c.if-is_normal.true in
    rw (sym c.part_with_role.ensures.value ∙ c.in-Some.is) (lasts _ _ _ _ _ _ _ _ _ e u v (rw y) u.label)

pub walk_try-returns : goal.walk_try-returns
walk_try-returns t c =
    let p = rw c.in-Some.is at c.part_with_role.ensures.part_of in
    let u = c.walk_caught-done.ensures in
    let v = rw (p.parent, c.requires.n_value) at c.walk_node-end.ensures in
    let e = ap is_spent u.ended ∙ sym (c.is_spent.ensures _ _) ∙ c.if-is_spent.false in
    let y = sym (c.is_normal.ensures c.args.given.now.nodes c.args.given.now.names) ∙ c.if-is_normal.false in
    rw (sym c.part_with_role.ensures.value ∙ c.in-Some.is) (lasts _ _ _ _ _ _ _ _ _ e u v (rw y) v.label)

pub walk_turns-returns-then-a-eq0 : goal.walk_turns-returns-then-a-eq0
walk_turns-returns-then-a-eq0 t c =
    let w = rw c.in-Some.is at c.take_answer.ensures in
    let u = w.walked in
    let v = asks_on _ _ _ _ _ _ _ _ _ w.left w.answer w.taken w.walked (rw (sym c.loop-a.invariant.1 ∙ c.if-heeds.true, c.if-a-eq0.true) (still _ _ _ _ _ refl u.inside u.ended u.label)) in
    c.loop-a.invariant.2 _ _ (same (rounds_law _ _ _ _ (exec_rest _ []) _) v)

pub walk_turns-returns-then-not-loop_continues : goal.walk_turns-returns-then-not-loop_continues
walk_turns-returns-then-not-loop_continues t c =
    let y : (is_yes c.in-Some.a || not (test_at c.args.given.now.nodes c.args.n.0)) ≡ true = runs _ _ (elim c.else-heeds.branch [
      | walk_turns-else-heeds-via-then-heeds+else-a-eq0 w ↦ inl (sym c.loop-a.invariant.1 ∙ w.if-heeds.true, w.if-a-eq0.false)
      | walk_turns-else-heeds-via-else-heeds w ↦ inr (sym c.loop-a.invariant.1 ∙ w.if-heeds.false)
    ]) in
    let w = rw c.in-Some.is at c.take_answer.ensures in
    let u = rw c.requires.n_value at c.walk_one-done.ensures in
    let e = ap (loop_continues _) u.ended ∙ sym c.loop_continues.ensures ∙ c.if-not-loop_continues.true in
    c.loop-a.invariant.2 _ _ (same (rounds_law _ _ _ _ (exec_rest _ []) _) (asks_on _ _ _ _ _ _ _ _ _ w.left w.answer w.taken w.walked (rw y (stays _ _ _ _ _ _ _ e u))))

pub walk_turns-loop-a-preserved : goal.walk_turns-loop-a-preserved
walk_turns-loop-a-preserved t c =
    let y : (is_yes c.in-Some.a || not (test_at c.args.given.now.nodes c.args.n.0)) ≡ true = runs _ _ (elim c.else-heeds.branch [
      | walk_turns-else-heeds-via-then-heeds+else-a-eq0 w ↦ inl (sym c.loop-a.invariant.1 ∙ w.if-heeds.true, w.if-a-eq0.false)
      | walk_turns-else-heeds-via-else-heeds w ↦ inr (sym c.loop-a.invariant.1 ∙ w.if-heeds.false)
    ]) in
    let w = rw c.in-Some.is at c.take_answer.ensures in
    let u = rw c.requires.n_value at c.walk_one-done.ensures in
    let e = ap (loop_continues _) u.ended ∙ sym c.loop_continues.ensures ∙ c.if-not-loop_continues.false in
    (u.inside, c.loop-a.invariant.1, λ r how v. c.loop-a.invariant.2 r how (same (rounds_law _ _ _ _ (exec_rest _ []) _) (asks_on _ _ _ _ _ _ _ _ _ w.left w.answer w.taken w.walked (rw y (goes _ _ _ _ _ _ _ _ _ e u v)))))

pub walk_turns-loop-a-smaller : goal.walk_turns-loop-a-smaller
walk_turns-loop-a-smaller t c =
    let w = rw c.in-Some.is at c.take_answer.ensures in
    let u = c.walk_one-done.ensures in
    omega (arith, w.taken, u.took, u.inside)

pub walk_turns-returns : goal.walk_turns-returns
walk_turns-returns t c =
    let w = rw c.in_default.is at c.take_answer.ensures in
    c.loop-a.invariant.2 _ _ (same (rounds_law _ _ _ _ (exec_rest _ []) _) (asks_none _ _ _ _ _ _ w.none c.loop-a.invariant.0 w.same refl tt))
