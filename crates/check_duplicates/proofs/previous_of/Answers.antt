use Rattle.std.proofs.Common.{◌≡◌, ◌∙◌, ◌+◌, ◌-◌, ◌≤◌, sym, ap, subst, get_or, ℕ, arith, refl}
use Rattle.table_records.specs.Table.{count}
use Rattle.check_class_table.specs.Elements.{is_private, element_name}
use Rattle.check_element_index.specs.Index.{Known}
use Rattle.check_element_index.proofs.SearchLaws.{step_element, step_bound, step_chained, step_same, named_chained}
use Rattle.check_duplicates.specs.Duplicates.{nowhere, there}
use Rattle.check_duplicates.proofs.PreviousLaws.{last_on, on_miss, left_start, left_move, left_turn, all_seen, own_seen, compared_named}
use Rattle.check_duplicates.proofs.previous_of.Goals as goal

pub loop-at-init : goal.loop-at-init
loop-at-init c = let a = c.args in
    let s = a.elements.now in
    let k = subst Known c.elements.view_is c.elements.invariant in
    let p = is_private s.nodes a.e.0 in
    let x = element_name s.nodes s.names a.e.0 in
    let l : a.e.0 + 1 ≤ count s.nodes = omega arith in
    let h = named_chained s k a.c.0 p x a.e.0 (compared_named _ _ _ _ _ c.requires.compared) in
    let b = step_bound s k _ _ _ _ _ refl l h in
    rw c.earlier-at.ensures (record {
      in_table = omega (arith, b, l);
      in_chain = step_chained s k _ _ _ _ _ refl l h;
      left = left_move s.source_type s.nodes s.names a.c.0 p x _ a.e.0 _ a.e.0
          (λ i. step_same s k _ _ _ _ _ refl l h (last_on s.source_type s.nodes s.names a.c.0 p x i) (on_miss s.source_type s.nodes s.names a.c.0 p x i))
          (left_start s.source_type s.nodes s.names a.c.0 p x a.e.0);
    })

pub see-seen-requires-clause-element : goal.see-seen-requires-clause-element
see-seen-requires-clause-element c = let i = c.loop-at.invariant in
    let z : c.loop-at.at ≡ c.loop-at.at - 1 + 1 = omega arith in
    step_element _ (subst Known c.elements.view_is c.elements.invariant) _ _ _ _ _ z i.in_table i.in_chain

pub returns-then-is_some : goal.returns-then-is_some
returns-then-is_some c = let a = c.args in
    let s = a.elements.now in
    let v = ap (λ v. v.nodes) c.named.view_is ∙ ap (λ v. v.nodes) c.elements.view_is in
    let q = rw (c.is_private-private.ensures, c.deref.ensures.same, c.element_name-name.ensures, v, ap (λ v. v.nodes) c.elements.view_is, ap (λ v. v.names) c.elements.view_is) at c.see-seen.ensures in
    let w = left_turn _ _ _ _ _ _ _ c.loop-at.at (c.loop-at.at - 1) _ (omega arith) (omega arith) c.loop-at.invariant.left in
    own_seen s.source_type s.nodes s.names a.c.0 a.e.0 (omega arith) c.see-seen.result (c.loop-at.at - 1) (rw q w)
    (ap (λ (i : ℕ). there (get_or c.see-seen.result i nowhere)) (sym (rw (c.deref-2.ensures.same, v) at c.side-own.ensures.value)) ∙ sym c.is_some.ensures ∙ c.if-is_some.true)

pub loop-at-smaller : goal.loop-at-smaller
loop-at-smaller c = let i = c.loop-at.invariant in
    let z : c.loop-at.at ≡ c.loop-at.at - 1 + 1 = omega arith in
    let b = step_bound _ (subst Known c.elements.view_is c.elements.invariant) _ _ _ _ _ z i.in_table i.in_chain in
    rw c.earlier-at-in-loop-at.ensures (omega (arith, b, z))

pub loop-at-preserved : goal.loop-at-preserved
loop-at-preserved c = let a = c.args in
    let s = a.elements.now in
    let k = subst Known c.elements.view_is c.elements.invariant in
    let p = is_private s.nodes a.e.0 in
    let x = element_name s.nodes s.names a.e.0 in
    let z : c.loop-at.at ≡ c.loop-at.at - 1 + 1 = omega arith in
    let i = c.loop-at.invariant in
    let b = step_bound s k _ _ _ _ _ z i.in_table i.in_chain in
    let v = ap (λ v. v.nodes) c.named.view_is ∙ ap (λ v. v.nodes) c.elements.view_is in
    let q = rw (c.is_private-private.ensures, c.deref.ensures.same, c.element_name-name.ensures, v, ap (λ v. v.nodes) c.elements.view_is, ap (λ v. v.names) c.elements.view_is) at c.see-seen.ensures in
    let w = left_turn _ _ _ _ _ _ _ c.loop-at.at (c.loop-at.at - 1) _ z (omega arith) i.left in
    rw (c.earlier-at-in-loop-at.ensures, q) (record {
      in_table = omega (arith, b, z, i.in_table);
      in_chain = step_chained s k _ _ _ _ _ z i.in_table i.in_chain;
      left = left_move s.source_type s.nodes s.names a.c.0 p x _ _ _ a.e.0
          (λ i. step_same s k _ _ _ _ _ z c.loop-at.invariant.in_table c.loop-at.invariant.in_chain (last_on s.source_type s.nodes s.names a.c.0 p x i) (on_miss s.source_type s.nodes s.names a.c.0 p x i)) w;
    })

pub returns : goal.returns
returns c = let a = c.args in
    let s = a.elements.now in
    all_seen s.source_type s.nodes s.names a.c.0 a.e.0 (omega arith) c.loop-at.previous c.loop-at.at c.loop-at.invariant.left (omega arith)
