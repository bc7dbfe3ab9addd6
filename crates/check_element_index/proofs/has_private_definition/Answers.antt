use Rattle.std.proofs.Common.{◌≡◌, ◌∙◌, ◌+◌, ◌-◌, ◌<◌, sym, subst, ap, length, get_or, true, ℕ, arith}
use Rattle.table_records.specs.Table.{count}
use Rattle.table_records.specs.Facts.{Tree}
use Rattle.check_class_table.proofs.ElementsLaws.{has_start, has_stop, has_on, has_out}
use Rattle.check_element_index.specs.Index.{hash, bucket, Known}
use Rattle.check_element_index.proofs.SearchLaws.{start_bound, start_chained, start_same, step_element, step_key, step_bound, step_chained, step_same, has_private_to, to_end, to_none, to_hit, to_miss}
use Rattle.check_element_index.proofs.has_private_definition.Goals as goal

pub loop-at-init : goal.loop-at-init
loop-at-init c = let a = c.args in
    let s = a.elements.now in
    let w = subst Known c.elements.view_is c.elements.invariant in
    let q : c.bucket-b.result ≡ bucket (length s.last) a.c.0 true (hash a.name.now) = c.bucket-b.ensures.value ∙ ap (λ v. bucket (length v.last) a.c.0 true a.hashed) c.elements.view_is ∙ ap (bucket (length s.last) a.c.0 true) c.requires.hashed in
    let e = ap (λ v. get_or v.last c.bucket-b.result 0) c.elements.view_is ∙ ap (λ (b : ℕ). get_or s.last b 0) q in
    let l = rw (q, ap (λ v. length v.last) c.elements.view_is) at c.bucket-b.ensures.inside in
    rw e (record {
      after = omega arith;
      in_step = omega (arith, start_bound s w a.c.0 true a.name.now l);
      in_chain = start_chained s w a.c.0 true a.name.now l;
      left = start_same s w a.c.0 true a.name.now l (has_private_to s.source_type s.nodes s.names a.c.0 a.name.now) (to_miss s.source_type s.nodes s.names a.c.0 a.name.now)
          ∙ to_end s.source_type s.nodes s.names a.c.0 a.name.now;
      ahead = has_start s.source_type s.nodes s.names a.c.0 a.name.now;
    })

pub has_key-requires-clause-element : goal.has_key-requires-clause-element
has_key-requires-clause-element c = let i = c.loop-at.invariant in
    let z : c.loop-at.at ≡ c.loop-at.at - 1 + 1 = omega arith in
    step_element _ (subst Known c.elements.view_is c.elements.invariant) _ _ _ _ _ z (omega arith) i.in_chain

pub returns-then-has_key : goal.returns-then-has_key
returns-then-has_key c = let i = c.loop-at.invariant in
    let z : c.loop-at.at ≡ c.loop-at.at - 1 + 1 = omega arith in
    let k = step_key _ (subst Known c.elements.view_is c.elements.invariant) _ _ _ _ _ z (omega arith) i.in_chain in
    sym (to_hit _ _ _ _ _ _ _ z (omega arith) (sym k ∙ sym c.has_key.ensures ∙ c.if-has_key.true)) ∙ i.left

pub returns-then-parent-c : goal.returns-then-parent-c
returns-then-parent-c c = let a = c.args in
    let s = a.elements.now in
    let v = ap (λ v. v.nodes) c.named.view_is ∙ ap (λ v. v.nodes) c.elements.view_is in
    let i = c.loop-at.invariant in
    let h : c.loop-at.front < count s.nodes = omega arith in
    let q = rw (c.deref.ensures.same, v) at c.parent.ensures in
    sym (has_out s.source_type s.nodes s.names a.c.0 a.name.now (subst Tree v c.deref.ensures.tree) c.loop-at.front i.after h (omega arith)) ∙ i.ahead

pub returns-then-is_named : goal.returns-then-is_named
returns-then-is_named c = let i = c.loop-at.invariant in
    sym (has_stop _ _ _ _ _ c.loop-at.front (omega arith) (sym c.is_named.ensures ∙ c.if-is_named.true)) ∙ i.ahead

pub loop-at-smaller : goal.loop-at-smaller
loop-at-smaller c = let i = c.loop-at.invariant in
    let z : c.loop-at.at ≡ c.loop-at.at - 1 + 1 = omega arith in
    let b = step_bound _ (subst Known c.elements.view_is c.elements.invariant) _ _ _ _ _ z (omega arith) i.in_chain in
    rw c.earlier-at.ensures (omega (arith, b, z))

pub loop-at-preserved : goal.loop-at-preserved
loop-at-preserved c = let a = c.args in
    let s = a.elements.now in
    let w = subst Known c.elements.view_is c.elements.invariant in
    let i = c.loop-at.invariant in
    let z : c.loop-at.at ≡ c.loop-at.at - 1 + 1 = omega arith in
    let b = step_bound s w _ _ _ _ _ z (omega arith) i.in_chain in
    let k = step_key s w _ _ _ _ _ z (omega arith) i.in_chain in
    let f = has_private_to s.source_type s.nodes s.names a.c.0 a.name.now in
    let m = to_miss s.source_type s.nodes s.names a.c.0 a.name.now in
    rw c.earlier-at.ensures (record {
      after = omega arith;
      in_step = omega (arith, b, z, i.in_step);
      in_chain = step_chained s w _ _ _ _ _ z (omega arith) i.in_chain;
      left = step_same s w _ _ _ _ _ z (omega arith) i.in_chain f m ∙ sym (ap f z ∙ m _ (sym k ∙ sym c.has_key.ensures ∙ c.if-has_key.false)) ∙ i.left;
      ahead = sym (has_on s.source_type s.nodes s.names a.c.0 a.name.now c.loop-at.front (omega arith) (sym c.is_named.ensures ∙ c.if-is_named.false)) ∙ i.ahead;
    })

pub returns : goal.returns
returns c = sym (to_none _ _ _ _ _ c.loop-at.at (omega arith)) ∙ c.loop-at.invariant.left
