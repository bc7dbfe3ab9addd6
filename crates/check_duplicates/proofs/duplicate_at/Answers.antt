use native.Mathlib.Omega.{arith}
use mathlib.Core.Path.{◌≡◌, ap, sym, ◌∙◌}
use Prim.Native.Nat.{◌<◌}
use Rattle.table_records.specs.Table.{count}
use Rattle.check_duplicates.specs.declared.Place.{Place}
use Rattle.check_duplicates.specs.Duplicates.{previous_of, duplicate_by}
use Rattle.check_duplicates.proofs.DuplicatesLaws.{earlier, by_hit, by_fine, by_none}
use Rattle.check_duplicates.proofs.duplicate_at.Goals as goal

pub clashes-requires-clause-d_bound : goal.clashes-requires-clause-d_bound
clashes-requires-clause-d_bound c = let a = c.args in
    let s = a.elements.now in
    let v = ap (λ v. v.nodes) c.named.view_is ∙ ap (λ v. v.nodes) c.elements.view_is in
    let q : c.prev_element.result ≡ previous_of s.source_type s.nodes s.names a.c.0 a.e.0 = (rw (c.deref.ensures.same, v) at c.prev_element.ensures) ∙ c.previous_of-previous.ensures in
    let n = ap count (c.deref-2.ensures.same ∙ v) in
    let b : c.in_ok-d.d.0 < a.e.0 = earlier s.source_type s.nodes s.names a.c.0 a.e.0 (omega arith) c.in_ok-d.d (ap (λ (p : Place). p.element) (sym q) ∙ c.in_ok-d.was) in
    omega arith

pub redeclaration-requires-clause-d_bound : goal.redeclaration-requires-clause-d_bound
redeclaration-requires-clause-d_bound c = let a = c.args in
    let s = a.elements.now in
    let v = ap (λ v. v.nodes) c.named.view_is ∙ ap (λ v. v.nodes) c.elements.view_is in
    let q : c.prev_element.result ≡ previous_of s.source_type s.nodes s.names a.c.0 a.e.0 = (rw (c.deref.ensures.same, v) at c.prev_element.ensures) ∙ c.previous_of-previous.ensures in
    let n = ap count v in
    let b : c.in_ok-d.d.0 < a.e.0 = earlier s.source_type s.nodes s.names a.c.0 a.e.0 (omega arith) c.in_ok-d.d (ap (λ (p : Place). p.element) (sym q) ∙ c.in_ok-d.was) in
    omega arith

pub returns-then-clashes : goal.returns-then-clashes
returns-then-clashes c = let a = c.args in
    let s = a.elements.now in
    let v = ap (λ v. v.nodes) c.named.view_is ∙ ap (λ v. v.nodes) c.elements.view_is in
    let q : c.prev_element.result ≡ previous_of s.source_type s.nodes s.names a.c.0 a.e.0 = (rw (c.deref.ensures.same, v) at c.prev_element.ensures) ∙ c.previous_of-previous.ensures in
    (rw (ap (λ v. v.source_type) c.elements.view_is, v) at c.redeclaration.ensures) ∙ sym (by_hit s.source_type s.nodes a.e.0 c.prev_element.result c.in_ok-d.d c.in_ok-d.was (sym (rw (c.deref-2.ensures.same, v) at c.clashes.ensures) ∙ c.if-clashes.true)) ∙ ap (duplicate_by s.source_type s.nodes a.e.0) q

pub returns : goal.returns
returns c = let a = c.args in
    let s = a.elements.now in
    let v = ap (λ v. v.nodes) c.named.view_is ∙ ap (λ v. v.nodes) c.elements.view_is in
    let q : c.prev_element.result ≡ previous_of s.source_type s.nodes s.names a.c.0 a.e.0 = (rw (c.deref.ensures.same, v) at c.prev_element.ensures) ∙ c.previous_of-previous.ensures in
    sym (by_fine s.source_type s.nodes a.e.0 c.prev_element.result c.in_ok-d.d c.in_ok-d.was (sym (rw (c.deref-2.ensures.same, v) at c.clashes.ensures) ∙ c.if-clashes.false)) ∙ ap (duplicate_by s.source_type s.nodes a.e.0) q

pub returns-in_err-d : goal.returns-in_err-d
returns-in_err-d c = let a = c.args in
    let s = a.elements.now in
    let v = ap (λ v. v.nodes) c.named.view_is ∙ ap (λ v. v.nodes) c.elements.view_is in
    let q : c.prev_element.result ≡ previous_of s.source_type s.nodes s.names a.c.0 a.e.0 = (rw (c.deref.ensures.same, v) at c.prev_element.ensures) ∙ c.previous_of-previous.ensures in
    c.from_residual.ensures ∙ sym (by_none s.source_type s.nodes a.e.0 c.prev_element.result c.in_err-d.was) ∙ ap (duplicate_by s.source_type s.nodes a.e.0) q
