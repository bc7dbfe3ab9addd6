use Rattle.table_records.specs.Facts.{Named}
use Rattle.call_labels.specs.Order.{seen_before, place_in}
use Rattle.call_labels.proofs.UnfitLaws.{other_fit, nameless_fit, known_fit, new_fit}
use Rattle.call_labels.specs.Firsts.{Firsts}
use Rattle.call_labels.proofs.FirstsLaws.{firsts_length, firsts_add}
use Rattle.table_names.specs.Name.{name_of}
use Rattle.table_names.proofs.NameLaws.{name_length}
use lib.ListN.{length, set}
use native.Mathlib.Omega.{arith}
use mathlib.Core.Path.{◌≡◌, ap, sym, subst, ◌∙◌}
use Prim.Native.Nat.{◌+◌}
use Rattle.call_labels.proofs.enter.Goals as goal

pub returns-then-not-is_label : goal.returns-then-not-is_label
returns-then-not-is_label c =
    let a = c.args in
    let ns = a.named.now.nodes in
    let names = a.named.now.names in
    let f = c.requires.firsts in
    let h = c.requires.i_bound in
    let v = c.deref-nodes.ensures.same ∙ ap (λ v. v.nodes) c.named.view_is in
    let w = other_fit ns names a.i (rw v at (sym c.is_label.ensures ∙ c.if-not-is_label.true)) in
    (w.0, subst (Firsts ns names a.kept.now.nodes a.kept.now.size) (sym w.1) f)

pub returns-then-name_len-eq0 : goal.returns-then-name_len-eq0
returns-then-name_len-eq0 c =
    let a = c.args in
    let ns = a.named.now.nodes in
    let names = a.named.now.names in
    let f = c.requires.firsts in
    let h = c.requires.i_bound in
    let within = subst (λ t. Named t.nodes t.names) c.named.view_is c.named.invariant in
    let v = c.deref-nodes.ensures.same ∙ ap (λ v. v.nodes) c.named.view_is in
    let e = rw v at (sym c.is_label.ensures ∙ c.if-not-is_label.false) in
    let q = sym c.is_reserved.ensures ∙ c.if-is_reserved.false in
    let z = name_length ns names within a.i h ∙ sym (rw v at c.name_len.ensures) ∙ c.if-name_len-eq0.true in
    let w = nameless_fit ns names a.i e q z in
    (w.0, subst (Firsts ns names a.kept.now.nodes a.kept.now.size) (sym w.1) f)

pub returns-then-place_in-kept : goal.returns-then-place_in-kept
returns-then-place_in-kept c =
    let a = c.args in
    let ns = a.named.now.nodes in
    let names = a.named.now.names in
    let f = c.requires.firsts in
    let h = c.requires.i_bound in
    let v = c.deref-nodes.ensures.same ∙ ap (λ v. v.nodes) c.named.view_is in
    let e = rw v at (sym c.is_label.ensures ∙ c.if-not-is_label.false) in
    let q = sym c.is_reserved.ensures ∙ c.if-is_reserved.false in
    let p = c.place_in.ensures ∙ ap (λ s. place_in s (name_of ns names a.i)) f.named in
    let l = firsts_length ns names a.kept.now.nodes a.kept.now.size (seen_before ns names a.i) f in
    let w = known_fit ns names a.i e q (omega (arith, p, l, c.if-place_in-kept.true)) in
    (w.0, subst (Firsts ns names a.kept.now.nodes a.kept.now.size) (sym w.1) f)

pub returns : goal.returns
returns c =
    let a = c.args in
    let ns = a.named.now.nodes in
    let names = a.named.now.names in
    let f = c.requires.firsts in
    let h = c.requires.i_bound in
    let within = subst (λ t. Named t.nodes t.names) c.named.view_is c.named.invariant in
    let v = c.deref-nodes.ensures.same ∙ ap (λ v. v.nodes) c.named.view_is in
    let e = rw v at (sym c.is_label.ensures ∙ c.if-not-is_label.false) in
    let q = sym c.is_reserved.ensures ∙ c.if-is_reserved.false in
    let n : length (name_of ns names a.i) ≡ 0 → ⊥ = λ z. c.if-name_len-eq0.false ((rw v at c.name_len.ensures) ∙ sym (name_length ns names within a.i h) ∙ z) in
    let p = c.place_in.ensures ∙ ap (λ s. place_in s (name_of ns names a.i)) f.named in
    let l = firsts_length ns names a.kept.now.nodes a.kept.now.size (seen_before ns names a.i) f in
    let few = f.nodes.few in
    let w = new_fit ns names a.i e q n (omega (arith, p, l, c.if-place_in-kept.false)) (omega (arith, l, few, c.if-kept-eq-MOST.false)) in
    (w.0, subst (Firsts ns names (set a.kept.now.nodes a.kept.now.size a.i) (a.kept.now.size + 1)) (sym w.1) (firsts_add ns names a.kept.now.nodes a.kept.now.size a.i (seen_before ns names a.i) f (omega (arith, few, c.if-kept-eq-MOST.false)) h))
