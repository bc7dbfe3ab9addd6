use Rattle.std.proofs.Common.{ap, ◌∙◌, sym}
use Rattle.check_element_index.proofs.IndexLaws.{nameless, name_by_key}
use Rattle.check_element_index.proofs.key_name.Goals as goal

pub returns-then-key-eq0 : goal.returns-then-key-eq0
returns-then-key-eq0 c = let e = rw (← c.elements.view_is) at c.requires in
    let w = c.elements.invariant.indexed in
    rw (← c.elements.view_is) (sym (nameless _ _ _ _ (w.is_key _ e.e_bound e.element) (w.key_below _ e.e_bound e.element) c.if-key-eq0.true))

pub returns : goal.returns
returns c = let e = rw (← c.elements.view_is) at c.requires in
    let w = c.elements.invariant.indexed in
    rw (← c.elements.view_is) ((rw (c.deref.ensures.same, ap (λ v. v.nodes) c.named.view_is, ap (λ v. v.names) c.named.view_is) at c.name.ensures) ∙ sym (name_by_key _ _ _ _ (w.is_key _ e.e_bound e.element) (w.key_below _ e.e_bound e.element) c.if-key-eq0.false))
