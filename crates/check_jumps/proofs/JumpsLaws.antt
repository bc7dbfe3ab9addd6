-- Laws of the walks up, and of the way down through nested Labeled, as loops meet them.
use Rattle.check_diagnostics.specs.declared.Finding.{Finding}
use Rattle.table_records.specs.declared.NodeId.{NodeId}
use Rattle.std.specs.Prelude.{ℕ, zero, suc, ◌+◌, ◌≤◌, ◌<◌, ◌≡◌, refl, List, cond, eqb, Option, Some, None}
use Rattle.std.proofs.Common.{◌∙◌, arith, eq-eqb, ne_eqb}
use Rattle.table_records.specs.Table.{kind_of, parent_of, count}
use Rattle.table_records.specs.Kinds as k
use Rattle.table_records.specs.Roles as role
use Rattle.table_records.specs.Facts.{Tree}
use Rattle.table_children.specs.Children.{held_of, when_found}
use Rattle.table_children.proofs.ChildrenLaws.{found_child}
use Rattle.table_ancestry.proofs.AncestryLaws.{ancestors_up, ancestors_root}
use Rattle.check_jumps.specs.Jumps.{walk_up, under, labeled_item}

-- one step: p is the parent of i
pub walk_up_lem : (ns : List ℕ) (says : ℕ → Option Finding → Option Finding) → Tree ns → (i p : ℕ) → 0 < i → i < count ns → p ≡ parent_of ns i → walk_up ns says i ≡ says p (walk_up ns says p)
unfolding walk_up
walk_up_lem ns says t i p h l e = ancestors_up _ _ ns t i h l ∙ rw (← e)

pub walk_root : (ns : List ℕ) (says : ℕ → Option Finding → Option Finding) → walk_up ns says 0 ≡ None
unfolding walk_up
walk_root ns says = ancestors_root _ _ ns

-- what is held stands after its holder
pub held_after_lem : (ns : List ℕ) (a m : ℕ) → held_of ns a ≡ Some (record { 0 = m }) → (a < m) × (m < count ns)
held_after_lem ns a m e =
    let w = found_child ns a 0 55 role.Held role.Held (a + 1) m e in
    let f = w.from in
    (omega arith, w.below)

-- more steps than are needed change nothing
under_more : (ns : List ℕ) (f g a : ℕ) → count ns ≤ a + f → count ns ≤ a + g → a < count ns → under ns f a ≡ under ns g a
unfolding under
under_more ns zero g a p q l = absurd (omega arith)
under_more ns (suc f) zero a p q l = absurd (omega arith)
under_more ns (suc f) (suc g) a p q l = go (held_of ns a) refl (λ m x y. under_more ns f g m (omega arith) (omega arith) y)
  where
    go : (x : Option NodeId) → held_of ns a ≡ x → ((m : ℕ) → a < m → m < count ns → under ns f m ≡ under ns g m)
        → cond (eqb (kind_of ns a) k.Labeled) (when_found (held_of ns a) (λ m. under ns f m) a) a ≡ cond (eqb (kind_of ns a) k.Labeled) (when_found (held_of ns a) (λ m. under ns g m) a) a
    go (Some m) e h = let w = held_after_lem ns a m.0 e in rw (e, h m.0 w.0 w.1)
    go None e h = rw e

module _ (ns : List ℕ) (a : ℕ) (l : a < count ns) where
  -- a statement that is no Labeled is itself what is labelled
  pub item_here : (kind_of ns a ≡ k.Labeled → ⊥) → labeled_item ns a ≡ a
  unfolding under
  item_here e = under_more ns (count ns) (suc (count ns)) a (omega arith) (omega arith) l ∙ rw (ne_eqb _ _ e)

  pub item_none : kind_of ns a ≡ k.Labeled → held_of ns a ≡ None → labeled_item ns a ≡ a
  unfolding under
  item_none e h = under_more ns (count ns) (suc (count ns)) a (omega arith) (omega arith) l ∙ rw (eq-eqb _ _ e, h)

  pub item_down : (m : ℕ) → kind_of ns a ≡ k.Labeled → held_of ns a ≡ Some (record { 0 = m }) → labeled_item ns a ≡ labeled_item ns m
  unfolding under
  item_down m e h = under_more ns (count ns) (suc (count ns)) a (omega arith) (omega arith) l ∙ rw (eq-eqb _ _ e, h)
