-- Laws of walks up: a fold over the ancestors of a node, or over the scopes around a scope, is one step and the fold from there.
use Rattle.table_records.specs.declared.NodeId.{NodeId}
use Rattle.std.specs.Prelude.{ℕ, ◌≤◌, ◌<◌, ◌≡◌, refl, Bool, true, false, cond, ◌||◌, eqb, Some, None, is_some}
use Rattle.std.proofs.Common.{sym, subst, ◌∙◌, ⊎_elim, eq-or-lt_of_le, arith, eq-eqb, ne_eqb}
use mathlib.Core.List.{List, [], ◌∷◌, foldr}
use Rattle.base_common.specs.Upto.{any}
use Rattle.base_common.specs.Tests.{within}
use Rattle.base_walk.proofs.AboveLaws.{fold_up, fold_root}
use Rattle.base_walk.specs.On.{on}
use Rattle.base_walk.proofs.OnLaws.{on_self, on_le}
use Rattle.table_records.specs.Table.{kind_of, parent_of, count, ancestors, count_scopes, scope_parent_of, outer}
use Rattle.table_records.specs.Facts.{Tree, Chained}
use Rattle.table_ancestry.specs.Ancestry.{nearest_of, has_ancestor}

-- the parent of a node is a node
pub parent_in : (ns : List ℕ) → Tree ns → (i : ℕ) → i < count ns → parent_of ns i < count ns
parent_in ns t i l =
    ⊎_elim (λ (q : 0 ≡ i). subst (λ (x : ℕ). parent_of ns x < count ns) q (let z = t.top in omega arith))
    (λ (h : 0 < i). let z = t.falls i h l in omega arith) (eq-or-lt_of_le (omega arith))

module _ {R : Type 0} (f : ℕ → R → R) (d : R) where
  -- one step up
  pub ancestors_up : (ns : List ℕ) → Tree ns → (i : ℕ) → 0 < i → i < count ns → foldr f d (ancestors ns i) ≡ f (parent_of ns i) (foldr f d (ancestors ns (parent_of ns i)))
  ancestors_up ns t i h l = fold_up f d (parent_of ns) (count ns) t.falls i h l

  -- the program has no ancestors
  pub ancestors_root : (ns : List ℕ) → foldr f d (ancestors ns 0) ≡ d
  ancestors_root ns = fold_root f d (parent_of ns)

  pub outer_up : (ss : List ℕ) → Chained ss → (s : ℕ) → 0 < s → s < count_scopes ss → foldr f d (outer ss s) ≡ f (scope_parent_of ss s) (foldr f d (outer ss (scope_parent_of ss s)))
  outer_up ss t s h l = fold_up f d (scope_parent_of ss) (count_scopes ss) t.falls s h l

  pub outer_root : (ss : List ℕ) → foldr f d (outer ss 0) ≡ d
  outer_root ss = fold_root f d (scope_parent_of ss)

-- where a is not below, being on the way is being there
pub on_at : (ns : List ℕ) → Tree ns → (a i : ℕ) → i ≤ a → i < count ns → on (parent_of ns) a i ≡ eqb i a
on_at ns t a i h l = ⊎_elim (λ (q : i ≡ a). sym (eq-eqb i a q ∙ subst (λ (x : ℕ). true ≡ on (parent_of ns) a x) (sym q) (sym (on_self (parent_of ns) a))))
    (λ (q : i < a). go q (on (parent_of ns) a i) refl) (eq-or-lt_of_le h)
  where
    go : i < a → (x : Bool) → on (parent_of ns) a i ≡ x → on (parent_of ns) a i ≡ eqb i a
    go q true e = absurd (omega (arith, on_le (parent_of ns) (count ns) t.falls a i l e))
    go q false e = e ∙ sym (ne_eqb i a (λ z. omega arith))

-- the nearest ancestor of some kinds, as a walk up meets it: p is the parent of i
module _ (ns : List ℕ) (t : Tree ns) (low high : ℕ) (i p : ℕ) (h : 0 < i) (l : i < count ns) (e : p ≡ parent_of ns i) where
  pub nearest_stop : within (kind_of ns p) low high ≡ true → nearest_of ns low high i ≡ Some (record { 0 = p })
  unfolding nearest_of
  nearest_stop w = ancestors_up _ _ ns t i h l ∙ rw (← e, w)

  pub nearest_on : within (kind_of ns p) low high ≡ false → nearest_of ns low high i ≡ nearest_of ns low high p
  unfolding nearest_of
  nearest_on w = ancestors_up _ _ ns t i h l ∙ rw (← e, w)

pub nearest_root : (ns : List ℕ) (low high : ℕ) → nearest_of ns low high 0 ≡ None
unfolding nearest_of
nearest_root ns low high = ancestors_root _ _ ns

-- there is a nearest one just where there is one
pub nearest_some : (ns : List ℕ) (low high n : ℕ) → has_ancestor ns low high n ≡ is_some (nearest_of ns low high n)
unfolding nearest_of has_ancestor
nearest_some ns low high n = go (ancestors ns n)
  where
    go : (as' : List ℕ) → any (λ a. within (kind_of ns a) low high) as' ≡ is_some {T = NodeId} (foldr (λ a r. cond (within (kind_of ns a) low high) (Some (record { 0 = a })) r) None as')
    go [] = refl
    go (a ∷ l) = by (within (kind_of ns a) low high) (go l)
      where
        by : (b : Bool) → any (λ a. within (kind_of ns a) low high) l ≡ is_some {T = NodeId} (foldr (λ a r. cond (within (kind_of ns a) low high) (Some (record { 0 = a })) r) None l) → (b || any (λ a. within (kind_of ns a) low high) l) ≡ is_some {T = NodeId} (cond b (Some (record { 0 = a })) (foldr (λ a r. cond (within (kind_of ns a) low high) (Some (record { 0 = a })) r) None l))
        by true h = refl
        by false h = h
