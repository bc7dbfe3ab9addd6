-- Laws of scopes, and what is known where refusal 5 does not apply.
use Rattle.std.specs.Prelude.{ℕ, zero, suc, ◌+◌, ◌≤◌, ◌<◌, ◌≡◌, refl, List, [], ◌∷◌, Bool, true, false, cond, not, ◌&&◌, ◌||◌, eqb, ltb, length, get_or, set, Option, Some, None}
use Rattle.std.proofs.Common.{sym, subst, ◌∙◌, ⊎_elim, eq-or-lt_of_le, arith, get_or-set_same, get_or-set_other}
use Rattle.std.proofs.Math.Bool.{and-true, and-false}
use borrow.Author.Tests.{eq-eqb, ne_eqb, le-leb, lt-leb, eqb-true, ltb-true, ltb-false, leb-false, not-true, not-false}
use Rattle.std.proofs.Math.Dec.{leb}
use Rattle.base_common.specs.Upto.{all}
use Rattle.base_common.proofs.UptoLaws.{and_left_lem, and_right_lem}
use Rattle.base_common.proofs.Bools.{never, or_first, or_second, or3}
use Rattle.base_walk.proofs.AboveLaws.{above_up, above_root}
use Rattle.base_walk.specs.On.{on}
use Rattle.base_walk.proofs.OnLaws.{on_step, on_cases, on_le, on_trans, on_linear}
use Rattle.base_walk.proofs.PreorderLaws.{lt_or_ge}
use Rattle.table_records.specs.Table.{kind_of, parent_of, scope_of, extra_of, count, count_scopes, scope_parent_of, scope_flags_of, scope_node_of, outer, IsTableSize}
use Rattle.table_records.specs.Facts.{Tree, Chained, Scoped}
use Rattle.refusal_verdict.specs.First.{first}
use Rattle.refusal_verdict.proofs.FirstLaws.{first_none, first_here_lem}
use Rattle.refusal_scopes.specs.Scopes.{broken_at, chain_on, misscoped_at}
use Rattle.refusal_scopes.specs.OwnScopes.{Meets, Deep, shares_scope}

-- the scope around another is a lower one: a lemma of its own, which `using` can name
pub scope_falls : (ss : List ℕ) → Chained ss → (s : ℕ) → 0 < s → s < count_scopes ss → scope_parent_of ss s < s
scope_falls ss c = c.falls

module _ (ns ss : List ℕ) where
  pub chain_up : Chained ss → (s i : ℕ) → 0 < s → s < count_scopes ss → chain_on ns ss s i ≡ (on (parent_of ns) (scope_node_of ss s) i && chain_on ns ss (scope_parent_of ss s) i)
  unfolding chain_on on
  chain_up c s i h l = rw (above_up (scope_parent_of ss) (count_scopes ss) c.falls s h l)

  pub chain_root : (i : ℕ) → chain_on ns ss 0 i ≡ on (parent_of ns) (scope_node_of ss 0) i
  unfolding chain_on on
  chain_root i = rw (above_root (scope_parent_of ss)) (and-true _)

module _ (ns : List ℕ) (t : Tree ns) where
  no_node : (a i : ℕ) → count ns ≤ a → i < count ns → on (parent_of ns) a i ≡ false
  no_node a i h l = go (on (parent_of ns) a i) refl
    where
      go : (x : Bool) → on (parent_of ns) a i ≡ x → x ≡ false
      go true e = absurd (omega (arith, on_le (parent_of ns) (count ns) t.falls a i l e))
      go false e = refl

  last : (i : ℕ) → i < count ns → on (parent_of ns) 65535 i ≡ false
  last i l = let s = t.small in no_node 65535 i (omega arith) l

  pub meets_left : (a b : ℕ) → count ns ≤ a → Meets ns 65535 a b
  meets_left a b h i l = last i l ∙ rw (no_node a i h l)

  pub meets_right : (a b : ℕ) → count ns ≤ b → Meets ns 65535 a b
  meets_right a b h i l = last i l ∙ rw (no_node b i h l) (sym (and-false (on (parent_of ns) a i)))

  pub meets_second : (a b : ℕ) → on (parent_of ns) a b ≡ true → Meets ns b a b
  meets_second a b e i l = go (on (parent_of ns) b i) refl
    where
      go : (x : Bool) → on (parent_of ns) b i ≡ x → on (parent_of ns) b i ≡ (on (parent_of ns) a i && on (parent_of ns) b i)
      go true q = rw (on_trans (parent_of ns) (count ns) t.falls a b i l e q)
      go false q = rw q (sym (and-false (on (parent_of ns) a i)))

  pub meets_first : (a b : ℕ) → on (parent_of ns) b a ≡ true → Meets ns a a b
  meets_first a b e i l = go (on (parent_of ns) a i) refl
    where
      go : (x : Bool) → on (parent_of ns) a i ≡ x → on (parent_of ns) a i ≡ (on (parent_of ns) a i && on (parent_of ns) b i)
      go true q = rw (q, on_trans (parent_of ns) (count ns) t.falls b a i l e q)
      go false q = rw q

  pub meets_apart : (a b : ℕ) → on (parent_of ns) a b ≡ false → on (parent_of ns) b a ≡ false → Meets ns 65535 a b
  meets_apart a b e d i l = last i l ∙ go (on (parent_of ns) a i) (on (parent_of ns) b i) refl refl
    where
      go : (x y : Bool) → on (parent_of ns) a i ≡ x → on (parent_of ns) b i ≡ y → false ≡ (x && y)
      go true true p q =
          ⊎_elim (λ (h : a < b). never (sym (on_linear (parent_of ns) (count ns) t.falls a b i l p q (omega arith)) ∙ e))
          (λ (h : b ≤ a). never (sym (on_linear (parent_of ns) (count ns) t.falls b a i l q p h) ∙ d))
          (lt_or_ge a b)
      go true false p q = refl
      go false y p q = refl

-- the array of `Deep`: the first scope's number, and one scope more
module _ (ns ss deep : List ℕ) where
  pub deep_start : 0 < length deep → Deep ns ss (set deep 0 (scope_node_of ss 0)) 1
  deep_start h s l i k =
      let q : s ≡ 0 = omega arith in
      subst (λ (x : ℕ). on (parent_of ns) (get_or (set deep 0 (scope_node_of ss 0)) x 0) i ≡ chain_on ns ss x i) (sym q)
      (rw (get_or-set_same deep 0 (scope_node_of ss 0) 0 h) (sym (chain_root ns ss i)))

  pub deep_more : Chained ss → (s m : ℕ) → 0 < s → s < count_scopes ss → s < length deep → Deep ns ss deep s
      → Meets ns m (scope_node_of ss s) (get_or deep (scope_parent_of ss s) 0) → Deep ns ss (set deep s m) (s + 1)
  deep_more c s m h l r d w j k i b =
      ⊎_elim (λ (q : j ≡ s).
      subst (λ (x : ℕ). on (parent_of ns) (get_or (set deep s m) x 0) i ≡ chain_on ns ss x i) (sym q)
      (rw (get_or-set_same deep s m 0 r) (w i b ∙ rw (d (scope_parent_of ss s) (c.falls s h l) i b) (sym (chain_up ns ss c s i h l)))))
      (λ (q : j < s). rw (get_or-set_other deep s j m 0 (λ e. omega arith)) (d j q i b))
      (eq-or-lt_of_le (omega arith))

-- the test of a node, by its parts: a scope that is not in the table, a class's own that is not, and the chain
module _ (ns ss : List ℕ) (i : ℕ) where
  pub mis_missing : count_scopes ss ≤ scope_of ns i → misscoped_at ns ss i ≡ true
  unfolding misscoped_at
  mis_missing h = rw (le-leb (count_scopes ss) (scope_of ns i) h)

  pub mis_extra : scope_of ns i < count_scopes ss → (eqb (kind_of ns i) 26 && leb (count_scopes ss) (extra_of ns i)) ≡ true → misscoped_at ns ss i ≡ true
  unfolding misscoped_at
  mis_extra h e = rw (lt-leb (count_scopes ss) (scope_of ns i) h, e)

  pub mis_chain : scope_of ns i < count_scopes ss → (eqb (kind_of ns i) 26 && leb (count_scopes ss) (extra_of ns i)) ≡ false → misscoped_at ns ss i ≡ not (chain_on ns ss (scope_of ns i) i)
  unfolding misscoped_at
  mis_chain h e = rw (lt-leb (count_scopes ss) (scope_of ns i) h, e)

-- no scope record is broken: the facts
pub chained_of : (ss : List ℕ) → IsTableSize (count_scopes ss) → first (broken_at ss) 0 (count_scopes ss) ≡ None → Chained ss
unfolding broken_at
chained_of ss s e = record {
  some = s.some;
  small = s.small;
  flags = λ k l. ltb-false 31 (scope_flags_of ss k) (or_first (ltb 31 (scope_flags_of ss k)) (rest k) (fine k l));
  top = eqb-true (scope_parent_of ss 0) 0 (not-false (eqb (scope_parent_of ss 0) 0) (or_second (ltb 31 (scope_flags_of ss 0)) (rest 0) (fine 0 s.some)));
  falls = λ k h l. leb-false k (scope_parent_of ss k) (rw (ne_eqb k 0 (λ q. omega arith)) at (or_second (ltb 31 (scope_flags_of ss k)) (rest k) (fine k l)));
}
  where
    rest : ℕ → Bool
    rest k = cond (eqb k 0) (not (eqb (scope_parent_of ss k) 0)) (leb k (scope_parent_of ss k))

    fine : (k : ℕ) → k < count_scopes ss → (ltb 31 (scope_flags_of ss k) || rest k) ≡ false
    fine k l = first_none (broken_at ss) (count_scopes ss) 0 e k (omega arith) l

module _ (ns ss : List ℕ) (c : Chained ss) where
  chain_by : (f s t i : ℕ) → s ≤ f → s < count_scopes ss → chain_on ns ss s i ≡ true → on (scope_parent_of ss) t s ≡ true → on (parent_of ns) (scope_node_of ss t) i ≡ true
  chain_by zero s t i hf l e o =
      let q : s ≡ 0 = omega arith in
      ⊎_elim (λ (r : t ≡ s). subst (λ (x : ℕ). on (parent_of ns) (scope_node_of ss x) i ≡ true) (sym (r ∙ q)) (sym (chain_root ns ss i) ∙ subst (λ (x : ℕ). chain_on ns ss x i ≡ true) q e))
      (λ w. absurd (omega arith)) (on_cases (scope_parent_of ss) (count_scopes ss) c.falls t s l o)
  chain_by (suc f) s t i hf l e o =
      ⊎_elim (λ (z : 0 ≡ s).
      ⊎_elim (λ (r : t ≡ s). subst (λ (x : ℕ). on (parent_of ns) (scope_node_of ss x) i ≡ true) (sym (r ∙ sym z)) (sym (chain_root ns ss i) ∙ subst (λ (x : ℕ). chain_on ns ss x i ≡ true) (sym z) e))
      (λ w. absurd (omega arith)) (on_cases (scope_parent_of ss) (count_scopes ss) c.falls t s l o))
      (λ (h : 0 < s).
      let u = sym (chain_up ns ss c s i h l) ∙ e in
      let p = c.falls s h l in
      ⊎_elim (λ (r : t ≡ s). subst (λ (x : ℕ). on (parent_of ns) (scope_node_of ss x) i ≡ true) (sym r) (and_left_lem (on (parent_of ns) (scope_node_of ss s) i) (chain_on ns ss (scope_parent_of ss s) i) u))
      (λ w. chain_by f (scope_parent_of ss s) t i (omega arith) (omega arith) (and_right_lem (on (parent_of ns) (scope_node_of ss s) i) (chain_on ns ss (scope_parent_of ss s) i) u) w.1)
      (on_cases (scope_parent_of ss) (count_scopes ss) c.falls t s l o))
      (eq-or-lt_of_le (omega arith))

  pub scoped_of : first (misscoped_at ns ss) 0 (count ns) ≡ None → Scoped ns ss
  unfolding misscoped_at
  scoped_of e = record {
    scope = scope;
    own = λ i l k. leb-false (count_scopes ss) (extra_of ns i) (rw (eq-eqb (kind_of ns i) 26 k) at (fine i l).1);
    chain = λ i l t o. chain_by (scope_of ns i) (scope_of ns i) t i (omega arith) (scope i l) (not-false (chain_on ns ss (scope_of ns i) i) (fine i l).2) o;
  }
    where
      fine : (i : ℕ) → i < count ns →
          (leb (count_scopes ss) (scope_of ns i) ≡ false) × ((eqb (kind_of ns i) 26 && leb (count_scopes ss) (extra_of ns i)) ≡ false) × (not (chain_on ns ss (scope_of ns i) i) ≡ false)
      fine i l =
          or3 (leb (count_scopes ss) (scope_of ns i)) (eqb (kind_of ns i) 26 && leb (count_scopes ss) (extra_of ns i)) (not (chain_on ns ss (scope_of ns i) i))
          (first_none (misscoped_at ns ss) (count ns) 0 e i (omega arith) l)

      scope : (i : ℕ) → i < count ns → scope_of ns i < count_scopes ss
      scope i l = leb-false (count_scopes ss) (scope_of ns i) (fine i l).0

-- where the lowest place from i on is the lowest of all, the test says false below i
before : (p : ℕ → Bool) (i n : ℕ) → first p i n ≡ first p 0 n → (j : ℕ) → j < i → j < n → p j ≡ false
before p i n e j a l = go (first p 0 n) refl
  where
    go : (r : Option ℕ) → first p 0 n ≡ r → p j ≡ false
    go None q = first_none p n 0 q j (omega arith) l
    go (Some k) q = let w = first_here_lem p n i k (e ∙ q) in let from = w.from in (first_here_lem p n 0 k q).lower j (omega arith) (omega arith)

-- a node that stands in its parent's scope, where that fits the parent
all_more : (p q : ℕ → Bool) → ((t : ℕ) → p t ≡ true → q t ≡ true) → (l : List ℕ) → all p l ≡ true → all q l ≡ true
all_more p q h [] e = refl
all_more p q h (t ∷ l) e = rw (h t (and_left_lem (p t) (all p l) e), all_more p q h l (and_right_lem (p t) (all p l) e))

module _ (ns ss : List ℕ) (t : Tree ns) (i : ℕ) (l : i < count ns) where
  pub chain_below : 0 < i → (s : ℕ) → chain_on ns ss s (parent_of ns i) ≡ true → chain_on ns ss s i ≡ true
  unfolding chain_on on
  chain_below h s e =
      all_more (λ x. on (parent_of ns) (scope_node_of ss x) (parent_of ns i)) (λ x. on (parent_of ns) (scope_node_of ss x) i)
      (λ x. on_step (parent_of ns) (count ns) t.falls (scope_node_of ss x) i h l)
      (s ∷ outer ss s) e

  fits : shares_scope ns i ≡ true → misscoped_at ns ss (parent_of ns i) ≡ false → misscoped_at ns ss i ≡ false
  unfolding shares_scope misscoped_at
  fits e d =
      let w = and_right_lem (ltb 0 i) _ e in
      let apart = not-true (eqb (kind_of ns i) 26) (and_left_lem (not (eqb (kind_of ns i) 26)) _ w) in
      let same = eqb-true (scope_of ns i) (scope_of ns (parent_of ns i)) (and_right_lem (not (eqb (kind_of ns i) 26)) _ w) in
      let u = or3 (leb (count_scopes ss) (scope_of ns (parent_of ns i))) (eqb (kind_of ns (parent_of ns i)) 26 && leb (count_scopes ss) (extra_of ns (parent_of ns i))) (not (chain_on ns ss (scope_of ns (parent_of ns i)) (parent_of ns i))) d in
      let above = not-false (chain_on ns ss (scope_of ns (parent_of ns i)) (parent_of ns i)) u.2 in
      let here = chain_below (ltb-true 0 i (and_left_lem (ltb 0 i) _ e)) (scope_of ns (parent_of ns i)) above in
      rw (same, u.0, apart, here)

  pub shares_fits : shares_scope ns i ≡ true → first (misscoped_at ns ss) i (count ns) ≡ first (misscoped_at ns ss) 0 (count ns) → misscoped_at ns ss i ≡ false
  unfolding shares_scope
  shares_fits e d =
      let f = t.falls i (ltb-true 0 i (and_left_lem (ltb 0 i) _ e)) l in
      fits e (before (misscoped_at ns ss) i (count ns) d (parent_of ns i) f (omega (arith, f)))
