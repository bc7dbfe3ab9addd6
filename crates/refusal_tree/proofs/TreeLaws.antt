-- Laws of depths, and what is known where refusal 3 does not apply.
use Rattle.std.specs.Prelude.{ℕ, ◌+◌, ◌-◌, ◌≤◌, ◌<◌, ◌≡◌, List, Bool, not, ◌||◌, eqb, ltb, length, None, Some}
use Rattle.std.proofs.Math.Path.{refl, sym, subst}
use Rattle.std.proofs.Common.{ap, ◌∙◌, ⊎_elim, eq-or-lt_of_le, add-one, arith}
use Rattle.std.proofs.Math.Bool.{true, false, cond}
use borrow.Author.Tests.{eq-eqb, ne_eqb, lt-ltb, le-ltb, eqb-true, eqb-false, ltb-false}
use Rattle.base_walk.specs.Above.{Falls}
use Rattle.base_walk.proofs.AboveLaws.{above_up, above_root}
use Rattle.base_walk.specs.On.{on}
use Rattle.base_walk.proofs.OnLaws.{on_self, on_le}
use Rattle.base_walk.specs.Preorder.{Preorder}
use Rattle.base_walk.proofs.PreorderLaws.{falls}
use Rattle.table_records.specs.Table.{kind_of, parent_of, count, depth_of, IsTableSize}
use Rattle.table_records.specs.Facts.{Tree}
use Rattle.refusal_verdict.specs.First.{first}
use Rattle.refusal_verdict.proofs.FirstLaws.{first_none}
use Rattle.refusal_tree.specs.Tree.{misplaced_at, depth_from, depth_if}

module _ (ns : List ℕ) where
  pub depth_root : depth_of ns 0 ≡ 0
  depth_root = ap length (above_root (parent_of ns))

  pub depth_up : (n : ℕ) → Falls (parent_of ns) n → (i : ℕ) → 0 < i → i < n → depth_of ns i ≡ depth_of ns (parent_of ns i) + 1
  depth_up n t i h hc = ap length (above_up (parent_of ns) n t i h hc) ∙ sym (add-one (depth_of ns (parent_of ns i)))

  pub from_hit : (at p a : ℕ) → on (parent_of ns) p a ≡ on (parent_of ns) p at → a ≡ p → depth_from ns at p ≡ Some (depth_of ns a)
  unfolding depth_from
  from_hit at p a e q =
      let h : on (parent_of ns) p at ≡ true = sym e ∙ subst (λ (x : ℕ). on (parent_of ns) p x ≡ true) (sym q) (on_self (parent_of ns) p) in
      rw (h, q)

  -- p is neither a node below it nor above that
  pub on_low : (n p a : ℕ) → Falls (parent_of ns) n → a < n → a < p → on (parent_of ns) p a ≡ false
  on_low n p a t hc l = go (on (parent_of ns) p a) refl
    where
      go : (x : Bool) → on (parent_of ns) p a ≡ x → on (parent_of ns) p a ≡ false
      go true h = absurd (omega (arith, on_le (parent_of ns) n t p a hc h))
      go false h = h

  pub from_none : (at p : ℕ) → on (parent_of ns) p at ≡ false → depth_from ns at p ≡ None
  unfolding depth_from
  from_none at p h = rw h

  pub from_miss : (n at p a : ℕ) → Falls (parent_of ns) n → a < n → on (parent_of ns) p a ≡ on (parent_of ns) p at → a < p → depth_from ns at p ≡ None
  from_miss n at p a t hc e l = from_none at p (sym e ∙ on_low n p a t hc l)

-- two answers are no number
of_off : {A : Type 0} → (d : ℕ) → Some d ≡ None → A
of_off d e = let z : ◌≡◌ {A = ℕ} 0 1 = cc in absurd (omega arith)

module _ (ns : List ℕ) where
  from_of : (at p d : ℕ) → depth_from ns at p ≡ Some d → (on (parent_of ns) p at ≡ true) × (depth_of ns p ≡ d)
  unfolding depth_from
  from_of at p d e = go (on (parent_of ns) p at) refl e
    where
      go : (x : Bool) → on (parent_of ns) p at ≡ x → cond x (Some (depth_of ns p)) None ≡ Some d → (on (parent_of ns) p at ≡ true) × (depth_of ns p ≡ d)
      go true h e = (h, cc)
      go false h e = of_off d (sym e)

  from_off : (at p : ℕ) → depth_from ns at p ≡ None → on (parent_of ns) p at ≡ false
  unfolding depth_from
  from_off at p e = go (on (parent_of ns) p at) refl e
    where
      go : (x : Bool) → on (parent_of ns) p at ≡ x → cond x (Some (depth_of ns p)) None ≡ None → on (parent_of ns) p at ≡ false
      go true h e = of_off (depth_of ns p) e
      go false h e = h

  pub falls_more : (i : ℕ) → Falls (parent_of ns) i → 0 < i → on (parent_of ns) (parent_of ns i) (i - 1) ≡ true → Falls (parent_of ns) (i + 1)
  falls_more i t h e j l k =
      ⊎_elim (λ (q : j ≡ i). subst (λ (x : ℕ). parent_of ns x < x) (sym q) (omega (arith, on_le (parent_of ns) i t (parent_of ns i) (i - 1) (omega arith) e)))
      (λ (q : j < i). t j l q) (eq-or-lt_of_le (omega arith))

  -- the test at a node but the first, with its parts named
  later : (i : ℕ) → 0 < i → (k m d : Bool) → eqb (kind_of ns i) 0 ≡ k → on (parent_of ns) (parent_of ns i) (i - 1) ≡ m → ltb 512 (depth_of ns i) ≡ d
      → misplaced_at ns i ≡ (k || (not m || d))
  unfolding misplaced_at on
  later i h k m d ek em ed = rw (ne_eqb i 0 (λ q. omega arith), ek, em, ed)

  module _ (i : ℕ) (h : 0 < i) where
    if_program : kind_of ns i ≡ 0 → misplaced_at ns i ≡ true
    if_program e = later i h true _ _ (eq-eqb _ _ e) refl refl

    if_stray : (kind_of ns i ≡ 0 → ⊥) → on (parent_of ns) (parent_of ns i) (i - 1) ≡ false → misplaced_at ns i ≡ true
    if_stray n e = later i h false false _ (ne_eqb _ _ n) e refl

    if_on : (kind_of ns i ≡ 0 → ⊥) → on (parent_of ns) (parent_of ns i) (i - 1) ≡ true → misplaced_at ns i ≡ ltb 512 (depth_of ns i)
    if_on n e = later i h false true _ (ne_eqb _ _ n) e refl

    pub at_program : kind_of ns i ≡ 0 → depth_if ns i ≡ None
    unfolding depth_if
    at_program e = rw (if_program e)

    pub at_stray : (kind_of ns i ≡ 0 → ⊥) → depth_from ns (i - 1) (parent_of ns i) ≡ None → depth_if ns i ≡ None
    unfolding depth_if
    at_stray n e = rw (if_stray n (from_off (i - 1) (parent_of ns i) e))

    module _ (t : Falls (parent_of ns) i) (n : kind_of ns i ≡ 0 → ⊥) (d : ℕ) (e : depth_from ns (i - 1) (parent_of ns i) ≡ Some d) where
      depth_here : depth_of ns i ≡ d + 1
      depth_here =
          let w = from_of (i - 1) (parent_of ns i) d e in
          depth_up ns (i + 1) (falls_more i t h w.0) i h (omega arith) ∙ ap (λ (x : ℕ). x + 1) w.1

      pub at_deep : 511 < d → depth_if ns i ≡ None
      unfolding depth_if
      at_deep l =
          let w = from_of (i - 1) (parent_of ns i) d e in
          let x = depth_here in
          rw (if_on n w.0 ∙ lt-ltb 512 (depth_of ns i) (omega arith))

      pub at_fine : d ≤ 511 → depth_if ns i ≡ Some (d + 1)
      unfolding depth_if
      at_fine l =
          let w = from_of (i - 1) (parent_of ns i) d e in
          let x = depth_here in
          rw (if_on n w.0 ∙ le-ltb 512 (depth_of ns i) (omega arith), x)

  pub if_off : (i : ℕ) → depth_if ns i ≡ None → misplaced_at ns i ≡ true
  unfolding depth_if
  if_off i e = go (misplaced_at ns i) e
    where
      go : (x : Bool) → cond x None (Some (depth_of ns i)) ≡ None → x ≡ true
      go true e = refl
      go false e = of_off (depth_of ns i) e

  pub if_of_lem : (i d : ℕ) → depth_if ns i ≡ Some d → (misplaced_at ns i ≡ false) × (depth_of ns i ≡ d)
  unfolding depth_if
  if_of_lem i d e = go (misplaced_at ns i) e
    where
      go : (x : Bool) → cond x None (Some (depth_of ns i)) ≡ Some d → (x ≡ false) × (depth_of ns i ≡ d)
      go true e = of_off d (sym e)
      go false e = (refl, cc)

  pub root_kind_lem : (kind_of ns 0 ≡ 0 → ⊥) → misplaced_at ns 0 ≡ true
  unfolding misplaced_at
  root_kind_lem n = rw (ne_eqb (kind_of ns 0) 0 n)

  pub root_parent : kind_of ns 0 ≡ 0 → (parent_of ns 0 ≡ 0 → ⊥) → misplaced_at ns 0 ≡ true
  unfolding misplaced_at
  root_parent e n = rw (eq-eqb (kind_of ns 0) 0 e, ne_eqb (parent_of ns 0) 0 n)

  pub root_fine : kind_of ns 0 ≡ 0 → parent_of ns 0 ≡ 0 → misplaced_at ns 0 ≡ false
  unfolding misplaced_at
  root_fine e f = rw (eq-eqb (kind_of ns 0) 0 e, eq-eqb (parent_of ns 0) 0 f)

root_known : (ns : List ℕ) → misplaced_at ns 0 ≡ false → (kind_of ns 0 ≡ 0) × (parent_of ns 0 ≡ 0)
root_known ns e = go (eqb (kind_of ns 0) 0) (eqb (parent_of ns 0) 0) refl refl
  where
    never : {A : Type 0} → true ≡ false → A
    never q = let z : ◌≡◌ {A = ℕ} 0 1 = cc in absurd (omega arith)

    go : (k p : Bool) → eqb (kind_of ns 0) 0 ≡ k → eqb (parent_of ns 0) 0 ≡ p → (kind_of ns 0 ≡ 0) × (parent_of ns 0 ≡ 0)
    go false p ek ep = never (sym (root_kind_lem ns (eqb-false (kind_of ns 0) 0 ek)) ∙ e)
    go true false ek ep = never (sym (root_parent ns (eqb-true (kind_of ns 0) 0 ek) (eqb-false (parent_of ns 0) 0 ep)) ∙ e)
    go true true ek ep = (eqb-true (kind_of ns 0) 0 ek, eqb-true (parent_of ns 0) 0 ep)

-- a node that is not out of place
module _ (ns : List ℕ) (i : ℕ) (h : 0 < i) (e : misplaced_at ns i ≡ false) where
  fine_parts : (eqb (kind_of ns i) 0 ≡ false) × (on (parent_of ns) (parent_of ns i) (i - 1) ≡ true) × (ltb 512 (depth_of ns i) ≡ false)
  fine_parts = go (eqb (kind_of ns i) 0) (on (parent_of ns) (parent_of ns i) (i - 1)) (ltb 512 (depth_of ns i)) refl refl refl
    where
      never : {A : Type 0} → true ≡ false → A
      never q = let z : ◌≡◌ {A = ℕ} 0 1 = cc in absurd (omega arith)

      go : (k m d : Bool) → eqb (kind_of ns i) 0 ≡ k → on (parent_of ns) (parent_of ns i) (i - 1) ≡ m → ltb 512 (depth_of ns i) ≡ d → (k ≡ false) × (m ≡ true) × (d ≡ false)
      go true m d ek em ed = never (sym (later ns i h true m d ek em ed) ∙ e)
      go false false d ek em ed = never (sym (later ns i h false false d ek em ed) ∙ e)
      go false true true ek em ed = never (sym (later ns i h false true true ek em ed) ∙ e)
      go false true false ek em ed = (refl, refl, refl)

  pub fine_on : on (parent_of ns) (parent_of ns i) (i - 1) ≡ true
  fine_on = fine_parts.1

  pub fine_kind : kind_of ns i ≡ 0 → ⊥
  fine_kind = eqb-false (kind_of ns i) 0 fine_parts.0

  pub fine_depth : depth_of ns i ≤ 512
  fine_depth = ltb-false 512 (depth_of ns i) fine_parts.2

-- no node is out of place: the facts
pub tree_of : (ns : List ℕ) → IsTableSize (count ns) → first (misplaced_at ns) 0 (count ns) ≡ None → Tree ns
tree_of ns s e = record {
  some = s.some;
  small = s.small;
  root = root_parts.0;
  top = root_parts.1;
  inner = λ i h l. fine_kind ns i h (fine i l);
  order = order;
  falls = falls (parent_of ns) (count ns) order;
  depth = λ i l. ⊎_elim (λ (q : 0 ≡ i). subst (λ (x : ℕ). depth_of ns x ≤ 512) q (omega (arith, depth_root ns))) (λ (h : 0 < i). fine_depth ns i h (fine i l)) (eq-or-lt_of_le (omega arith));
}
  where
    fine : (i : ℕ) → i < count ns → misplaced_at ns i ≡ false
    fine i l = first_none (misplaced_at ns) (count ns) 0 e i (omega arith) l

    order : Preorder (parent_of ns) (count ns)
    order i h l = fine_on ns i h (fine i l)

    root_parts : (kind_of ns 0 ≡ 0) × (parent_of ns 0 ≡ 0)
    root_parts = root_known ns (fine 0 s.some)
