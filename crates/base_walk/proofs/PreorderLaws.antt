-- Laws of numbers in preorder: a parent is smaller, and the numbers below one are an interval.
use Rattle.std.specs.Prelude.{ℕ, zero, suc, ◌+◌, ◌-◌, ◌≤◌, ◌<◌, ◌≡◌, refl, Bool, true, false, ◌⊎◌, ◌↔◌, ltb}
use Rattle.std.proofs.Common.{sym, subst, inl, inr, ⊎_elim, eq-or-lt_of_le, arith, ltb-true, ltb-false}
use Rattle.base_walk.specs.Above.{Falls}
use Rattle.base_walk.specs.On.{on}
use Rattle.base_walk.proofs.OnLaws.{on_self, on_step, on_cases, on_le, on_trans}
use Rattle.base_walk.specs.Preorder.{Preorder}

pub lt_or_ge : (a b : ℕ) → (a < b) ⊎ (b ≤ a)
lt_or_ge a b = go (ltb a b) refl
  where
    go : (x : Bool) → ltb a b ≡ x → (a < b) ⊎ (b ≤ a)
    go true e = inl (ltb-true a b e)
    go false e = inr (ltb-false a b e)

module _ (up : ℕ → ℕ) (n : ℕ) (o : Preorder up n) where
  falls_by : (m : ℕ) → m ≤ n → Falls up m
  falls_by zero h i l k = absurd (omega arith)
  falls_by (suc m) h i l k = omega (arith, on_le up m (falls_by m (omega arith)) (up i) (i - 1) (omega arith) (o i l (omega arith)))

  -- a parent is smaller
  pub falls : Falls up n
  falls = falls_by n (omega arith)

  -- what stands above j stands above each number between, itself included: THE NUMBERS BELOW p ARE AN INTERVAL FROM p ON
  interval_by : (f p i j : ℕ) → j ≤ i + f → j < n → on up p j ≡ true → p ≤ i → i ≤ j → on up p i ≡ true
  interval_by zero p i j hf hc e l k =
      let q : j ≡ i = omega arith in
      subst (λ (x : ℕ). on up p x ≡ true) q e
  interval_by (suc f) p i j hf hc e l k =
      ⊎_elim (λ (q : i ≡ j). subst (λ (x : ℕ). on up p x ≡ true) (sym q) e)
      (λ (m : i < j).
      ⊎_elim (λ (r : p ≡ j). absurd (omega arith))
      (λ w. interval_by f p i (j - 1) (omega arith) (omega arith)
      (on_trans up n falls p (up j) (j - 1) (omega arith) w.1 (o j w.0 hc)) l (omega arith))
      (on_cases up n falls p j hc e))
      (eq-or-lt_of_le k)

  pub interval : (p i j : ℕ) → j < n → on up p j ≡ true → p ≤ i → i ≤ j → on up p i ≡ true
  interval p i j hc e l k = interval_by j p i j (omega arith) hc e l k

  -- a child of p has p above each number between
  pub child_in : (p i j : ℕ) → 0 < j → j < n → up j ≡ p → p ≤ i → i ≤ j → on up p i ≡ true
  child_in p i j h hc q l k =
      interval p i j hc (on_step up n falls p j h hc (subst (λ (x : ℕ). on up p x ≡ true) (sym q) (on_self up p))) l k

  -- the first number after p whose parent is smaller than p is not below p ..
  pub leaves : (p k : ℕ) → p < k → k < n → up k < p → on up p k ≡ true → ⊥
  leaves p k l hc u e =
      ⊎_elim (λ (q : p ≡ k). omega arith)
      (λ w. let d = on_le up n falls p (up k) (omega arith) w.1 in omega arith)
      (on_cases up n falls p k hc e)

  -- .. and from there on p has no child
  pub no_child : (p k j : ℕ) → p < k → up k < p → k ≤ j → j < n → up j ≡ p → ⊥
  no_child p k j l u m hc q = leaves p k l (omega arith) u (child_in p k j (omega arith) hc q (omega arith) m)

  -- up to there, every number from p on is below p
  inside_by : (f p i : ℕ) → i ≤ p + f → p ≤ i → i < n → ((k : ℕ) → p < k → k ≤ i → p ≤ up k) → on up p i ≡ true
  inside_by zero p i hf l hc s = let q : p ≡ i = omega arith in subst (λ (x : ℕ). on up p x ≡ true) q (on_self up p)
  inside_by (suc f) p i hf l hc s =
      ⊎_elim (λ (q : p ≡ i). subst (λ (x : ℕ). on up p x ≡ true) q (on_self up p))
      (λ (m : p < i).
      let u = falls i (omega arith) hc in
      on_step up n falls p i (omega arith) hc
      (inside_by f p (up i) (omega arith) (s i m (omega arith)) (omega arith) (λ k a b. s k a (omega arith))))
      (eq-or-lt_of_le l)

  pub inside : (p i : ℕ) → p ≤ i → i < n → ((k : ℕ) → p < k → k ≤ i → p ≤ up k) → on up p i ≡ true
  inside p i l hc s = inside_by i p i (omega arith) l hc s

  -- ANCESTOR OR SELF BY INTERVAL: e is where the numbers below p end, the first number after p whose parent is smaller, or n
  pub on_interval : (p e : ℕ) → p < e → e ≤ n → ((k : ℕ) → p < k → k < e → p ≤ up k) → (e < n → up e < p)
      → (i : ℕ) → i < n → (on up p i ≡ true) ↔ ((p ≤ i) × (i < e))
  on_interval p e l m s x i hc = (to, from)
    where
      to : on up p i ≡ true → (p ≤ i) × (i < e)
      to r =
          let d = on_le up n falls p i hc r in
          (d, ⊎_elim (λ (q : i < e). q) (λ (q : e ≤ i). absurd (leaves p e l (omega arith) (x (omega arith)) (interval p e i hc r (omega arith) q))) (lt_or_ge i e))

      from : (p ≤ i) × (i < e) → on up p i ≡ true
      from w = inside p i w.0 hc (λ k a b. s k a (omega arith))
