-- Laws of "a is i or above i".
use Rattle.std.specs.Prelude.{ℕ, zero, suc, ◌≤◌, ◌<◌, ◌≡◌, refl, Bool, true, false, ◌||◌, ◌⊎◌, eqb}
use Rattle.std.proofs.Common.{sym, subst, ◌∙◌, inl, inr, ⊎_elim, arith, eq-eqb, ne_eqb, eqb-true}
use Rattle.base_walk.specs.Above.{above, Falls}
use Rattle.base_walk.proofs.AboveLaws.{above_up, above_root}
use Rattle.base_walk.specs.On.{member, on}

pub on_self : (up : ℕ → ℕ) (i : ℕ) → on up i i ≡ true
unfolding on
on_self up i = rw (eq-eqb i i refl)

pub on_root : (up : ℕ → ℕ) (a : ℕ) → on up a 0 ≡ eqb a 0
unfolding on
on_root up a = go (eqb a 0) refl
  where
    go : (x : Bool) → eqb a 0 ≡ x → (eqb a 0 || member a (above up 0)) ≡ eqb a 0
    go true e = rw e
    go false e = rw (e, above_root up)

module _ (up : ℕ → ℕ) (n : ℕ) (t : Falls up n) where
  pub on_up : (a i : ℕ) → 0 < i → i < n → on up a i ≡ (eqb a i || on up a (up i))
  unfolding on
  on_up a i h hc = rw (above_up up n t i h hc)

  pub on_step : (a i : ℕ) → 0 < i → i < n → on up a (up i) ≡ true → on up a i ≡ true
  on_step a i h hc e = on_up a i h hc ∙ go (eqb a i)
    where
      go : (x : Bool) → (x || on up a (up i)) ≡ true
      go true = refl
      go false = e

  pub on_miss : (a i : ℕ) → 0 < i → i < n → (a ≡ i → ⊥) → on up a i ≡ on up a (up i)
  on_miss a i h hc e = on_up a i h hc ∙ rw (ne_eqb a i e)

  -- a is i, or i has something above it, and a is on the way up from there
  pub on_cases : (a i : ℕ) → i < n → on up a i ≡ true → (a ≡ i) ⊎ ((0 < i) × (on up a (up i) ≡ true))
  on_cases a zero hc e = inl (eqb-true a 0 (sym (on_root up a) ∙ e))
  on_cases a (suc i) hc e = go (eqb a (suc i)) refl (sym (on_up a (suc i) (omega arith) hc) ∙ e)
    where
      go : (x : Bool) → eqb a (suc i) ≡ x → (eqb a (suc i) || on up a (up (suc i))) ≡ true → (a ≡ suc i) ⊎ ((0 < suc i) × (on up a (up (suc i)) ≡ true))
      go true q e = inl (eqb-true a (suc i) q)
      go false q e = inr (omega arith, rw q at e)

  on_le_by : (f a i : ℕ) → i ≤ f → i < n → on up a i ≡ true → a ≤ i
  on_le_by zero a i hf hc e = ⊎_elim (λ q. omega arith) (λ w. absurd (omega arith)) (on_cases a i hc e)
  on_le_by (suc f) a i hf hc e =
      ⊎_elim (λ q. omega arith)
      (λ w.
      let p = t i w.0 hc in
      omega (arith, on_le_by f a (up i) (omega arith) (omega arith) w.1))
      (on_cases a i hc e)

  -- what is above is smaller
  pub on_le : (a i : ℕ) → i < n → on up a i ≡ true → a ≤ i
  on_le a i hc e = on_le_by i a i (omega arith) hc e

  on_trans_by : (f a b i : ℕ) → i ≤ f → i < n → on up a b ≡ true → on up b i ≡ true → on up a i ≡ true
  on_trans_by zero a b i hf hc e d = ⊎_elim (λ (q : b ≡ i). subst (λ (x : ℕ). on up a x ≡ true) q e) (λ w. absurd (omega arith)) (on_cases b i hc d)
  on_trans_by (suc f) a b i hf hc e d =
      ⊎_elim (λ (q : b ≡ i). subst (λ (x : ℕ). on up a x ≡ true) q e)
      (λ w.
      let p = t i w.0 hc in
      on_step a i w.0 hc (on_trans_by f a b (up i) (omega arith) (omega arith) e w.1))
      (on_cases b i hc d)

  pub on_trans : (a b i : ℕ) → i < n → on up a b ≡ true → on up b i ≡ true → on up a i ≡ true
  on_trans a b i hc e d = on_trans_by i a b i (omega arith) hc e d

  on_linear_by : (f a b i : ℕ) → i ≤ f → i < n → on up a i ≡ true → on up b i ≡ true → a ≤ b → on up a b ≡ true
  on_linear_by zero a b i hf hc e d l = ⊎_elim (λ (q : b ≡ i). subst (λ (x : ℕ). on up a x ≡ true) (sym q) e) (λ w. absurd (omega arith)) (on_cases b i hc d)
  on_linear_by (suc f) a b i hf hc e d l =
      ⊎_elim (λ (q : b ≡ i). subst (λ (x : ℕ). on up a x ≡ true) (sym q) e)
      (λ w.
      let p = t i w.0 hc in
      let s = on_le b (up i) (omega arith) w.1 in
      ⊎_elim (λ (q : a ≡ i). absurd (omega arith))
      (λ v. on_linear_by f a b (up i) (omega arith) (omega arith) v.1 w.1 l)
      (on_cases a i hc e))
      (on_cases b i hc d)

  -- of two that are above one, the smaller is above the larger
  pub on_linear : (a b i : ℕ) → i < n → on up a i ≡ true → on up b i ≡ true → a ≤ b → on up a b ≡ true
  on_linear a b i hc e d l = on_linear_by i a b i (omega arith) hc e d l
