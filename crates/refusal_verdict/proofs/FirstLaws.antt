-- Laws of the lowest place, as a loop and `find` meet it.
use Rattle.std.specs.Prelude.{ℕ, zero, suc, ◌+◌, ◌≤◌, ◌<◌, ◌≡◌, refl, Bool, true, false, ◌⊎◌, leb, Option, Some, None, List, MatchOption, ⊤}
use Rattle.std.specs.Fn.{CalledAt}
use Rattle.std.specs.Iterator.{YieldsThen}
use Rattle.std.specs.List.{FoldsTo}
use Rattle.std.specs.declared.ops.Range.{Range}
use Rattle.std.proofs.iter.Yields.{nat_range_steps}
use Rattle.std.proofs.lemmas.Iterator.{first_from_Range}
use denote.Param.Members.{Mut}
use denote.Ref.{Bor}
use Rattle.std.proofs.Common.{ap, sym, subst, ◌∙◌, inl, inr, ⊎_elim, leb-true, leb-false, eq-or-lt_of_le, arith}
use Rattle.base_common.proofs.UptoLaws.{fold_turn, fold_end}
use Rattle.base_common.proofs.Bools.{never}
use Rattle.refusal_verdict.specs.First.{first, Lowest}

module _ (p : ℕ → Bool) (i n : ℕ) where
  pub first_on : i < n → p i ≡ false → first p i n ≡ first p (i + 1) n
  unfolding first
  first_on h e = fold_turn _ _ i n h ∙ rw e

  pub first_stop : i < n → p i ≡ true → first p i n ≡ Some i
  unfolding first
  first_stop h e = fold_turn _ _ i n h ∙ rw e

  pub first_end : n ≤ i → first p i n ≡ None
  unfolding first
  first_end h = fold_end _ _ i n h

pub le_or_lt : (a b : ℕ) → (a ≤ b) ⊎ (b < a)
le_or_lt a b = go (leb a b) refl
  where
    go : (x : Bool) → leb a b ≡ x → (a ≤ b) ⊎ (b < a)
    go true e = inl (leb-true a b e)
    go false e = inr (leb-false a b e)

module _ (p : ℕ → Bool) (n : ℕ) where
  none_by : (f i : ℕ) → n ≤ i + f → first p i n ≡ None → (j : ℕ) → i ≤ j → j < n → p j ≡ false
  none_by zero i hf e j l h = absurd (omega arith)
  none_by (suc f) i hf e j l h =
      go (p i) refl (λ x. none_by f (i + 1) (omega arith) (sym (first_on p i n (omega arith) x) ∙ e) j)
    where
      go : (x : Bool) → p i ≡ x → (p i ≡ false → i + 1 ≤ j → j < n → p j ≡ false) → p j ≡ false
      go true q r = let s : Some i ≡ None = sym (first_stop p i n (omega arith) q) ∙ e in let z : ◌≡◌ {A = ℕ} 0 1 = cc in absurd (omega arith)
      go false q r = ⊎_elim (λ (u : i ≡ j). subst (λ (x : ℕ). p x ≡ false) u q) (λ (u : i < j). r q (omega arith) h) (eq-or-lt_of_le l)

  -- no place: the test says false everywhere
  pub first_none : (i : ℕ) → first p i n ≡ None → (j : ℕ) → i ≤ j → j < n → p j ≡ false
  first_none i e j l h = none_by n i (omega arith) e j l h

  here_by : (f i k : ℕ) → n ≤ i + f → first p i n ≡ Some k → Lowest p i n k
  here_by zero i k hf e = let s : Some k ≡ None = sym e ∙ first_end p i n (omega arith) in let z : ◌≡◌ {A = ℕ} 0 1 = cc in absurd (omega arith)
  here_by (suc f) i k hf e = ⊎_elim (λ (h : n ≤ i). let s : Some k ≡ None = sym e ∙ first_end p i n h in let z : ◌≡◌ {A = ℕ} 0 1 = cc in absurd (omega arith))
      (λ (h : i < n). go h (p i) refl (λ x. here_by f (i + 1) k (omega arith) (sym (first_on p i n h x) ∙ e)))
      (le_or_lt n i)
    where
      go : i < n → (x : Bool) → p i ≡ x → (p i ≡ false → Lowest p (i + 1) n k) → Lowest p i n k
      go h true q r =
          let s : Some i ≡ Some k = sym (first_stop p i n h q) ∙ e in
          let u : i ≡ k = cc in
          record { from = omega arith; below = omega arith; holds = subst (λ (x : ℕ). p x ≡ true) u q; lower = λ j a b. absurd (omega arith) }
      go h false q r =
          let w = r q in
          let a = w.from in
          record {
            from = omega arith;
            below = w.below;
            holds = w.holds;
            lower = λ j l m. ⊎_elim (λ (u : i ≡ j). subst (λ (x : ℕ). p x ≡ false) u q) (λ (u : i < j). w.lower j (omega arith) m) (eq-or-lt_of_le l);
          }

  -- a place: the lowest at which the test holds
  pub first_here_lem : (i k : ℕ) → first p i n ≡ Some k → Lowest p i n k
  first_here_lem i k e = here_by n i k (omega arith) e

  -- the test says false everywhere: no place
  pub first_nowhere : (i : ℕ) → ((j : ℕ) → i ≤ j → j < n → p j ≡ false) → first p i n ≡ None
  first_nowhere i f = go (first p i n) refl
    where
      go : (r : Option ℕ) → first p i n ≡ r → r ≡ None
      go (Some k) e = let w = first_here_lem i k e in never (sym w.holds ∙ f k w.from w.below)
      go None e = refl

  -- .. which is the one that is given
  pub first_at : (i k : ℕ) → Lowest p i n k → first p i n ≡ Some k
  first_at i k w = go (first p i n) refl
    where
      go : (r : Option ℕ) → first p i n ≡ r → r ≡ Some k
      go (Some j) e =
          let v = first_here_lem i j e in
          let a = v.from in
          let b = w.from in
          ⊎_elim (λ (h : j ≤ k). ⊎_elim (λ (u : j ≡ k). ap Some u) (λ (u : j < k). never (sym v.holds ∙ w.lower j a u)) (eq-or-lt_of_le h))
          (λ (h : k < j). never (sym w.holds ∙ v.lower k b h)) (le_or_lt j k)
      go None e = never (sym w.holds ∙ first_none i e k w.from w.below)

-- `find` over a range gives the lowest place: where the closure says true the test does, and where it says false, and stays as it was, the test does
pub first_found : {F : Type 0} {g : Mut F (Bor ℕ × Unit {0}) Bool} (p : ℕ → Bool) (s u : Range ℕ) (f : F) (r : Option ℕ)
    → (xs : List ℕ) × (j : F) × YieldsThen nat_range_steps s xs r u × FoldsTo (λ p x q. CalledAt g p x false q) f xs j × MatchOption r ⊤ (λ x. (h : F) × CalledAt g j x true h)
    → ((x : ℕ) (q : F) → CalledAt g f x true q → p x ≡ true) → ((x : ℕ) (q : F) → CalledAt g f x false q → (q ≡ f) × (p x ≡ false)) → r ≡ first p s.start s.end
first_found p s u f r ran on off = by r (first_from_Range s u f r (λ x. p x ≡ true) (λ x. p x ≡ false) ran on off)
  where
    by : (r : Option ℕ) → MatchOption r ((k : ℕ) → s.start ≤ k → k < s.end → p k ≡ false) (λ i. (s.start ≤ i) × (i < s.end) × (p i ≡ true) × ((k : ℕ) → s.start ≤ k → k < i → p k ≡ false)) → r ≡ first p s.start s.end
    by (Some i) h = sym (first_at p s.end s.start i (record { from = h.0; below = h.1; holds = h.2; lower = h.3 }))
    by None h = sym (first_nowhere p s.end s.start h)
