-- Laws of the numbers from i up to n, in a loop's own words, i + 1; of folds over them, and of a test of each.
use Rattle.std.specs.Prelude.{ℕ, zero, suc, ◌+◌, ◌-◌, ◌≤◌, ◌<◌, ◌≡◌, refl, Bool, true, false, ◌&&◌}
use Rattle.std.proofs.Common.{ap, subst, ◌∙◌, ⊎_elim, add-zero, eq-or-lt_of_le, add-one, arith}
use mathlib.Core.List.{List, [], ◌∷◌, ◌++◌, foldr}
use Rattle.base_common.specs.Upto.{range, upto, all}

pub upto_nil : (i n : ℕ) → n ≤ i → upto i n ≡ []
unfolding upto range
upto_nil i n h =
    let e : n - i ≡ 0 = omega arith in
    rw e

pub upto_cons : (i n : ℕ) → i < n → upto i n ≡ i ∷ upto (i + 1) n
unfolding upto range
upto_cons i n h =
    let e : n - i ≡ suc (n - (i + 1)) = omega arith in
    rw (e, add-one)

range_snoc : (i k : ℕ) → range i (suc k) ≡ range i k ++ (i + k) ∷ []
unfolding range
range_snoc i zero = rw add-zero
range_snoc i (suc k) =
    let e : i + suc k ≡ suc i + k = omega arith in
    rw e (ap (λ (l : List ℕ). i ∷ l) (range_snoc (suc i) k))

pub upto_snoc : (i n : ℕ) → i ≤ n → upto i (n + 1) ≡ upto i n ++ n ∷ []
unfolding upto
upto_snoc i n h =
    let e : n + 1 - i ≡ suc (n - i) = omega arith in
    let g : i + (n - i) ≡ n = omega arith in
    rw e (range_snoc i (n - i) ∙ rw g)

-- a fold over the numbers from i: one turn, and the end
module _ {R : Type 0} (f : ℕ → R → R) (d : R) (i n : ℕ) where
  pub fold_turn : i < n → foldr f d (upto i n) ≡ f i (foldr f d (upto (i + 1) n))
  fold_turn h = ap (foldr f d) (upto_cons i n h)

  pub fold_end : n ≤ i → foldr f d (upto i n) ≡ d
  fold_end h = ap (foldr f d) (upto_nil i n h)

pub and_left_lem : (a b : Bool) → (a && b) ≡ true → a ≡ true
and_left_lem true b e = refl
and_left_lem false b e = e

pub and_right_lem : (a b : Bool) → (a && b) ≡ true → b ≡ true
and_right_lem true b e = e
and_right_lem false b e = let z : ◌≡◌ {A = ℕ} 0 1 = cc in absurd (omega arith)

-- what a test of every number from i to n says of each
all_range : (p : ℕ → Bool) (i k : ℕ) → all p (range i k) ≡ true → (j : ℕ) → i ≤ j → j < i + k → p j ≡ true
unfolding range
all_range p i zero e j h l = absurd (omega arith)
all_range p i (suc k) e j h l =
    ⊎_elim (λ q. subst (λ (x : ℕ). p x ≡ true) q (and_left_lem (p i) (all p (range (suc i) k)) e))
    (λ lt. all_range p (suc i) k (and_right_lem (p i) (all p (range (suc i) k)) e) j lt (omega arith)) (eq-or-lt_of_le h)

pub all_upto : (p : ℕ → Bool) (i n : ℕ) → all p (upto i n) ≡ true → (j : ℕ) → i ≤ j → j < n → p j ≡ true
unfolding upto
all_upto p i n e j h l = all_range p i (n - i) e j h (omega arith)
