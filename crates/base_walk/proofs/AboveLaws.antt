-- Laws of what lies above a number: one step up, the root, and folds over it.
use Prim.Native.Nat.{ℕ, zero, suc, ◌≤◌, ◌<◌}
use Rattle.std.specs.Prelude.{◌≡◌}
use Rattle.std.proofs.Math.Path.{refl, ap}
use mathlib.Core.List.{List, [], ◌∷◌, foldr}
use Rattle.std.proofs.Common.{arith}
use Rattle.base_walk.specs.Above.{climb, above, Falls}

module _ (up : ℕ → ℕ) (n : ℕ) (t : Falls up n) where
  -- more steps than are needed change nothing
  climb_more_lem : (f g i : ℕ) → i ≤ f → i ≤ g → i < n → climb up f i ≡ climb up g i
  unfolding climb
  climb_more_lem zero zero i hf hg hc = refl
  climb_more_lem zero (suc g) zero hf hg hc = refl
  climb_more_lem zero (suc g) (suc i) hf hg hc = absurd (omega arith)
  climb_more_lem (suc f) zero zero hf hg hc = refl
  climb_more_lem (suc f) zero (suc i) hf hg hc = absurd (omega arith)
  climb_more_lem (suc f) (suc g) zero hf hg hc = refl
  climb_more_lem (suc f) (suc g) (suc i) hf hg hc =
      let p = t (suc i) (omega arith) hc in
      ap (λ (l : List ℕ). up (suc i) ∷ l) (climb_more_lem f g (up (suc i)) (omega arith) (omega arith) (omega arith))

  pub above_up : (i : ℕ) → 0 < i → i < n → above up i ≡ up i ∷ above up (up i)
  unfolding above climb
  above_up zero h hc = absurd (omega arith)
  above_up (suc i) h hc =
      let p = t (suc i) h hc in
      ap (λ (l : List ℕ). up (suc i) ∷ l) (climb_more_lem i (up (suc i)) (up (suc i)) (omega arith) (omega arith) (omega arith))

pub above_root : (up : ℕ → ℕ) → above up 0 ≡ []
unfolding above climb
above_root up = refl

-- a fold over what is above: one turn up, and the root
module _ {R : Type 0} (f : ℕ → R → R) (d : R) (up : ℕ → ℕ) where
  pub fold_up : (n : ℕ) → Falls up n → (i : ℕ) → 0 < i → i < n → foldr f d (above up i) ≡ f (up i) (foldr f d (above up (up i)))
  fold_up n t i h hc = ap (foldr f d) (above_up up n t i h hc)

  pub fold_root : foldr f d (above up 0) ≡ d
  fold_root = ap (foldr f d) (above_root up)
