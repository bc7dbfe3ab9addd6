-- The lowest place at which a test says true.
use Rattle.std.specs.Prelude.{ℕ, ◌≤◌, ◌<◌, ◌≡◌, Bool, true, false, cond, Option, Some, None}
use mathlib.Core.List.{foldr}
use Rattle.base_common.specs.Upto.{upto}

-- the lowest place from i up to n at which p says true
unfoldable pub first : (ℕ → Bool) → ℕ → ℕ → Option ℕ
first p i n = foldr (λ k r. cond (p k) (Some k) r) None (upto i n)

-- the place that is given is in range, the test holds there, and at no lower place
pub record Lowest (p : ℕ → Bool) (i n k : ℕ) : Type 0 where
  pub from : i ≤ k
  pub below : k < n
  pub holds : p k ≡ true
  pub lower : (j : ℕ) → i ≤ j → j < k → p j ≡ false
