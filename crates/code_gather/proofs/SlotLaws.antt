-- Laws of slots.
use Prim.Native.Nat.{ℕ, ◌+◌, ◌*◌, ◌<◌}
use Rattle.std.specs.Prelude.{◌≡◌}
use Rattle.std.proofs.Math.Path.{ap}
use Rattle.std.proofs.Common.{◌∙◌}
use mathlib.Core.List.{List}
use Rattle.std.proofs.Math.ListN.{get_or}
use native.Mathlib.Omega.{arith}
use Rattle.std.proofs.Math.Decide.{dec_lt}

-- One slot more that doesn't say t.
pub none_more : (f : List ℕ) (block t n at : ℕ) → at ≡ block + 3 * n → ((j : ℕ) → j < n → get_or f (block + 3 * j) 0 ≡ t → ⊥) → (get_or f at 0 ≡ t → ⊥)
    → (j : ℕ) → j < n + 1 → get_or f (block + 3 * j) 0 ≡ t → ⊥
none_more f block t n at e h k j l = go (dec_lt j n)
  where
    go : Dec (j < n) → get_or f (block + 3 * j) 0 ≡ t → ⊥
    go (yes m) = h j m
    go (no m) = let z : at ≡ block + 3 * j = omega arith in λ q. k (ap (λ x. get_or f x 0) z ∙ q)
