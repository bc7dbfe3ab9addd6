-- Numbers in preorder.
use Rattle.std.specs.Prelude.{ℕ, ◌-◌, ◌<◌, ◌≡◌, true}
use Rattle.base_walk.specs.On.{on}

-- each number below n but 0 has its parent on the way up from the number before it
abbrev pub Preorder : (ℕ → ℕ) → ℕ → Type 0
Preorder up n = (i : ℕ) → 0 < i → i < n → on up (up i) (i - 1) ≡ true
