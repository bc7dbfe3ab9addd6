-- "a is i or above i", as a test.
use Rattle.std.specs.Prelude.{ℕ, List, ◌∷◌, Bool, eqb}
use Rattle.base_common.specs.Upto.{any}
use Rattle.base_walk.specs.Above.{above}

-- a is a member of the list
abbrev pub member : ℕ → List ℕ → Bool
member a l = any (λ b. eqb a b) l

-- a is i, or above i
unfoldable pub on : (ℕ → ℕ) → ℕ → ℕ → Bool
on up a i = member a (i ∷ above up i)
