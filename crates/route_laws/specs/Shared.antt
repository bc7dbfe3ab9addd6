-- "the length of the longest beginning that their routes share", for two lists of any kind.
use Rattle.std.specs.Prelude.{ℕ, suc, ◌≤◌, ◌≡◌, List, [], ◌∷◌, eqb, length, take}
use Rattle.route_completion.specs.Sem.{pick}

unfoldable pub shared : List ℕ → List ℕ → ℕ
shared [] ys = 0
shared (x ∷ xs) [] = 0
shared (x ∷ xs) (y ∷ ys) = pick (eqb x y) (suc (shared xs ys)) 0

-- What that sentence means of n, whichever way n is counted: both lists have n entries, their first n are equal, and no more first entries are.
pub record Longest (xs ys : List ℕ) (n : ℕ) : Type 0 where
  pub within : (n ≤ length xs) × (n ≤ length ys)
  pub same : take n xs ≡ take n ys
  pub most : (m : ℕ) → m ≤ length xs → m ≤ length ys → take m xs ≡ take m ys → m ≤ n
