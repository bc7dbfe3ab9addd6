-- What goes down the tree with something in hand, and what a table's nodes say each by itself.
use Rattle.std.specs.Prelude.{ℕ, ◌≤◌, ◌<◌, ◌≡◌, Bool, true, false, cond}
use mathlib.Core.List.{List, [], ◌∷◌, ◌++◌, foldr}
use Rattle.ecma_trees.specs.Rose.{Rose, Roses, node, rnil, rcons, idx}

-- What each number of a list says, in order.
abbrev pub each : {B : Type 0} → (ℕ → List B) → List ℕ → List B
each f l = foldr (λ j r. f j ++ r) [] l

module _ {A B : Type 0} (visit : ℕ → A → List B) (down : ℕ → ℕ → A → A) where
  -- A walk: each node says something by what it is handed, and hands something to each of its parts.
  unfoldable mutual
    pub walk : Rose → A → List B
    walk (node i ks) a = visit i a ++ walk_all ks (λ j. down i j a)

    pub walk_all : Roses → (ℕ → A) → List B
    walk_all rnil g = []
    walk_all (rcons t ts) g = walk t (g (idx t)) ++ walk_all ts g

-- whether a list has any member
abbrev pub some : {B : Type 0} → List B → Bool
some [] = false
some (x ∷ l) = true

-- Some number from i up to n says something.
pub record Says {B : Type 0} (f : ℕ → List B) (i n : ℕ) : Type 0 where
  pub at : ℕ
  pub low : i ≤ at
  pub high : at < n
  pub does : some (f at) ≡ true

-- a number, where a test holds
abbrev pub only : Bool → ℕ → List ℕ
only b n = cond b (n ∷ []) []
