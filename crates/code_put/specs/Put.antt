-- A slice with some words written to it, and what it says of the whole code.
use Rattle.std.specs.Prelude.{ℕ, ◌+◌, ◌≤◌, ◌<◌, ◌≡◌, List, ◌⊎◌, length, get_or}

-- f with the first n of the words from o on; all other entries as they were.
pub record Put (f : List ℕ) (o : ℕ) (words : List ℕ) (n : ℕ) (g : List ℕ) : Type 0 where
  pub same : length g ≡ length f
  pub here : (k : ℕ) → k < n → get_or g (o + k) 0 ≡ get_or words k 0
  pub elsewhere : (x : ℕ) → (x < o) ⊎ (o + n ≤ x) → get_or g x 0 ≡ get_or f x 0

-- An entry of g is as it should be in the end.
abbrev pub Done : List ℕ → List ℕ → ℕ → Type 0
Done whole g x = get_or g x 0 ≡ get_or whole x 0
