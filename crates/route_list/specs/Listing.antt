-- What a caller gets of a list: its length, and the list laid over a slice.
use Rattle.std.specs.Prelude.{ℕ, ◌+◌, min, ◌≡◌, List, ◌++◌, length, take, drop}

-- "A length above 18,446,744,073,709,551,615 is given as that number."
abbrev pub most : ℕ
most = 18446744073709551615

abbrev pub saturated : ℕ → ℕ
saturated n = min n most

-- One more.
abbrev pub next : ℕ → ℕ
next n = min (n + 1) most

-- The slice f with the list l laid over its front, as far as f goes.
unfoldable pub laid : List ℕ → List ℕ → List ℕ
laid l f = take (length f) l ++ drop (length l) f

-- The slice f, which was f₀, and the count n have taken the list l.
pub record Listing (f₀ f l : List ℕ) (n : ℕ) : Type 0 where
  pub counts : n ≡ saturated (length l)
  pub wrote : f ≡ laid l f₀
