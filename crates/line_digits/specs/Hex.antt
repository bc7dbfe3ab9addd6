-- Bytes in hexadecimal, two digits of either case to a byte.
use Rattle.std.specs.Prelude.{ℕ, ◌+◌, ◌-◌, ◌*◌, ◌%◌, ◌≤◌, ◌<◌, Bool, cond, ◌&&◌, ◌||◌, List, [], ◌∷◌, leb, eqb, length}
use Rattle.base_common.specs.Tests.{within}
use Rattle.base_common.specs.Upto.{all}

-- one of 0 to 9, A to F, a to f
abbrev pub is_hex_digit : ℕ → Bool
is_hex_digit c = within c 48 57 || (within c 65 70 || within c 97 102)

-- what such a digit stands for
unfoldable pub nibble_of : ℕ → ℕ
nibble_of c = cond (leb c 57) (c - 48) (cond (leb c 70) (c - 55) (c - 87))

-- each of the three ways to a digit's worth is safe, and the worth is below 16
pub record Nibble (c : ℕ) : Type 0 where
  pub low : 48 ≤ c
  pub mid : 57 < c → 55 ≤ c
  pub high : 70 < c → 87 ≤ c
  pub least : nibble_of c < 16

-- hexadecimal digits alone, an even number of them
unfoldable pub is_hex : List ℕ → Bool
is_hex l = all is_hex_digit l && eqb (length l % 2) 0

-- the bytes that they spell
unfoldable pub bytes_of : List ℕ → List ℕ
bytes_of [] = []
bytes_of (a ∷ []) = []
bytes_of (a ∷ b ∷ l) = (nibble_of a * 16 + nibble_of b) ∷ bytes_of l
