-- Hexadecimal digits as loops go through them.
use Rattle.std.specs.Prelude.{ℕ, ◌+◌, ◌-◌, ◌*◌, ◌/◌, ◌%◌, ◌≤◌, ◌<◌, ◌≡◌, refl, true, false, ◌&&◌, ◌||◌, List, [], ◌∷◌, ◌++◌, eqb, length, get_or, set, take, drop}
use Rattle.std.proofs.Common.{⊎_elim, arith, le-leb, eq-eqb, eqb-true}
use Rattle.std.proofs.lemmas.Bool.{lt-leb}
use Rattle.base_common.proofs.Bools.{either, range_of}
use Rattle.base_common.specs.Tests.{within}
use Rattle.base_common.specs.Upto.{all}
use Rattle.base_common.proofs.UptoLaws.{and_left_lem, and_right_lem}
use Rattle.base_common.specs.Wrote.{Wrote}
use Rattle.line_digits.proofs.Lists.{drop_step, drop_end, part_from}
use Rattle.table_put.proofs.Writes.{wrote_one, wrote_done}
use Rattle.line_digits.specs.Hex.{is_hex_digit, nibble_of, Nibble, is_hex, bytes_of}

-- the ranges of a digit, in numbers
data HexRange (c : ℕ) : Type 0 where
  decimal : 48 ≤ c → c ≤ 57 → HexRange c
  upper : 65 ≤ c → c ≤ 70 → HexRange c
  lower : 97 ≤ c → c ≤ 102 → HexRange c

hex_range : (c : ℕ) → is_hex_digit c ≡ true → HexRange c
hex_range c e =
    ⊎_elim (λ h. let r = range_of c 48 57 h in decimal r.0 r.1)
    (λ g. ⊎_elim (λ h. let r = range_of c 65 70 h in upper r.0 r.1) (λ h. let r = range_of c 97 102 h in lower r.0 r.1) (either (within c 65 70) (within c 97 102) g))
    (either (within c 48 57) (within c 65 70 || within c 97 102) e)

pub hex_nibble : (c : ℕ) → is_hex_digit c ≡ true → Nibble c
unfolding nibble_of
hex_nibble c e = go (hex_range c e)
  where
    go : HexRange c → Nibble c
    go (decimal h k) = record { low = h; mid = λ m. omega arith; high = λ m. omega arith; least = rw (le-leb c 57 k) (omega arith) }
    go (upper h k) = record { low = omega arith; mid = λ m. omega arith; high = λ m. omega arith; least = rw (lt-leb c 57 (omega arith), le-leb c 70 k) (omega arith) }
    go (lower h k) = record { low = omega arith; mid = λ m. omega arith; high = λ m. omega arith; least = rw (lt-leb c 57 (omega arith), lt-leb c 70 (omega arith)) (omega arith) }

-- the test of each digit
module _ (s : List ℕ) (i : ℕ) where
  pub hex_on : i < length s → is_hex_digit (get_or s i 0) ≡ true → all is_hex_digit (drop i s) ≡ all is_hex_digit (drop (i + 1) s)
  hex_on h e = rw (drop_step s i h, e)

  pub hex_bad : i < length s → is_hex_digit (get_or s i 0) ≡ false → all is_hex_digit (drop i s) ≡ false
  hex_bad h e = rw (drop_step s i h, e)

  pub hex_end : length s ≤ i → all is_hex_digit (drop i s) ≡ true
  hex_end h = rw (drop_end s i h)

-- a pair of digits a turn
pub record Pair (l : List ℕ) : Type 0 where
  pub two : 2 ≤ length l
  pub first : is_hex_digit (get_or l 0 0) ≡ true
  pub second : is_hex_digit (get_or l 1 0) ≡ true
  pub rest : is_hex (drop 2 l) ≡ true
  pub byte : bytes_of l ≡ (nibble_of (get_or l 0 0) * 16 + nibble_of (get_or l 1 0)) ∷ bytes_of (drop 2 l)

pub hex_pair : (l : List ℕ) → is_hex l ≡ true → 0 < length l → Pair l
unfolding is_hex bytes_of
hex_pair [] e h = absurd (omega arith)
hex_pair (a ∷ []) e h =
    let p = eqb-true (1 % 2) 0 (and_right_lem (all is_hex_digit (a ∷ [])) (eqb (1 % 2) 0) e) in
    absurd (omega arith)
hex_pair (a ∷ b ∷ l) e h =
    let d : all is_hex_digit (a ∷ b ∷ l) ≡ true = and_left_lem (all is_hex_digit (a ∷ b ∷ l)) (eqb (length (a ∷ b ∷ l) % 2) 0) e in
    let p = eqb-true (length (a ∷ b ∷ l) % 2) 0 (and_right_lem (all is_hex_digit (a ∷ b ∷ l)) (eqb (length (a ∷ b ∷ l) % 2) 0) e) in
    let q : length l % 2 ≡ 0 = omega arith in
    let t : (is_hex_digit b && all is_hex_digit l) ≡ true = and_right_lem (is_hex_digit a) (is_hex_digit b && all is_hex_digit l) d in
    record {
      two = omega arith;
      first = and_left_lem (is_hex_digit a) (is_hex_digit b && all is_hex_digit l) d;
      second = and_left_lem (is_hex_digit b) (all is_hex_digit l) t;
      rest = rw (and_right_lem (is_hex_digit b) (all is_hex_digit l) t) (eq-eqb (length l % 2) 0 q);
      byte = refl;
    }

-- of fewer than two digits no byte is left
pub bytes_end : (l : List ℕ) → length l < 2 → bytes_of l ≡ []
unfolding bytes_of
bytes_end [] h = refl
bytes_end (a ∷ []) h = refl
bytes_end (a ∷ b ∷ l) h = absurd (omega arith)

pub length_bytes : (l : List ℕ) → length (bytes_of l) ≡ length l / 2
unfolding bytes_of
length_bytes [] = refl
length_bytes (a ∷ []) = refl
length_bytes (a ∷ b ∷ l) = omega (arith, length_bytes l)

pub nibble_low : (c : ℕ) → c ≤ 57 → nibble_of c ≡ c - 48
unfolding nibble_of
nibble_low c k = rw (le-leb c 57 k)

pub nibble_mid : (c : ℕ) → 57 < c → c ≤ 70 → nibble_of c ≡ c - 55
unfolding nibble_of
nibble_mid c h k = rw (lt-leb c 57 h, le-leb c 70 k)

pub nibble_high : (c : ℕ) → 57 < c → 70 < c → nibble_of c ≡ c - 87
unfolding nibble_of
nibble_high c h k = rw (lt-leb c 57 h, lt-leb c 70 k)

pub hex_no : (l : List ℕ) → all is_hex_digit l ≡ false → is_hex l ≡ false
unfolding is_hex
hex_no l e = rw e

pub hex_all : (l : List ℕ) → all is_hex_digit l ≡ true → is_hex l ≡ eqb (length l % 2) 0
unfolding is_hex
hex_all l e = rw e

-- a byte written, of the first two digits of t
module _ (f₀ f : List ℕ) (k : ℕ) (t whole : List ℕ) (e : is_hex t ≡ true) (h : 0 < length t) (o : Wrote f₀ f k (bytes_of t) whole) where
  left : Wrote f₀ f k ((nibble_of (get_or t 0 0) * 16 + nibble_of (get_or t 1 0)) ∷ bytes_of (drop 2 t)) whole
  left = rw (hex_pair t e h).byte at o

  pub byte_room : k < length f
  byte_room =
      let l = left in
      let r = l.room in
      let s = l.same in
      omega arith

  pub byte_turn : (a b : ℕ) → a ≡ nibble_of (get_or t 0 0) → b ≡ nibble_of (get_or t 1 0)
      → (is_hex (take (length t - 2) (drop 2 t)) ≡ true) × Wrote f₀ (set f k (a * 16 + b)) (k + 1) (bytes_of (take (length t - 2) (drop 2 t))) whole
  byte_turn a b p q = rw (part_from t 2, p, q) ((hex_pair t e h).rest, wrote_one f₀ f k _ _ whole left)

pub bytes_done : (f₀ f : List ℕ) (k : ℕ) (t whole : List ℕ) → length t < 2 → Wrote f₀ f k (bytes_of t) whole → (k ≡ length whole) × (f ≡ whole ++ drop (length whole) f₀)
bytes_done f₀ f k t whole h o = wrote_done f₀ f k whole (rw (bytes_end t h) at o)
