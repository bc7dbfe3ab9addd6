-- What a loop over a number's digits does turn by turn.
use Rattle.std.specs.Prelude.{ℕ, ◌+◌, ◌-◌, ◌*◌, ◌≤◌, ◌<◌, Bool, ◌&&◌, List, [], ◌∷◌, leb, length, get_or, drop, Option, Some, None}
use Rattle.std.proofs.Math.Path.{◌≡◌, refl}
use Rattle.std.proofs.Math.Bool.{true, false, cond, and-false}
use Rattle.std.proofs.Common.{arith}
use borrow.Author.Tests.{le-leb, lt-leb}
use Rattle.std.specs.Option.{is_some}
use Rattle.base_common.specs.Upto.{all}
use Rattle.line_digits.proofs.Lists.{drop_step, drop_end}
use Rattle.line_digits.specs.Number.{is_digit, value_from, value_of, is_number, number_of}

-- the number of digits that stand behind others, which stand for v
unfoldable pub number_from : ℕ → List ℕ → Option ℕ
number_from v l = cond (all is_digit l && leb (value_from v l) 4294967295) (Some (value_from v l)) None

pub number_none : (s : List ℕ) → length s ≡ 0 → number_of s ≡ None
unfolding number_of is_number
number_none [] h = refl
number_none (c ∷ l) h = absurd (omega arith)

pub number_start : (s : List ℕ) → (length s ≡ 0 → ⊥) → number_from 0 (drop 0 s) ≡ number_of s
unfolding number_of is_number number_from
number_start [] h = absurd (h refl)
number_start (c ∷ l) h = refl

-- the digit at place i
module _ (s : List ℕ) (v i : ℕ) (h : i < length s) where
  pub number_on_tested : is_digit (get_or s i 0) ≡ true → number_from v (drop i s) ≡ number_from (v * 10 + (get_or s i 0 - 48)) (drop (i + 1) s)
  unfolding number_from
  number_on_tested e = rw (drop_step s i h, e)

  pub number_bad : is_digit (get_or s i 0) ≡ false → number_from v (drop i s) ≡ None
  unfolding number_from
  number_bad e = rw (drop_step s i h, e)

value_grows : (v : ℕ) (l : List ℕ) → v ≤ value_from v l
value_grows v [] = omega arith
value_grows v (c ∷ l) = omega (arith, value_grows (v * 10 + (c - 48)) l)

pub number_over : (v : ℕ) (l : List ℕ) → 4294967295 < v → number_from v l ≡ None
unfolding number_from
number_over v l h =
    let g : 4294967295 < value_from v l = omega (arith, value_grows v l) in
    rw (lt-leb (value_from v l) 4294967295 g, and-false (all is_digit l))

pub number_end : (s : List ℕ) (v i : ℕ) → length s ≤ i → v ≤ 4294967295 → number_from v (drop i s) ≡ Some v
unfolding number_from
number_end s v i h l = rw (drop_end s i h, le-leb v 4294967295 l)

-- what the answer tells of the bytes
module _ (l : List ℕ) where
  pub told_value : (v : ℕ) → number_of l ≡ Some v → (is_number l ≡ true) × (value_of l ≡ v)
  unfolding number_of
  told_value v = go (is_number l)
    where
      go : (t : Bool) → cond t (Some (value_of l)) None ≡ Some v → (t ≡ true) × (value_of l ≡ v)
      go true e = (refl, cc)
      go false e = let z : ◌≡◌ {A = ℕ} 0 1 = cc in absurd (omega arith)

  pub told_none : number_of l ≡ None → is_number l ≡ false
  unfolding number_of
  told_none = go (is_number l)
    where
      go : (t : Bool) → cond t (Some (value_of l)) None ≡ None → t ≡ false
      go true e = let z : ◌≡◌ {A = ℕ} 0 1 = cc in absurd (omega arith)
      go false e = refl

  pub number_some : is_number l ≡ true → number_of l ≡ Some (value_of l)
  unfolding number_of
  number_some e = rw e

  pub some_is : is_some (number_of l) ≡ is_number l
  unfolding number_of
  some_is = go (is_number l)
    where
      go : (t : Bool) → is_some (cond t (Some (value_of l)) None) ≡ t
      go true = refl
      go false = refl

pub and_no : (b : Bool) → (b && false) ≡ false
and_no true = refl
and_no false = refl

module _ (s : List ℕ) (v i : ℕ) (h : i < length s) where
  pub number_low : get_or s i 0 < 48 → number_from v (drop i s) ≡ None
  unfolding number_from
  number_low l = rw (drop_step s i h, lt-leb 48 (get_or s i 0) l)

  pub number_high : 57 < get_or s i 0 → number_from v (drop i s) ≡ None
  unfolding number_from
  number_high k = rw (drop_step s i h, lt-leb (get_or s i 0) 57 k, and_no (leb 48 (get_or s i 0)))

module _ (s : List ℕ) (v i : ℕ) (h : i < length s) where
  pub number_on : 48 ≤ get_or s i 0 → get_or s i 0 ≤ 57 → number_from v (drop i s) ≡ number_from (v * 10 + (get_or s i 0 - 48)) (drop (i + 1) s)
  unfolding number_from
  number_on l k = rw (drop_step s i h, le-leb 48 (get_or s i 0) l, le-leb (get_or s i 0) 57 k)
