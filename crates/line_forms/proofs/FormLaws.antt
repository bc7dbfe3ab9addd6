-- Which lines can be read, as the code tests them.
use borrow.Author.Tests.{eq-eqb, ne_eqb}
use Rattle.line_digits.proofs.NumberLaws.{and_no}
use Rattle.std.specs.Prelude.{ℕ, ◌*◌, ◌/◌, ◌≤◌, ◌<◌, ◌≡◌, refl, false, ◌&&◌, List, [], ◌∷◌, leb, eqb, get_or, drop}
use Rattle.std.proofs.Math.Path.{ap}
use Rattle.std.proofs.Common.{sym, ◌∙◌, arith}
use Rattle.std.proofs.Math.Bool.{true, and-true, and-false}
use Rattle.std.proofs.Math.ListN.{length, take}
use Rattle.std.proofs.Math.Seq.{take_all}
use borrow.Author.Tests.{le-leb, lt-leb, leb-true, eqb-true}
use Rattle.base_common.specs.Upto.{all}
use Rattle.base_common.proofs.UptoLaws.{and_left_lem, and_right_lem}
use Rattle.line_digits.specs.Number.{is_number}
use Rattle.line_digits.specs.Hex.{is_hex}
use lib.Pointwise.{pointwise}
use Rattle.line_digits.proofs.HexLaws.{length_bytes}
use Rattle.line_fields.specs.Split.{fields_of, before, fields_in, field_of, firsts}
use Rattle.line_fields.proofs.SplitLaws.{fields_first, fields_turn, joined_tail}
use Rattle.line_fields.proofs.FieldLaws.{tail_some}
use Rattle.line_forms.specs.Forms.{is_letter, lettered, rest, is_numbers, fits, is_n, name_of, is_x, tail_of}

pub rest_tail : (l : List ℕ) → rest l ≡ fields_in (tail_of l)
rest_tail l = ap (drop 1) (fields_first l)

letter_is : (c : ℕ) (f : List ℕ) → is_letter c f ≡ pointwise eqb f (c ∷ [])
letter_is c [] = refl
letter_is c (x ∷ []) = sym (and-true (eqb x c))
letter_is c (x ∷ y ∷ l) = sym (and-false (eqb x c))

module _ (c : ℕ) (l : List ℕ) where
  first_field : get_or (fields_of l) 0 [] ≡ before 44 l
  first_field = ap (λ (fs : List (List ℕ)). get_or fs 0 []) (fields_first l)

  pub lettered_long : 2100 < length l → lettered c l ≡ false
  unfolding lettered
  lettered_long h = rw (lt-leb (length l) 2100 h)

  pub lettered_is_tested : length l ≤ 2100 → lettered c l ≡ pointwise eqb (before 44 l) (c ∷ [])
  unfolding lettered
  lettered_is_tested h = rw (first_field, le-leb (length l) 2100 h) (letter_is c (before 44 l))

-- the letter and n numbers
module _ (c n : ℕ) (l : List ℕ) where
  pub numbers_letter : lettered c l ≡ false → is_numbers c n l ≡ false
  unfolding is_numbers
  numbers_letter e = rw e

  pub numbers_count_tested : eqb (length (fields_in (tail_of l))) n ≡ false → is_numbers c n l ≡ false
  unfolding is_numbers
  numbers_count_tested h = rw (rest_tail l, h) (and-false (lettered c l))

  pub numbers_is_tested : lettered c l ≡ true → eqb (length (fields_in (tail_of l))) n ≡ true → is_numbers c n l ≡ all is_number (firsts n (tail_of l))
  unfolding is_numbers firsts
  numbers_is_tested e h =
      let k = eqb-true (length (fields_in (tail_of l))) n h in
      rw (e, rest_tail l, h) (ap (all is_number) (sym (take_all n (fields_in (tail_of l)) (omega arith))))

  -- what the test tells
  pub numbers_told : is_numbers c n l ≡ true → (length (fields_in (tail_of l)) ≡ n) × (all is_number (firsts n (tail_of l)) ≡ true) × (firsts n (tail_of l) ≡ rest l)
  unfolding is_numbers firsts
  numbers_told e =
      let r = and_right_lem (lettered c l) (eqb (length (rest l)) n && all is_number (rest l)) e in
      let k : length (rest l) ≡ n = eqb-true (length (rest l)) n (and_left_lem (eqb (length (rest l)) n) (all is_number (rest l)) r) in
      let a : all is_number (rest l) ≡ true = and_right_lem (eqb (length (rest l)) n) (all is_number (rest l)) r in
      let t : take n (rest l) ≡ rest l = take_all n (rest l) (omega arith) in
      rw (sym (rest_tail l)) (k, ap (all is_number) t ∙ a, t)

-- a node's line
module _ (l : List ℕ) where
  pub node_letter : lettered 78 l ≡ false → is_n l ≡ false
  unfolding is_n
  node_letter e = rw e

  pub node_few_tested : leb 9 (length (fields_in (tail_of l))) ≡ false → is_n l ≡ false
  unfolding is_n
  node_few_tested h = rw (rest_tail l, h) (and-false (lettered 78 l))

  pub node_is_tested : lettered 78 l ≡ true → leb 9 (length (fields_in (tail_of l))) ≡ true → is_n l ≡ all is_number (firsts 8 (tail_of l))
  unfolding is_n firsts
  node_is_tested e h = rw (e, rest_tail l, h)

  pub node_told : is_n l ≡ true → (9 ≤ length (fields_in (tail_of l))) × (all is_number (firsts 8 (tail_of l)) ≡ true) × (firsts 8 (tail_of l) ≡ take 8 (rest l))
  unfolding is_n firsts
  node_told e =
      let r = and_right_lem (lettered 78 l) (leb 9 (length (rest l)) && all is_number (take 8 (rest l))) e in
      rw (sym (rest_tail l)) (leb-true 9 (length (rest l)) (and_left_lem (leb 9 (length (rest l))) (all is_number (take 8 (rest l))) r), and_right_lem (leb 9 (length (rest l))) (all is_number (take 8 (rest l))) r, refl)

  -- the name, where t is the tail behind eight fields
  pub name_is_lem : (t : List ℕ) → fields_in t ≡ drop 8 (fields_in (tail_of l)) → name_of l ≡ drop 1 t
  name_is_lem t e = rw (rest_tail l, sym e) (joined_tail t)

-- "at most 1,024"
module _ (n each room : ℕ) where
  pub fits_told : fits n each room ≡ true → (n ≤ 1024) × (n * each ≤ room)
  unfolding fits
  fits_told e = (leb-true n 1024 (and_left_lem (leb n 1024) (leb (n * each) room) e), leb-true (n * each) room (and_right_lem (leb n 1024) (leb (n * each) room) e))

-- the source's line
module _ (room : ℕ) (l : List ℕ) where
  pub source_letter : lettered 88 l ≡ false → is_x room l ≡ false
  unfolding is_x
  source_letter e = rw e

  pub source_count_tested : eqb (length (fields_in (tail_of l))) 1 ≡ false → is_x room l ≡ false
  unfolding is_x
  source_count_tested h = rw (rest_tail l, h) (and-false (lettered 88 l))

  pub source_field : length (fields_in (tail_of l)) ≡ 1 → get_or (rest l) 0 [] ≡ field_of (tail_of l)
  source_field h = rw (rest_tail l, fields_turn (tail_of l) (tail_some (tail_of l) (omega arith)))

  pub source_is_tested : lettered 88 l ≡ true → eqb (length (fields_in (tail_of l))) 1 ≡ true
      → is_x room l ≡ (is_hex (field_of (tail_of l)) && fits (length (field_of (tail_of l)) / 2) 1 room)
  unfolding is_x
  source_is_tested e h = rw (e, source_field (eqb-true _ 1 h), rest_tail l, h, length_bytes (field_of (tail_of l)))

letter_one : (c : ℕ) (f : List ℕ) → length f ≡ 1 → is_letter c f ≡ eqb (get_or f 0 0) c
letter_one c [] h = absurd (omega arith)
letter_one c (x ∷ []) h = refl
letter_one c (x ∷ y ∷ l) h = absurd (omega arith)

letter_not : (c : ℕ) (f : List ℕ) → (length f ≡ 1 → ⊥) → is_letter c f ≡ false
letter_not c [] h = refl
letter_not c (x ∷ []) h = absurd (h refl)
letter_not c (x ∷ y ∷ l) h = refl

module _ (c : ℕ) (l : List ℕ) where
  pub lettered_not : (length (before 44 l) ≡ 1 → ⊥) → lettered c l ≡ false
  unfolding lettered
  lettered_not h = rw (first_field, letter_not c (before 44 l) h) (and_no (leb (length l) 2100))

module _ (n each room : ℕ) where
  pub fits_many : 1024 < n → fits n each room ≡ false
  unfolding fits
  fits_many h = rw (lt-leb n 1024 h)

  pub fits_is : n ≤ 1024 → fits n each room ≡ leb (n * each) room
  unfolding fits
  fits_is h = rw (le-leb n 1024 h)

module _ (c : ℕ) (l : List ℕ) where
  pub lettered_is : length l ≤ 2100 → length (before 44 l) ≡ 1 → lettered c l ≡ eqb (get_or (before 44 l) 0 0) c
  unfolding lettered
  lettered_is h k = rw (first_field, le-leb (length l) 2100 h) (letter_one c (before 44 l) k)

module _ (c n : ℕ) (l : List ℕ) where
  pub numbers_count : (length (fields_in (tail_of l)) ≡ n → ⊥) → is_numbers c n l ≡ false
  unfolding is_numbers
  numbers_count h = rw (rest_tail l, ne_eqb (length (fields_in (tail_of l))) n h) (and_no (lettered c l))

  pub numbers_is : lettered c l ≡ true → length (fields_in (tail_of l)) ≡ n → is_numbers c n l ≡ all is_number (firsts n (tail_of l))
  unfolding is_numbers firsts
  numbers_is e h = rw (e, rest_tail l, eq-eqb (length (fields_in (tail_of l))) n h) (ap (all is_number) (sym (take_all n (fields_in (tail_of l)) (omega arith))))

module _ (l : List ℕ) where
  pub node_few : length (fields_in (tail_of l)) < 9 → is_n l ≡ false
  unfolding is_n
  node_few h = rw (rest_tail l, lt-leb 9 (length (fields_in (tail_of l))) h) (and_no (lettered 78 l))

  pub node_is : lettered 78 l ≡ true → 9 ≤ length (fields_in (tail_of l)) → is_n l ≡ all is_number (firsts 8 (tail_of l))
  unfolding is_n firsts
  node_is e h = rw (e, rest_tail l, le-leb 9 (length (fields_in (tail_of l))) h)

module _ (room : ℕ) (l : List ℕ) where
  pub source_count : (length (fields_in (tail_of l)) ≡ 1 → ⊥) → is_x room l ≡ false
  unfolding is_x
  source_count h = rw (rest_tail l, ne_eqb (length (fields_in (tail_of l))) 1 h) (and_no (lettered 88 l))

  pub source_is : lettered 88 l ≡ true → length (fields_in (tail_of l)) ≡ 1
      → is_x room l ≡ (is_hex (field_of (tail_of l)) && fits (length (field_of (tail_of l)) / 2) 1 room)
  unfolding is_x
  source_is e h = rw (e, source_field room l h, rest_tail l, eq-eqb (length (fields_in (tail_of l))) 1 h, length_bytes (field_of (tail_of l)))
