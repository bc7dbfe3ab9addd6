-- The fields of a line's tail, one a turn.
use Prim.Native.Nat.{ℕ, zero, suc, ◌+◌, ◌-◌, ◌≤◌, ◌<◌}
use Rattle.std.specs.Prelude.{◌≡◌, true, false, ◌&&◌, length, set, drop}
use Rattle.std.proofs.Math.Path.{refl}
use Rattle.std.proofs.Common.{ap, sym, ◌∙◌, add-one, arith, length-drop, length-take-le}
use mathlib.Core.List.{List, [], ◌∷◌, map}
use Rattle.std.proofs.Math.ListN.{take}
use Rattle.std.proofs.lemmas.List.{length-map}
use Rattle.base_common.specs.Upto.{all}
use Rattle.base_common.proofs.UptoLaws.{and_left_lem, and_right_lem}
use Rattle.base_common.specs.Wrote.{Wrote}
use Rattle.table_put.proofs.Writes.{wrote_one}
use Rattle.line_digits.specs.Number.{is_number, value_of}
use Rattle.line_fields.specs.Split.{field_of, next_of, firsts, fields_in}
use Rattle.line_fields.proofs.SplitLaws.{onward_short, fields_turn, fields_end}

pub next_short : (l : List ℕ) → length (next_of l) ≤ length l - 1
next_short l = omega (arith, onward_short 44 (drop 1 l), length-drop 1 l)

take_turn : {A : Type 0} (n : ℕ) (x : A) (xs : List A) → 0 < n → take n (x ∷ xs) ≡ x ∷ take (n - 1) xs
take_turn n x xs h =
    let e : n ≡ suc (n - 1) = omega arith in
    ap (λ (k : ℕ). take k (x ∷ xs)) e

module _ (n : ℕ) (l : List ℕ) where
  pub firsts_turn : 0 < n → 0 < length l → firsts n l ≡ field_of l ∷ firsts (n - 1) (next_of l)
  unfolding firsts
  firsts_turn h k = rw (fields_turn l k) (take_turn n (field_of l) (fields_in (next_of l)) h)

  pub firsts_none : n ≡ 0 → firsts n l ≡ []
  unfolding firsts
  firsts_none e = rw e

  pub firsts_end : length l ≡ 0 → firsts n l ≡ []
  unfolding firsts
  firsts_end e = rw (fields_end l e) (none n)
    where
      none : (k : ℕ) → take {A = List ℕ} k [] ≡ []
      none zero = refl
      none (suc k) = refl

  -- the test of numbers
  pub numbers_on : 0 < n → 0 < length l → is_number (field_of l) ≡ true → all is_number (firsts n l) ≡ all is_number (firsts (n - 1) (next_of l))
  numbers_on h k e = rw (firsts_turn h k, e)

  pub numbers_bad : 0 < n → 0 < length l → is_number (field_of l) ≡ false → all is_number (firsts n l) ≡ false
  numbers_bad h k e = rw (firsts_turn h k, e)

  pub numbers_end : length l ≡ 0 → all is_number (firsts n l) ≡ true
  numbers_end e = rw (firsts_end e)

  pub numbers_none : n ≡ 0 → all is_number (firsts n l) ≡ true
  numbers_none e = rw (firsts_none e)

-- counting
pub count_turn : (l : List ℕ) → 0 < length l → length (fields_in l) ≡ length (fields_in (next_of l)) + 1
count_turn l h = ap length (fields_turn l h) ∙ sym (add-one (length (fields_in (next_of l))))

pub count_end : (l : List ℕ) → length l ≡ 0 → length (fields_in l) ≡ 0
count_end l h = ap length (fields_end l h)

-- the fields behind the first
pub fields_next : (l : List ℕ) → fields_in (next_of l) ≡ drop 1 (fields_in l)
fields_next [] = fields_end (next_of []) (omega (arith, next_short [])) ∙ sym (ap (drop 1) (fields_end [] refl))
fields_next (c ∷ l) = sym (ap (drop 1) (fields_turn (c ∷ l) (omega arith)))

-- the values of the first n fields, written one a turn
module _ (f₀ f : List ℕ) (w n : ℕ) (l whole : List ℕ) where
  pub values_turn : 0 < n → 0 < length l → Wrote f₀ f w (map value_of (firsts n l)) whole
      → Wrote f₀ (set f w (value_of (field_of l))) (w + 1) (map value_of (firsts (n - 1) (next_of l))) whole
  values_turn h k o = wrote_one f₀ f w (value_of (field_of l)) (map value_of (firsts (n - 1) (next_of l))) whole (rw (firsts_turn n l h k) at o)

pub length_values : (n : ℕ) (l : List ℕ) → n ≤ length (fields_in l) → length (map value_of (firsts n l)) ≡ n
unfolding firsts
length_values n l h = length-map (take n (fields_in l)) value_of ∙ length-take-le n (fields_in l) h

pub tail_some : (l : List ℕ) → 0 < length (fields_in l) → 0 < length l
tail_some [] h = absurd (omega (arith, count_end [] refl))
tail_some (c ∷ l) h = omega arith

-- of fields that are all numbers
module _ (n : ℕ) (l : List ℕ) (h : 0 < n) (k : 0 < length l) (a : all is_number (firsts n l) ≡ true) where
  parts : (is_number (field_of l) && all is_number (firsts (n - 1) (next_of l))) ≡ true
  parts = sym (ap (all is_number) (firsts_turn n l h k)) ∙ a

  pub number_first : is_number (field_of l) ≡ true
  number_first = and_left_lem (is_number (field_of l)) (all is_number (firsts (n - 1) (next_of l))) parts

  pub numbers_rest : all is_number (firsts (n - 1) (next_of l)) ≡ true
  numbers_rest = and_right_lem (is_number (field_of l)) (all is_number (firsts (n - 1) (next_of l))) parts

drop_turn : {A : Type 0} (n : ℕ) (x : A) (xs : List A) → 0 < n → drop n (x ∷ xs) ≡ drop (n - 1) xs
drop_turn n x xs h =
    let e : n ≡ suc (n - 1) = omega arith in
    ap (λ (k : ℕ). drop k (x ∷ xs)) e

drop_nothing : {A : Type 0} (n : ℕ) → drop {A = A} n [] ≡ []
drop_nothing zero = refl
drop_nothing (suc n) = refl

module _ (n : ℕ) (l : List ℕ) where
  pub past_turn : 0 < n → drop n (fields_in l) ≡ drop (n - 1) (fields_in (next_of l))
  past_turn h = go l
    where
      go : (k : List ℕ) → drop n (fields_in k) ≡ drop (n - 1) (fields_in (next_of k))
      go [] = ap (drop n) (fields_end [] refl) ∙ drop_nothing n ∙ sym (ap (drop (n - 1)) (fields_end (next_of []) (omega (arith, next_short []))) ∙ drop_nothing (n - 1))
      go (c ∷ k) = ap (drop n) (fields_turn (c ∷ k) (omega arith)) ∙ drop_turn n (field_of (c ∷ k)) (fields_in (next_of (c ∷ k))) h

  pub past_none : n ≡ 0 → drop n (fields_in l) ≡ fields_in l
  past_none e = rw e

-- lines passed over
pub lines_turn : (n : ℕ) (ls : List (List ℕ)) → 0 < n → drop n ls ≡ drop (n - 1) (drop 1 ls)
lines_turn n [] h = drop_nothing n ∙ sym (drop_nothing (n - 1))
lines_turn n (l ∷ ls) h = drop_turn n l ls h

pub lines_none : (n : ℕ) (ls : List (List ℕ)) → n ≡ 0 → drop n ls ≡ ls
lines_none n ls e = rw e
