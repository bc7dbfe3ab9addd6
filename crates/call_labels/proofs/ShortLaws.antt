-- The short names differ, none is reserved, and each is the one of its number in the list.
use Rattle.std.specs.Prelude.{ℕ, ◌+◌, ◌-◌, ◌*◌, ◌/◌, ◌%◌, ◌≤◌, ◌<◌, ◌≡◌, refl, Bool, true, false, cond, not, ◌&&◌, eqb, ltb, length, set, take}
use Rattle.std.proofs.Common.{ap, sym, ◌∙◌, arith, eqb-true, lt-ltb, le-ltb, take-append-drop}
use mathlib.Core.List.{List, [], ◌∷◌, map, flat_map, append-nil}
use Rattle.std.proofs.lemmas.Bool.{not-true}
use Rattle.std.proofs.lemmas.List.Edits.{sets-eq}
use Rattle.base_common.specs.Wrote.{put}
use Rattle.base_common.specs.Upto.{upto, range, all}
use Rattle.base_common.proofs.UptoLaws.{and_left_lem, and_right_lem, all_upto}
use Rattle.table_names.specs.Name.{same}
use Rattle.call_labels.specs.Reserved.{is_reserved}
use Rattle.call_labels.specs.Short.{letter_a, letters, most, short_names, pair_of, short_name}

-- the number of a short name
abbrev back_of : ℕ → ℕ
back_of m = cond (ltb m 92) m (cond (ltb m 213) (m - 1) (cond (ltb m 221) (m - 2) (m - 3)))

abbrev number_of : List ℕ → ℕ
number_of [] = 0
number_of (a ∷ []) = a - letter_a
number_of (a ∷ b ∷ l) = letters + back_of ((a - letter_a) * letters + (b - letter_a))

-- one computed test over all of them
abbrev fine : ℕ → Bool
fine k = eqb (number_of (short_name k)) k && not (is_reserved (short_name k))

tested : all fine (upto 0 most) ≡ true
unfolding short_name upto range same
tested = refl

pub short_names_lem : map short_name (upto 0 most) ≡ short_names
unfolding short_name short_names upto range same flat_map
short_names_lem = refl

pub short_once : (i j : ℕ) → i < most → j < most → short_name i ≡ short_name j → i ≡ j
short_once i j h g e =
    sym (eqb-true _ _ (and_left_lem _ _ (all_upto fine 0 most tested i (omega arith) h))) ∙ ap number_of e ∙ eqb-true _ _ (and_left_lem _ _ (all_upto fine 0 most tested j (omega arith) g))

pub short_free : (k : ℕ) → k < most → is_reserved (short_name k) ≡ false
short_free k h = not-true _ (and_right_lem (eqb (number_of (short_name k)) k) _ (all_upto fine 0 most tested k (omega arith) h))

pub short_some : (k : ℕ) → [] ≡ short_name k → ⊥
unfolding short_name
short_some k e = go (ltb k letters) _ _ _ (ap length e)
  where
    go : (b : Bool) (c d f : ℕ) → 0 ≡ length (cond b (c ∷ []) (d ∷ f ∷ [])) → ⊥
    go true c d f q = omega arith
    go false c d f q = omega arith

-- a short name of one letter, and one of two
module _ (k : ℕ) where
  pub short_one : k < letters → short_name k ≡ (letter_a + k) ∷ []
  unfolding short_name
  short_one h = rw (lt-ltb k letters h)

  pub short_two : letters ≤ k → short_name k ≡ (letter_a + pair_of (k - letters) / letters) ∷ (letter_a + pair_of (k - letters) % letters) ∷ []
  unfolding short_name
  short_two h = rw (le-ltb k letters h)

-- a pair's number is one of 676
pub pair_below : (m : ℕ) → m < 673 → pair_of m < 676
pair_below m h = go (ltb m 92) (ltb m 212) (ltb m 219) refl
  where
    go : (a b c : Bool) → ltb m 92 ≡ a → cond a m (cond b (m + 1) (cond c (m + 2) (m + 3))) < 676
    go true b c e = omega arith
    go false true c e = omega arith
    go false false true e = omega arith
    go false false false e = omega arith

pub put_one : (f : List ℕ) (w a : ℕ) → w + 1 ≤ length f → set f w a ≡ put f w (a ∷ [])
put_one f w a h = sets-eq (a ∷ []) f w h

pub short_most : (k : ℕ) → length (short_name k) ≤ 2
unfolding short_name
short_most k = go (ltb k letters) _ _ _
  where
    go : (b : Bool) (c d f : ℕ) → length (cond b (c ∷ []) (d ∷ f ∷ [])) ≤ 2
    go true c d f = omega arith
    go false c d f = omega arith

pub put_none : (f : List ℕ) (w : ℕ) → put f w [] ≡ f
put_none f w = let z : w + 0 ≡ w = omega arith in rw (append-nil (take w f), z) (take-append-drop w f)
