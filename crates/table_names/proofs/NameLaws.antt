-- Laws of `same`.
use Rattle.std.specs.Prelude.{zero, suc, get_or}
use Rattle.std.proofs.Common.{◌∙◌, ne_eqb}
use Rattle.std.proofs.Math.Seq.{drop-cons}
use Rattle.std.proofs.Math.Numerals.{add-one}
use Rattle.std.specs.Prelude.{ℕ, ◌+◌, ◌≤◌, ◌<◌, ◌≡◌, refl, List, [], ◌∷◌, Bool, true, false, ◌&&◌, eqb, length, drop}
use Rattle.std.proofs.Common.{ap, sym, true≢false, eq-eqb, eqb-true, length-drop, length-take-le, arith}
use lib.Pointwise.{pointwise}
use Rattle.base_common.proofs.UptoLaws.{and_left_lem, and_right_lem}
use Rattle.table_records.specs.Table.{name_start_of, name_len_of, count}
use Rattle.table_records.specs.Facts.{Named}
use Rattle.table_names.specs.Name.{same, name_of}

pub same_self : (xs : List ℕ) → same xs xs ≡ true
unfolding same
same_self [] = refl
same_self (x ∷ xs) = rw (eq-eqb x x refl, same_self xs)

pub same_eq : (xs ys : List ℕ) → same xs ys ≡ true → xs ≡ ys
unfolding same
same_eq [] [] e = refl
same_eq [] (y ∷ ys) e = absurd (true≢false (sym e))
same_eq (x ∷ xs) [] e = absurd (true≢false (sym e))
same_eq (x ∷ xs) (y ∷ ys) e =
    let p : x ≡ y = eqb-true x y (and_left_lem (eqb x y) (same xs ys) e) in
    let q : xs ≡ ys = same_eq xs ys (and_right_lem (eqb x y) (same xs ys) e) in
    cc

-- std's equality of two slices says the same
pub same_slices : (xs ys : List ℕ) → pointwise eqb xs ys ≡ same xs ys
unfolding same
same_slices [] [] = refl
same_slices [] (y ∷ ys) = refl
same_slices (x ∷ xs) [] = refl
same_slices (x ∷ xs) (y ∷ ys) = ap (λ b. eqb x y && b) (same_slices xs ys)

pub name_length : (ns names : List ℕ) → Named ns names → (j : ℕ) → j < count ns → length (name_of ns names j) ≡ name_len_of ns j
unfolding name_of
name_length ns names w j h =
    let p = w.inside j h in
    let l = length-drop (name_start_of ns j) names in
    length-take-le (name_len_of ns j) (drop (name_start_of ns j) names) (omega arith)

pub same_lengths : (xs ys : List ℕ) → (length xs ≡ length ys → ⊥) → same xs ys ≡ false
unfolding same
same_lengths [] [] n = absurd (n refl)
same_lengths [] (y ∷ ys) n = refl
same_lengths (x ∷ xs) [] n = refl
same_lengths (x ∷ xs) (y ∷ ys) n = rw (same_lengths xs ys (λ e. n (ap suc e))) (go (eqb x y))
  where
    go : (b : Bool) → (b && false) ≡ false
    go true = refl
    go false = refl

module _ (xs ys : List ℕ) (i : ℕ) (l : length xs ≡ length ys) where
  same_at : i < length xs → same (drop i xs) (drop i ys) ≡ (eqb (get_or xs i 0) (get_or ys i 0) && same (drop (i + 1) xs) (drop (i + 1) ys))
  unfolding same
  same_at h = rw (drop-cons xs i 0 h, drop-cons ys i 0 (omega arith), add-one i)

  pub same_on : i < length xs → get_or xs i 0 ≡ get_or ys i 0 → same (drop i xs) (drop i ys) ≡ same (drop (i + 1) xs) (drop (i + 1) ys)
  same_on h e = same_at h ∙ rw (eq-eqb _ _ e)

  pub same_stop : i < length xs → (get_or xs i 0 ≡ get_or ys i 0 → ⊥) → same (drop i xs) (drop i ys) ≡ false
  same_stop h e = same_at h ∙ rw (ne_eqb _ _ e)

nothing_left : (i : ℕ) (xs : List ℕ) → length xs ≤ i → drop i xs ≡ []
nothing_left zero [] h = refl
nothing_left zero (x ∷ xs) h = absurd (omega arith)
nothing_left (suc i) [] h = refl
nothing_left (suc i) (x ∷ xs) h = nothing_left i xs (omega arith)

pub same_end : (xs ys : List ℕ) (i : ℕ) → length xs ≡ length ys → length xs ≤ i → same (drop i xs) (drop i ys) ≡ true
unfolding same
same_end xs ys i l h = rw (nothing_left i xs h, nothing_left i ys (omega arith))
