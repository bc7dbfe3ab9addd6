-- Laws of lines and fields as code finds them: what stands before the first byte d, and what from it on.
use borrow.Author.Tests.{eq-eqb, ne_eqb}
use Rattle.line_digits.proofs.Lists.{drop_step, drop_end}
use Rattle.std.specs.Prelude.{Some, None, ℕ, ◌+◌, ◌≤◌, ◌<◌, ◌≡◌, Bool, cond, length, get_or, take, drop}
use Rattle.std.proofs.Math.Path.{refl}
use Rattle.std.proofs.Common.{ap, sym, ◌∙◌, arith}
use Rattle.std.proofs.Math.Bool.{true, false}
use mathlib.Core.List.{List, [], ◌∷◌}
use Rattle.std.proofs.Math.Dec.{eqb, ltb}
use borrow.Author.Tests.{eqb-true, ltb-false}
use Rattle.std.specs.Option.{unwrap_or}
use Rattle.std.specs.List.{position_or_len}
use Rattle.std.proofs.lemmas.List.Recursion.{is_position_or_len}
use Rattle.line_fields.specs.Split.{ahead, lines_of, fields_of, joined, before, onward, to_first, fields_in}

module _ (d : ℕ) where
  by_first_lem : (P : List ℕ → List ℕ → List ℕ → Type 0) → P [] [] []
      → ((c : ℕ) (l : List ℕ) → eqb c d ≡ true → P (c ∷ l) [] (c ∷ l))
      → ((c : ℕ) (l : List ℕ) → P l (before d l) (onward d l) → P (c ∷ l) (c ∷ before d l) (onward d l))
      → (l : List ℕ) → P l (before d l) (onward d l)
  unfolding before onward
  by_first_lem P none hit on [] = none
  by_first_lem P none hit on (c ∷ l) = go (eqb c d) refl (by_first_lem P none hit on l)
    where
      go : (t : Bool) → eqb c d ≡ t → P l (before d l) (onward d l) → P (c ∷ l) (cond t [] (c ∷ before d l)) (cond t (c ∷ l) (onward d l))
      go true e h = hit c l e
      go false e h = on c l h

  pub take_before : (l : List ℕ) → take (to_first d l) l ≡ before d l
  take_before = by_first_lem (λ l b o. take (length b) l ≡ b) refl (λ c l e. refl) (λ c l h. ap (λ (x : List ℕ). c ∷ x) h)

  pub drop_onward : (l : List ℕ) → drop (to_first d l) l ≡ onward d l
  drop_onward = by_first_lem (λ l b o. drop (length b) l ≡ o) refl (λ c l e. refl) (λ c l h. h)

  pub before_short : (l : List ℕ) → to_first d l ≤ length l
  before_short = by_first_lem (λ l b o. length b ≤ length l) (omega arith) (λ c l e. omega arith) (λ c l h. omega arith)

-- the place that a search for d finds
pub first_place : (d : ℕ) (l : List ℕ) → to_first d l ≡ position_or_len (λ c. eqb c d) l
unfolding before
first_place d = is_position_or_len (to_first d) (λ c. eqb c d) refl (λ c l. go c (eqb c d) l)
  where
    go : (c : ℕ) (t : Bool) (l : List ℕ) → length (cond t [] (c ∷ before d l)) ≡ cond t 0 (1 + to_first d l)
    go c true l = refl
    go c false l = omega arith

pub place_or_end : (p n : ℕ) → p ≤ n → unwrap_or (cond (ltb p n) (Some p) None) n ≡ p
place_or_end p n h = go (ltb p n) refl
  where
    go : (t : Bool) → ltb p n ≡ t → unwrap_or (cond t (Some p) None) n ≡ p
    go true e = refl
    go false e = omega (arith, ltb-false p n e)

pub fields_first : (l : List ℕ) → fields_of l ≡ before 44 l ∷ fields_in (onward 44 l)
unfolding before onward fields_in fields_of
fields_first [] = refl
fields_first (c ∷ l) = go (eqb c 44) (fields_first l)
  where
    go : (t : Bool) → fields_of l ≡ before 44 l ∷ fields_in (onward 44 l)
        → cond t ([] ∷ fields_of l) (ahead c (fields_of l)) ≡ cond t [] (c ∷ before 44 l) ∷ fields_in (cond t (c ∷ l) (onward 44 l))
    go true h = refl
    go false h = rw h

-- one field of a tail, and the tail behind it
pub fields_turn : (l : List ℕ) → 0 < length l → fields_in l ≡ before 44 (drop 1 l) ∷ fields_in (onward 44 (drop 1 l))
unfolding fields_in
fields_turn [] h = absurd (omega arith)
fields_turn (c ∷ l) h = fields_first l

pub fields_end : (l : List ℕ) → length l ≡ 0 → fields_in l ≡ []
unfolding fields_in
fields_end [] h = refl
fields_end (c ∷ l) h = absurd (omega arith)

pub onward_short : (d : ℕ) (l : List ℕ) → length (onward d l) ≤ length l
onward_short d = by_first_lem d (λ l b o. length o ≤ length l) (omega arith) (λ c l e. omega arith) (λ c l h. omega arith)

-- the first line, and the bytes after it
pub lines_first : (b : List ℕ) → 0 < length b → lines_of b ≡ before 10 b ∷ lines_of (drop 1 (onward 10 b))
unfolding before onward lines_of
lines_first [] h = absurd (omega arith)
lines_first (c ∷ []) h = go (eqb c 10)
  where
    go : (t : Bool) → cond t ([] ∷ []) ((c ∷ []) ∷ []) ≡ cond t [] (c ∷ []) ∷ lines_of (drop 1 (cond t (c ∷ []) []))
    go true = refl
    go false = refl
lines_first (c ∷ a ∷ b) h = go (eqb c 10) (lines_first (a ∷ b) (omega arith))
  where
    go : (t : Bool) → lines_of (a ∷ b) ≡ before 10 (a ∷ b) ∷ lines_of (drop 1 (onward 10 (a ∷ b)))
        → cond t ([] ∷ lines_of (a ∷ b)) (ahead c (lines_of (a ∷ b))) ≡ cond t [] (c ∷ before 10 (a ∷ b)) ∷ lines_of (drop 1 (cond t (c ∷ a ∷ b) (onward 10 (a ∷ b))))
    go true g = refl
    go false g = rw g

pub lines_end : (b : List ℕ) → length b ≡ 0 → lines_of b ≡ []
unfolding lines_of
lines_end [] h = refl
lines_end (c ∷ b) h = absurd (omega arith)

no_line : before 10 [] ≡ get_or (lines_of []) 0 []
unfolding before lines_of
no_line = refl

pub line_first : (b : List ℕ) → before 10 b ≡ get_or (lines_of b) 0 []
line_first [] = no_line
line_first (c ∷ b) = sym (ap (λ (ls : List (List ℕ)). get_or ls 0 []) (lines_first (c ∷ b) (omega arith)))

none_after : lines_of (drop 1 (onward 10 [])) ≡ drop 1 (lines_of [])
unfolding onward lines_of
none_after = refl

pub lines_after : (b : List ℕ) → lines_of (drop 1 (onward 10 b)) ≡ drop 1 (lines_of b)
lines_after [] = none_after
lines_after (c ∷ b) = sym (ap (drop 1) (lines_first (c ∷ b) (omega arith)))

-- the fields between commas are the line again
joined_ahead : (c : ℕ) (f : List ℕ) (fs : List (List ℕ)) → joined (ahead c (f ∷ fs)) ≡ c ∷ joined (f ∷ fs)
unfolding joined
joined_ahead c f [] = refl
joined_ahead c f (g ∷ fs) = refl

joined_empty : (f : List ℕ) (fs : List (List ℕ)) → joined ([] ∷ f ∷ fs) ≡ 44 ∷ joined (f ∷ fs)
unfolding joined
joined_empty f fs = refl

joined_one : (f : List ℕ) → joined (f ∷ []) ≡ f
unfolding joined
joined_one f = refl

joined_none : joined [] ≡ []
unfolding joined
joined_none = refl

pub joined_fields : (l : List ℕ) → joined (fields_of l) ≡ l
unfolding fields_of
joined_fields [] = joined_one []
joined_fields (c ∷ l) = go (eqb c 44) refl (joined_fields l)
  where
    go : (t : Bool) → eqb c 44 ≡ t → joined (fields_of l) ≡ l → joined (cond t ([] ∷ fields_of l) (ahead c (fields_of l))) ≡ c ∷ l
    go true e h =
        let q : c ≡ 44 = eqb-true c 44 e in
        ap (λ (fs : List (List ℕ)). joined ([] ∷ fs)) (fields_first l) ∙ joined_empty (before 44 l) (fields_in (onward 44 l))
        ∙ ap (λ (x : List ℕ). 44 ∷ x) (sym (ap joined (fields_first l)) ∙ h) ∙ ap (λ (x : ℕ). x ∷ l) (sym q)
    go false e h =
        ap (λ (fs : List (List ℕ)). joined (ahead c fs)) (fields_first l) ∙ joined_ahead c (before 44 l) (fields_in (onward 44 l))
        ∙ ap (λ (x : List ℕ). c ∷ x) (sym (ap joined (fields_first l)) ∙ h)

-- what a tail holds behind its comma
pub joined_tail : (l : List ℕ) → joined (fields_in l) ≡ drop 1 l
unfolding fields_in
joined_tail [] = joined_none
joined_tail (c ∷ l) = joined_fields l

module _ (s : List ℕ) (d i : ℕ) where
  pub first_on : i < length s → (get_or s i 0 ≡ d → ⊥) → i + to_first d (drop i s) ≡ (i + 1) + to_first d (drop (i + 1) s)
  unfolding before
  first_on h n = rw (drop_step s i h, ne_eqb (get_or s i 0) d n) (omega arith)

  pub first_hit : i < length s → get_or s i 0 ≡ d → i + to_first d (drop i s) ≡ i
  unfolding before
  first_hit h e = rw (drop_step s i h, eq-eqb (get_or s i 0) d e) (omega arith)

  pub first_end : length s ≤ i → i + to_first d (drop i s) ≡ i
  unfolding before
  first_end h = rw (drop_end s i h) (omega arith)
