-- Laws of the scan, as a loop over the places meets it.
use Prim.Native.Nat.{ℕ, zero, suc, ◌+◌, ◌-◌, ◌≤◌, ◌<◌}
use Rattle.std.specs.Prelude.{Option, Some, None, ◌≡◌, refl, List, [], ◌∷◌, Bool, true, false, cond, ◌&&◌, eqb, get_or, drop}
use Rattle.std.proofs.Common.{◌∙◌, length-take, length-drop}
use borrow.Author.Tests.{eq-eqb, ne_eqb}
use mathlib.Core.Path.{sym}
use Rattle.std.proofs.Math.ListN.{length}
use Rattle.std.proofs.Math.Seq.{drop-cons}
use Rattle.std.proofs.Math.Numerals.{add-one, add-two}
use native.Mathlib.Omega.{arith}
use Rattle.table_records.specs.Table.{span_start_of, span_end_of}
use Rattle.check_literals.specs.Escapes.{backslash, digit_next, is_digit, is_legacy_octal, is_non_octal_decimal, is_fine, escape_of, or_else, bad_escape}
use Rattle.check_literals.specs.Literals.{source_text, leading_zero}
use Rattle.check_literals.specs.declared.Escape.{Escape}
use Rattle.check_literals.specs.declared.Escape.TheVariants.{LegacyOctal, NonOctalDecimal}

nothing_left : (i : ℕ) (l : List ℕ) → length l ≤ i → drop i l ≡ []
nothing_left zero [] h = refl
nothing_left zero (x ∷ l) h = absurd (omega arith)
nothing_left (suc i) [] h = refl
nothing_left (suc i) (x ∷ l) h = nothing_left i l (omega arith)

module _ (l : List ℕ) (i : ℕ) where
  two : i + 1 < length l → drop i l ≡ get_or l i 0 ∷ get_or l (i + 1) 0 ∷ drop (i + 2) l
  two h =
      let g : suc i < length l = omega arith in
      drop-cons l i 0 (omega arith) ∙ rw (drop-cons l (suc i) 0 g, add-one i, add-two i)

  -- a byte that is no backslash is passed over
  pub scan_plain : i + 1 < length l → (get_or l i 0 ≡ backslash → ⊥) → bad_escape i (drop i l) ≡ bad_escape (i + 1) (drop (i + 1) l)
  unfolding bad_escape
  scan_plain h n =
      let g : suc i < length l = omega arith in
      rw (two h, ne_eqb (get_or l i 0) backslash n, add-one i, drop-cons l (suc i) 0 g, add-two i)

  -- an escape is judged ..
  scan_escape : i + 1 < length l → get_or l i 0 ≡ backslash → bad_escape i (drop i l) ≡ or_else (escape_of i (get_or l (i + 1) 0) (drop (i + 2) l)) (bad_escape (i + 2) (drop (i + 2) l))
  unfolding bad_escape
  scan_escape h e = rw (two h, eq-eqb (get_or l i 0) backslash e)

  -- .. and stops the scan, or its two bytes are passed over
  pub scan_stop : i + 1 < length l → get_or l i 0 ≡ backslash → (e : Option Escape) → e ≡ escape_of i (get_or l (i + 1) 0) (drop (i + 2) l) → is_fine e ≡ false → bad_escape i (drop i l) ≡ e
  scan_stop h b e q f = scan_escape h b ∙ rw (← q, f)

  pub scan_on : i + 1 < length l → get_or l i 0 ≡ backslash → (e : Option Escape) → e ≡ escape_of i (get_or l (i + 1) 0) (drop (i + 2) l) → is_fine e ≡ true → bad_escape i (drop i l) ≡ bad_escape (i + 2) (drop (i + 2) l)
  scan_on h b e q f = scan_escape h b ∙ rw (← q, f)

  pub digit_here : i < length l → digit_next (drop i l) ≡ is_digit (get_or l i 0)
  digit_here h = rw (drop-cons l i 0 h)

  pub digit_none : length l ≤ i → digit_next (drop i l) ≡ false
  digit_none h = rw (nothing_left i l h)

short : (i : ℕ) (m : List ℕ) → length m ≤ 1 → bad_escape i m ≡ None
unfolding bad_escape
short i [] h = refl
short i (b ∷ []) h = refl
short i (b ∷ c ∷ l) h = absurd (omega arith)

-- where fewer than two bytes are left there is no escape
pub scan_end : (l : List ℕ) (i : ℕ) → length l ≤ i + 1 → bad_escape i (drop i l) ≡ None
scan_end l i h = short i (drop i l) (omega (arith, length-drop i l))

-- an escape ends within m bytes
abbrev Ends : ℕ → Option Escape → Type 0
Ends m (Some (LegacyOctal j)) = j + 2 ≤ m
Ends m (Some (NonOctalDecimal j)) = j + 2 ≤ m
Ends m None = Unit {0}

ends_or : (i m : ℕ) (x y : Bool) (rest : Option Escape) → i + 2 ≤ m → Ends m rest → Ends m (or_else (cond x (Some (LegacyOctal i)) (cond y (Some (NonOctalDecimal i)) None)) rest)
ends_or i m true y rest h r = h
ends_or i m false true rest h r = h
ends_or i m false false rest h r = r

ends_if : (x : Bool) (m : ℕ) (e f : Option Escape) → Ends m e → Ends m f → Ends m (cond x e f)
ends_if true m e f a b = a
ends_if false m e f a b = b

ends_by : (m k : ℕ) (e : Option Escape) → k ≡ m → Ends k e → Ends m e
ends_by m k (Some (LegacyOctal j)) q h = omega arith
ends_by m k (Some (NonOctalDecimal j)) q h = omega arith
ends_by m k None q h = h

bad_ends : (i : ℕ) (l : List ℕ) → Ends (i + length l) (bad_escape i l)
unfolding bad_escape escape_of
bad_ends i [] = tt
bad_ends i (b ∷ []) = tt
bad_ends i (b ∷ c ∷ l) =
    let m = i + length (b ∷ c ∷ l) in
    ends_if (eqb b backslash) m (or_else (escape_of i c l) (bad_escape (i + 2) l)) (bad_escape (i + 1) (c ∷ l))
    (ends_or i m (is_legacy_octal c l) (is_non_octal_decimal c) (bad_escape (i + 2) l) (omega arith) (ends_by m (i + 2 + length l) (bad_escape (i + 2) l) (omega arith) (bad_ends (i + 2) l)))
    (ends_by m (i + 1 + length (c ∷ l)) (bad_escape (i + 1) (c ∷ l)) (omega arith) (bad_ends (i + 1) (c ∷ l)))

-- the escape of a string ends within its span
abbrev pub Spanned : List ℕ → ℕ → Option Escape → Type 0
Spanned ns n (Some (LegacyOctal i)) = span_start_of ns n + i + 2 ≤ span_end_of ns n
Spanned ns n (Some (NonOctalDecimal i)) = span_start_of ns n + i + 2 ≤ span_end_of ns n
Spanned ns n None = Unit {0}

pub escape_spanned : (ns source : List ℕ) (n : ℕ) (e : Option Escape) → e ≡ bad_escape 0 (source_text ns source n) → Spanned ns n e
unfolding source_text
escape_spanned ns source n e q = go e (rw (← q) at (bad_ends 0 (source_text ns source n)))
  where
    short : length (source_text ns source n) ≤ span_end_of ns n - span_start_of ns n
    short = omega (arith, length-take (span_end_of ns n - span_start_of ns n) (drop (span_start_of ns n) source))

    go : (e : Option Escape) → Ends (0 + length (source_text ns source n)) e → Spanned ns n e
    go (Some (LegacyOctal i)) h = omega (arith, short)
    go (Some (NonOctalDecimal i)) h = omega (arith, short)
    go None h = h

-- the same of each kind of escape, as the scan gives it
pub legacy_spanned : (ns source : List ℕ) (n i : ℕ) → bad_escape 0 (source_text ns source n) ≡ Some (LegacyOctal i) → span_start_of ns n + i + 2 ≤ span_end_of ns n
legacy_spanned ns source n i q = escape_spanned ns source n (Some (LegacyOctal i)) (sym q)

pub decimal_spanned : (ns source : List ℕ) (n i : ℕ) → bad_escape 0 (source_text ns source n) ≡ Some (NonOctalDecimal i) → span_start_of ns n + i + 2 ≤ span_end_of ns n
decimal_spanned ns source n i q = escape_spanned ns source n (Some (NonOctalDecimal i)) (sym q)

-- a leading zero, by places
pub zero_short : (l : List ℕ) → length l < 2 → leading_zero l ≡ false
zero_short [] h = refl
zero_short (b ∷ []) h = go (eqb b 48)
  where
    go : (x : Bool) → (x && false) ≡ false
    go true = refl
    go false = refl
zero_short (b ∷ c ∷ l) h = absurd (omega arith)

pub zero_long : (l : List ℕ) → 2 ≤ length l → leading_zero l ≡ (eqb (get_or l 0 0) 48 && digit_next (drop 1 l))
zero_long [] h = absurd (omega arith)
zero_long (b ∷ l) h = refl
