-- The scan's answer is the first escape that 12.9.4.1 forbids, so the second span of a finding at a string is that escape.
use Rattle.std.specs.Prelude.{ℕ, zero, suc, ◌+◌, ◌≤◌, ◌<◌, ◌≡◌, Bool, cond, not, ◌&&◌, ◌||◌, leb, length, drop, Option, Some, None}
use Rattle.std.proofs.Math.Path.{refl}
use Rattle.std.proofs.Common.{ap, sym, ◌∙◌, ⊎_elim, arith, add-one, eq-or-lt_of_le, leb-true, leb-false}
use mathlib.Core.List.{List, [], ◌∷◌}
use Rattle.std.proofs.Math.Bool.{true, false}
use Rattle.std.proofs.Math.Numerals.{add-two}
use Rattle.std.proofs.Math.Dec.{eqb}
use Rattle.std.proofs.Math.ListN.{get_or}
use Rattle.base_common.proofs.Bools.{never}
use Rattle.base_common.proofs.UptoLaws.{and_right_lem}
use Rattle.table_records.specs.Table.{kind_of, parent_of, extra_of}
use Rattle.table_records.specs.Kinds as k
use Rattle.table_records.specs.Extras as extra
use Rattle.check_diagnostics.specs.Finding.{listed, error_at}
use Rattle.check_diagnostics.specs.Codes as code
use Rattle.check_diagnostics.specs.Contexts as context
use Rattle.table_scoping.specs.Scoping.{is_strict}
use Rattle.check_literals.specs.declared.Escape.{Escape}
use Rattle.check_literals.specs.declared.Escape.TheVariants.{LegacyOctal, NonOctalDecimal}
use Rattle.check_literals.specs.Escapes.{is_legacy_octal, is_non_octal_decimal, escape_of, or_else, bad_escape}
use Rattle.check_literals.specs.Literals.{source_text, leading_zero, escape_finding, check_string_literal, check_number_literal}
use Rattle.check_dispatch.specs.Findings.{findings_at}
use Rattle.ecma_literals.specs.Literals.{text_of, legacy_octal_escape, non_octal_decimal_escape, escaped, forbidden_escape, FirstForbidden}
use Rattle.ecma_literals.specs.Changed.{looks_plain}
use Rattle.ecma_literals.specs.EscapeSpans.{escape_error, StringTold, NumberTold, none, one}
use Rattle.ecma_literals.proofs.LiteralsLaws.{legacy_is}

-- what a scan's answer says of the text
abbrev pub Said : List ℕ → Option Escape → Type 0
Said l (Some (LegacyOctal i)) = FirstForbidden l i × (legacy_octal_escape (drop (suc i) l) ≡ true)
Said l (Some (NonOctalDecimal i)) = FirstForbidden l i × (legacy_octal_escape (drop (suc i) l) ≡ false)
Said l None = (j : ℕ) → forbidden_escape l j ≡ false

-- what stands at an offset, by what is left from there on
at_drop : (l : List ℕ) (i b : ℕ) (t : List ℕ) → drop i l ≡ b ∷ t → (get_or l i 0 ≡ b) × (drop (suc i) l ≡ t)
at_drop [] zero b t e = absurd (let z = ap length e in omega arith)
at_drop [] (suc i) b t e = absurd (let z = ap length e in omega arith)
at_drop (x ∷ xs) zero b t e = (ap (λ m. get_or m 0 0) e, ap (drop 1) e)
at_drop (x ∷ xs) (suc i) b t e = at_drop xs i b t e

drop_past : (l : List ℕ) (i j : ℕ) → drop i l ≡ [] → i ≤ j → drop j l ≡ []
drop_past [] i zero d h = refl
drop_past [] i (suc j) d h = refl
drop_past (x ∷ l) zero j d h = absurd (let z = ap length d in omega arith)
drop_past (x ∷ l) (suc i) zero d h = absurd (omega arith)
drop_past (x ∷ l) (suc i) (suc j) d h = drop_past l i j d (omega arith)

-- no escape before offset i is forbidden
abbrev Clean : List ℕ → ℕ → Type 0
Clean l i = (j : ℕ) → j < i → forbidden_escape l j ≡ false

clean_next : (l : List ℕ) (i : ℕ) → Clean l i → forbidden_escape l i ≡ false → Clean l (i + 1)
clean_next l i c h j q = ⊎_elim (λ (e : j ≡ i). ap (forbidden_escape l) e ∙ h) (λ (e : j < i). c j e) (eq-or-lt_of_le (omega arith))

module _ (l : List ℕ) where
  not_escaped : (i : ℕ) → escaped l (suc i) ≡ false → forbidden_escape l i ≡ false
  unfolding forbidden_escape
  not_escaped i e = rw e

  -- a backslash that is not escaped, with c and the bytes m behind it
  forbidden : (i c : ℕ) (m : List ℕ) → escaped l (suc i) ≡ true → drop (suc i) l ≡ c ∷ m → forbidden_escape l i ≡ (is_legacy_octal c m || is_non_octal_decimal c)
  unfolding forbidden_escape non_octal_decimal_escape
  forbidden i c m e d = rw (e, d, legacy_is c m)

  -- a backslash with nothing behind it begins no escape
  nothing : (j : ℕ) → drop (suc j) l ≡ [] → forbidden_escape l j ≡ false
  unfolding forbidden_escape legacy_octal_escape non_octal_decimal_escape
  nothing j d = rw d (go (escaped l (suc j)))
    where
      go : (x : Bool) → (x && false) ≡ false
      go true = refl
      go false = refl

  -- nothing is left from offset i on
  ends : (i : ℕ) → Clean l i → drop i l ≡ [] → (j : ℕ) → forbidden_escape l j ≡ false
  ends i f d j = go (leb (suc j) i) refl
    where
      go : (x : Bool) → leb (suc j) i ≡ x → forbidden_escape l j ≡ false
      go true q = f j (leb-true (suc j) i q)
      go false q = nothing j (drop_past l i (suc j) d (omega (arith, leb-false (suc j) i q)))

  -- the scan goes on at offset i, where m is left
  abbrev On : ℕ → List ℕ → Type 0
  On i m = drop i l ≡ m → escaped l i ≡ false → Clean l i → Said l (bad_escape i m)

  first_is : (i : ℕ) (m : List ℕ) → On i m
  unfolding bad_escape escaped escape_of
  first_is i [] d e f = ends i f d
  first_is i (b ∷ []) d e f = ends (i + 1) (clean_next l i f (nothing i (at_drop l i b [] d).1)) (rw (add-one i) (at_drop l i b [] d).1)
  first_is i (b ∷ c ∷ m) d e f = go (eqb b 92) refl (λ d₁ e₁ f₁. first_is (i + 1) (c ∷ m) d₁ e₁ f₁) (λ d₂ e₂ f₂. first_is (i + 2) m d₂ e₂ f₂)
    where
      byte : get_or l i 0 ≡ b
      byte = (at_drop l i b (c ∷ m) d).0

      rest : drop (suc i) l ≡ c ∷ m
      rest = (at_drop l i b (c ∷ m) d).1

      rest2 : drop (suc (suc i)) l ≡ m
      rest2 = (at_drop l (suc i) c m rest).1

      plain : eqb b 92 ≡ false → escaped l (suc i) ≡ false
      plain q = rw (byte, q)

      begins : eqb b 92 ≡ true → escaped l (suc i) ≡ true
      begins q = rw (byte, q, e)

      behind : escaped l (suc i) ≡ true → escaped l (suc (suc i)) ≡ false
      behind q = go (eqb (get_or l (suc i) 0) 92) (escaped l (suc i)) q
        where
          go : (x y : Bool) → y ≡ true → (x && not y) ≡ false
          go true true r = refl
          go true false r = never (sym r)
          go false y r = refl

      fits : (a : List ℕ) → a ≡ c ∷ m → legacy_octal_escape a ≡ is_legacy_octal c m
      fits a q = ap legacy_octal_escape q ∙ legacy_is c m

      judged : On (i + 2) m → eqb b 92 ≡ true → (x y : Bool) → is_legacy_octal c m ≡ x → is_non_octal_decimal c ≡ y → Said l (or_else (cond x (Some (LegacyOctal i)) (cond y (Some (NonOctalDecimal i)) None)) (bad_escape (i + 2) m))
      judged r q true y a z = (record { here = forbidden i c m (begins q) rest ∙ rw a; before = f }, fits (drop (suc i) l) rest ∙ a)
      judged r q false true a z = (record { here = forbidden i c m (begins q) rest ∙ rw (a, z); before = f }, fits (drop (suc i) l) rest ∙ a)
      judged r q false false a z =
          r (rw (add-two i) rest2) (rw (add-two i) (behind (begins q)))
          (rw (add-two i) (λ j h. clean_next l (i + 1) (clean_next l i f (forbidden i c m (begins q) rest ∙ rw (a, z))) (not_escaped (i + 1) (rw (add-one i) (behind (begins q)))) j (omega arith)))

      go : (x : Bool) → eqb b 92 ≡ x → On (i + 1) (c ∷ m) → On (i + 2) m → Said l (cond x (or_else (escape_of i c m) (bad_escape (i + 2) m)) (bad_escape (i + 1) (c ∷ m)))
      go true q p r = judged r q (is_legacy_octal c m) (is_non_octal_decimal c) refl refl
      go false q p r = p (rw (add-one i) rest) (rw (add-one i) (plain q)) (clean_next l i f (not_escaped i (plain q)))

  pub scan_first : Said l (bad_escape 0 l)
  unfolding escaped
  scan_first = first_is 0 l refl refl (λ j h. absurd (omega arith))

-- AT A NODE
module _ (t : ℕ) (ns ss source names : List ℕ) (n : ℕ) where
  string_findings : kind_of ns n ≡ k.StringLiteral → findings_at t ns ss source names n ≡ listed (check_string_literal ns ss source n)
  unfolding findings_at
  string_findings q = rw q

  number_findings : kind_of ns n ≡ k.NumericLiteral → findings_at t ns ss source names n ≡ listed (check_number_literal ns ss source n)
  unfolding findings_at
  number_findings q = rw q

  -- what a string is told
  pub string_told : kind_of ns n ≡ k.StringLiteral → StringTold ns ss source n (findings_at t ns ss source names n)
  unfolding check_string_literal source_text text_of
  string_told q = rw (string_findings q) (go (is_strict ns ss n) (eqb (kind_of ns (parent_of ns n)) k.JSXAttribute) (looks_plain ns source n) refl refl refl (bad_escape 0 (text_of ns source n)) (scan_first (text_of ns source n)))
    where
      octal : (i : ℕ) → FirstForbidden (text_of ns source n) i → legacy_octal_escape (drop (suc i) (text_of ns source n)) ≡ true → StringTold ns ss source n (listed (escape_finding ns n (Some (LegacyOctal i))))
      octal i f e = let o : StringTold ns ss source n (escape_error ns source n i ∷ []) = one i f in rw e at o

      decimal : (i : ℕ) → FirstForbidden (text_of ns source n) i → legacy_octal_escape (drop (suc i) (text_of ns source n)) ≡ false → StringTold ns ss source n (listed (escape_finding ns n (Some (NonOctalDecimal i))))
      decimal i f e = let o : StringTold ns ss source n (escape_error ns source n i ∷ []) = one i f in rw e at o

      go : (s j p : Bool) → is_strict ns ss n ≡ s → eqb (kind_of ns (parent_of ns n)) k.JSXAttribute ≡ j → looks_plain ns source n ≡ p → (e : Option Escape) → Said (text_of ns source n) e
          → StringTold ns ss source n (listed (cond ((s && not j) && not p) (escape_finding ns n e) None))
      go true false false a b c (Some (LegacyOctal i)) f = octal i f.0 f.1
      go true false false a b c (Some (NonOctalDecimal i)) f = decimal i f.0 f.1
      go true false false a b c None f = none (λ x y z. f)
      go true false true a b c e f = none (λ x y z. never (sym c ∙ z))
      go true true p a b c e f = none (λ x y z. never (sym (and_right_lem (eqb (kind_of ns n) k.StringLiteral) (not (eqb (kind_of ns (parent_of ns n)) k.JSXAttribute)) x) ∙ rw b))
      go false j p a b c e f = none (λ x y z. never (sym y ∙ a))

  -- what a number is told
  pub number_told : kind_of ns n ≡ k.NumericLiteral → NumberTold ns n (findings_at t ns ss source names n)
  unfolding check_number_literal
  number_told q =
      rw (number_findings q)
      (go (leading_zero (source_text ns source n) && is_strict ns ss n) (eqb (extra_of ns n) extra.Octal) (eqb (extra_of ns n) extra.Decimal || eqb (extra_of ns n) extra.Float))
    where
      go : (z o d : Bool) → NumberTold ns n (listed (cond z (cond o (error_at ns code.legacy_octal n n context.none) (cond d (error_at ns code.leading_zero_decimal n n context.none) None)) None))
      go true true d = one 9
      go true false true = one 10
      go true false false = none
      go false o d = none
