-- What the checks of literals raise is what the rules of 12.9.3.1 and 12.9.4.1 say.
use Rattle.check_diagnostics.specs.declared.Finding.{Finding}
use Rattle.std.specs.Prelude.{ℕ, ◌+◌, ◌≤◌, ◌<◌, ◌≡◌, List, [], ◌∷◌, Bool, true, false, cond, not, ◌&&◌, ◌||◌, leb, Option, Some, None}
use Rattle.std.proofs.Math.Path.{refl, ap}
use Rattle.std.proofs.Common.{sym, ◌∙◌, arith, eq-eqb, ne_eqb, eqb-true, leb-true, leb-false}
use Rattle.std.proofs.lemmas.Bool.{eqb-false, lt-leb}
use Rattle.std.proofs.Math.Dec.{eqb}
use Rattle.base_common.specs.Upto.{all, any}
use Rattle.base_common.proofs.UptoLaws.{and_left_lem}
use Rattle.base_common.specs.Tests.{within}
use Rattle.base_common.proofs.Bools.{never, or_first, or_second}
use Rattle.table_records.specs.Table.{kind_of, parent_of, span_start_of, span_end_of, extra_of}
use Rattle.table_records.specs.Kinds as k
use Rattle.table_records.specs.Extras as extra
use Rattle.check_diagnostics.specs.Finding.{error_span, error_at}
use Rattle.check_diagnostics.specs.Codes as code
use Rattle.check_diagnostics.specs.Contexts as context
use Rattle.check_literals.specs.declared.Escape.TheVariants.{LegacyOctal, NonOctalDecimal}
use Rattle.check_literals.specs.Escapes.{digit_next, is_legacy_octal, is_non_octal_decimal, escape_of, or_else, bad_escape}
use Rattle.check_literals.specs.Literals.{source_text, is_checked, is_scanned, leading_zero, escape_finding, check_string_literal, check_number_literal}
use Rattle.ecma_trees.specs.Walk.{only}
use Rattle.ecma_base.specs.Nodes.{of_check}
use Rattle.ecma_base.specs.Strict.{strict_code}
use Rattle.ecma_literals.specs.Literals.{text_of, decimal_digit, octal_digit, non_octal_digit, next, legacy_octal_integer, octals_then_non_octal, non_octal_decimal_integer, numeric_literal, strict_octal, strict_non_octal, legacy_octal_escape, non_octal_decimal_escape, escapes, string_literal, strict_octal_escape, strict_non_octal_escape}
use Rattle.ecma_literals.specs.Changed.{zero_then_digit, told_octal, told_non_octal, octal_first, non_octal_first, looks_plain, first_octal_escape, first_non_octal_escape, BaseTold, EscapesTold}

-- DIGITS
-- lo is in order with the middle: below or at it, and from the next on
split : (b lo mid hi : ℕ) → lo ≤ mid → mid < hi → within b lo hi ≡ (within b lo mid || within b (mid + 1) hi)
split b lo mid hi p q = go (leb lo b) (leb b hi) (leb b mid) (leb (mid + 1) b) refl refl refl refl
  where
    go : (x y z w : Bool) → leb lo b ≡ x → leb b hi ≡ y → leb b mid ≡ z → leb (mid + 1) b ≡ w → (x && y) ≡ ((x && z) || (w && y))
    go true true true w a c d e = refl
    go true true false true a c d e = refl
    go true true false false a c d e = absurd (omega (arith, leb-false b mid d, leb-false (mid + 1) b e))
    go true false true w a c d e = absurd (omega (arith, leb-false b hi c, leb-true b mid d))
    go true false false true a c d e = refl
    go true false false false a c d e = refl
    go false true z true a c d e = absurd (omega (arith, leb-false lo b a, leb-true (mid + 1) b e))
    go false true z false a c d e = refl
    go false false z true a c d e = refl
    go false false z false a c d e = refl

pub digits : (b : ℕ) → decimal_digit b ≡ (octal_digit b || non_octal_digit b)
digits b = split b 48 55 57 (omega arith) (omega arith)

next_digits : (l : List ℕ) → next decimal_digit l ≡ (next octal_digit l || next non_octal_digit l)
next_digits [] = refl
next_digits (b ∷ l) = digits b

-- NUMBERS
leads : (l : List ℕ) → leading_zero l ≡ zero_then_digit l
leads [] = refl
leads (b ∷ []) = refl
leads (b ∷ c ∷ l) = refl

number_by : (s z o d : Bool) (x y : Option Finding) → cond (z && s) (cond o x (cond d y None)) None ≡ cond (s && (z && o)) x (cond (s && (z && d)) y None)
number_by true true true d x y = refl
number_by true true false d x y = refl
number_by true false o d x y = refl
number_by false true o d x y = refl
number_by false false o d x y = refl

-- CODES 9 AND 10: a number raises just what the changed rules say
pub number_is : (ns ss source : List ℕ) (n : ℕ) → kind_of ns n ≡ k.NumericLiteral
    → check_number_literal ns ss source n
    ≡ cond (told_octal ns ss source n) (error_at ns code.legacy_octal n n context.none) (cond (told_non_octal ns ss source n) (error_at ns code.leading_zero_decimal n n context.none) None)
unfolding check_number_literal source_text text_of told_octal told_non_octal
number_is ns ss source n q =
    rw (eq-eqb (kind_of ns n) k.NumericLiteral q, leads (source_text ns source n))
    (number_by (strict_code ns ss n) (zero_then_digit (text_of ns source n)) (eqb (extra_of ns n) extra.Octal) (eqb (extra_of ns n) extra.Decimal || eqb (extra_of ns n) extra.Float)
    (error_at ns code.legacy_octal n n context.none) (error_at ns code.leading_zero_decimal n n context.none))

-- a LegacyOctalIntegerLiteral, or a NonOctalDecimalIntegerLiteral, begins with 0 and a digit
octal_leads : (l : List ℕ) → zero_then_digit l ≡ false → legacy_octal_integer l ≡ false
unfolding legacy_octal_integer
octal_leads [] e = refl
octal_leads (z ∷ l) e = go (eqb z 48) (next octal_digit l) (next non_octal_digit l) (all octal_digit l) (sym (ap (λ x. eqb z 48 && x) (next_digits l)) ∙ e)
  where
    go : (x y w v : Bool) → (x && (y || w)) ≡ false → (x && (y && v)) ≡ false
    go true true w v e = never e
    go true false w v e = refl
    go false y w v e = refl

octals_lead : (l : List ℕ) → next decimal_digit l ≡ false → octals_then_non_octal l ≡ false
unfolding octals_then_non_octal
octals_lead [] e = refl
octals_lead (b ∷ l) e = go (octal_digit b) (non_octal_digit b) (octals_then_non_octal l) (sym (digits b) ∙ e)
  where
    go : (x y w : Bool) → (x || y) ≡ false → (y || (x && w)) ≡ false
    go true y w e = never e
    go false true w e = never e
    go false false w e = refl

decimal_leads : (l : List ℕ) → zero_then_digit l ≡ false → non_octal_decimal_integer l ≡ false
unfolding non_octal_decimal_integer
decimal_leads [] e = refl
decimal_leads (z ∷ l) e = go (eqb z 48) (next decimal_digit l) refl e
  where
    go : (x y : Bool) → next decimal_digit l ≡ y → (x && y) ≡ false → (x && octals_then_non_octal l) ≡ false
    go true true q e = never e
    go true false q e = octals_lead l q
    go false y q e = refl

by_told : (z o p : Bool) → (z ≡ true → o ≡ p) → (z ≡ false → p ≡ false) → (z && o) ≡ p
by_told true o p f g = f refl
by_told false o p f g = sym (g refl)

-- where the table's base is the text's, the changed rules are the standard's
pub octal_agrees : (ns ss source : List ℕ) (n : ℕ) → BaseTold ns source n → told_octal ns ss source n ≡ strict_octal ns ss source n
unfolding told_octal strict_octal
octal_agrees ns ss source n w =
    ap (λ x. numeric_literal ns n && (strict_code ns ss n && x))
    (by_told (zero_then_digit (text_of ns source n)) (eqb (extra_of ns n) extra.Octal) (legacy_octal_integer (text_of ns source n)) w.octal (octal_leads (text_of ns source n)))

pub non_octal_agrees : (ns ss source : List ℕ) (n : ℕ) → BaseTold ns source n → told_non_octal ns ss source n ≡ strict_non_octal ns ss source n
unfolding told_non_octal strict_non_octal
non_octal_agrees ns ss source n w =
    ap (λ x. numeric_literal ns n && (strict_code ns ss n && x))
    (by_told (zero_then_digit (text_of ns source n)) (eqb (extra_of ns n) extra.Decimal || eqb (extra_of ns n) extra.Float) (non_octal_decimal_integer (text_of ns source n)) w.decimal (decimal_leads (text_of ns source n)))

-- STRINGS
-- the five productions of LegacyOctalEscapeSequence: a 0 before a digit, or one of 1 to 7
pub legacy_is : (c : ℕ) (l : List ℕ) → legacy_octal_escape (c ∷ l) ≡ is_legacy_octal c l
unfolding legacy_octal_escape
legacy_is c l = go (eqb c 48) refl
  where
    zero : c ≡ 48 → legacy_octal_escape (c ∷ l) ≡ is_legacy_octal c l
    zero q = rw (q, digit) (by (next octal_digit l) (next non_octal_digit l))
      where
        digit : digit_next l ≡ (next octal_digit l || next non_octal_digit l)
        digit = at l
          where
            at : (m : List ℕ) → digit_next m ≡ (next octal_digit m || next non_octal_digit m)
            at [] = refl
            at (b ∷ m) = digits b

        by : (x y : Bool) → (y || (x || false)) ≡ ((x || y) || false)
        by true true = refl
        by true false = refl
        by false true = refl
        by false false = refl

    low : (eqb c 48 ≡ false) → within c 48 51 ≡ within c 49 51
    low q = split c 48 48 51 (omega arith) (omega arith) ∙ one
      where
        one : (within c 48 48 || within c 49 51) ≡ within c 49 51
        one = by (leb 48 c) (leb c 48) refl refl
          where
            by : (x y : Bool) → leb 48 c ≡ x → leb c 48 ≡ y → ((x && y) || within c 49 51) ≡ within c 49 51
            by true true a b = absurd (eqb-false c 48 q (omega (arith, leb-true 48 c a, leb-true c 48 b)))
            by true false a b = refl
            by false y a b = refl

    other : (eqb c 48 ≡ false) → legacy_octal_escape (c ∷ l) ≡ is_legacy_octal c l
    other q = rw (q, low q, split c 49 51 55 (omega arith) (omega arith)) (by (within c 49 51) (within c 52 55) (next octal_digit l))
      where
        by : (x y d : Bool) → (((x || y) && not d) || ((x && d) || (y && d))) ≡ (x || y)
        by true true true = refl
        by true true false = refl
        by true false true = refl
        by true false false = refl
        by false true true = refl
        by false true false = refl
        by false false true = refl
        by false false false = refl

    go : (x : Bool) → eqb c 48 ≡ x → legacy_octal_escape (c ∷ l) ≡ is_legacy_octal c l
    go true q = zero (eqb-true c 48 q)
    go false q = other q

-- what is raised for a string, by its first escape of either kind, but for the second span (EscapeSpansLaws.antt)
abbrev pub by_first : List ℕ → ℕ → List (List ℕ) → Option Finding
by_first ns n es = cond (octal_first es) (error_at ns code.legacy_octal n n context.none) (cond (non_octal_first es) (error_at ns code.non_octal_decimal_escape_sequence n n context.none) None)

scan_is : (c : ℕ) (ns : List ℕ) (n i : ℕ) (l : List ℕ) → of_check c (escape_finding ns n (bad_escape i l)) ≡ of_check c (by_first ns n (escapes l))
unfolding bad_escape escapes octal_first non_octal_first escape_of non_octal_decimal_escape
scan_is x ns n i [] = refl
scan_is x ns n i (b ∷ []) = refl
scan_is x ns n i (b ∷ c ∷ l) = go (eqb b 92) (scan_is x ns n (i + 1) (c ∷ l)) (scan_is x ns n (i + 2) l)
  where
    by : (o d : Bool) → of_check x (escape_finding ns n (bad_escape (i + 2) l)) ≡ of_check x (by_first ns n (escapes l))
        → of_check x (escape_finding ns n (or_else (cond o (Some (LegacyOctal i)) (cond d (Some (NonOctalDecimal i)) None)) (bad_escape (i + 2) l)))
        ≡ of_check x (cond (o || (not d && octal_first (escapes l))) (error_at ns code.legacy_octal n n context.none) (cond (d || (not o && non_octal_first (escapes l))) (error_at ns code.non_octal_decimal_escape_sequence n n context.none) None))
    by true d h = refl
    by false true h = refl
    by false false h = h

    go : (z : Bool) → of_check x (escape_finding ns n (bad_escape (i + 1) (c ∷ l))) ≡ of_check x (by_first ns n (escapes (c ∷ l))) → of_check x (escape_finding ns n (bad_escape (i + 2) l)) ≡ of_check x (by_first ns n (escapes l))
        → of_check x (escape_finding ns n (cond z (or_else (escape_of i c l) (bad_escape (i + 2) l)) (bad_escape (i + 1) (c ∷ l)))) ≡ of_check x (by_first ns n (cond z ((c ∷ l) ∷ escapes l) (escapes (c ∷ l))))
    go true p h = rw (legacy_is c l) (by (is_legacy_octal c l) (is_non_octal_decimal c) h)
    go false p h = p

of_checked : (c : ℕ) (b : Bool) (x y : Option Finding) → of_check c x ≡ of_check c y → of_check c (cond b x None) ≡ of_check c (cond b y None)
of_checked c true x y e = e
of_checked c false x y e = refl

string_by : (j s p o d : Bool) (x y : Option Finding) → cond ((s && not j) && not p) (cond o x (cond d y None)) None ≡ cond (not j && (s && (not p && o))) x (cond (not j && (s && (not p && d))) y None)
string_by true true p o d x y = refl
string_by true false p o d x y = refl
string_by false true true o d x y = refl
string_by false true false o d x y = refl
string_by false false p o d x y = refl

-- CODES 9 AND 11: a string raises just what the changed rules say
pub string_is : (c : ℕ) (ns ss source : List ℕ) (n : ℕ) → kind_of ns n ≡ k.StringLiteral
    → of_check c (check_string_literal ns ss source n)
    ≡ of_check c (cond (first_octal_escape ns ss source n) (error_at ns code.legacy_octal n n context.none) (cond (first_non_octal_escape ns ss source n) (error_at ns code.non_octal_decimal_escape_sequence n n context.none) None))
unfolding check_string_literal source_text text_of first_octal_escape first_non_octal_escape
string_is c ns ss source n q =
    of_checked c (is_checked ns ss n && is_scanned ns source n) (escape_finding ns n (bad_escape 0 (source_text ns source n))) (by_first ns n (escapes (text_of ns source n))) (scan_is c ns n 0 (text_of ns source n))
    ∙ rw (eq-eqb (kind_of ns n) k.StringLiteral q)
    (ap (of_check c)
    (string_by (eqb (kind_of ns (parent_of ns n)) k.JSXAttribute) (strict_code ns ss n) (looks_plain ns source n) (octal_first (escapes (text_of ns source n))) (non_octal_first (escapes (text_of ns source n)))
    (error_at ns code.legacy_octal n n context.none) (error_at ns code.non_octal_decimal_escape_sequence n n context.none)))

-- a string without escapes of the other kind: the first is any
octal_only : (es : List (List ℕ)) → any non_octal_decimal_escape es ≡ false → octal_first es ≡ any legacy_octal_escape es
unfolding octal_first
octal_only [] e = refl
octal_only (x ∷ es) e =
    rw (or_first (non_octal_decimal_escape x) (any non_octal_decimal_escape es) e, octal_only es (or_second (non_octal_decimal_escape x) (any non_octal_decimal_escape es) e))

non_octal_only : (es : List (List ℕ)) → any legacy_octal_escape es ≡ false → non_octal_first es ≡ any non_octal_decimal_escape es
unfolding non_octal_first
non_octal_only [] e = refl
non_octal_only (x ∷ es) e =
    rw (or_first (legacy_octal_escape x) (any legacy_octal_escape es) e, non_octal_only es (or_second (legacy_octal_escape x) (any legacy_octal_escape es) e))

-- a string with none of a kind has none of it first
octal_none : (es : List (List ℕ)) → any legacy_octal_escape es ≡ false → octal_first es ≡ false
unfolding octal_first
octal_none [] e = refl
octal_none (x ∷ es) e =
    rw (or_first (legacy_octal_escape x) (any legacy_octal_escape es) e, octal_none es (or_second (legacy_octal_escape x) (any legacy_octal_escape es) e)) (by (non_octal_decimal_escape x))
  where
    by : (y : Bool) → (not y && false) ≡ false
    by true = refl
    by false = refl

non_octal_none : (es : List (List ℕ)) → any non_octal_decimal_escape es ≡ false → non_octal_first es ≡ false
unfolding non_octal_first
non_octal_none [] e = refl
non_octal_none (x ∷ es) e =
    rw (or_first (non_octal_decimal_escape x) (any non_octal_decimal_escape es) e, non_octal_none es (or_second (non_octal_decimal_escape x) (any non_octal_decimal_escape es) e)) (by (legacy_octal_escape x))
  where
    by : (y : Bool) → (not y && false) ≡ false
    by true = refl
    by false = refl

any_both : (es : List (List ℕ)) → any (λ e. legacy_octal_escape e || non_octal_decimal_escape e) es ≡ (any legacy_octal_escape es || any non_octal_decimal_escape es)
any_both [] = refl
any_both (x ∷ es) = by (legacy_octal_escape x) (non_octal_decimal_escape x) (any legacy_octal_escape es) (any non_octal_decimal_escape es) (any_both es)
  where
    by : (a b c d : Bool) → any (λ e. legacy_octal_escape e || non_octal_decimal_escape e) es ≡ (c || d) → ((a || b) || any (λ e. legacy_octal_escape e || non_octal_decimal_escape e) es) ≡ ((a || c) || (b || d))
    by true b c d h = refl
    by false true true d h = refl
    by false true false d h = refl
    by false false c d h = h

-- p: the text is not looked at; a, b: some escape of the kind, of the other; f: one of the kind comes first
looked : (p a b f : Bool) → (p ≡ true → (a || b) ≡ false) → (a && b) ≡ false → (b ≡ false → f ≡ a) → (a ≡ false → f ≡ false) → (not p && f) ≡ a
looked true true b f g h u v = never (g refl)
looked true false b f g h u v = refl
looked false true true f g h u v = never h
looked false true false f g h u v = u refl
looked false false b f g h u v = v refl

swap_or : (a b : Bool) → (a || b) ≡ false → (b || a) ≡ false
swap_or true b e = never e
swap_or false true e = never e
swap_or false false e = refl

swap_and : (a b : Bool) → (a && b) ≡ false → (b && a) ≡ false
swap_and true true e = never e
swap_and true false e = refl
swap_and false true e = refl
swap_and false false e = refl

-- where the value's length tells of escapes, and no string has both kinds, the changed rules are the standard's
module _ (ns ss source : List ℕ) (n : ℕ) (w : EscapesTold ns source n) where
  abbrev es : List (List ℕ)
  es = escapes (text_of ns source n)

  told : looks_plain ns source n ≡ true → (any legacy_octal_escape es || any non_octal_decimal_escape es) ≡ false
  told p = sym (any_both es) ∙ w.plain p

  pub octal_escape_agrees : first_octal_escape ns ss source n ≡ strict_octal_escape ns ss source n
  unfolding first_octal_escape strict_octal_escape
  octal_escape_agrees =
      ap (λ x. string_literal ns n && (strict_code ns ss n && x))
      (looked (looks_plain ns source n) (any legacy_octal_escape es) (any non_octal_decimal_escape es) (octal_first es) told w.one (octal_only es) (octal_none es))

  pub non_octal_escape_agrees : first_non_octal_escape ns ss source n ≡ strict_non_octal_escape ns ss source n
  unfolding first_non_octal_escape strict_non_octal_escape
  non_octal_escape_agrees =
      ap (λ x. string_literal ns n && (strict_code ns ss n && x))
      (looked (looks_plain ns source n) (any non_octal_decimal_escape es) (any legacy_octal_escape es) (non_octal_first es)
      (λ p. swap_or (any legacy_octal_escape es) (any non_octal_decimal_escape es) (told p))
      (swap_and (any legacy_octal_escape es) (any non_octal_decimal_escape es) w.one) (non_octal_only es) (non_octal_none es))

-- THE NODES OF CODES 9, 10 AND 11
-- no number is octal and decimal
bases_apart : (e : ℕ) → (eqb e extra.Octal && (eqb e extra.Decimal || eqb e extra.Float)) ≡ false
bases_apart e = go (eqb e 3) refl
  where
    go : (b : Bool) → eqb e 3 ≡ b → (b && (eqb e 0 || eqb e 1)) ≡ false
    go true q = let z = eqb-true e 3 q in rw (ne_eqb e 0 (λ y. omega arith), ne_eqb e 1 (λ y. omega arith))
    go false q = refl

-- no escape is of both kinds
escapes_apart : (e : List ℕ) → (legacy_octal_escape e && non_octal_decimal_escape e) ≡ false
unfolding legacy_octal_escape non_octal_decimal_escape
escapes_apart [] = refl
escapes_apart (c ∷ l) = rw (legacy_is c l) (go (non_octal_digit c) refl)
  where
    go : (b : Bool) → non_octal_digit c ≡ b → (is_legacy_octal c l && b) ≡ false
    go true q =
        let x = leb-true 56 c (and_left_lem (leb 56 c) (leb c 57) q) in
        rw (ne_eqb c 48 (λ y. omega arith), lt-leb c 55 (omega arith)) (by (leb 49 c))
      where
        by : (y : Bool) → ((y && false) && true) ≡ false
        by true = refl
        by false = refl
    go false q = by (is_legacy_octal c l)
      where
        by : (y : Bool) → (y && false) ≡ false
        by true = refl
        by false = refl

first_apart : (es : List (List ℕ)) → (octal_first es && non_octal_first es) ≡ false
unfolding octal_first non_octal_first
first_apart [] = refl
first_apart (e ∷ es) = go (legacy_octal_escape e) (non_octal_decimal_escape e) (octal_first es) (non_octal_first es) (escapes_apart e) (first_apart es)
  where
    go : (a b c d : Bool) → (a && b) ≡ false → (c && d) ≡ false → ((a || (not b && c)) && (b || (not a && d))) ≡ false
    go true true c d x y = x
    go true false c d x y = refl
    go false true c d x y = refl
    go false false c d x y = y

-- two tests that are apart stay so under others
apart : (p s q a b : Bool) → (a && b) ≡ false → ((p && (s && (q && a))) && (p && (s && (q && b)))) ≡ false
apart true true true a b e = e
apart true true false a b e = refl
apart true false q a b e = refl
apart false s q a b e = refl

first_of : (c s e s2 e2 n : ℕ) (d : ℕ) → (a b : Bool) → eqb d c ≡ false → of_check c (cond a (error_span c n s e context.none) (cond b (error_span d n s2 e2 context.none) None)) ≡ only a n
first_of c s e s2 e2 n d true b q = rw (eq-eqb c c refl)
first_of c s e s2 e2 n d false true q = rw q
first_of c s e s2 e2 n d false false q = refl

second_of : (c s e s2 e2 n : ℕ) (d : ℕ) → (a b : Bool) → eqb d c ≡ false → (a && b) ≡ false → of_check c (cond a (error_span d n s2 e2 context.none) (cond b (error_span c n s e context.none) None)) ≡ only b n
second_of c s e s2 e2 n d true true q x = never x
second_of c s e s2 e2 n d true false q x = rw q
second_of c s e s2 e2 n d false true q x = rw (eq-eqb c c refl)
second_of c s e s2 e2 n d false false q x = refl

module _ (ns ss source : List ℕ) (n : ℕ) where
  -- 9 at a number
  pub number_octal : kind_of ns n ≡ k.NumericLiteral → of_check code.legacy_octal (check_number_literal ns ss source n) ≡ only (told_octal ns ss source n) n
  number_octal q = ap (of_check 9) (number_is ns ss source n q) ∙ first_of 9 (span_start_of ns n) (span_end_of ns n) (span_start_of ns n) (span_end_of ns n) n 10 (told_octal ns ss source n) (told_non_octal ns ss source n) refl

  -- 10 at a number
  pub number_non_octal : kind_of ns n ≡ k.NumericLiteral → of_check code.leading_zero_decimal (check_number_literal ns ss source n) ≡ only (told_non_octal ns ss source n) n
  unfolding told_octal told_non_octal
  number_non_octal q =
      ap (of_check 10) (number_is ns ss source n q)
      ∙ second_of 10 (span_start_of ns n) (span_end_of ns n) (span_start_of ns n) (span_end_of ns n) n 9 (told_octal ns ss source n) (told_non_octal ns ss source n) refl
      (apart (numeric_literal ns n) (strict_code ns ss n) (zero_then_digit (text_of ns source n)) (eqb (extra_of ns n) extra.Octal) (eqb (extra_of ns n) extra.Decimal || eqb (extra_of ns n) extra.Float) (bases_apart (extra_of ns n)))

  -- 9 at a string
  pub string_octal : kind_of ns n ≡ k.StringLiteral → of_check code.legacy_octal (check_string_literal ns ss source n) ≡ only (first_octal_escape ns ss source n) n
  string_octal q = string_is 9 ns ss source n q ∙ first_of 9 (span_start_of ns n) (span_end_of ns n) (span_start_of ns n) (span_end_of ns n) n 11 (first_octal_escape ns ss source n) (first_non_octal_escape ns ss source n) refl

  -- 11 at a string
  pub string_non_octal : kind_of ns n ≡ k.StringLiteral → of_check code.non_octal_decimal_escape_sequence (check_string_literal ns ss source n) ≡ only (first_non_octal_escape ns ss source n) n
  unfolding first_octal_escape first_non_octal_escape
  string_non_octal q =
      string_is 11 ns ss source n q
      ∙ second_of 11 (span_start_of ns n) (span_end_of ns n) (span_start_of ns n) (span_end_of ns n) n 9 (first_octal_escape ns ss source n) (first_non_octal_escape ns ss source n) refl
      (apart (string_literal ns n) (strict_code ns ss n) (not (looks_plain ns source n)) (octal_first (escapes (text_of ns source n))) (non_octal_first (escapes (text_of ns source n))) (first_apart (escapes (text_of ns source n))))
