-- ECMA-262, 12.9.3 Numeric Literals and 12.9.4 String Literals, with 12.9.3.1 and 12.9.4.1 Static Semantics: Early Errors: what strict mode code may not have. A literal's text is the bytes of its span.
use Rattle.std.specs.Prelude.{ℕ, zero, suc, ◌-◌, ◌<◌, ◌≡◌, List, [], ◌∷◌, Bool, true, false, cond, not, ◌&&◌, ◌||◌, eqb, get_or, take, drop}
use Rattle.base_common.specs.Upto.{all, any}
use Rattle.base_common.specs.Tests.{within}
use Rattle.table_records.specs.Table.{kind_of, parent_of, span_start_of, span_end_of}
use Rattle.table_records.specs.Kinds as k
use Rattle.ecma_base.specs.Strict.{strict_code}

unfoldable pub text_of : List ℕ → List ℕ → ℕ → List ℕ
text_of ns source n = take (span_end_of ns n - span_start_of ns n) (drop (span_start_of ns n) source)

-- DecimalDigit, OctalDigit, NonOctalDigit
abbrev pub decimal_digit : ℕ → Bool
decimal_digit b = within b 48 57

abbrev pub octal_digit : ℕ → Bool
octal_digit b = within b 48 55

abbrev pub non_octal_digit : ℕ → Bool
non_octal_digit b = within b 56 57

-- the next character is one of these: [lookahead ∈ ..]
abbrev pub next : (ℕ → Bool) → List ℕ → Bool
next p [] = false
next p (b ∷ l) = p b

-- 12.9.3: LegacyOctalIntegerLiteral :: 0 OctalDigit, LegacyOctalIntegerLiteral OctalDigit
unfoldable pub legacy_octal_integer : List ℕ → Bool
legacy_octal_integer [] = false
legacy_octal_integer (z ∷ l) = eqb z 48 && (next octal_digit l && all octal_digit l)

-- OctalDigits, if any, and then a NonOctalDigit
unfoldable pub octals_then_non_octal : List ℕ → Bool
octals_then_non_octal [] = false
octals_then_non_octal (b ∷ l) = non_octal_digit b || (octal_digit b && octals_then_non_octal l)

-- the text begins with a NonOctalDecimalIntegerLiteral :: 0 NonOctalDigit, LegacyOctalLikeDecimalIntegerLiteral NonOctalDigit, NonOctalDecimalIntegerLiteral DecimalDigit
unfoldable pub non_octal_decimal_integer : List ℕ → Bool
non_octal_decimal_integer [] = false
non_octal_decimal_integer (z ∷ l) = eqb z 48 && octals_then_non_octal l

abbrev pub numeric_literal : List ℕ → ℕ → Bool
numeric_literal ns n = eqb (kind_of ns n) k.NumericLiteral

-- 12.9.3.1: NumericLiteral :: LegacyOctalIntegerLiteral: "It is a Syntax Error if IsStrict(this production) is true."
unfoldable pub strict_octal : List ℕ → List ℕ → List ℕ → ℕ → Bool
strict_octal ns ss source n = numeric_literal ns n && (strict_code ns ss n && legacy_octal_integer (text_of ns source n))

-- 12.9.3.1: DecimalIntegerLiteral :: NonOctalDecimalIntegerLiteral: the same
unfoldable pub strict_non_octal : List ℕ → List ℕ → List ℕ → ℕ → Bool
strict_non_octal ns ss source n = numeric_literal ns n && (strict_code ns ss n && non_octal_decimal_integer (text_of ns source n))

-- 12.9.4: LegacyOctalEscapeSequence, of what stands behind the backslash
unfoldable pub legacy_octal_escape : List ℕ → Bool
legacy_octal_escape [] = false
legacy_octal_escape (c ∷ l) =
    -- 0 [lookahead ∈ { 8, 9 }]
    (eqb c 48 && next non_octal_digit l)
    -- NonZeroOctalDigit [lookahead ∉ OctalDigit]
    || ((within c 49 55 && not (next octal_digit l))
    -- ZeroToThree OctalDigit, with another OctalDigit or without
    || ((within c 48 51 && next octal_digit l)
    -- FourToSeven OctalDigit
    || (within c 52 55 && next octal_digit l)))

-- 12.9.4: NonOctalDecimalEscapeSequence :: one of 8 9
unfoldable pub non_octal_decimal_escape : List ℕ → Bool
non_octal_decimal_escape [] = false
non_octal_decimal_escape (c ∷ l) = non_octal_digit c

-- the escape sequences of a string, each with all that stands behind its backslash. A character that a backslash precedes begins no escape itself.
unfoldable pub escapes : List ℕ → List (List ℕ)
escapes [] = []
escapes (b ∷ []) = []
escapes (b ∷ c ∷ l) = cond (eqb b 92) ((c ∷ l) ∷ escapes l) (escapes (c ∷ l))

-- a StringLiteral; an attribute of JSX has strings of its own, without escapes
abbrev pub string_literal : List ℕ → ℕ → Bool
string_literal ns n = eqb (kind_of ns n) k.StringLiteral && not (eqb (kind_of ns (parent_of ns n)) k.JSXAttribute)

-- 12.9.4.1: EscapeSequence :: LegacyOctalEscapeSequence: "It is a Syntax Error if IsStrict(this production) is true."
unfoldable pub strict_octal_escape : List ℕ → List ℕ → List ℕ → ℕ → Bool
strict_octal_escape ns ss source n = string_literal ns n && (strict_code ns ss n && any legacy_octal_escape (escapes (text_of ns source n)))

-- 12.9.4.1: EscapeSequence :: NonOctalDecimalEscapeSequence: the same
unfoldable pub strict_non_octal_escape : List ℕ → List ℕ → List ℕ → ℕ → Bool
strict_non_octal_escape ns ss source n = string_literal ns n && (strict_code ns ss n && any non_octal_decimal_escape (escapes (text_of ns source n)))

-- WHICH ESCAPE, by offsets in the text
-- 12.9.4: a character of a string is a SourceCharacter other than a backslash, or a backslash with the EscapeSequence (or the line end) that it begins: so what stands at an offset is escaped if a backslash stands right before it that is
-- not escaped itself. (The further characters of an EscapeSequence, digits and braces, are no backslashes.)
unfoldable pub escaped : List ℕ → ℕ → Bool
escaped text zero = false
escaped text (suc i) = eqb (get_or text i 0) 92 && not (escaped text i)

-- 12.9.4.1: the backslash at offset i begins a LegacyOctalEscapeSequence or a NonOctalDecimalEscapeSequence, which strict code may not have
unfoldable pub forbidden_escape : List ℕ → ℕ → Bool
forbidden_escape text i = escaped text (suc i) && (legacy_octal_escape (drop (suc i) text) || non_octal_decimal_escape (drop (suc i) text))

-- the first of them
pub record FirstForbidden (text : List ℕ) (i : ℕ) : Type 0 where
  pub here : forbidden_escape text i ≡ true
  pub before : (j : ℕ) → j < i → forbidden_escape text j ≡ false
