-- The first escape of a string that strict code may not have: ECMA-262, 12.9.4, EscapeSequence.
use Rattle.std.specs.Prelude.{Option, Some, None, ℕ, ◌+◌, List, [], ◌∷◌, Bool, true, false, cond, ◌&&◌, ◌||◌, eqb}
use Rattle.base_common.specs.Tests.{within}
use Rattle.check_literals.specs.declared.Escape.{Escape}
use Rattle.check_literals.specs.declared.Escape.TheVariants.{LegacyOctal, NonOctalDecimal}

-- `\`
abbrev pub backslash : ℕ
backslash = 92

-- DecimalDigit :: one of 0 1 2 3 4 5 6 7 8 9
abbrev pub is_digit : ℕ → Bool
is_digit b = within b 48 57

-- the next byte is a DecimalDigit
abbrev pub digit_next : List ℕ → Bool
digit_next [] = false
digit_next (b ∷ l) = is_digit b

-- LegacyOctalEscapeSequence: a 0 with a DecimalDigit behind it, or one of 1 to 7; c is the byte behind the backslash
abbrev pub is_legacy_octal : ℕ → List ℕ → Bool
is_legacy_octal c l = (eqb c 48 && digit_next l) || within c 49 55

-- NonOctalDecimalEscapeSequence :: one of 8 9
abbrev pub is_non_octal_decimal : ℕ → Bool
is_non_octal_decimal c = within c 56 57

-- the escape whose backslash is at offset i
unfoldable pub escape_of : ℕ → ℕ → List ℕ → Option Escape
escape_of i c l = cond (is_legacy_octal c l) (Some (LegacyOctal i)) (cond (is_non_octal_decimal c) (Some (NonOctalDecimal i)) None)

abbrev pub is_fine : Option Escape → Bool
is_fine (Some e) = false
is_fine None = true

-- the first of two that is not fine
abbrev pub or_else : Option Escape → Option Escape → Option Escape
or_else e rest = cond (is_fine e) rest e

-- the first bad escape of bytes that start at offset i: an escape is the backslash and the byte behind it, which may be a backslash
unfoldable pub bad_escape : ℕ → List ℕ → Option Escape
bad_escape i [] = None
bad_escape i (b ∷ []) = None
bad_escape i (b ∷ c ∷ l) = cond (eqb b backslash) (or_else (escape_of i c l) (bad_escape (i + 2) l)) (bad_escape (i + 1) (c ∷ l))
