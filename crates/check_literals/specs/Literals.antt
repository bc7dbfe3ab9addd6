-- Strings and numbers that strict code may not have.
use Rattle.check_diagnostics.specs.declared.Finding.{Finding}
use Rattle.std.specs.Prelude.{ℕ, ◌+◌, ◌-◌, List, [], ◌∷◌, Bool, false, cond, not, ◌&&◌, ◌||◌, eqb, length, take, drop, Option, Some, None}
use Rattle.table_records.specs.Table.{kind_of, parent_of, span_start_of, span_end_of, extra_of}
use Rattle.table_records.specs.Kinds as k
use Rattle.table_records.specs.Extras as extra
use Rattle.check_diagnostics.specs.Finding.{error_at}
use Rattle.check_diagnostics.specs.Codes as code
use Rattle.check_diagnostics.specs.Contexts as context
use Rattle.table_scoping.specs.Scoping.{is_strict}
use Rattle.check_literals.specs.Escapes.{digit_next, bad_escape}
use Rattle.check_literals.specs.declared.Escape.{Escape}
use Rattle.check_literals.specs.declared.Escape.TheVariants.{LegacyOctal, NonOctalDecimal}

-- the source bytes of a node's span
unfoldable pub source_text : List ℕ → List ℕ → ℕ → List ℕ
source_text ns source n = take (span_end_of ns n - span_start_of ns n) (drop (span_start_of ns n) source)

-- strict code, and no attribute of JSX, whose strings have no escapes
abbrev pub is_checked : List ℕ → List ℕ → ℕ → Bool
is_checked ns ss n = is_strict ns ss n && not (eqb (kind_of ns (parent_of ns n)) k.JSXAttribute)

-- "where raw length is value length plus 2 the Rust scans nothing"
abbrev pub is_scanned : List ℕ → List ℕ → ℕ → Bool
is_scanned ns source n = not (eqb (length (source_text ns source n)) (extra_of ns n + 2))

-- raised at the string n; the second span is the backslash at offset i of its text and the byte after it, as source offsets
abbrev pub error_escape : List ℕ → ℕ → ℕ → ℕ → Option Finding
error_escape ns code n i =
    Some (record { code = code; node = record { 0 = n }; start = span_start_of ns n; end = span_end_of ns n; start2 = span_start_of ns n + i; end2 = span_start_of ns n + i + 2; context = context.none })

-- what a scan gives
abbrev pub escape_finding : List ℕ → ℕ → Option Escape → Option Finding
escape_finding ns n (Some (LegacyOctal i)) = error_escape ns code.legacy_octal n i
escape_finding ns n (Some (NonOctalDecimal i)) = error_escape ns code.non_octal_decimal_escape_sequence n i
escape_finding ns n None = None

unfoldable pub check_string_literal : List ℕ → List ℕ → List ℕ → ℕ → Option Finding
check_string_literal ns ss source n = cond (is_checked ns ss n && is_scanned ns source n) (escape_finding ns n (bad_escape 0 (source_text ns source n))) None

-- a 0 with a digit behind it
abbrev pub leading_zero : List ℕ → Bool
leading_zero [] = false
leading_zero (b ∷ l) = eqb b 48 && digit_next l

-- octal with a leading zero: a LegacyOctalIntegerLiteral; decimal or a fraction with one: a NonOctalDecimalIntegerLiteral begins it
unfoldable pub check_number_literal : List ℕ → List ℕ → List ℕ → ℕ → Option Finding
check_number_literal ns ss source n =
    cond (leading_zero (source_text ns source n) && is_strict ns ss n)
    (cond (eqb (extra_of ns n) extra.Octal)
    (error_at ns code.legacy_octal n n context.none)
    (cond (eqb (extra_of ns n) extra.Decimal || eqb (extra_of ns n) extra.Float) (error_at ns code.leading_zero_decimal n n context.none) None))
    None
