-- THE RULES AS THE RUST HAS THEM, where they are not the standard's, and the conditions on which they are: in the order of the
-- files Literals and Delete.
use Rattle.std.specs.Prelude.{ℕ, ◌+◌, ◌≡◌, List, [], ◌∷◌, Bool, true, false, not, ◌&&◌, ◌||◌, eqb, length}
use Rattle.base_common.specs.Upto.{any}
use Rattle.table_records.specs.Table.{extra_of}
use Rattle.table_records.specs.Extras as extra
use Rattle.table_children.specs.Children.{value_of}
use Rattle.ecma_base.specs.Strict.{strict_code}
use Rattle.ecma_literals.specs.Literals.{text_of, decimal_digit, next, legacy_octal_integer, non_octal_decimal_integer, numeric_literal, legacy_octal_escape, non_octal_decimal_escape, escapes, string_literal}
use Rattle.ecma_literals.specs.Delete.{private_reference, derives, delete_expression}

-- 9, 10, 11: literals

-- of a number's text only "0 and a digit" is looked at; its base is the table's
abbrev pub zero_then_digit : List ℕ → Bool
zero_then_digit [] = false
zero_then_digit (z ∷ l) = eqb z 48 && next decimal_digit l

unfoldable pub told_octal : List ℕ → List ℕ → List ℕ → ℕ → Bool
told_octal ns ss source n = numeric_literal ns n && (strict_code ns ss n && (zero_then_digit (text_of ns source n) && eqb (extra_of ns n) extra.Octal))

unfoldable pub told_non_octal : List ℕ → List ℕ → List ℕ → ℕ → Bool
told_non_octal ns ss source n =
    numeric_literal ns n && (strict_code ns ss n && (zero_then_digit (text_of ns source n) && (eqb (extra_of ns n) extra.Decimal || eqb (extra_of ns n) extra.Float)))

-- a string gives one finding, for its first such escape, ..
unfoldable pub octal_first : List (List ℕ) → Bool
octal_first [] = false
octal_first (e ∷ es) = legacy_octal_escape e || (not (non_octal_decimal_escape e) && octal_first es)

unfoldable pub non_octal_first : List (List ℕ) → Bool
non_octal_first [] = false
non_octal_first (e ∷ es) = non_octal_decimal_escape e || (not (legacy_octal_escape e) && non_octal_first es)

-- .. and none where its text is two bytes longer than its value, since it is not looked at then
abbrev pub looks_plain : List ℕ → List ℕ → ℕ → Bool
looks_plain ns source n = eqb (length (text_of ns source n)) (extra_of ns n + 2)

unfoldable pub first_octal_escape : List ℕ → List ℕ → List ℕ → ℕ → Bool
first_octal_escape ns ss source n = string_literal ns n && (strict_code ns ss n && (not (looks_plain ns source n) && octal_first (escapes (text_of ns source n))))

unfoldable pub first_non_octal_escape : List ℕ → List ℕ → List ℕ → ℕ → Bool
first_non_octal_escape ns ss source n = string_literal ns n && (strict_code ns ss n && (not (looks_plain ns source n) && non_octal_first (escapes (text_of ns source n))))

-- the table's base of a number that begins with 0 and a digit is that of its text: of NumericLiterals, only these two begin so
pub record BaseTold (ns source : List ℕ) (n : ℕ) : Type 0 where
  pub octal : zero_then_digit (text_of ns source n) ≡ true → eqb (extra_of ns n) extra.Octal ≡ legacy_octal_integer (text_of ns source n)
  pub decimal : zero_then_digit (text_of ns source n) ≡ true → (eqb (extra_of ns n) extra.Decimal || eqb (extra_of ns n) extra.Float) ≡ non_octal_decimal_integer (text_of ns source n)

-- a string whose text is two bytes longer than its value has no such escape, and no string has both
pub record EscapesTold (ns source : List ℕ) (n : ℕ) : Type 0 where
  pub plain : looks_plain ns source n ≡ true → any (λ e. legacy_octal_escape e || non_octal_decimal_escape e) (escapes (text_of ns source n)) ≡ false
  pub one : (any legacy_octal_escape (escapes (text_of ns source n)) && any non_octal_decimal_escape (escapes (text_of ns source n))) ≡ false

-- 32: delete of a private reference

-- strict code is not asked for: in sloppy code a private name stands in no class, so it is an error by another rule (7)
unfoldable pub deletes_private_anywhere : List ℕ → ℕ → Bool
deletes_private_anywhere ns n = delete_expression ns n && derives ns (private_reference ns) (value_of ns n)

-- where they agree: the delete stands in strict code
abbrev pub DeleteTold : List ℕ → List ℕ → ℕ → Type 0
DeleteTold ns ss n = deletes_private_anywhere ns n ≡ true → strict_code ns ss n ≡ true
