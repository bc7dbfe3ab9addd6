-- The second span of codes 9 and 11. At a string: the backslash of the first escape that 12.9.4.1 forbids, and the byte after it, as source offsets. At a number there is none.
use Rattle.std.specs.Prelude.{ℕ, suc, ◌+◌, ◌≡◌, List, [], ◌∷◌, true, false, cond, drop}
use Rattle.table_records.specs.Table.{span_start_of, span_end_of}
use Rattle.check_diagnostics.specs.declared.Finding.{Finding}
use Rattle.ecma_base.specs.Strict.{strict_code}
use Rattle.ecma_literals.specs.Literals.{text_of, string_literal, legacy_octal_escape, forbidden_escape, FirstForbidden}
use Rattle.ecma_literals.specs.Changed.{looks_plain}

-- the finding of the escape at offset i of the string n; that escape gives the code
abbrev pub escape_error : List ℕ → List ℕ → ℕ → ℕ → Finding
escape_error ns source n i =
    record {
      code = cond (legacy_octal_escape (drop (suc i) (text_of ns source n))) 9 11;
      node = record { 0 = n };
      start = span_start_of ns n;
      end = span_end_of ns n;
      start2 = span_start_of ns n + i;
      end2 = span_start_of ns n + i + 2;
      context = 0;
    }

-- a string has no finding, and then no escape that is forbidden (in strict code, where its text is looked at); or one finding, of the first escape that is
pub data StringTold (ns ss source : List ℕ) (n : ℕ) : List Finding → Type 0 where
  none : (string_literal ns n ≡ true → strict_code ns ss n ≡ true → looks_plain ns source n ≡ false → (i : ℕ) → forbidden_escape (text_of ns source n) i ≡ false) → StringTold ns ss source n []
  one : (i : ℕ) → FirstForbidden (text_of ns source n) i → StringTold ns ss source n (escape_error ns source n i ∷ [])

abbrev pub number_error : List ℕ → ℕ → ℕ → Finding
number_error ns n c = record { code = c; node = record { 0 = n }; start = span_start_of ns n; end = span_end_of ns n; start2 = 0; end2 = 0; context = 0 }

-- a number has no finding, or one, with one span
pub data NumberTold (ns : List ℕ) (n : ℕ) : List Finding → Type 0 where
  none : NumberTold ns n []
  one : (c : ℕ) → NumberTold ns n (number_error ns n c ∷ [])
