-- What a reader finds of a line's bytes, from where it has come to.
use Rattle.std.specs.Prelude.{ℕ, ◌-◌, cond, Option, Some, None, List, length, drop}
use Rattle.line_digits.specs.Number.{is_number, value_of}
use Rattle.line_fields.specs.Split.{field_of, next_of}
use Rattle.line_reader.specs.declared.Number.{Number}

-- where the field behind the comma at a place ends: at the next comma, or at the line's end
unfoldable pub past_at : List ℕ → ℕ → ℕ
past_at l at = length l - length (next_of (drop at l))

-- that field's number, and where it ends
abbrev pub number_at : List ℕ → ℕ → Number
number_at l at = record { value = value_of (field_of (drop at l)); past = past_at l at }

unfoldable pub step_at : List ℕ → ℕ → Option Number
step_at l at = cond (is_number (field_of (drop at l))) (Some (number_at l at)) None
