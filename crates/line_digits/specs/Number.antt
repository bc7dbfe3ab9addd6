-- Numbers in lines: decimal digits, and bytes in hexadecimal. Bytes are ASCII.
use Rattle.std.specs.Prelude.{ℕ, ◌+◌, ◌-◌, ◌*◌, Bool, true, false, cond, not, ◌&&◌, leb, Option, Some, None}
use mathlib.Core.List.{List, [], ◌∷◌, foldl}
use Rattle.base_common.specs.Tests.{within}
use Rattle.base_common.specs.Upto.{all}

-- one of 0 to 9
abbrev pub is_digit : ℕ → Bool
is_digit c = within c 48 57

-- what decimal digits stand for, the most significant first, behind digits that stand for v
abbrev pub value_from : ℕ → List ℕ → ℕ
value_from v l = foldl (λ a c. a * 10 + (c - 48)) v l

abbrev pub value_of : List ℕ → ℕ
value_of l = value_from 0 l

abbrev pub is_nil : List ℕ → Bool
is_nil [] = true
is_nil (c ∷ l) = false

-- one or more decimal digits (leading zeros too), and nothing else, that stand for at most 4,294,967,295
unfoldable pub is_number : List ℕ → Bool
is_number l = not (is_nil l) && (all is_digit l && leb (value_of l) 4294967295)

unfoldable pub number_of : List ℕ → Option ℕ
number_of l = cond (is_number l) (Some (value_of l)) None
