-- The nodes of a unit, read off the table: those over which its code's length is a sum. The unit's own node isn't among them.
use Rattle.std.specs.Prelude.{ℕ, Bool, cond}
use mathlib.Core.List.{List, [], ◌∷◌, foldr}
use Rattle.base_common.specs.Upto.{upto}
use Rattle.table_records.specs.Table.{count}
use Rattle.code_length.specs.Length.{of_unit}

-- the members of a list that pass a test, in order
abbrev pub chosen : (ℕ → Bool) → List ℕ → List ℕ
chosen q l = foldr (λ n r. cond (q n) (n ∷ r) r) [] l

-- "the unit's nodes outside nested functions, arrows and classes that aren't entered"
unfoldable pub unit_nodes : List ℕ → ℕ → List ℕ
unit_nodes ns u = chosen (of_unit ns u) (upto 0 (count ns))
