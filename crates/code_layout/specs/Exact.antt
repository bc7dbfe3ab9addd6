-- Request 9: the code's length, "a sum over the unit's nodes .. of a number stated for each kind with its role, flags and parent's kind". It is defined without words and offsets.
use Rattle.std.specs.Prelude.{ℕ, ◌+◌, List, cond, ◌&&◌, eqb}
use Rattle.base_common.specs.Upto.{upto}
use Rattle.table_records.specs.Table.{role_of, count}
use Rattle.table_records.specs.Roles as role
use Rattle.code_tree.specs.Parts.{up_of, shape_at}
use Rattle.code_layout.specs.Widths.{sum, in_unit, number_by, open_words, is_try}

module _ (ns : List ℕ) where
  -- OPEN's words count at the finally block: a number may not depend on a node's children.
  unfoldable pub open_at : ℕ → ℕ
  open_at j = cond (eqb (role_of ns j) role.Finally && is_try (shape_at ns (up_of ns j))) open_words 0

  abbrev pub number_at : ℕ → ℕ
  number_at j = number_by (shape_at ns j) + open_at j

  -- The unit's own node has 8, for the ends.
  unfoldable pub exact_length : ℕ → ℕ
  exact_length b = 8 + sum (λ j. cond (in_unit ns b j) (number_at j) 0) (upto (b + 1) (count ns))
