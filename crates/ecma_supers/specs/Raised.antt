-- Where findings are told: lists of nodes that the theorems speak of.
use Rattle.std.specs.Prelude.{ℕ, ◌+◌, List, [], Bool, cond, eqb}
use Rattle.base_common.specs.Upto.{upto}
use Rattle.table_records.specs.Table.{count}
use Rattle.ecma_trees.specs.Walk.{each, only}
use Rattle.ecma_supers.specs.Supers.{unit}

-- 28 to 30: the nodes of the unit u that break a rule
abbrev pub in_unit : List ℕ → (ℕ → Bool) → ℕ → List ℕ
in_unit ns rule u = each (λ j. cond (eqb (unit ns j) u) (only (rule j) j) []) (upto (u + 1) (count ns))
