-- Searches among the ancestors of a node, which come nearest first.
use Rattle.table_records.specs.declared.NodeId.{NodeId}
use Rattle.std.specs.Prelude.{ℕ, Bool, cond, Option, Some, None}
use mathlib.Core.List.{List, foldr}
use Rattle.base_common.specs.Upto.{any}
use Rattle.base_common.specs.Tests.{within}
use Rattle.table_records.specs.Table.{kind_of, ancestors}

-- the nearest ancestor of n with a kind from low to high
unfoldable pub nearest_of : List ℕ → ℕ → ℕ → ℕ → Option NodeId
nearest_of ns low high n = foldr (λ a r. cond (within (kind_of ns a) low high) (Some (record { 0 = a })) r) None (ancestors ns n)

-- some ancestor of n has a kind from low to high
unfoldable pub has_ancestor : List ℕ → ℕ → ℕ → ℕ → Bool
has_ancestor ns low high n = any (λ a. within (kind_of ns a) low high) (ancestors ns n)
