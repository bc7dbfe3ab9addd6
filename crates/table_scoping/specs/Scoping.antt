-- What the scope of a node says of its code.
use Rattle.std.specs.Prelude.{ℕ, Bool, true, false, cond}
use mathlib.Core.List.{List, ◌∷◌, foldr}
use Rattle.table_records.specs.Table.{scope_of, scope_flags_of, outer, has_flag}
use Rattle.table_records.specs.ScopeFlag as scope

-- "A node's code is strict if its scope is."
abbrev pub is_strict : List ℕ → List ℕ → ℕ → Bool
is_strict ns ss n = has_flag (scope_flags_of ss (scope_of ns n)) scope.Strict

-- among a scope and those around it, nearest first, a static block comes before any function
unfoldable pub in_static_block : List ℕ → ℕ → Bool
in_static_block ss s =
    foldr (λ t r. cond (has_flag (scope_flags_of ss t) scope.StaticBlockScope) true (cond (has_flag (scope_flags_of ss t) scope.FunctionScope) false r)) false (s ∷ outer ss s)

-- a node is in a static block, with no function between
abbrev pub in_class_static_block : List ℕ → List ℕ → ℕ → Bool
in_class_static_block ns ss n = in_static_block ss (scope_of ns n)
