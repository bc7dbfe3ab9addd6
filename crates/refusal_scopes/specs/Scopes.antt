-- What scope record, and what node's scope, is wrong: document 01, refusal 5.
use Rattle.std.specs.Prelude.{ℕ, List, ◌∷◌, Bool, cond, not, ◌&&◌, ◌||◌, eqb, ltb, leb}
use Rattle.base_common.specs.Upto.{all}
use Rattle.base_walk.specs.On.{member}
use Rattle.table_records.specs.Table.{kind_of, scope_of, extra_of, ancestors, count_scopes, scope_parent_of, scope_flags_of, scope_node_of, outer}
use Rattle.table_records.specs.Kinds as k

-- "scope flags above 31; scope 0's parent not 0; another's parent not smaller"
unfoldable pub broken_at : List ℕ → ℕ → Bool
broken_at ss s = ltb 31 (scope_flags_of ss s) || cond (eqb s 0) (not (eqb (scope_parent_of ss s) 0)) (leb s (scope_parent_of ss s))

-- the node of each scope in the chain of s, which s begins, is i or an ancestor of i
unfoldable pub chain_on : List ℕ → List ℕ → ℕ → ℕ → Bool
chain_on ns ss s i = all (λ t. member (scope_node_of ss t) (i ∷ ancestors ns i)) (s ∷ outer ss s)

-- "A scope that is missing (kind 26's extra included)"; "a scope's node that is neither the using node nor its ancestor, for any scope in that node's chain"
unfoldable pub misscoped_at : List ℕ → List ℕ → ℕ → Bool
misscoped_at ns ss i =
    leb (count_scopes ss) (scope_of ns i)
    || ((eqb (kind_of ns i) k.Class && leb (count_scopes ss) (extra_of ns i))
    || not (chain_on ns ss (scope_of ns i) i))
