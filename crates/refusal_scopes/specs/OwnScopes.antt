-- Laws of scopes, and what is known where refusal 5 does not apply.
use Rattle.std.specs.Prelude.{ℕ, ◌<◌, ◌≡◌, List, Bool, not, ◌&&◌, eqb, ltb, get_or}
use Rattle.base_walk.specs.On.{on}
use Rattle.table_records.specs.Table.{kind_of, parent_of, scope_of, count}
use Rattle.table_records.specs.Kinds as k
use Rattle.refusal_scopes.specs.Scopes.{chain_on}

-- r is on the way up from a node just where both a and b are
abbrev pub Meets : List ℕ → ℕ → ℕ → ℕ → Type 0
Meets ns r a b = (i : ℕ) → i < count ns → on (parent_of ns) r i ≡ (on (parent_of ns) a i && on (parent_of ns) b i)

-- up to m, the array has for each scope a number that is on the way up from a node just where every node of the chain is
abbrev pub Deep : List ℕ → List ℕ → List ℕ → ℕ → Type 0
Deep ns ss deep m = (s : ℕ) → s < m → (i : ℕ) → i < count ns → on (parent_of ns) (get_or deep s 0) i ≡ chain_on ns ss s i

-- i stands in its parent's scope and has no scope of its own
unfoldable pub shares_scope : List ℕ → ℕ → Bool
shares_scope ns i = ltb 0 i && (not (eqb (kind_of ns i) k.Class) && eqb (scope_of ns i) (scope_of ns (parent_of ns i)))
