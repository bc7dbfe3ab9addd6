-- A step of the search, taken apart.
use Rattle.table_records.specs.declared.ScopeId.{ScopeId}
use Rattle.std.specs.Prelude.{ℕ, suc, ◌<◌, ◌≡◌, List, [], ◌∷◌, Bool, true, false, cond, eqb, Option, Some, None}
use Rattle.base_walk.specs.On.{on}
use Rattle.table_records.specs.Table.{count, outer, count_scopes, scope_parent_of, scope_of}
use Rattle.check_supers.specs.declared.Reach.{Reach}
use Rattle.check_supers.specs.declared.Reach.TheVariants.{Illegal, Legal, Underived, Fails}
use Rattle.check_supers.specs.declared.Step.{Step}
use Rattle.check_supers.specs.declared.Step.TheVariants.{Stop, Leave, On}

-- the search ends here ..
abbrev pub is_stop : Step → Bool
is_stop (Stop r) = true
is_stop Leave = false
is_stop On = false

-- .. with this
abbrev pub stop_reach : Step → Reach
stop_reach (Stop r) = r
stop_reach Leave = Illegal
stop_reach On = Illegal

-- the class that the search names is in the table
abbrev pub underived_in : List ℕ → Reach → Type 0
underived_in ns (Underived c) = c.0 < count ns
underived_in ns Legal = Unit {0}
underived_in ns Illegal = Unit {0}
underived_in ns Fails = Unit {0}

-- the scopes around s
abbrev pub around_of : List ℕ → ℕ → Option ScopeId
around_of ss s = cond (eqb s 0) None (Some (record { 0 = scope_parent_of ss s }))

-- the scopes that are left, nearest first, and how many there are at most
abbrev pub scopes_in : List ℕ → Option ScopeId → List ℕ
scopes_in ss (Some s) = s.0 ∷ outer ss s.0
scopes_in ss None = []

abbrev pub at_most : Option ScopeId → ℕ
at_most (Some s) = suc s.0
at_most None = 0

-- they are scopes of the table, around that of the Super n
abbrev pub AroundSuper : List ℕ → List ℕ → ℕ → Option ScopeId → Type 0
AroundSuper ns ss n (Some s) = (s.0 < count_scopes ss) × (on (scope_parent_of ss) s.0 (scope_of ns n) ≡ true)
AroundSuper ns ss n None = Unit {0}
