-- What the scopes of a tree are like, where they follow the tree.
use Rattle.std.specs.Prelude.{ℕ, ◌≤◌, ◌<◌, ◌≡◌, List, true, false, ◌||◌, ◌⊎◌, eqb, Bool}
use Rattle.base_common.specs.Tests.{within}
use Rattle.table_records.specs.Table.{kind_of, parent_of, extra_of, scope_of, count, scope_node_of, scope_flags_of, has_flag}
use Rattle.table_records.specs.Kinds as k
use Rattle.table_records.specs.ScopeFlag as scope
use Rattle.ecma_base.specs.Scopes.{Made}

-- a node is in its parent's scope
abbrev pub Same : List ℕ → ℕ → Type 0
Same ns j = scope_of ns j ≡ scope_of ns (parent_of ns j)

abbrev pub is_function_scope : List ℕ → ℕ → Bool
is_function_scope ss s = has_flag (scope_flags_of ss s) scope.FunctionScope

abbrev pub is_arrow_scope : List ℕ → ℕ → Bool
is_arrow_scope ss s = has_flag (scope_flags_of ss s) scope.ArrowScope

abbrev pub is_block_scope : List ℕ → ℕ → Bool
is_block_scope ss s = has_flag (scope_flags_of ss s) scope.StaticBlockScope

pub record ScopesFit (ns ss : List ℕ) : Type 0 where
  pub top : scope_of ns 0 ≡ 0
  pub top_flags : (is_function_scope ss 0 ≡ false) × (is_block_scope ss 0 ≡ false)
  pub function : (j : ℕ) → 0 < j → j < count ns → kind_of ns (parent_of ns j) ≡ k.Function
      → Made ns ss j × (is_block_scope ss (scope_of ns j) ≡ false) × (is_function_scope ss (scope_of ns j) ≡ true) × (is_arrow_scope ss (scope_of ns j) ≡ false)
  pub arrow : (j : ℕ) → 0 < j → j < count ns → kind_of ns (parent_of ns j) ≡ k.Arrow
      → Made ns ss j × (is_block_scope ss (scope_of ns j) ≡ false) × (is_function_scope ss (scope_of ns j) ≡ true) × (is_arrow_scope ss (scope_of ns j) ≡ true)
  pub block : (j : ℕ) → 0 < j → j < count ns → kind_of ns (parent_of ns j) ≡ k.StaticBlock → Made ns ss j × (is_block_scope ss (scope_of ns j) ≡ true)
  pub class : (c : ℕ) → c < count ns → kind_of ns c ≡ k.Class → scope_node_of ss (extra_of ns c) ≡ c
  pub body : (j : ℕ) → j < count ns → kind_of ns j ≡ k.ClassBody → Made ns ss j × (scope_of ns j ≡ extra_of ns (parent_of ns j))
  pub in_body : (j : ℕ) → 0 < j → j < count ns → kind_of ns (parent_of ns j) ≡ k.ClassBody → Same ns j × ((within (kind_of ns j) k.MethodDefinition k.AccessorProperty || eqb (kind_of ns j) k.StaticBlock) ≡ true)
  pub element : (j : ℕ) → 0 < j → j < count ns → k.MethodDefinition ≤ kind_of ns (parent_of ns j) → kind_of ns (parent_of ns j) ≤ k.AccessorProperty → Same ns j
  pub other : (j : ℕ) → 0 < j → j < count ns → within (kind_of ns (parent_of ns j)) k.Function k.StaticBlock ≡ false
      → Same ns j ⊎ (Made ns ss j × (is_block_scope ss (scope_of ns j) ≡ false) × (is_function_scope ss (scope_of ns j) ≡ false))
