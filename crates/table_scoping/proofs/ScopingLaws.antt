-- The search for a static block, as a walk outward meets it.
use Rattle.std.specs.Prelude.{ℕ, ◌<◌, ◌≡◌, List, true, false}
use Rattle.table_records.specs.Table.{scope_flags_of, scope_parent_of, count_scopes, has_flag}
use Rattle.table_records.specs.Facts.{Chained}
use Rattle.table_records.specs.ScopeFlag as scope
use Rattle.table_ancestry.proofs.AncestryLaws.{outer_up, outer_root}
use Rattle.table_scoping.specs.Scoping.{in_static_block}

module _ (ss : List ℕ) (s : ℕ) where
  pub static_here : has_flag (scope_flags_of ss s) scope.StaticBlockScope ≡ true → in_static_block ss s ≡ true
  unfolding in_static_block
  static_here e = rw e

  pub static_function : has_flag (scope_flags_of ss s) scope.StaticBlockScope ≡ false → has_flag (scope_flags_of ss s) scope.FunctionScope ≡ true → in_static_block ss s ≡ false
  unfolding in_static_block
  static_function e f = rw (e, f)

  pub static_up : Chained ss → 0 < s → s < count_scopes ss → has_flag (scope_flags_of ss s) scope.StaticBlockScope ≡ false → has_flag (scope_flags_of ss s) scope.FunctionScope ≡ false
      → in_static_block ss s ≡ in_static_block ss (scope_parent_of ss s)
  unfolding in_static_block
  static_up t h l e f = rw (e, f) (outer_up _ _ ss t s h l)

  pub static_root : s ≡ 0 → has_flag (scope_flags_of ss s) scope.StaticBlockScope ≡ false → has_flag (scope_flags_of ss s) scope.FunctionScope ≡ false → in_static_block ss s ≡ false
  unfolding in_static_block
  static_root z e f = rw (e, f) (rw z (outer_root _ _ ss))
