-- CHANGED RULES BY THE SCOPES, codes 28 to 30. "Tables that no source text yields are judged by the definitions" (document 01): where a table's scopes are not the tree's, the Rust's search
-- through the scopes (crates/check_supers/specs/Super.antt: reach_of) decides. The rules of this file name that search, and no other definition of this crate does. Where the scopes
-- follow the tree (scopes_follow), they are the rules by the tree of Changed.antt: bare_by_tree, stray_by_tree, property_by_tree.
use Rattle.std.specs.Prelude.{ℕ, List, Bool, true, false, ◌&&◌, eqb}
use Rattle.table_records.specs.Table.{kind_of}
use Rattle.table_records.specs.Kinds as k
use Rattle.check_supers.specs.Super.{reach_of}
use Rattle.check_supers.specs.declared.Reach.{Reach}
use Rattle.check_supers.specs.declared.Reach.TheVariants.{Legal, Illegal, Underived, Fails}
use Rattle.ecma_supers.specs.Changed.{is_table_call, is_table_property}

-- the search ends in a constructor of a class without heritage ..
abbrev pub is_underived : Reach → Bool
is_underived (Underived c) = true
is_underived Legal = false
is_underived Illegal = false
is_underived Fails = false

-- .. or where this use of `super` is illegal
abbrev pub is_illegal : Reach → Bool
is_illegal Illegal = true
is_illegal Legal = false
is_illegal (Underived c) = false
is_illegal Fails = false

-- code 28
unfoldable pub bare_by_scopes : List ℕ → List ℕ → ℕ → Bool
bare_by_scopes ns ss n = eqb (kind_of ns n) k.Super && is_underived (reach_of ns ss n)

-- code 29
unfoldable pub stray_by_scopes : List ℕ → List ℕ → ℕ → Bool
stray_by_scopes ns ss n = is_table_call ns n && is_illegal (reach_of ns ss n)

-- code 30
unfoldable pub property_by_scopes : List ℕ → List ℕ → ℕ → Bool
property_by_scopes ns ss n = is_table_property ns n && is_illegal (reach_of ns ss n)
