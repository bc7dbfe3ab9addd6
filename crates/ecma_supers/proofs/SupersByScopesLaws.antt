-- THE FINDINGS WITH CODES 28, 29 AND 30 ARE BREACHES OF THE RULES BY THE SCOPES, in every table; and where the scopes are the tree's, those rules are the rules by the tree.
use Rattle.std.specs.Prelude.{ℕ, ◌<◌, ◌≡◌, List, [], Bool, cond, ◌&&◌, eqb}
use Rattle.std.proofs.Math.Path.{refl, sym}
use Rattle.std.proofs.Common.{ap, ◌∙◌}
use Rattle.std.proofs.Math.Bool.{true, false, not}
use Rattle.table_records.specs.Table.{kind_of, count}
use Rattle.table_records.specs.Facts.{Tree, Chained, Scoped}
use Rattle.table_records.specs.Kinds as k
use Rattle.refusal_standing.specs.Standing.{Placed}
use Rattle.ecma_trees.specs.Walk.{some, only}
use Rattle.ecma_trees.proofs.WalkLaws.{some_only}
use Rattle.check_diagnostics.specs.Finding.{listed}
use Rattle.check_supers.specs.Super.{reach_of, is_call, by_reach, check_super}
use Rattle.check_supers.specs.declared.Reach.{Reach}
use Rattle.check_supers.specs.declared.Reach.TheVariants.{Legal, Illegal, Underived, Fails}
use Rattle.check_dispatch.specs.Findings.{findings_at}
use Rattle.ecma_dispatch.specs.WithCode.{with_code}
use Rattle.ecma_dispatch.proofs.DispatchLaws.{at_code}
use Rattle.ecma_dispatch.specs.NodesOf.{nodes_of, raised}
use Rattle.ecma_dispatch.proofs.NodesOfLaws.{raised_again}
use Rattle.ecma_supers.specs.ScopesFit.{ScopesFit}
use Rattle.ecma_supers.specs.Changed.{is_table_call, is_table_property, table_bare, table_stray, table_property}
use Rattle.ecma_supers.specs.SupersByScopes.{is_underived, is_illegal, bare_by_scopes, stray_by_scopes, property_by_scopes}
use Rattle.ecma_supers.proofs.SupersLaws.{super_bare_lem, super_call_lem, super_property_lem}

-- the findings of what the search says
module _ (ns : List ℕ) (n : ℕ) where
  reached28 : (r : Reach) → raised 28 (listed (by_reach ns n r)) ≡ only (is_underived r) n
  unfolding nodes_of with_code
  reached28 = go (is_call ns n) refl
    where
      go : (c : Bool) → is_call ns n ≡ c → (r : Reach) → raised 28 (listed (by_reach ns n r)) ≡ only (is_underived r) n
      go c e Legal = refl
      go true e Illegal = rw e
      go false e Illegal = rw e
      go c e (Underived x) = refl
      go c e Fails = refl

  reached29 : (r : Reach) → raised 29 (listed (by_reach ns n r)) ≡ only (is_call ns n && is_illegal r) n
  unfolding nodes_of with_code
  reached29 = go (is_call ns n) refl
    where
      go : (c : Bool) → is_call ns n ≡ c → (r : Reach) → raised 29 (listed (by_reach ns n r)) ≡ only (c && is_illegal r) n
      go true e Legal = refl
      go true e Illegal = rw e
      go true e (Underived x) = refl
      go true e Fails = refl
      go false e Legal = refl
      go false e Illegal = rw e
      go false e (Underived x) = refl
      go false e Fails = refl

  reached30 : (r : Reach) → raised 30 (listed (by_reach ns n r)) ≡ only (not (is_call ns n) && is_illegal r) n
  unfolding nodes_of with_code
  reached30 = go (is_call ns n) refl
    where
      go : (c : Bool) → is_call ns n ≡ c → (r : Reach) → raised 30 (listed (by_reach ns n r)) ≡ only (not c && is_illegal r) n
      go true e Legal = refl
      go true e Illegal = rw e
      go true e (Underived x) = refl
      go true e Fails = refl
      go false e Legal = refl
      go false e Illegal = rw e
      go false e (Underived x) = refl
      go false e Fails = refl

module _ (t : ℕ) (ns ss source names : List ℕ) (n : ℕ) where
  pub bare_by_scopes_lem : raised 28 (findings_at t ns ss source names n) ≡ only (bare_by_scopes ns ss n) n
  unfolding bare_by_scopes nodes_of with_code check_super
  bare_by_scopes_lem = sym (raised_again 28 (findings_at t ns ss source names n)) ∙ rw (at_code 28 t ns ss source names n) (go (eqb (kind_of ns n) k.Super))
    where
      go : (b : Bool) → raised 28 (cond b (with_code 28 (listed (check_super ns ss n))) []) ≡ only (b && is_underived (reach_of ns ss n)) n
      go true = raised_again 28 (listed (check_super ns ss n)) ∙ reached28 ns n (reach_of ns ss n)
      go false = refl

  pub stray_by_scopes_lem : raised 29 (findings_at t ns ss source names n) ≡ only (stray_by_scopes ns ss n) n
  unfolding stray_by_scopes is_table_call nodes_of with_code check_super
  stray_by_scopes_lem = sym (raised_again 29 (findings_at t ns ss source names n)) ∙ rw (at_code 29 t ns ss source names n) (go (eqb (kind_of ns n) k.Super))
    where
      go : (b : Bool) → raised 29 (cond b (with_code 29 (listed (check_super ns ss n))) []) ≡ only ((b && is_call ns n) && is_illegal (reach_of ns ss n)) n
      go true = raised_again 29 (listed (check_super ns ss n)) ∙ reached29 ns n (reach_of ns ss n)
      go false = refl

  pub property_by_scopes_lem : raised 30 (findings_at t ns ss source names n) ≡ only (property_by_scopes ns ss n) n
  unfolding property_by_scopes is_table_property nodes_of with_code check_super
  property_by_scopes_lem = sym (raised_again 30 (findings_at t ns ss source names n)) ∙ rw (at_code 30 t ns ss source names n) (go (eqb (kind_of ns n) k.Super))
    where
      go : (b : Bool) → raised 30 (cond b (with_code 30 (listed (check_super ns ss n))) []) ≡ only ((b && not (is_call ns n)) && is_illegal (reach_of ns ss n)) n
      go true = raised_again 30 (listed (check_super ns ss n)) ∙ reached30 ns n (reach_of ns ss n)
      go false = refl

same_test_lem : (n : ℕ) (a b : Bool) → only a n ≡ only b n → a ≡ b
same_test_lem n a b e = sym (some_only a n) ∙ ap (λ (l : List ℕ). some l) e ∙ some_only b n

module _ (ns ss : List ℕ) (tree : Tree ns) (chained : Chained ss) (scoped : Scoped ns ss) (placed : Placed ns) (fit : ScopesFit ns ss) (n : ℕ) (h : n < count ns) where
  pub bare_by_tree : bare_by_scopes ns ss n ≡ table_bare ns n
  bare_by_tree = same_test_lem n (bare_by_scopes ns ss n) (table_bare ns n) (sym (bare_by_scopes_lem 0 ns ss [] [] n) ∙ super_bare_lem ns ss tree chained scoped placed fit n h 0 [] [])

  pub stray_by_tree : stray_by_scopes ns ss n ≡ table_stray ns n
  stray_by_tree = same_test_lem n (stray_by_scopes ns ss n) (table_stray ns n) (sym (stray_by_scopes_lem 0 ns ss [] [] n) ∙ super_call_lem ns ss tree chained scoped placed fit n h 0 [] [])

  pub property_by_tree : property_by_scopes ns ss n ≡ table_property ns n
  property_by_tree = same_test_lem n (property_by_scopes ns ss n) (table_property ns n) (sym (property_by_scopes_lem 0 ns ss [] [] n) ∙ super_property_lem ns ss tree chained scoped placed fit n h 0 [] [])
