-- From what one check raises to the findings of a node, and from these to the findings of the tree.
use Rattle.std.specs.Prelude.{ℕ, ◌<◌, ◌≡◌, refl, Bool, true, false, cond, eqb, Option, Some, None}
use Rattle.std.proofs.Common.{ap, sym, ◌∙◌}
use mathlib.Core.List.{List, [], ◌∷◌, ◌++◌, flat_map}
use Rattle.base_common.specs.Upto.{upto}
use Rattle.base_walk.specs.On.{member}
use Rattle.table_records.specs.Table.{count}
use Rattle.check_diagnostics.specs.declared.Finding.{Finding}
use Rattle.check_diagnostics.specs.Finding.{listed}
use Rattle.check_dispatch.specs.Findings.{findings_at, findings_of}
use Rattle.ecma_trees.specs.Walk.{each, only}
use Rattle.ecma_trees.proofs.WalkLaws.{each_same}
use Rattle.ecma_dispatch.specs.WithCode.{with_code}
use Rattle.ecma_dispatch.proofs.DispatchLaws.{whole_other}
use Rattle.ecma_dispatch.specs.NodesOf.{nodes_of, raised}
use Rattle.ecma_dispatch.proofs.NodesOfLaws.{nodes_append, raised_nil, raised_again}
use Rattle.ecma_base.specs.Nodes.{of_check}

-- a check
pub raised_listed : (c : ℕ) (r : Option Finding) → raised c (listed r) ≡ of_check c r
unfolding nodes_of with_code
raised_listed c (Some f) = go (eqb f.code c)
  where
    go : (b : Bool) → nodes_of (cond b (f ∷ []) []) ≡ only b f.node.0
    go true = refl
    go false = refl
raised_listed c None = refl

-- a check that is made where a test says so, given what the findings with the code are
pub raised_if : (c : ℕ) (b : Bool) (fs gs : List Finding) → raised c (cond b fs gs) ≡ cond b (raised c fs) (raised c gs)
raised_if c true fs gs = refl
raised_if c false fs gs = refl

pub raised_by : (c : ℕ) (fs gs : List Finding) → with_code c fs ≡ gs → raised c fs ≡ raised c gs
raised_by c fs gs e = sym (raised_again c fs) ∙ ap (raised c) e

-- one check, at the nodes where k says so; there it raises what the rule says, and elsewhere the rule says nothing
module _ (c n : ℕ) (fs : List Finding) (k rule : Bool) (r : Option Finding) (yes : k ≡ true → of_check c r ≡ only rule n) (not' : k ≡ false → rule ≡ false) where
  pub by_test : cond k (of_check c r) [] ≡ only rule n
  by_test = go k refl
    where
      go : (b : Bool) → k ≡ b → cond b (of_check c r) [] ≡ only rule n
      go true e = yes e
      go false e = ap (λ x. only x n) (sym (not' e))

  pub at_listed : with_code c fs ≡ cond k (listed r) [] → raised c fs ≡ only rule n
  at_listed e = raised_by c fs (cond k (listed r) []) e ∙ raised_if c k (listed r) [] ∙ rw (raised_listed c r, raised_nil c) by_test

  pub at_with : with_code c fs ≡ cond k (with_code c (listed r)) [] → raised c fs ≡ only rule n
  at_with e = raised_by c fs (cond k (with_code c (listed r)) []) e ∙ raised_if c k (with_code c (listed r)) [] ∙ rw (raised_again c (listed r), raised_listed c r, raised_nil c) by_test

-- two checks, at nodes of two kinds
module _ (c n : ℕ) (fs : List Finding) (k j rule : Bool) (r s : Option Finding) (yes : k ≡ true → of_check c r ≡ only rule n) (other : k ≡ false → j ≡ true → of_check c s ≡ only rule n)
    (not' : k ≡ false → j ≡ false → rule ≡ false)
  where
    by_tests : cond k (of_check c r) (cond j (of_check c s) []) ≡ only rule n
    by_tests = go k j refl refl
      where
        go : (a b : Bool) → k ≡ a → j ≡ b → cond a (of_check c r) (cond b (of_check c s) []) ≡ only rule n
        go true b e d = yes e
        go false true e d = other e d
        go false false e d = ap (λ x. only x n) (sym (not' e d))

    pub at_two_listed : with_code c fs ≡ cond k (listed r) (cond j (listed s) []) → raised c fs ≡ only rule n
    at_two_listed e =
        raised_by c fs (cond k (listed r) (cond j (listed s) [])) e ∙ raised_if c k (listed r) (cond j (listed s) [])
        ∙ rw (raised_if c j (listed s) [], raised_listed c r, raised_listed c s, raised_nil c) by_tests

    pub at_two : with_code c fs ≡ cond k (with_code c (listed r)) (cond j (with_code c (listed s)) []) → raised c fs ≡ only rule n
    at_two e =
        raised_by c fs (cond k (with_code c (listed r)) (cond j (with_code c (listed s)) [])) e ∙ raised_if c k (with_code c (listed r)) (cond j (with_code c (listed s)) [])
        ∙ rw (raised_if c j (with_code c (listed s)) [], raised_again c (listed r), raised_again c (listed s), raised_listed c r, raised_listed c s, raised_nil c) by_tests

    pub at_two_mixed : with_code c fs ≡ cond k (with_code c (listed r)) (cond j (listed s) []) → raised c fs ≡ only rule n
    at_two_mixed e =
        raised_by c fs (cond k (with_code c (listed r)) (cond j (listed s) [])) e ∙ raised_if c k (with_code c (listed r)) (cond j (listed s) [])
        ∙ rw (raised_if c j (listed s) [], raised_again c (listed r), raised_listed c r, raised_listed c s, raised_nil c) by_tests

-- the findings of the tree, node by node
nodes_flat : (g : ℕ → List Finding) (l : List ℕ) → nodes_of (flat_map g l) ≡ each (λ j. nodes_of (g j)) l
unfolding nodes_of flat_map
nodes_flat g [] = refl
nodes_flat g (j ∷ l) = nodes_append (g j) (flat_map g l) ∙ ap (λ m. nodes_of (g j) ++ m) (nodes_flat g l)

pub whole_is : (c t : ℕ) (ns ss source names : List ℕ) (rule : ℕ → List ℕ) → member c (1 ∷ 35 ∷ []) ≡ false
    → ((j : ℕ) → j < count ns → raised c (findings_at t ns ss source names j) ≡ rule j)
    → raised c (findings_of t ns ss source names) ≡ each rule (upto 0 (count ns))
whole_is c t ns ss source names rule e h =
    ap nodes_of (whole_other t ns ss source names c e)
    ∙ nodes_flat (λ j. with_code c (findings_at t ns ss source names j)) (upto 0 (count ns))
    ∙ each_same (λ j. raised c (findings_at t ns ss source names j)) rule 0 (count ns) (λ j p q. h j q)
