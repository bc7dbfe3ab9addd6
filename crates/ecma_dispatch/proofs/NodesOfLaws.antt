-- The nodes with a finding of a code, from each node to the whole tree.
use Prim.Native.Nat.{ℕ, zero, suc, ◌+◌, ◌-◌, ◌≤◌, ◌<◌}
use Rattle.std.specs.Prelude.{◌≡◌, Bool, eqb, Some, None}
use Rattle.std.proofs.Math.Path.{refl}
use Rattle.std.proofs.Common.{ap, ◌∙◌, arith, eq-eqb}
use mathlib.Core.List.{List, [], ◌∷◌, ◌++◌, flat_map}
use Rattle.std.proofs.Math.Bool.{true, false, cond}
use Rattle.base_common.specs.Upto.{range, upto}
use Rattle.base_walk.specs.On.{member}
use Rattle.table_records.specs.Table.{count}
use Rattle.table_children.specs.Children.{keep}
use Rattle.check_diagnostics.specs.declared.Finding.{Finding}
use Rattle.check_diagnostics.specs.Finding.{listed}
use Rattle.check_dispatch.specs.Findings.{findings_at, findings_of}
use Rattle.ecma_dispatch.specs.WithCode.{with_code}
use Rattle.ecma_dispatch.proofs.WithCodeLaws.{with_append}
use Rattle.ecma_dispatch.specs.NodesOf.{nodes_of, raised}
use Rattle.ecma_dispatch.proofs.DispatchLaws.{whole_other}

pub nodes_nil : nodes_of [] ≡ []
unfolding nodes_of
nodes_nil = refl

pub nodes_append : (fs gs : List Finding) → nodes_of (fs ++ gs) ≡ nodes_of fs ++ nodes_of gs
unfolding nodes_of
nodes_append [] gs = refl
nodes_append (f ∷ fs) gs = ap (λ l. f.node.0 ∷ l) (nodes_append fs gs)

pub nodes_cond : (b : Bool) (fs gs : List Finding) → nodes_of (cond b fs gs) ≡ cond b (nodes_of fs) (nodes_of gs)
nodes_cond true fs gs = refl
nodes_cond false fs gs = refl

pub raised_nil : (c : ℕ) → raised c [] ≡ []
unfolding nodes_of with_code
raised_nil c = refl

pub raised_append : (c : ℕ) (fs gs : List Finding) → raised c (fs ++ gs) ≡ raised c fs ++ raised c gs
raised_append c fs gs = ap nodes_of (with_append c fs gs) ∙ nodes_append (with_code c fs) (with_code c gs)

pub raised_flat : (c : ℕ) (g : ℕ → List Finding) (l : List ℕ) → raised c (flat_map g l) ≡ flat_map (λ j. raised c (g j)) l
unfolding flat_map
raised_flat c g [] = raised_nil c
raised_flat c g (j ∷ l) = raised_append c (g j) (flat_map g l) ∙ ap (λ m. raised c (g j) ++ m) (raised_flat c g l)

-- those with the code, taken once more
again : (c : ℕ) (fs : List Finding) → with_code c (with_code c fs) ≡ with_code c fs
unfolding with_code
again c [] = refl
again c (f ∷ fs) = go (eqb f.code c) refl (again c fs)
  where
    go : (b : Bool) → eqb f.code c ≡ b → with_code c (with_code c fs) ≡ with_code c fs
        → with_code c (cond (eqb f.code c) (f ∷ with_code c fs) (with_code c fs)) ≡ cond (eqb f.code c) (f ∷ with_code c fs) (with_code c fs)
    go true e h = rw e (rw e (ap (λ l. f ∷ l) h))
    go false e h = rw e h

pub raised_again : (c : ℕ) (fs : List Finding) → raised c (with_code c fs) ≡ raised c fs
raised_again c fs = ap nodes_of (again c fs)

-- what a check raises, where it is the finding f or nothing, by a test
pub nodes_if : (c : ℕ) (b : Bool) (f : Finding) → f.code ≡ c → nodes_of (with_code c (listed (cond b (Some f) None))) ≡ cond b (f.node.0 ∷ []) []
unfolding nodes_of with_code
nodes_if c true f e = rw (eq-eqb f.code c e)
nodes_if c false f e = refl

-- Each node at which a test holds has one finding of these, and no other has any: then the nodes of all findings are those at which it holds, in order.
module _ (g : ℕ → List Finding) (test : ℕ → Bool) (n : ℕ) (h : (j : ℕ) → j < n → nodes_of (g j) ≡ cond (test j) (j ∷ []) []) where
  kept_range : (i k : ℕ) → i + k ≤ n → nodes_of (flat_map g (range i k)) ≡ keep test (range i k)
  unfolding range flat_map keep nodes_of
  kept_range i zero l = refl
  kept_range i (suc k) l =
      nodes_append (g i) (flat_map g (range (suc i) k)) ∙ rw (h i (omega arith), kept_range (suc i) k (omega arith)) (go (test i))
    where
      go : (b : Bool) → cond b (i ∷ []) [] ++ keep test (range (suc i) k) ≡ cond b (i ∷ keep test (range (suc i) k)) (keep test (range (suc i) k))
      go true = refl
      go false = refl

  pub nodes_kept : nodes_of (flat_map g (upto 0 n)) ≡ keep test (upto 0 n)
  unfolding upto
  nodes_kept = kept_range 0 (n - 0) (omega arith)

-- the same of the findings of the tree with a code but 1
pub nodes_whole : (t : ℕ) (ns ss source names : List ℕ) (c : ℕ) (test : ℕ → Bool) → member c (1 ∷ 35 ∷ []) ≡ false
    → ((j : ℕ) → j < count ns → nodes_of (with_code c (findings_at t ns ss source names j)) ≡ cond (test j) (j ∷ []) [])
    → nodes_of (with_code c (findings_of t ns ss source names)) ≡ keep test (upto 0 (count ns))
nodes_whole t ns ss source names c test e h =
    ap nodes_of (whole_other t ns ss source names c e) ∙ nodes_kept (λ j. with_code c (findings_at t ns ss source names j)) test (count ns) h
