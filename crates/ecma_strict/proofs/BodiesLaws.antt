-- Functions in statement position with the option on: 15, 16 and 34 are the standard's rules, without a condition on what an if or a label holds.
use Rattle.table_records.specs.declared.NodeId.{NodeId}
use Rattle.std.specs.Prelude.{ℕ, ◌<◌, ◌≡◌, Bool, cond, not, ◌&&◌, ◌||◌, Option, Some, None}
use Rattle.std.proofs.Math.Path.{refl, ap}
use Rattle.std.proofs.Common.{sym, ◌∙◌, eqb-true}
use mathlib.Core.List.{List, [], ◌++◌}
use Rattle.std.proofs.Math.Bool.{true, false}
use Rattle.std.proofs.Math.Dec.{eqb}
use Rattle.base_common.proofs.Bools.{never}
use Rattle.table_records.specs.Table.{kind_of, flags_of, has_flag, count}
use Rattle.table_records.specs.Kinds as k
use Rattle.table_children.specs.Children.{held_of, alternate_of, when_found}
use Rattle.check_diagnostics.specs.Contexts as context
use Rattle.check_diagnostics.specs.Finding.{error_at, listed}
use Rattle.check_bodies.specs.Bodies.{AsyncOrGenerator, async_body, check_async_body, check_async_held, check_async_alternate, async_bodies_at}
use Rattle.check_dispatch.specs.Findings.{findings_at}
use Rattle.refusal_input.specs.WellFormed.{WellFormed}
use Rattle.ecma_trees.specs.Walk.{some, only}
use Rattle.ecma_dispatch.specs.NodesOf.{raised}
use Rattle.ecma_dispatch.proofs.NodesOfLaws.{raised_nil, raised_append}
use Rattle.ecma_base.specs.Strict.{strict_code}
use Rattle.ecma_base.specs.Telling.{Telling, async_or_generator, ordinary}
use Rattle.ecma_base.specs.Nodes.{of_check}
use Rattle.ecma_strict.specs.NodesLaws.{raised_listed}
use Rattle.ecma_statements.specs.Functions.{ends_in_statement, annex_holder, misplaced, function_misplaced, function_misplaced_else, labels_function, labelled_function_at}
use Rattle.ecma_statements.proofs.FunctionsLaws.{labelled_agrees, labelled_strict}
use Rattle.ecma_statements.specs.Changed.{labelled_function_said}
use Rattle.ecma_strict.specs.Theorems.{code15, code16}
use Rattle.ecma_strict.specs.Bodies.{Flagged}

module _ (told : Telling) (ns ss : List ℕ) (n : ℕ) where
  -- WHAT ANNEX B LETS n HOLD: of ordinary functions all, so that the changed rule says nothing there; elsewhere both rules are the same
  ordinary_of : (f h x : Bool) → (f && not (h && true)) ≡ (not h && (f && not (h && not x)))
  ordinary_of true true x = refl
  ordinary_of true false x = refl
  ordinary_of false true x = refl
  ordinary_of false false x = refl

  ordinary_found : (r : Option NodeId) → misplaced ordinary ns ss n r ≡ (not (annex_holder ns ss n) && misplaced told ns ss n r)
  ordinary_found (Some m) = ordinary_of (eqb (kind_of ns m.0) k.Function) (annex_holder ns ss n) (async_or_generator told m.0)
  ordinary_found None = go (annex_holder ns ss n)
    where
      go : (h : Bool) → false ≡ (not h && false)
      go true = refl
      go false = refl

  inner : (a h m : Bool) → (a && (h && m)) ≡ (h && (a && m))
  inner true h m = refl
  inner false true m = refl
  inner false false m = refl

  pub ordinary_held : function_misplaced ordinary ns ss n ≡ (not (annex_holder ns ss n) && function_misplaced told ns ss n)
  unfolding function_misplaced
  ordinary_held =
      ap (λ b. (ends_in_statement ns n || eqb (kind_of ns n) k.Labeled) && b) (ordinary_found (held_of ns n))
      ∙ inner (ends_in_statement ns n || eqb (kind_of ns n) k.Labeled) (not (annex_holder ns ss n)) (misplaced told ns ss n (held_of ns n))

  pub ordinary_else : function_misplaced_else ordinary ns ss n ≡ (not (annex_holder ns ss n) && function_misplaced_else told ns ss n)
  unfolding function_misplaced_else
  ordinary_else =
      ap (λ b. eqb (kind_of ns n) k.If && b) (ordinary_found (alternate_of ns n)) ∙ inner (eqb (kind_of ns n) k.If) (not (annex_holder ns ss n)) (misplaced told ns ss n (alternate_of ns n))

  -- 34: what the check raises for a part, where Annex B lets n hold ordinary functions
  module _ (flagged : Flagged told ns) where
    one : (f b h x : Bool) (m : ℕ) → h ≡ true → (f ≡ true → x ≡ b) → of_check 34 (cond f (cond b (error_at ns async_body n m context.none) None) None) ≡ only (f && not (h && not x)) n
    one true true true true m e q = refl
    one true true true false m e q = never (sym (q refl))
    one true false true true m e q = never (q refl)
    one true false true false m e q = refl
    one true true false x m e q = never (sym e)
    one true false false x m e q = never (sym e)
    one false b h x m e q = refl

    found34 : (r : Option NodeId) → annex_holder ns ss n ≡ true → raised 34 (listed (when_found r (check_async_body ns n) None)) ≡ only (misplaced told ns ss n r) n
    unfolding check_async_body
    found34 (Some m) a =
        raised_listed 34 (check_async_body ns n m.0)
        ∙ one (eqb (kind_of ns m.0) k.Function) (has_flag (flags_of ns m.0) AsyncOrGenerator) (annex_holder ns ss n) (async_or_generator told m.0) m.0 a (λ q. flagged m.0 (eqb-true (kind_of ns m.0) k.Function q))
    found34 None a = raised_nil 34

    pub code34 : raised 34 (async_bodies_at ns ss n) ≡ only (annex_holder ns ss n && function_misplaced told ns ss n) n ++ only (annex_holder ns ss n && function_misplaced_else told ns ss n) n
    unfolding async_bodies_at function_misplaced function_misplaced_else
    code34 = go (strict_code ns ss n) refl (eqb (kind_of ns n) k.If) refl (eqb (kind_of ns n) k.Labeled) refl
      where
        go : (s : Bool) → strict_code ns ss n ≡ s → (i : Bool) → eqb (kind_of ns n) k.If ≡ i → (l : Bool) → eqb (kind_of ns n) k.Labeled ≡ l
            → raised 34 (cond (strict_code ns ss n) [] (cond (eqb (kind_of ns n) k.If) (listed (check_async_held ns n) ++ listed (check_async_alternate ns n)) (cond (eqb (kind_of ns n) k.Labeled) (listed (check_async_held ns n)) [])))
            ≡ only (annex_holder ns ss n && ((ends_in_statement ns n || eqb (kind_of ns n) k.Labeled) && misplaced told ns ss n (held_of ns n))) n
            ++ only (annex_holder ns ss n && (eqb (kind_of ns n) k.If && misplaced told ns ss n (alternate_of ns n))) n
        go true s i p l q = rw s (raised_nil 34)
        go false s true p l q =
            let a : annex_holder ns ss n ≡ true = rw (s, p) in
            let e : ends_in_statement ns n ≡ true = rw (eqb-true (kind_of ns n) k.If p) in
            rw (s, p, e) (raised_append 34 (listed (check_async_held ns n)) (listed (check_async_alternate ns n)) ∙ rw (found34 (held_of ns n) a, found34 (alternate_of ns n) a))
        go false s false p true q =
            let a : annex_holder ns ss n ≡ true = rw (s, p, q) in
            rw (s, p, q) (found34 (held_of ns n) a ∙ held (ends_in_statement ns n) (misplaced told ns ss n (held_of ns n)))
          where
            held : (x m : Bool) → only m n ≡ only ((x || true) && m) n ++ []
            held true true = refl
            held true false = refl
            held false true = refl
            held false false = refl
        go false s false p false q = rw (s, p, q) (raised_nil 34)

-- 15, 16 AND 34 TOGETHER
module _ (t : ℕ) (ns ss source names : List ℕ) (w : WellFormed t ns ss source names) (n : ℕ) (h : n < count ns) (told : Telling) where
  abbrev at : ℕ → List ℕ
  at c = raised c (findings_at t ns ss source names n)

  -- in strict code the labelled function is raised by 15
  unsaid : strict_code ns ss n ≡ true → labelled_function_said ns ss n ≡ false
  unfolding labelled_function_said
  unsaid s = rw s (no (labels_function ns n))
    where
      no : (b : Bool) → (b && false) ≡ false
      no true = refl
      no false = refl

  -- 16 in sloppy code: at what Annex B excepts there is no ordinary function that is misplaced
  pub standard16on : strict_code ns ss n ≡ false
      → at 16 ≡ only ((not (annex_holder ns ss n) && function_misplaced told ns ss n) || labelled_function_at ns n) n ++ only (not (annex_holder ns ss n) && function_misplaced_else told ns ss n) n
  standard16on s = code16 t ns ss source names w n h ∙ rw (labelled_agrees ns ss n s, ordinary_held told ns ss n, ordinary_else told ns ss n, s)

  -- some finding just where some rule on functions in statement position is broken
  pub functions_on : Flagged told ns → some (at 15 ++ (at 16 ++ raised 34 (async_bodies_at ns ss n))) ≡ ((function_misplaced told ns ss n || labelled_function_at ns n) || function_misplaced_else told ns ss n)
  functions_on flagged = go (strict_code ns ss n) refl
    where
      strictly : (m e : Bool) → some ((only m n ++ only e n) ++ (([] ++ []) ++ ([] ++ []))) ≡ (m || e)
      strictly true true = refl
      strictly true false = refl
      strictly false true = refl
      strictly false false = refl

      sloppily : (a m l e : Bool) → some (([] ++ []) ++ ((only ((not a && m) || l) n ++ only (not a && e) n) ++ (only (a && m) n ++ only (a && e) n))) ≡ ((m || l) || e)
      sloppily true true true true = refl
      sloppily true true true false = refl
      sloppily true true false true = refl
      sloppily true true false false = refl
      sloppily true false true true = refl
      sloppily true false true false = refl
      sloppily true false false true = refl
      sloppily true false false false = refl
      sloppily false true true true = refl
      sloppily false true true false = refl
      sloppily false true false true = refl
      sloppily false true false false = refl
      sloppily false false true true = refl
      sloppily false false true false = refl
      sloppily false false false true = refl
      sloppily false false false false = refl

      strict_on : strict_code ns ss n ≡ true → some (at 15 ++ (at 16 ++ raised 34 (async_bodies_at ns ss n))) ≡ ((function_misplaced told ns ss n || labelled_function_at ns n) || function_misplaced_else told ns ss n)
      strict_on s =
          rw (code15 t ns ss source names w n h told, code16 t ns ss source names w n h, code34 told ns ss n flagged, labelled_strict told ns ss n s, unsaid s)
          (rw s (strictly (function_misplaced told ns ss n) (function_misplaced_else told ns ss n)))

      go : (b : Bool) → strict_code ns ss n ≡ b → some (at 15 ++ (at 16 ++ raised 34 (async_bodies_at ns ss n))) ≡ ((function_misplaced told ns ss n || labelled_function_at ns n) || function_misplaced_else told ns ss n)
      go true s = strict_on s
      go false s =
          rw (code15 t ns ss source names w n h told, standard16on s, code34 told ns ss n flagged)
          (rw s (sloppily (eqb (kind_of ns n) k.If || eqb (kind_of ns n) k.Labeled) (function_misplaced told ns ss n) (labelled_function_at ns n) (function_misplaced_else told ns ss n)))
