-- What the checks of functions in statement position raise is what the rules say.
use Rattle.check_diagnostics.specs.declared.Finding.{Finding}
use Rattle.table_records.specs.declared.NodeId.{NodeId}
use Rattle.std.specs.Prelude.{ℕ, ◌<◌, ◌≡◌, List, [], Bool, cond, not, ◌&&◌, ◌||◌, Option, Some, None}
use Rattle.std.proofs.Math.Path.{refl, ap}
use Rattle.std.proofs.Common.{sym, ◌∙◌, eq-eqb, eqb-true}
use Rattle.std.proofs.Math.Bool.{true, false}
use Rattle.std.proofs.lemmas.Bool.{eqb-false}
use Rattle.std.proofs.Math.Dec.{eqb}
use Rattle.base_common.proofs.Bools.{never}
use Rattle.base_common.proofs.UptoLaws.{and_left_lem, and_right_lem}
use Rattle.table_records.specs.Table.{kind_of, parent_of, count}
use Rattle.table_records.specs.Facts.{Tree}
use Rattle.table_records.specs.Kinds as k
use Rattle.table_children.specs.Children.{held_of, alternate_of, when_found}
use Rattle.check_diagnostics.specs.Finding.{error_at}
use Rattle.check_diagnostics.specs.Codes as code
use Rattle.check_diagnostics.specs.Contexts as context
use Rattle.check_statements.specs.Statements.{check_function_declaration, check_body, check_consequent, check_alternate, labelled_function, check_labeled_item, check_function_declaration_in_labeled_statement}
use Rattle.check_statements.proofs.StatementsLaws.{function_on, function_held, function_free, function_root}
use Rattle.ecma_trees.specs.Walk.{only}
use Rattle.ecma_trees.specs.Trail.{unit_of}
use Rattle.ecma_base.specs.Nodes.{of_check}
use Rattle.ecma_base.specs.Strict.{strict_code}
use Rattle.ecma_base.specs.Telling.{Telling, async_or_generator, ordinary}
use Rattle.ecma_statements.specs.Functions.{is_function, ends_in_statement, annex_holder, annex_allows, misplaced, function_misplaced, function_misplaced_else, label_edge, labelled_function_at}
use Rattle.ecma_base.proofs.ContainsLaws.{upward, unit_root, unit_here, unit_pass}
use Rattle.ecma_statements.specs.Changed.{strict_function, strict_function_else, sloppy_function, sloppy_function_else, labelled_function_said, special_function, OrdinaryHeld}

module _ (ns ss : List ℕ) (n : ℕ) where
  and_true : (b : Bool) → (b && true) ≡ b
  and_true true = refl
  and_true false = refl

  -- ANNEX B: nothing in strict code, no special function, and of ordinary ones those of an if and a label
  strict_denied : (told : Telling) (f : ℕ) → strict_code ns ss n ≡ true → annex_allows told ns ss n f ≡ false
  strict_denied told f s = rw s

  special_denied : (told : Telling) (f : ℕ) → async_or_generator told f ≡ true → annex_allows told ns ss n f ≡ false
  special_denied told f e = rw e (by (annex_holder ns ss n))
    where
      by : (a : Bool) → (a && false) ≡ false
      by true = refl
      by false = refl

  ordinary_allowed : (i : Bool) → (eqb (kind_of ns n) k.If || eqb (kind_of ns n) k.Labeled) ≡ i → (f : ℕ) → strict_code ns ss n ≡ false → annex_allows ordinary ns ss n f ≡ i
  ordinary_allowed i e f s = rw s (and_true (eqb (kind_of ns n) k.If || eqb (kind_of ns n) k.Labeled) ∙ e)

  -- so in strict code every function is misplaced
  pub strict_misplaced : (told : Telling) (r : Option NodeId) → strict_code ns ss n ≡ true → misplaced told ns ss n r ≡ is_function ns r
  strict_misplaced told (Some m) s = ap (λ v. eqb (kind_of ns m.0) k.Function && not v) (strict_denied told m.0 s) ∙ and_true (eqb (kind_of ns m.0) k.Function)
  strict_misplaced told None s = refl

  -- what is raised for the statement that was found: f it is a function, s strict code, v Annex B allows it; i the holder is an if
  held15 : (f s v : Bool) (m : ℕ) (x : Option Finding) → of_check 15 x ≡ [] → (s ≡ true → v ≡ false)
      → of_check 15 (cond f (cond s (error_at ns code.function_declaration_strict n m context.none) x) None) ≡ only (s && (f && not v)) n
  held15 true true true m x q e = never (e refl)
  held15 true true false m x q e = refl
  held15 true false v m x q e = q
  held15 false true v m x q e = refl
  held15 false false v m x q e = refl

  other15 : (i : Bool) (m : ℕ) → of_check 15 (cond i None (error_at ns code.function_declaration_non_strict n m context.none)) ≡ []
  other15 true m = refl
  other15 false m = refl

  held16 : (f s i v : Bool) (m : ℕ) → (s ≡ false → v ≡ i)
      → of_check 16 (cond f (cond s (error_at ns code.function_declaration_strict n m context.none) (cond i None (error_at ns code.function_declaration_non_strict n m context.none))) None)
      ≡ only (not s && (f && not v)) n
  held16 true true i v m e = refl
  held16 true false true true m e = refl
  held16 true false true false m e = never (sym (e refl))
  held16 true false false true m e = never (e refl)
  held16 true false false false m e = refl
  held16 false true i v m e = refl
  held16 false false i v m e = refl

  pub and_false : (b : Bool) → [] ≡ only (b && false) n
  and_false true = refl
  and_false false = refl

  found15 : (told : Telling) (i : Bool) (r : Option NodeId) → of_check 15 (when_found r (check_function_declaration ns ss n i) None) ≡ only (strict_code ns ss n && misplaced told ns ss n r) n
  unfolding check_function_declaration
  found15 told i (Some m) =
      held15 (eqb (kind_of ns m.0) k.Function) (strict_code ns ss n) (annex_allows told ns ss n m.0) m.0
      (cond i None (error_at ns code.function_declaration_non_strict n m.0 context.none)) (other15 i m.0) (strict_denied told m.0)
  found15 told i None = and_false (strict_code ns ss n)

  found16 : (i : Bool) → (eqb (kind_of ns n) k.If || eqb (kind_of ns n) k.Labeled) ≡ i → (r : Option NodeId)
      → of_check 16 (when_found r (check_function_declaration ns ss n i) None) ≡ only (not (strict_code ns ss n) && misplaced ordinary ns ss n r) n
  unfolding check_function_declaration
  found16 i e (Some m) = held16 (eqb (kind_of ns m.0) k.Function) (strict_code ns ss n) i (annex_allows ordinary ns ss n m.0) m.0 (ordinary_allowed i e m.0)
  found16 i e None = and_false (not (strict_code ns ss n))

  -- CODE 15 at a loop or With, and at both Statements of an If
  pub body_strict : (told : Telling) → ends_in_statement ns n ≡ true → of_check code.function_declaration_strict (check_body ns ss n) ≡ only (strict_function told ns ss n) n
  unfolding function_misplaced
  body_strict told q = rw q (found15 told false (held_of ns n))

  pub consequent_strict : (told : Telling) → ends_in_statement ns n ≡ true → of_check code.function_declaration_strict (check_consequent ns ss n) ≡ only (strict_function told ns ss n) n
  unfolding function_misplaced
  consequent_strict told q = rw q (found15 told true (held_of ns n))

  pub alternate_strict : (told : Telling) → kind_of ns n ≡ k.If → of_check code.function_declaration_strict (check_alternate ns ss n) ≡ only (strict_function_else told ns ss n) n
  unfolding function_misplaced_else
  alternate_strict told q = rw (eq-eqb (kind_of ns n) k.If q) (found15 told true (alternate_of ns n))

  -- CODE 16 at a loop or With, and at both Statements of an If
  pub body_sloppy : ends_in_statement ns n ≡ true → eqb (kind_of ns n) k.If ≡ false → eqb (kind_of ns n) k.Labeled ≡ false → of_check code.function_declaration_non_strict (check_body ns ss n) ≡ only (sloppy_function ordinary ns ss n) n
  unfolding function_misplaced
  body_sloppy q e l = rw q (found16 false (rw (e, l)) (held_of ns n))

  pub consequent_sloppy : ends_in_statement ns n ≡ true → eqb (kind_of ns n) k.If ≡ true → of_check code.function_declaration_non_strict (check_consequent ns ss n) ≡ only (sloppy_function ordinary ns ss n) n
  unfolding function_misplaced
  consequent_sloppy q e = rw q (found16 true (rw e) (held_of ns n))

  pub alternate_sloppy : eqb (kind_of ns n) k.If ≡ true → of_check code.function_declaration_non_strict (check_alternate ns ss n) ≡ only (sloppy_function_else ordinary ns ss n) n
  unfolding function_misplaced_else
  alternate_sloppy e = rw e (found16 true (rw e) (alternate_of ns n))

  -- a Labeled may hold a function
  pub label_free : eqb (kind_of ns n) k.Labeled ≡ true → sloppy_function ordinary ns ss n ≡ false
  unfolding function_misplaced
  label_free q = go (ends_in_statement ns n || eqb (kind_of ns n) k.Labeled) (held_of ns n)
    where
      either : (a b : Bool) → b ≡ true → (a || b) ≡ true
      either true b e = refl
      either false b e = e

      free : (s x f v : Bool) → (s ≡ false → v ≡ true) → (not s && (x && (f && not v))) ≡ false
      free true x f v e = refl
      free false false f v e = refl
      free false true false v e = refl
      free false true true true e = refl
      free false true true false e = never (sym (e refl))

      go : (x : Bool) (r : Option NodeId) → (not (strict_code ns ss n) && (x && misplaced ordinary ns ss n r)) ≡ false
      go x (Some m) =
          free (strict_code ns ss n) x (eqb (kind_of ns m.0) k.Function) (annex_allows ordinary ns ss n m.0)
          (ordinary_allowed true (either (eqb (kind_of ns n) k.If) (eqb (kind_of ns n) k.Labeled) q) m.0)
      go x None = free (strict_code ns ss n) x false true (λ e. refl)

-- A LABELLED FUNCTION
module _ (ns : List ℕ) (t : Tree ns) (n s : ℕ) where
  abbrev labelled_raised : ℕ → Option Finding
  labelled_raised u = cond (ends_in_statement ns u) (error_at ns code.function_declaration_non_strict n s context.none) None

  labelled_is : (i : ℕ) → i < count ns → labelled_function ns n s i ≡ labelled_raised (unit_of ns (label_edge ns) i)
  labelled_is = upward ns t (λ i. labelled_function ns n s i ≡ labelled_raised (unit_of ns (label_edge ns) i)) first step
    where
      first : labelled_function ns n s 0 ≡ labelled_raised (unit_of ns (label_edge ns) 0)
      first = function_root ns n s ∙ sym (ap labelled_raised (unit_root ns t (label_edge ns)) ∙ rw t.root)

      step : (i : ℕ) → 0 < i → i < count ns → labelled_function ns n s (parent_of ns i) ≡ labelled_raised (unit_of ns (label_edge ns) (parent_of ns i)) → labelled_function ns n s i ≡ labelled_raised (unit_of ns (label_edge ns) i)
      step i z h p = go (eqb (kind_of ns (parent_of ns i)) k.Labeled) refl (ends_in_statement ns (parent_of ns i)) refl
        where
          go : (x : Bool) → eqb (kind_of ns (parent_of ns i)) k.Labeled ≡ x → (y : Bool) → ends_in_statement ns (parent_of ns i) ≡ y → labelled_function ns n s i ≡ labelled_raised (unit_of ns (label_edge ns) i)
          go true x y e =
              function_on ns t n s i (parent_of ns i) z h refl (eqb-true (kind_of ns (parent_of ns i)) k.Labeled x) ∙ p ∙ ap labelled_raised (sym (unit_pass ns t (label_edge ns) i z h (λ c. rw x)))
          go false x true e =
              function_held ns t n s i (parent_of ns i) z h refl (eqb-false (kind_of ns (parent_of ns i)) k.Labeled x) e ∙ sym (ap labelled_raised (unit_here ns t (label_edge ns) i z h (rw x)) ∙ rw e)
          go false x false e =
              function_free ns t n s i (parent_of ns i) z h refl (eqb-false (kind_of ns (parent_of ns i)) k.Labeled x) e ∙ sym (ap labelled_raised (unit_here ns t (label_edge ns) i z h (rw x)) ∙ rw e)

module _ (ns ss : List ℕ) (t : Tree ns) (n : ℕ) (h : n < count ns) where
  item15 : (l : Bool) (m : ℕ) → of_check 15 (cond l (error_at ns code.function_declaration_non_strict n m context.none) None) ≡ []
  item15 true m = refl
  item15 false m = refl

  item16 : (f s l : Bool) (m : ℕ)
      → of_check 16 (cond f (cond s (error_at ns code.function_declaration_strict n m context.none) (cond l (error_at ns code.function_declaration_non_strict n m context.none) None)) None) ≡ only (f && (not s && l)) n
  item16 true true l m = refl
  item16 true false true m = refl
  item16 true false false m = refl
  item16 false s l m = refl

  labelled15 : (told : Telling) (r : Option NodeId) → of_check 15 (when_found r (check_labeled_item ns ss n) None) ≡ only (strict_code ns ss n && misplaced told ns ss n r) n
  unfolding check_labeled_item
  labelled15 told (Some m) =
      let l = ends_in_statement ns (unit_of ns (label_edge ns) n) in
      rw (labelled_is ns t n m.0 n h)
      (held15 ns ss n (eqb (kind_of ns m.0) k.Function) (strict_code ns ss n) (annex_allows told ns ss n m.0) m.0
      (cond l (error_at ns code.function_declaration_non_strict n m.0 context.none) None) (item15 l m.0) (strict_denied ns ss n told m.0))
  labelled15 told None = and_false ns ss n (strict_code ns ss n)

  labelled16 : (r : Option NodeId) → of_check 16 (when_found r (check_labeled_item ns ss n) None) ≡ only (is_function ns r && (not (strict_code ns ss n) && ends_in_statement ns (unit_of ns (label_edge ns) n))) n
  unfolding check_labeled_item
  labelled16 (Some m) = rw (labelled_is ns t n m.0 n h) (item16 (eqb (kind_of ns m.0) k.Function) (strict_code ns ss n) (ends_in_statement ns (unit_of ns (label_edge ns) n)) m.0)
  labelled16 None = refl

  -- CODE 15 at a Labeled
  pub label_strict : (told : Telling) → kind_of ns n ≡ k.Labeled → of_check code.function_declaration_strict (check_function_declaration_in_labeled_statement ns ss n) ≡ only (strict_function told ns ss n) n
  unfolding function_misplaced
  label_strict told q = labelled15 told (held_of ns n) ∙ ap (λ b. only (strict_code ns ss n && b) n) (holds (ends_in_statement ns n) (eq-eqb (kind_of ns n) k.Labeled q))
    where
      holds : (b : Bool) {l c : Bool} → l ≡ true → c ≡ ((b || l) && c)
      holds true e = refl
      holds false e = rw e

  -- CODE 16 at a Labeled
  pub label_sloppy : kind_of ns n ≡ k.Labeled → of_check code.function_declaration_non_strict (check_function_declaration_in_labeled_statement ns ss n) ≡ only (labelled_function_said ns ss n) n
  unfolding labelled_function_said
  label_sloppy q = rw (eq-eqb (kind_of ns n) k.Labeled q) (labelled16 (held_of ns n))

-- in sloppy code the changed rule is the standard's
pub labelled_agrees : (ns ss : List ℕ) (n : ℕ) → strict_code ns ss n ≡ false → labelled_function_said ns ss n ≡ labelled_function_at ns n
unfolding labelled_function_said labelled_function_at
labelled_agrees ns ss n e = rw e

-- in strict code a labelled function is misplaced whatever holds the label
pub labelled_strict : (told : Telling) (ns ss : List ℕ) (n : ℕ) → strict_code ns ss n ≡ true → (function_misplaced told ns ss n || labelled_function_at ns n) ≡ function_misplaced told ns ss n
unfolding function_misplaced labelled_function_at
labelled_strict told ns ss n s =
    rw (strict_misplaced ns ss n told (held_of ns n) s)
    (by (ends_in_statement ns n) (eqb (kind_of ns n) k.Labeled) (is_function ns (held_of ns n)) (ends_in_statement ns (unit_of ns (label_edge ns) n)))
  where
    by : (a l f u : Bool) → (((a || l) && f) || ((l && f) && u)) ≡ ((a || l) && f)
    by true l true u = refl
    by true true false u = refl
    by true false false u = refl
    by false true true u = refl
    by false true false u = refl
    by false false f u = refl

-- FUNCTIONS IN STATEMENT POSITION: where what Annex B has is ordinary, the changed rule is the standard's
module _ (told : Telling) (ns ss : List ℕ) (n : ℕ) where
  allows_same : (f : ℕ) → (annex_holder ns ss n ≡ true → async_or_generator told f ≡ false) → annex_allows ordinary ns ss n f ≡ annex_allows told ns ss n f
  allows_same f c = go (annex_holder ns ss n) refl
    where
      go : (a : Bool) → annex_holder ns ss n ≡ a → annex_allows ordinary ns ss n f ≡ annex_allows told ns ss n f
      go true e = let q = ap not (c e) in cc
      go false e = rw e

  misplaced_same : (r : Option NodeId) → (annex_holder ns ss n ≡ true → special_function told ns r ≡ false) → misplaced ordinary ns ss n r ≡ misplaced told ns ss n r
  misplaced_same (Some m) c = by (eqb (kind_of ns m.0) k.Function) refl
    where
      by : (f : Bool) → eqb (kind_of ns m.0) k.Function ≡ f → (f && not (annex_allows ordinary ns ss n m.0)) ≡ (f && not (annex_allows told ns ss n m.0))
      by true e = ap not (allows_same m.0 (λ a. sym (rw e) ∙ c a))
      by false e = refl
  misplaced_same None c = refl

  pub misplaced_agrees : OrdinaryHeld told ns ss n → labelled_function_at ns n ≡ false → function_misplaced ordinary ns ss n ≡ function_misplaced told ns ss n
  unfolding function_misplaced
  misplaced_agrees c f = ap (λ b. (ends_in_statement ns n || eqb (kind_of ns n) k.Labeled) && b) (misplaced_same (held_of ns n) (λ a. c.held a f))

  pub misplaced_else_agrees : OrdinaryHeld told ns ss n → function_misplaced_else ordinary ns ss n ≡ function_misplaced_else told ns ss n
  unfolding function_misplaced_else
  misplaced_else_agrees c = ap (λ b. eqb (kind_of ns n) k.If && b) (misplaced_same (alternate_of ns n) c.behind_else)

  -- elsewhere it is not: of a function there that is special the standard's rule says an error, and the changed one none
  pub misplaced_differs : (r : Option NodeId) → annex_holder ns ss n ≡ true → special_function told ns r ≡ true → (misplaced told ns ss n r ≡ true) × (misplaced ordinary ns ss n r ≡ false)
  misplaced_differs (Some m) a q =
      let d = special_denied ns ss n told m.0 (and_right_lem (eqb (kind_of ns m.0) k.Function) (async_or_generator told m.0) q) in
      let f = and_left_lem (eqb (kind_of ns m.0) k.Function) (async_or_generator told m.0) q in
      (ap (λ v. eqb (kind_of ns m.0) k.Function && not v) d ∙ rw f, rw (f, a))
  misplaced_differs None a q = never (sym q)
