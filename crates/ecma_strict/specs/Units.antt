-- THE OPERATIONS OF THE STANDARD AND THE FINDINGS: an operation is true of the node where it begins exactly if a finding is raised at one of the nodes that it finds there.
use Rattle.std.specs.Prelude.{ℕ, ◌+◌, ◌<◌, ◌≡◌, Bool, not, ◌&&◌, ◌||◌, Some}
use Rattle.std.proofs.Math.Path.{refl, ap, sym}
use Rattle.std.proofs.Common.{◌∙◌}
use mathlib.Core.List.{List, [], ◌∷◌, ◌++◌}
use Rattle.std.proofs.Math.Bool.{true, false, cond}
use native.Mathlib.Omega.{arith}
use borrow.Author.Tests.{eq-eqb, eqb-true, not-true}
use Rattle.std.proofs.Math.Dec.{eqb}
use Rattle.base_common.specs.Upto.{upto, any}
use Rattle.base_common.proofs.UptoLaws.{and_left_lem, and_right_lem}
use Rattle.base_common.specs.Tests.{within}
use Rattle.base_common.proofs.Bools.{never, or_first, or_second, in_range_lem, range_of}
use Rattle.table_records.specs.Table.{kind_of, parent_of, count, extra_of}
use Rattle.table_children.specs.Children.{keep, children, value_of, held_of, function_body_of, is_node}
use Rattle.table_children.proofs.ChildrenLaws.{found_child}
use Rattle.table_records.specs.Kinds as k
use Rattle.table_records.specs.Extras as extra
use Rattle.table_names.specs.Name.{name_is}
use Rattle.table_names.specs.Words as word
use Rattle.table_scoping.specs.Scoping.{in_static_block}
use Rattle.check_dispatch.specs.Findings.{findings_at}
use Rattle.refusal_input.specs.WellFormed.{WellFormed}
use Rattle.ecma_trees.specs.Rose.{parts_of, marks_all}
use Rattle.ecma_trees.specs.Walk.{each, some, only}
use Rattle.ecma_trees.proofs.WalkLaws.{some_append, some_only, each_same}
use Rattle.ecma_trees.specs.Trail.{unit_of}
use Rattle.ecma_dispatch.specs.NodesOf.{raised}
use Rattle.ecma_base.specs.Strict.{strict_code}
use Rattle.ecma_base.specs.Telling.{ordinary}
use Rattle.ecma_names.specs.Identifiers.{strict_reserved, binds_eval, assigns_eval, use_strict_directive, simple_parameters, contains_use_strict, use_strict_there}
use Rattle.ecma_base.specs.Contains.{contains_from, initializer, contains_in, comes, static_block}
use Rattle.ecma_contains.specs.BoundNames.{binds_let}
use Rattle.ecma_contains.proofs.BoundNamesLaws.{binds_let_is}
use Rattle.ecma_contains.specs.Contains.{contains_into, block_begin, await_expression, for_await, await_using, arguments_reference, arguments_begin, arguments_into, parameter, parameter_begin, await_or_yield, lexical_declaration, unbound, bound_begin, bound_into, let_name}
use Rattle.ecma_base.specs.Scopes.{scopes_follow}
use Rattle.ecma_strict.specs.ScopesLaws.{scopes_told}
use Rattle.ecma_base.proofs.ContainsLaws.{contains_is, comes_is, comes_home, positive}
use Rattle.ecma_strict.specs.AgreeLaws.{block_edge, scopes_are}
use Rattle.ecma_statements.specs.Functions.{is_function, ends_in_statement, ends_in_labelled, labelled_among, labels_function, label_edge, function_misplaced}
use Rattle.ecma_statements.proofs.FunctionsLaws.{strict_misplaced}
use Rattle.ecma_statements.proofs.LabelledLaws.{statements_of}
use Rattle.ecma_strict.specs.Standard.{standard12}
use Rattle.ecma_strict.specs.Theorems.{code2, code3, code4, code5, code6, code14, code15, code16, code25, code33}
use Rattle.ecma_statements.specs.Changed.{strict_function, strict_function_else, sloppy_function, sloppy_function_else, labelled_function_said}
use Rattle.ecma_names.specs.Changed.{reserved_name, await_name_scoped}
use Rattle.ecma_contains.specs.Changed.{scoped_in_block, let_edge, let_bound_said, field_edge, field_home, arguments_said, through_class_edge, await_in_parameter_said}

-- two ways to say something, of which each says something where the other does
some_same : (f g : ℕ → List ℕ) (n : ℕ) → ((j : ℕ) → j < n → some (f j) ≡ some (g j)) → (i : ℕ) → some (each f (upto i n)) ≡ some (each g (upto i n))
some_same f g n h i = sym (marked f i) ∙ ap some (each_same (λ j. mark (f j)) (λ j. mark (g j)) i n (λ j p q. ap (λ b. only b 0) (h j q))) ∙ marked g i
  where
    mark : List ℕ → List ℕ
    mark m = only (some m) 0

    all : (e : ℕ → List ℕ) (m : List ℕ) → some (each (λ j. mark (e j)) m) ≡ some (each e m)
    all e [] = refl
    all e (j ∷ m) = some_append (mark (e j)) (each (λ j. mark (e j)) m) ∙ rw (some_only (some (e j)) 0, all e m) (sym (some_append (e j) (each e m)))

    marked : (e : ℕ → List ℕ) (i : ℕ) → some (each (λ j. mark (e j)) (upto i n)) ≡ some (each e (upto i n))
    marked e i = all e (upto i n)

any_keep : (q p : ℕ → Bool) (l : List ℕ) → any p (keep q l) ≡ some (each (λ j. cond (q j) (only (p j) j) []) l)
unfolding keep
any_keep q p [] = refl
any_keep q p (j ∷ l) = go (q j) (any_keep q p l)
  where
    go : (b : Bool) → any p (keep q l) ≡ some (each (λ j. cond (q j) (only (p j) j) []) l) → any p (cond b (j ∷ keep q l) (keep q l)) ≡ some (cond b (only (p j) j) [] ++ each (λ j. cond (q j) (only (p j) j) []) l)
    go true h = rw h (ap (λ b. b || some (each (λ j. cond (q j) (only (p j) j) []) l)) (sym (some_only (p j) j)) ∙ sym (some_append (only (p j) j) (each (λ j. cond (q j) (only (p j) j) []) l)))
    go false h = h

clash : {A : Type 0} → false ≡ true → A
clash e = never (sym e)

or_left : (a b : Bool) → a ≡ true → (a || b) ≡ true
or_left true b e = refl
or_left false b e = never (sym e)

or_true : (a : Bool) → ((a || true) && true) ≡ true
or_true true = refl
or_true false = refl

or_right : (a b : Bool) → b ≡ true → (a || b) ≡ true
or_right true b e = refl
or_right false b e = e

module _ (t : ℕ) (ns ss source names : List ℕ) (w : WellFormed t ns ss source names) where
  abbrev pub at : ℕ → ℕ → List ℕ
  at c j = raised c (findings_at t ns ss source names j)

  -- the nodes that an operation finds from u on, each with the findings that g gives for it
  abbrev pub found_in : (ℕ → Bool) → (ℕ → ℕ → Bool) → ℕ → (ℕ → List ℕ) → List ℕ
  found_in sought edge u g = each (λ j. cond (eqb (unit_of ns edge j) u && sought j) (g j) []) (upto (u + 1) (count ns))

  unit_findings : (sought : ℕ → Bool) (edge : ℕ → ℕ → Bool) → ((j : ℕ) → edge 0 j ≡ true) → (g : ℕ → List ℕ) (u : ℕ) → u < count ns
      → ((j : ℕ) → j < count ns → unit_of ns edge j ≡ u → sought j ≡ true → some (g j) ≡ true)
      → contains_in ns sought edge u ≡ some (found_in sought edge u g)
  unit_findings sought edge root g u h f =
      contains_is ns w.input.tree sought edge root u h
      ∙ some_same (λ j. cond (eqb (unit_of ns edge j) u) (only (sought j) j) []) (λ j. cond (eqb (unit_of ns edge j) u && sought j) (g j) []) (count ns)
      (λ j q. go j (eqb (unit_of ns edge j) u) (sought j) (λ x y. f j q (eqb-true (unit_of ns edge j) u x) y) refl refl) (u + 1)
    where
      go : (j : ℕ) (a b : Bool) → (eqb (unit_of ns edge j) u ≡ true → sought j ≡ true → some (g j) ≡ true) → eqb (unit_of ns edge j) u ≡ a → sought j ≡ b → some (cond a (only b j) []) ≡ some (cond (a && b) (g j) [])
      go j true true f x y = sym (f x y)
      go j true false f x y = refl
      go j false b f x y = refl

  some_of : (l : List ℕ) (b : Bool) (j : ℕ) → l ≡ only b j → b ≡ true → some l ≡ true
  some_of l b j e q = ap some e ∙ some_only b j ∙ q

  root : kind_of ns 0 ≡ 0
  root = w.input.tree.root

  -- what an operation of u comes to, each with the findings that g gives for it
  abbrev pub found_below : (ℕ → Bool) → (ℕ → ℕ → Bool) → (ℕ → ℕ → Bool) → ℕ → (ℕ → List ℕ) → List ℕ
  found_below sought into begin u g = each (λ j. cond (comes ns begin into u j && sought j) (g j) []) (marks_all (parts_of ns u))

  -- 15.7.1: "ClassStaticBlockStatementList Contains await": 3 at an AwaitExpression, 25 at a for await, 14 at an await using
  module _ (s : scopes_follow ns ss ≡ true) (u : ℕ) (h : u < count ns) (q : static_block ns u ≡ true) where
    inside : (j : ℕ) → j < count ns → comes ns (block_begin ns) (contains_into ns) u j ≡ true → scoped_in_block ns ss j ≡ true
    unfolding scoped_in_block in_static_block
    inside j l e =
        scopes_are ns ss w.input.tree w.input.chained w.input.scoped (scopes_told ns ss w.input.tree s) j l
        ∙ comes_home ns w.input.tree (contains_into ns) (block_begin ns) (block_edge ns) (static_block ns) u q (λ i x. rw (eqb-true (kind_of ns u) 3 q)) none j l e
      where
        none : (i k : ℕ) → (kind_of ns i ≡ 0 → ⊥) → contains_into ns i k ≡ true → block_edge ns i k ≡ true → static_block ns i ≡ true
        none i k n x y =
            let r = range_of (kind_of ns i) 0 3 y in
            let r1 = r.1 in
            clash (sym (or_first (within (kind_of ns i) 1 3) (initializer ns i k) (not-true (within (kind_of ns i) 1 3 || initializer ns i k) x)) ∙ in_range_lem (kind_of ns i) 1 3 (positive (kind_of ns i) n) r1)

    pub block_contains_await : contains_from ns (await_expression ns) (contains_into ns) (block_begin ns) u ≡ some (found_below (await_expression ns) (contains_into ns) (block_begin ns) u (at 3))
    block_contains_await =
        comes_is ns w.input.tree (await_expression ns) (contains_into ns) (block_begin ns) u (at 3)
        (λ j l e f. some_of (at 3 j) (await_name_scoped t ns ss names j || (await_expression ns j && scoped_in_block ns ss j)) j (code3 t ns ss source names w j l)
        (or_right (await_name_scoped t ns ss names j) (await_expression ns j && scoped_in_block ns ss j) (rw (f, inside j l e)))) h

    pub block_contains_for_await : contains_from ns (for_await ns) (contains_into ns) (block_begin ns) u ≡ some (found_below (for_await ns) (contains_into ns) (block_begin ns) u (at 25))
    block_contains_for_await =
        comes_is ns w.input.tree (for_await ns) (contains_into ns) (block_begin ns) u (at 25)
        (λ j l e f. some_of (at 25 j) (for_await ns j && scoped_in_block ns ss j) j (code25 t ns ss source names w j l) (rw (f, inside j l e))) h

    pub block_contains_await_using : contains_from ns (await_using ns) (contains_into ns) (block_begin ns) u ≡ some (found_below (await_using ns) (contains_into ns) (block_begin ns) u (at 14))
    block_contains_await_using =
        comes_is ns w.input.tree (await_using ns) (contains_into ns) (block_begin ns) u (at 14)
        (λ j l e f. some_of (at 14 j) (await_using ns j && scoped_in_block ns ss j) j (code14 t ns ss source names w j l) (rw (f, inside j l e))) h

  -- 15.7.1: ContainsArguments, of a field and of a static block: 6, or 4 where `arguments` is assigned to
  pub home_contains_arguments : (u : ℕ) → u < count ns → field_home ns u ≡ true
      → contains_from ns (arguments_reference ns names) (arguments_into ns) (arguments_begin ns) u ≡ some (found_below (arguments_reference ns names) (arguments_into ns) (arguments_begin ns) u (λ j. at 6 j ++ at 4 j))
  unfolding arguments_said
  home_contains_arguments u h q =
      comes_is ns w.input.tree (arguments_reference ns names) (arguments_into ns) (arguments_begin ns) u (λ j. at 6 j ++ at 4 j)
      (λ j l e f. some_append (at 6 j) (at 4 j) ∙ go j l e f (assigns_eval ns ss names j) refl) h
    where
      first : (j : ℕ) → arguments_begin ns u j ≡ true → field_edge ns u j ≡ true
      first j e = by (within (kind_of ns u) 0 1) (eqb (kind_of ns u) 3) (eqb (kind_of ns u) 29) (within (kind_of ns u) 29 30) (is_node (value_of ns u) j) q e
        where
          by : (a b c d g : Bool) → (b || c) ≡ true → (b || (d && g)) ≡ true → ((a || b) || (c && g)) ≡ true
          by true b c d g x y = refl
          by false true c d g x y = refl
          by false false true true g x y = y
          by false false true false g x y = never (sym y)
          by false false false d g x y = never (sym x)

      on : (i j : ℕ) → (kind_of ns i ≡ 0 → ⊥) → arguments_into ns i j ≡ true → field_edge ns i j ≡ true → field_home ns i ≡ true
      on i j n x y = by (within (kind_of ns i) 0 1) refl (eqb (kind_of ns i) 3) (eqb (kind_of ns i) 29) (is_node (value_of ns i) j) y
        where
          low : within (kind_of ns i) 0 1 ≡ true → eqb (kind_of ns i) 1 ≡ true
          low z = let r = range_of (kind_of ns i) 0 1 z in let r1 = r.1 in let r2 = positive (kind_of ns i) n in eq-eqb (kind_of ns i) 1 (omega arith)

          by : (a : Bool) → within (kind_of ns i) 0 1 ≡ a → (b c d : Bool) → ((a || b) || (c && d)) ≡ true → (b || c) ≡ true
          by true z b c d e = clash (sym (not-true (eqb (kind_of ns i) 1) x) ∙ low z)
          by false z true c d e = refl
          by false z false true d e = refl
          by false z false false d e = e

      go : (j : ℕ) → j < count ns → comes ns (arguments_begin ns) (arguments_into ns) u j ≡ true → arguments_reference ns names j ≡ true → (b : Bool) → assigns_eval ns ss names j ≡ b → (some (at 6 j) || some (at 4 j)) ≡ true
      go j l e f true x =
          or_right (some (at 6 j)) (some (at 4 j))
          (some_of (at 4 j) (binds_eval ns ss names j || assigns_eval ns ss names j) j (code4 t ns ss source names w j l) (or_right (binds_eval ns ss names j) (assigns_eval ns ss names j) x))
      go j l e f false x =
          or_left (some (at 6 j)) (some (at 4 j))
          (some_of (at 6 j) (arguments_said ns ss names j) j (code6 t ns ss source names w j l)
          (rw (f, x, comes_home ns w.input.tree (arguments_into ns) (arguments_begin ns) (field_edge ns) (field_home ns) u q first on j l e)))

  -- 15.3.1 and others, of one FormalParameter (FormalParameters contains what one of them does): 33
  pub parameters_contain : (u : ℕ) → u < count ns → parameter ns u ≡ true
      → contains_from ns (await_or_yield ns) (contains_into ns) (parameter_begin ns) u ≡ some (found_below (await_or_yield ns) (contains_into ns) (parameter_begin ns) u (at 33))
  unfolding await_in_parameter_said
  parameters_contain u h q =
      comes_is ns w.input.tree (await_or_yield ns) (contains_into ns) (parameter_begin ns) u (at 33)
      (λ j l e f. some_of (at 33 j) (await_in_parameter_said ns j) j (code33 t ns ss source names w j l)
      (rw (f, comes_home ns w.input.tree (contains_into ns) (parameter_begin ns) (through_class_edge ns) (parameter ns) u q (λ k x. or_right (within (kind_of ns u) 0 2) (parameter ns u) q) on j l e))) h
    where
      on : (i j : ℕ) → (kind_of ns i ≡ 0 → ⊥) → contains_into ns i j ≡ true → through_class_edge ns i j ≡ true → parameter ns i ≡ true
      on i j n x y = by (within (kind_of ns i) 0 2) refl (parameter ns i) y
        where
          by : (a : Bool) → within (kind_of ns i) 0 2 ≡ a → (b : Bool) → (a || b) ≡ true → b ≡ true
          by true z b e =
              let r = range_of (kind_of ns i) 0 2 z in
              let r1 = r.1 in
              clash (sym (or_first (within (kind_of ns i) 1 3) (initializer ns i j) (not-true (within (kind_of ns i) 1 3 || initializer ns i j) x)) ∙ in_range_lem (kind_of ns i) 1 3 (positive (kind_of ns i) n) (omega arith))
          by false z b e = e

  -- 14.3.1.1: "the BoundNames of BindingList contains "let"": 5, or 2 in strict code
  pub declaration_binds_let : (u : ℕ) → u < count ns → lexical_declaration ns u ≡ true
      → binds_let ns names u ≡ some (found_below (let_name ns names) (bound_into ns) (bound_begin ns) u (λ j. at 5 j ++ at 2 j))
  unfolding let_bound_said reserved_name
  declaration_binds_let u h q =
      binds_let_is ns names u q
      ∙ comes_is ns w.input.tree (let_name ns names) (bound_into ns) (bound_begin ns) u (λ j. at 5 j ++ at 2 j) (λ j l e f. some_append (at 5 j) (at 2 j) ∙ go j l e f (strict_code ns ss j) refl) h
    where
      reserved : (j : ℕ) → name_is ns names j word.let_word ≡ true → any (λ x. name_is ns names j x) strict_reserved ≡ true
      reserved j e =
          or_right (name_is ns names j word.implements_word) _
          (or_right (name_is ns names j word.interface_word) _ (or_left (name_is ns names j word.let_word) _ e))

      first : (j : ℕ) → bound_begin ns u j ≡ true → let_edge ns u j ≡ true
      first j e = or_right (within (kind_of ns u) 0 2) (eqb (kind_of ns u) 24) (and_left_lem (eqb (kind_of ns u) 24) (not (eqb (extra_of ns u) extra.Var)) q)

      on : (i j : ℕ) → (kind_of ns i ≡ 0 → ⊥) → bound_into ns i j ≡ true → let_edge ns i j ≡ true → lexical_declaration ns i ≡ true
      on i j n x y = by (within (kind_of ns i) 0 2) refl (eqb (kind_of ns i) 24) refl y
        where
          out : (within (kind_of ns i) 1 2 || eqb (kind_of ns i) 24) ≡ false
          out = or_first (within (kind_of ns i) 1 2 || eqb (kind_of ns i) 24) (unbound ns i j) (not-true ((within (kind_of ns i) 1 2 || eqb (kind_of ns i) 24) || unbound ns i j) x)

          by : (a : Bool) → within (kind_of ns i) 0 2 ≡ a → (b : Bool) → eqb (kind_of ns i) 24 ≡ b → (a || b) ≡ true → lexical_declaration ns i ≡ true
          by true z b c e =
              let r = range_of (kind_of ns i) 0 2 z in
              let r1 = r.1 in
              clash (sym (or_first (within (kind_of ns i) 1 2) (eqb (kind_of ns i) 24) out) ∙ in_range_lem (kind_of ns i) 1 2 (positive (kind_of ns i) n) r1)
          by false z true c e = clash (sym (or_second (within (kind_of ns i) 1 2) (eqb (kind_of ns i) 24) out) ∙ c)
          by false z false c e = never (sym e)

      go : (j : ℕ) → j < count ns → comes ns (bound_begin ns) (bound_into ns) u j ≡ true → let_name ns names j ≡ true → (b : Bool) → strict_code ns ss j ≡ b → (some (at 5 j) || some (at 2 j)) ≡ true
      go j l e f true x =
          let i = eqb-true (kind_of ns j) 31 (and_left_lem (eqb (kind_of ns j) 31) (name_is ns names j word.let_word) f) in
          or_right (some (at 5 j)) (some (at 2 j))
          (some_of (at 2 j) (reserved_name t ns ss names j) j (code2 t ns ss source names w j l)
          (rw (in_range_lem (kind_of ns j) 31 33 (omega arith) (omega arith), x, reserved j (and_right_lem (eqb (kind_of ns j) 31) (name_is ns names j word.let_word) f))))
      go j l e f false x =
          or_left (some (at 5 j)) (some (at 2 j))
          (some_of (at 5 j) (let_bound_said ns ss names j) j (code5 t ns ss source names w j l)
          (rw (f, x, comes_home ns w.input.tree (bound_into ns) (bound_begin ns) (let_edge ns) (lexical_declaration ns) u q first on j l e)))

  -- 14.6.1 and others: "IsLabelledFunction(Statement)": 16, or 15 in strict code
  pub statement_is_labelled : (u : ℕ) → u < count ns → ends_in_statement ns u ≡ true
      → ends_in_labelled ns u ≡ some (found_in (labels_function ns) (label_edge ns) u (λ j. at 16 j ++ at 15 j))
  unfolding ends_in_labelled function_misplaced labelled_function_said
  statement_is_labelled u h q =
      ap (λ b. b && labelled_among ns (parts_of ns u)) q
      ∙ statements_of ns w.input.tree w.listed w.shaped u h q
      ∙ unit_findings (labels_function ns) (label_edge ns) (λ j. rw root) (λ j. at 16 j ++ at 15 j) u h (λ j l e f. some_append (at 16 j) (at 15 j) ∙ go j l e f (strict_code ns ss j) refl)
    where
      first_of : (l : List ℕ) (b c : Bool) (j : ℕ) → l ≡ only b j ++ only c j → b ≡ true → some l ≡ true
      first_of l b c j e q = ap some e ∙ some_append (only b j) (only c j) ∙ or_left (some (only b j)) (some (only c j)) (some_only b j ∙ q)

      go : (j : ℕ) → j < count ns → unit_of ns (label_edge ns) j ≡ u → labels_function ns j ≡ true → (b : Bool) → strict_code ns ss j ≡ b → (some (at 16 j) || some (at 15 j)) ≡ true
      go j l e f true x =
          or_right (some (at 16 j)) (some (at 15 j))
          (first_of (at 15 j) (strict_function ordinary ns ss j) (strict_function_else ordinary ns ss j) j (code15 t ns ss source names w j l ordinary)
          (rw (strict_misplaced ns ss j ordinary (held_of ns j) x)
          (rw (x, and_left_lem (eqb (kind_of ns j) 6) (is_function ns (held_of ns j)) f, and_right_lem (eqb (kind_of ns j) 6) (is_function ns (held_of ns j)) f) (or_true (ends_in_statement ns j)))))
      go j l e f false x =
          or_left (some (at 16 j)) (some (at 15 j))
          (first_of (at 16 j) (sloppy_function ordinary ns ss j || labelled_function_said ns ss j) (sloppy_function_else ordinary ns ss j) j (code16 t ns ss source names w j l)
          (or_right (sloppy_function ordinary ns ss j) (labelled_function_said ns ss j) (rw (f, x, e, q))))

  -- 15.2.1: FunctionBodyContainsUseStrict, of a function or an arrow f whose parameters are not simple, with body b: 12 at a directive
  pub body_contains_use_strict : scopes_follow ns ss ≡ true → (f b : ℕ) → function_body_of ns f ≡ Some (record { 0 = b }) → within (kind_of ns f) k.Function k.Arrow ≡ true → simple_parameters ns f ≡ false
      → contains_use_strict ns names b ≡ some (each (λ j. cond (eqb (parent_of ns j) b) (at 12 j) []) (upto (b + 1) (count ns)))
  unfolding children use_strict_there
  body_contains_use_strict s f b e q p =
      let c = found_child ns f 4 4 0 7 (f + 1) b e in
      let c0 = c.kind_low in
      let c1 = c.kind_high in
      let body : kind_of ns b ≡ 4 = omega arith in
      any_keep (λ j. eqb (parent_of ns j) b) (use_strict_directive ns names) (upto (b + 1) (count ns))
      ∙ some_same (λ j. cond (eqb (parent_of ns j) b) (only (use_strict_directive ns names j) j) []) (λ j. cond (eqb (parent_of ns j) b) (at 12 j) []) (count ns) (λ j l. go body c.parent j l (eqb (parent_of ns j) b) refl) (b + 1)
    where
      go : kind_of ns b ≡ 4 → parent_of ns b ≡ f → (j : ℕ) → j < count ns → (x : Bool) → eqb (parent_of ns j) b ≡ x → some (cond x (only (use_strict_directive ns names j) j) []) ≡ some (cond x (at 12 j) [])
      go body up j l true x =
          let y = eqb-true (parent_of ns j) b x in
          let k : kind_of ns (parent_of ns j) ≡ 4 = ap (λ (z : ℕ). kind_of ns z) y ∙ body in
          let g : parent_of ns (parent_of ns j) ≡ f = ap (λ (z : ℕ). parent_of ns z) y ∙ up in
          ap some (ap (λ r. only r j) (rule j k g) ∙ sym (standard12 t ns ss source names w j l (λ z. record { follow = s; placed = rw k })))
        where
          and_true : (r : Bool) → r ≡ (r && true)
          and_true true = refl
          and_true false = refl

          rule : (j : ℕ) → kind_of ns (parent_of ns j) ≡ 4 → parent_of ns (parent_of ns j) ≡ f → use_strict_directive ns names j ≡ use_strict_there ns names j
          rule j k g = rw (k, g, q, p) (and_true (use_strict_directive ns names j))
      go body up j l false x = refl
