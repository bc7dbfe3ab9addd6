-- THE STANDARD'S RULES WHERE THE RUST'S DIFFER: on each named condition (Changed) the findings of a node with the code are one where the rule of ECMA-262 is broken, and none elsewhere.
-- (4, 15, 17 and 31 need no condition: Theorems.)
use Rattle.std.specs.Prelude.{ℕ, ◌<◌, ◌≡◌, Bool, not, ◌&&◌, ◌||◌}
use Rattle.std.proofs.Math.Path.{refl, ap}
use Rattle.std.proofs.Common.{◌∙◌, sym, arith}
use mathlib.Core.List.{List, [], ◌++◌, append-nil}
use Rattle.std.proofs.Math.Bool.{true, false}
use borrow.Author.Tests.{eqb-true, not-true}
use Rattle.std.proofs.Math.Dec.{eqb}
use Rattle.base_common.specs.Tests.{within}
use Rattle.base_common.proofs.UptoLaws.{and_left_lem, and_right_lem}
use Rattle.table_records.specs.Table.{kind_of, parent_of, count, extra_of}
use Rattle.table_records.specs.Kinds as k
use Rattle.table_records.specs.Extras as extra
use Rattle.check_dispatch.specs.Findings.{findings_at}
use Rattle.refusal_input.specs.WellFormed.{WellFormed}
use Rattle.ecma_trees.specs.Walk.{some, only}
use Rattle.ecma_trees.specs.Trail.{unit_of}
use Rattle.ecma_dispatch.specs.NodesOf.{raised}
use Rattle.ecma_base.specs.Telling.{Telling, ordinary}
use Rattle.ecma_base.specs.Strict.{strict_code}
use Rattle.ecma_literals.specs.Literals.{numeric_literal, string_literal, strict_octal, strict_non_octal, strict_octal_escape, strict_non_octal_escape}
use Rattle.ecma_literals.proofs.LiteralsLaws.{octal_agrees, non_octal_agrees, octal_escape_agrees, non_octal_escape_agrees}
use Rattle.ecma_literals.specs.Delete.{private_reference, derives, delete_expression, deletes_private}
use Rattle.table_children.specs.Children.{value_of}
use Rattle.ecma_literals.proofs.DeleteLaws.{delete_private_agrees}
use Rattle.ecma_statements.specs.Statements.{using_declaration, initialized_head, bad_using}
use Rattle.ecma_statements.proofs.StatementsLaws.{head_agrees, using_agrees}
use Rattle.ecma_names.specs.Identifiers.{identifier, identifier_error, assigns_eval, use_strict_there}
use Rattle.ecma_names.proofs.IdentifiersLaws.{use_strict_agrees}
use Rattle.ecma_names.proofs.NamesLaws.{names_agree, names_agree_only, names_sound}
use Rattle.ecma_names.proofs.ParametersLaws.{yield_from, await_told, await_only, block_await}
use Rattle.ecma_contains.specs.Contains.{let_name, arguments_reference, await_or_yield, await_expression, for_await, await_using, await_in_block, arguments_in_class, await_in_parameter, let_bound, lexical_declaration, parameter}
use Rattle.ecma_contains.specs.NodeRules.{await_up, arguments_up, parameter_up, let_up}
use Rattle.ecma_base.specs.Scopes.{scopes_follow}
use Rattle.ecma_base.proofs.ScopesLaws.{not_program}
use Rattle.ecma_statements.proofs.UsingLaws.{using_scope}
use Rattle.ecma_strict.specs.ScopesLaws.{scopes_told, directive_scope}
use Rattle.ecma_strict.specs.AgreeLaws.{let_agrees, arguments_agree, parameter_agrees, block_agrees}
use Rattle.ecma_statements.specs.Functions.{function_misplaced, function_misplaced_else, labels_function, labelled_function_at}
use Rattle.ecma_statements.proofs.FunctionsLaws.{labelled_agrees, labelled_strict, misplaced_agrees, misplaced_else_agrees}
use Rattle.ecma_strict.specs.Theorems.{code3, code5, code6, code9, code10, code11, code12, code13, code14, code15, code16, code24, code25, code32, code33, beyond, code2}
use Rattle.ecma_contains.specs.Changed.{bound_edge, await_edge, arguments_edge, parameter_edge, BlockTold, LetTold, ArgumentsTold, ParameterTold, let_edge, let_bound_said, field_edge, field_home, class_part, arguments_said, await_in_parameter_said, scoped_in_block}
use Rattle.ecma_statements.specs.Changed.{sloppy_function, sloppy_function_else, UsingTold, HeadTold, top_using, labelled_function_said, OrdinaryHeld}
use Rattle.ecma_names.specs.Changed.{DirectiveTold, use_strict_scoped, await_name_scoped, reserved_name, NameTold}
use Rattle.ecma_literals.specs.Changed.{DeleteTold, deletes_private_anywhere, told_octal, told_non_octal, first_octal_escape, first_non_octal_escape, BaseTold, EscapesTold}

module _ (t : ℕ) (ns ss source names : List ℕ) (w : WellFormed t ns ss source names) (n : ℕ) (h : n < count ns) where
  abbrev at : ℕ → List ℕ
  at c = raised c (findings_at t ns ss source names n)

  abbrev Rule : ℕ → Bool → Type 0
  Rule c rule = at c ≡ only rule n

  -- 2 and 3 at a name: one finding, where 13.1.1 is broken
  module _ (told : Telling) (i : identifier ns n ≡ true) where
    codes : at 2 ++ at 3 ≡ only (reserved_name t ns ss names n) n ++ only (await_name_scoped t ns ss names n) n
    codes =
        let e : await_expression ns n ≡ false = beyond (kind_of ns n) 47 31 33 i refl in
        rw (code2 t ns ss source names w n h, code3 t ns ss source names w n h, e, or_false (await_name_scoped t ns ss names n))
      where
        or_false : (b : Bool) → (b || false) ≡ b
        or_false true = refl
        or_false false = refl

    pub standard_names : NameTold told t ns ss names n → at 2 ++ at 3 ≡ only (identifier_error told t ns ss names n) n
    standard_names q =
        codes ∙ names_agree told t ns ss names n i
        (record { reserved = q.reserved; yield = λ e s. yield_from told t ns w.input.tree n h ∙ q.yield e s; await = λ e g. await_told told t ns w.input.tree ss w.shaped.placed g n h (q.await e g) })

    -- where the scopes follow the tree, the condition is the weakest one, ..
    pub only_names : scopes_follow ns ss ≡ true → at 2 ++ at 3 ≡ only (identifier_error told t ns ss names n) n → NameTold told t ns ss names n
    only_names s q =
        let a = names_agree_only told t ns ss names n i (sym codes ∙ q) in
        record { reserved = a.reserved; yield = λ e x. sym (yield_from told t ns w.input.tree n h) ∙ a.yield e x; await = λ e g. await_only told t ns w.input.tree ss w.shaped.placed s n h (a.await e g) }

    -- .. and each finding is right, whatever is told
    pub sound_names : scopes_follow ns ss ≡ true → some (at 2 ++ at 3) ≡ true → identifier_error told t ns ss names n ≡ true
    sound_names s q =
        names_sound told t ns ss names n i (block_await told t ns w.input.tree ss w.shaped.placed s n h) (ap some (sym codes) ∙ q)

  block : BlockTold ns ss n → scoped_in_block ns ss n ≡ await_in_block ns n
  unfolding await_in_block
  block q = go (scoped_in_block ns ss n) refl (await_in_block ns n) refl
    where
      by : within (kind_of ns (unit_of ns (await_edge ns) n)) k.PropertyDefinition k.AccessorProperty ≡ false → scoped_in_block ns ss n ≡ await_in_block ns n
      by f = block_agrees ns ss w.input.tree w.input.chained w.input.scoped (scopes_told ns ss w.input.tree q.follow) n h f

      go : (a : Bool) → scoped_in_block ns ss n ≡ a → (b : Bool) → await_in_block ns n ≡ b → scoped_in_block ns ss n ≡ await_in_block ns n
      go true x b y = by (q.field x)
      go false x true y = let u = eqb-true (kind_of ns (unit_of ns (await_edge ns) n)) 3 (sym (await_up ns w.input.tree n h) ∙ y) in by (rw u)
      go false x false y = x ∙ sym y

  -- 3 at what is no name
  pub standard3 : identifier ns n ≡ false → (await_expression ns n ≡ true → BlockTold ns ss n) → Rule 3 (await_expression ns n && await_in_block ns n)
  unfolding await_name_scoped
  standard3 f q = code3 t ns ss source names w n h ∙ rw f (ap (λ x. only x n) (go (await_expression ns n) refl))
    where
      go : (b : Bool) → await_expression ns n ≡ b → (await_expression ns n && scoped_in_block ns ss n) ≡ (await_expression ns n && await_in_block ns n)
      go true e = rw (block (q e))
      go false e = rw e

  pub standard5 : LetTold ns ss names n → Rule 5 (let_bound ns names n)
  unfolding let_bound_said let_bound
  standard5 q = code5 t ns ss source names w n h ∙ ap (λ x. only x n) (go (let_bound_said ns ss names n) refl (let_bound ns names n) refl)
    where
      by : strict_code ns ss n ≡ false → eqb (kind_of ns (unit_of ns (bound_edge ns) n)) k.VariableDeclaration ≡ true → let_bound_said ns ss names n ≡ let_bound ns names n
      by = let_agrees ns ss names n w.input.tree h

      go : (a : Bool) → let_bound_said ns ss names n ≡ a → (b : Bool) → let_bound ns names n ≡ b → let_bound_said ns ss names n ≡ let_bound ns names n
      go true x b y =
          let s = and_right_lem (let_name ns names n) (not (strict_code ns ss n) && lexical_declaration ns (unit_of ns (let_edge ns) n)) x in
          by (not-true (strict_code ns ss n) (and_left_lem (not (strict_code ns ss n)) (lexical_declaration ns (unit_of ns (let_edge ns) n)) s)) (q.declared x)
      go false x true y =
          let l = and_right_lem (let_name ns names n) (lexical_declaration ns (unit_of ns (bound_edge ns) n)) (sym (ap (λ (b : Bool). let_name ns names n && b) (let_up ns w.input.tree n h)) ∙ y) in
          by (q.sloppy y) (and_left_lem (eqb (kind_of ns (unit_of ns (bound_edge ns) n)) 24) (not (eqb (extra_of ns (unit_of ns (bound_edge ns) n)) extra.Var)) l)
      go false x false y = x ∙ sym y

  pub standard6 : ArgumentsTold ns ss names n → Rule 6 (arguments_in_class ns names n)
  unfolding arguments_said arguments_in_class
  standard6 q = code6 t ns ss source names w n h ∙ ap (λ x. only x n) (go (arguments_said ns ss names n) refl (arguments_in_class ns names n) refl)
    where
      by : assigns_eval ns ss names n ≡ false → eqb (kind_of ns (unit_of ns (arguments_edge ns) n)) k.AccessorProperty ≡ false → arguments_said ns ss names n ≡ arguments_in_class ns names n
      by = arguments_agree ns ss names n w.input.tree h

      -- what the Rust's rule says is an error: in an auto-accessor too
      accessor : arguments_reference ns names n ≡ true → (c : Bool) → eqb (kind_of ns (unit_of ns (arguments_edge ns) n)) k.AccessorProperty ≡ c → assigns_eval ns ss names n ≡ false → arguments_said ns ss names n ≡ true
          → arguments_said ns ss names n ≡ arguments_in_class ns names n
      accessor r true c s x = let u = eqb-true (kind_of ns (unit_of ns (arguments_edge ns) n)) 30 c in x ∙ sym (rw (arguments_up ns w.input.tree n h, r, u))
      accessor r false c s x = by s c

      go : (a : Bool) → arguments_said ns ss names n ≡ a → (b : Bool) → arguments_in_class ns names n ≡ b → arguments_said ns ss names n ≡ arguments_in_class ns names n
      go a x true y = by (q.read y) (q.field y)
      go true x false y =
          let s = and_right_lem (arguments_reference ns names n) (not (assigns_eval ns ss names n) && field_home ns (unit_of ns (field_edge ns) n)) x in
          accessor (and_left_lem (arguments_reference ns names n) (not (assigns_eval ns ss names n) && field_home ns (unit_of ns (field_edge ns) n)) x) (eqb (kind_of ns (unit_of ns (arguments_edge ns) n)) k.AccessorProperty) refl
          (not-true (assigns_eval ns ss names n) (and_left_lem (not (assigns_eval ns ss names n)) (field_home ns (unit_of ns (field_edge ns) n)) s)) x
      go false x false y = x ∙ sym y

  -- where the table's base is that of the text, the value's length tells of escapes, and no string has both kinds of escape
  pub standard9 : (numeric_literal ns n ≡ true → BaseTold ns source n) → (string_literal ns n ≡ true → strict_code ns ss n ≡ true → EscapesTold ns source n)
      → Rule 9 (strict_octal ns ss source n || strict_octal_escape ns ss source n)
  unfolding told_octal strict_octal first_octal_escape strict_octal_escape
  standard9 b e =
      code9 t ns ss source names w n h ∙ ap (λ x. only (x || first_octal_escape ns ss source n) n) (number (numeric_literal ns n) refl)
      ∙ ap (λ x. only (strict_octal ns ss source n || x) n) (string (string_literal ns n) refl)
    where
      number : (x : Bool) → numeric_literal ns n ≡ x → told_octal ns ss source n ≡ strict_octal ns ss source n
      number true q = octal_agrees ns ss source n (b q)
      number false q = rw q

      string : (x : Bool) → string_literal ns n ≡ x → first_octal_escape ns ss source n ≡ strict_octal_escape ns ss source n
      string true q = strictly (strict_code ns ss n) refl
        where
          strictly : (s : Bool) → strict_code ns ss n ≡ s → first_octal_escape ns ss source n ≡ strict_octal_escape ns ss source n
          strictly true s = octal_escape_agrees ns ss source n (e q s)
          strictly false s = rw (q, s)
      string false q = rw q

  pub standard10 : (numeric_literal ns n ≡ true → BaseTold ns source n) → Rule 10 (strict_non_octal ns ss source n)
  unfolding told_non_octal strict_non_octal
  standard10 b = code10 t ns ss source names w n h ∙ ap (λ x. only x n) (go (numeric_literal ns n) refl)
    where
      go : (x : Bool) → numeric_literal ns n ≡ x → told_non_octal ns ss source n ≡ strict_non_octal ns ss source n
      go true q = non_octal_agrees ns ss source n (b q)
      go false q = rw q

  pub standard11 : (string_literal ns n ≡ true → strict_code ns ss n ≡ true → EscapesTold ns source n) → Rule 11 (strict_non_octal_escape ns ss source n)
  unfolding first_non_octal_escape strict_non_octal_escape
  standard11 e = code11 t ns ss source names w n h ∙ ap (λ x. only x n) (go (string_literal ns n) refl)
    where
      go : (x : Bool) → string_literal ns n ≡ x → first_non_octal_escape ns ss source n ≡ strict_non_octal_escape ns ss source n
      go true q = strictly (strict_code ns ss n) refl
        where
          strictly : (s : Bool) → strict_code ns ss n ≡ s → first_non_octal_escape ns ss source n ≡ strict_non_octal_escape ns ss source n
          strictly true s = non_octal_escape_agrees ns ss source n (e q s)
          strictly false s = rw (q, s)
      go false q = rw q

  pub standard12 : (kind_of ns n ≡ k.Directive → DirectiveTold ns ss n) → Rule 12 (use_strict_there ns names n)
  unfolding use_strict_scoped use_strict_there
  standard12 q = code12 t ns ss source names w n h ∙ ap (λ x. only x n) (go (eqb (kind_of ns n) k.Directive) refl)
    where
      go : (b : Bool) → eqb (kind_of ns n) k.Directive ≡ b → use_strict_scoped ns ss names n ≡ use_strict_there ns names n
      go true e =
          let d = eqb-true (kind_of ns n) 23 e in
          let c = q d in
          use_strict_agrees ns ss names n
          (directive_scope ns ss w.input.tree c.follow w.shaped.placed n (not_program ns w.input.tree n (λ (z : kind_of ns n ≡ 0). omega arith)) h c.placed)
      go false e = rw e

  pub standard13 : (using_declaration ns n ≡ true → UsingTold ns ss n) → Rule 13 (bad_using t ns n)
  unfolding top_using bad_using
  standard13 q = code13 t ns ss source names w n h ∙ ap (λ x. only x n) (go (using_declaration ns n) refl)
    where
      go : (b : Bool) → using_declaration ns n ≡ b → top_using t ns ss n ≡ bad_using t ns n
      go true e =
          let c = q e in
          using_agrees t ns ss n (using_scope ns ss w.input.tree c.follow w.shaped.placed n h c.other) c.clause
      go false e = rw e

  pub standard14 : (await_using ns n ≡ true → BlockTold ns ss n) → Rule 14 (await_using ns n && await_in_block ns n)
  standard14 q = code14 t ns ss source names w n h ∙ ap (λ x. only x n) (go (await_using ns n) refl)
    where
      go : (b : Bool) → await_using ns n ≡ b → (await_using ns n && scoped_in_block ns ss n) ≡ (await_using ns n && await_in_block ns n)
      go true e = rw (block (q e))
      go false e = rw e

  -- in sloppy code (in strict code 15 is raised at the label), where an if or a label holds no async function and no generator that is not an error as a labelled function
  pub standard16 : (told : Telling) → OrdinaryHeld told ns ss n → strict_code ns ss n ≡ false
      → at 16 ≡ only (sloppy_function told ns ss n || labelled_function_at ns n) n ++ only (sloppy_function_else told ns ss n) n
  standard16 told c s =
      code16 t ns ss source names w n h ∙ rw (misplaced_else_agrees told ns ss n c, labelled_agrees ns ss n s)
      (ap (λ x. only x n ++ only (sloppy_function_else told ns ss n) n) (go (labelled_function_at ns n) refl))
    where
      either : (a b : Bool) → (a || true) ≡ (b || true)
      either true true = refl
      either true false = refl
      either false true = refl
      either false false = refl

      go : (b : Bool) → labelled_function_at ns n ≡ b → (sloppy_function ordinary ns ss n || labelled_function_at ns n) ≡ (sloppy_function told ns ss n || labelled_function_at ns n)
      go true e = rw e (either (sloppy_function ordinary ns ss n) (sloppy_function told ns ss n))
      go false e = rw (misplaced_agrees told ns ss n c e)

  -- 15 and 16 together, in strict code and in sloppy code: one for a function that is misplaced or labelled, and one for a function that is misplaced behind else
  pub standard15with16 : (told : Telling) → OrdinaryHeld told ns ss n
      → at 15 ++ at 16 ≡ only (function_misplaced told ns ss n || labelled_function_at ns n) n ++ only (function_misplaced_else told ns ss n) n
  unfolding labelled_function_said
  standard15with16 told c = go (strict_code ns ss n) refl
    where
      none : (a : Bool) (l : List ℕ) → l ++ (only (a && false) n ++ []) ≡ l
      none true l = append-nil l
      none false l = append-nil l

      go : (b : Bool) → strict_code ns ss n ≡ b → at 15 ++ at 16 ≡ only (function_misplaced told ns ss n || labelled_function_at ns n) n ++ only (function_misplaced_else told ns ss n) n
      go true s =
          rw (code15 t ns ss source names w n h told, code16 t ns ss source names w n h, labelled_strict told ns ss n s)
          (rw s (none (labels_function ns n) (only (function_misplaced told ns ss n) n ++ only (function_misplaced_else told ns ss n) n)))
      go false s = rw (code15 t ns ss source names w n h told, standard16 told c s) (rw s)

  pub standard24 : HeadTold ns ss n → Rule 24 (initialized_head ns ss n)
  standard24 q = code24 t ns ss source names w n h ∙ ap (λ x. only x n) (head_agrees ns ss n q)

  pub standard25 : (for_await ns n ≡ true → BlockTold ns ss n) → Rule 25 (for_await ns n && await_in_block ns n)
  standard25 q = code25 t ns ss source names w n h ∙ ap (λ x. only x n) (go (for_await ns n) refl)
    where
      go : (b : Bool) → for_await ns n ≡ b → (for_await ns n && scoped_in_block ns ss n) ≡ (for_await ns n && await_in_block ns n)
      go true e = rw (block (q e))
      go false e = rw e

  pub standard32 : DeleteTold ns ss n → Rule 32 (deletes_private ns ss n)
  unfolding deletes_private_anywhere deletes_private
  standard32 q = code32 t ns ss source names w n h ∙ ap (λ x. only x n) (go (deletes_private_anywhere ns n) refl)
    where
      none : (a b c : Bool) → (a && c) ≡ false → (a && (b && c)) ≡ false
      none true true c f = f
      none true false c f = refl
      none false b c f = refl

      go : (b : Bool) → deletes_private_anywhere ns n ≡ b → deletes_private_anywhere ns n ≡ deletes_private ns ss n
      go true e = delete_private_agrees ns ss n (q e)
      go false e = e ∙ sym (none (delete_expression ns n) (strict_code ns ss n) (derives ns (private_reference ns) (value_of ns n)) e)

  pub standard33 : ParameterTold ns n → Rule 33 (await_in_parameter ns n)
  unfolding await_in_parameter_said await_in_parameter
  standard33 q = code33 t ns ss source names w n h ∙ ap (λ x. only x n) (go (await_in_parameter_said ns n) refl (await_in_parameter ns n) refl)
    where
      part : (u : ℕ) → (a : Bool) → eqb (kind_of ns u) k.FormalParameter ≡ a → parameter ns u ≡ true → class_part ns u ≡ false
      part u true x y = let e = eqb-true (kind_of ns u) 49 x in rw e
      part u false x y =
          let e = eqb-true (kind_of ns u) 51 (and_left_lem (eqb (kind_of ns u) 51) (eqb (kind_of ns (parent_of ns u)) k.FormalParameterRest) (rw x at y)) in
          rw e

      go : (a : Bool) → await_in_parameter_said ns n ≡ a → (b : Bool) → await_in_parameter ns n ≡ b → await_in_parameter_said ns n ≡ await_in_parameter ns n
      go true x b y = parameter_agrees ns n w.input.tree h (q x)
      go false x true y =
          let u = unit_of ns (parameter_edge ns) n in
          parameter_agrees ns n w.input.tree h (part u (eqb (kind_of ns u) k.FormalParameter) refl (and_right_lem (await_or_yield ns n) (parameter ns u) (sym (ap (λ (b : Bool). await_or_yield ns n && b) (parameter_up ns w.input.tree n h)) ∙ y)))
      go false x false y = x ∙ sym y
