-- THE THEOREMS: in well-formed tables, the findings of a node with a code are one, raised at it, where the rule is broken there, and none elsewhere. The rules without a mark are
-- those of ECMA-262; those marked (changed) are the Rust's, and the laws named beside them say where they are the standard's.
use Rattle.std.specs.Prelude.{ℕ, ◌≤◌, ◌<◌, ◌≡◌, List, [], ◌++◌, Bool, cond, ◌&&◌, ◌||◌}
use Rattle.std.proofs.Math.Path.{refl}
use Rattle.std.proofs.Common.{ap, sym, ◌∙◌, eq-or-lt_of_le, arith}
use Rattle.std.proofs.Math.Bool.{true, false, not}
use Rattle.std.proofs.Math.Logic.{⊎_elim}
use borrow.Author.Tests.{ne_eqb, eqb-true, eqb-false}
use Rattle.std.proofs.Math.Dec.{eqb}
use Rattle.base_common.specs.Upto.{upto}
use Rattle.base_common.specs.Tests.{within}
use Rattle.base_common.proofs.Bools.{never, in_range_lem, range_of}
use Rattle.table_records.specs.Table.{kind_of, count}
use Rattle.table_records.specs.Kinds as k
use Rattle.check_diagnostics.specs.declared.Finding.{Finding}
use Rattle.check_diagnostics.specs.Finding.{listed}
use Rattle.check_statements.specs.Statements.{check_body, check_consequent, check_alternate, check_function_declaration_in_labeled_statement, check_with_statement, check_for_statement_left, check_for_of_statement, check_using, check_await_using}
use Rattle.check_identifiers.specs.Identifiers.{check_identifier, check_binding_identifier, check_identifier_reference, check_directive}
use Rattle.check_literals.specs.Literals.{check_number_literal, check_string_literal}
use Rattle.check_expressions.specs.Expressions.{check_unary_expression, in_parameter, in_block}
use Rattle.check_dispatch.specs.Findings.{findings_at, findings_of}
use Rattle.refusal_input.specs.WellFormed.{WellFormed}
use Rattle.refusal_verdict.specs.Verdict.{Passed}
use Rattle.refusal_input.specs.Input.{input_refusal}
use Rattle.refusal_input.proofs.InputLaws.{input_well_formed}
use Rattle.ecma_trees.specs.Walk.{each, only}
use Rattle.ecma_dispatch.specs.WithCode.{with_code}
use Rattle.ecma_dispatch.proofs.DispatchLaws.{at_code, at2, at3, at15, at16, at33}
use Rattle.ecma_dispatch.specs.NodesOf.{raised}
use Rattle.ecma_dispatch.proofs.NodesOfLaws.{raised_nil, raised_again, raised_append}
use Rattle.ecma_base.specs.Strict.{strict_code}
use Rattle.ecma_base.specs.Nodes.{of_check}
use Rattle.ecma_strict.specs.NodesLaws.{raised_by, raised_listed, at_listed, at_with, at_two, at_two_listed, at_two_mixed, whole_is}
use Rattle.ecma_literals.specs.EscapeSpans.{StringTold, NumberTold}
use Rattle.ecma_literals.proofs.EscapeSpansLaws.{string_told, number_told}
use Rattle.ecma_literals.proofs.LiteralsLaws.{number_octal, number_non_octal, string_octal, string_non_octal}
use Rattle.ecma_literals.specs.Delete.{deletes_name}
use Rattle.ecma_literals.proofs.DeleteLaws.{delete_name, delete_private}
use Rattle.ecma_statements.specs.Statements.{strict_with}
use Rattle.ecma_statements.proofs.StatementsLaws.{with_is, head_is, using_is}
use Rattle.ecma_names.specs.Identifiers.{identifier, binds_eval, assigns_eval}
use Rattle.ecma_names.proofs.IdentifiersLaws.{reserved_is, await_name_is, use_strict_is}
use Rattle.ecma_contains.specs.Contains.{await_expression, await_using, for_await, await_or_yield}
use Rattle.ecma_strict.specs.SearchLaws.{binding_is, let_bound_is, reference_is, arguments_said_is, parameter_is, await_block_is, await_using_is, for_await_is}
use Rattle.ecma_base.specs.Telling.{Telling, ordinary}
use Rattle.ecma_statements.specs.Functions.{function_misplaced, function_misplaced_else}
use Rattle.ecma_statements.proofs.FunctionsLaws.{and_false, body_strict, consequent_strict, alternate_strict, body_sloppy, consequent_sloppy, alternate_sloppy, label_strict, label_sloppy, label_free}
use Rattle.ecma_statements.specs.Changed.{strict_function, strict_function_else, sloppy_function, sloppy_function_else, said_head, top_using, labelled_function_said}
use Rattle.ecma_literals.specs.Changed.{told_octal, told_non_octal, first_octal_escape, first_non_octal_escape, deletes_private_anywhere}
use Rattle.ecma_names.specs.Changed.{use_strict_scoped, await_name_scoped, reserved_name}
use Rattle.ecma_contains.specs.Changed.{scoped_in_block, let_bound_said, arguments_said, await_in_parameter_said}

-- one of two rules, where the other says nothing
left : (a b : Bool) (n : ℕ) → b ≡ false → only a n ≡ only (a || b) n
left true b n e = refl
left false b n e = ap (λ x. only x n) (sym e)

right : (a b : Bool) (n : ℕ) → a ≡ false → only b n ≡ only (a || b) n
right true b n e = never e
right false b n e = refl

-- a kind is no other
apart : (x a b : ℕ) → eqb x a ≡ true → eqb a b ≡ false → eqb x b ≡ false
apart x a b e f = ap (λ (y : ℕ). eqb y b) (eqb-true x a e) ∙ f

outside : (x a lo hi : ℕ) → eqb x a ≡ true → within a lo hi ≡ false → within x lo hi ≡ false
outside x a lo hi e f = ap (λ (y : ℕ). within y lo hi) (eqb-true x a e) ∙ f

pub beyond : (x a lo hi : ℕ) → within x lo hi ≡ true → within a lo hi ≡ false → eqb x a ≡ false
beyond x a lo hi e f = ne_eqb x a (λ q. never (sym e ∙ ap (λ (y : ℕ). within y lo hi) q ∙ f))

module _ (t : ℕ) (ns ss source names : List ℕ) (w : WellFormed t ns ss source names) (n : ℕ) (h : n < count ns) where
  abbrev at : List Finding
  at = findings_at t ns ss source names n

  -- 2 (changed: names_agree): a reserved word (13.1.1)
  pub code2 : raised 2 at ≡ only (reserved_name t ns ss names n) n
  unfolding reserved_name
  code2 = at_with 2 n at (identifier ns n) (reserved_name t ns ss names n) (check_identifier t ns ss names n) (reserved_is t ns ss names n) (λ e. rw e) (at2 t ns ss source names n)

  -- 3 (changed: names_agree, block_agrees): `await` in a static block (13.1.1, 15.7.1)
  pub code3 : raised 3 at ≡ only (await_name_scoped t ns ss names n || (await_expression ns n && scoped_in_block ns ss n)) n
  unfolding await_name_scoped
  code3 =
      at_two_mixed 3 n at (identifier ns n) (await_expression ns n) (await_name_scoped t ns ss names n || (await_expression ns n && scoped_in_block ns ss n)) (check_identifier t ns ss names n) (in_block ns ss n)
      (λ e. await_name_is t ns ss names n e ∙ left (await_name_scoped t ns ss names n) (await_expression ns n && scoped_in_block ns ss n) n (rw (beyond (kind_of ns n) 47 31 33 e refl)))
      (λ e f. await_block_is ns ss n (eqb-true (kind_of ns n) 47 f) ∙ right (await_name_scoped t ns ss names n) (await_expression ns n && scoped_in_block ns ss n) n (rw e))
      (λ e f. rw (e, f)) (at3 t ns ss source names n)

  -- 4: eval or arguments bound, or assigned to, in strict code (13.1.1, 8.6.4)
  pub code4 : raised 4 at ≡ only (binds_eval ns ss names n || assigns_eval ns ss names n) n
  unfolding binds_eval assigns_eval
  code4 =
      at_two 4 n at (eqb (kind_of ns n) k.BindingIdentifier) (eqb (kind_of ns n) k.IdentifierReference) (binds_eval ns ss names n || assigns_eval ns ss names n)
      (check_binding_identifier t ns ss names n) (check_identifier_reference t ns ss names n)
      (λ e. binding_is ns w.input.tree n t ss names h (eqb-true (kind_of ns n) 31 e) ∙ left (binds_eval ns ss names n) (assigns_eval ns ss names n) n (rw (apart (kind_of ns n) 31 32 e refl)))
      (λ e f. reference_is ns w.input.tree n w.shaped.placed t ss names h (eqb-true (kind_of ns n) 32 f) ∙ right (binds_eval ns ss names n) (assigns_eval ns ss names n) n (rw e))
      (λ e f. rw (e, f)) (at_code 4 t ns ss source names n)

  -- 5 (changed: let_agrees): `let` bound by a lexical declaration (14.3.1.1)
  pub code5 : raised 5 at ≡ only (let_bound_said ns ss names n) n
  unfolding let_bound_said
  code5 =
      at_with 5 n at (eqb (kind_of ns n) k.BindingIdentifier) (let_bound_said ns ss names n) (check_binding_identifier t ns ss names n)
      (λ e. let_bound_is ns w.input.tree n t ss names h (eqb-true (kind_of ns n) 31 e)) (λ e. rw e) (at_code 5 t ns ss source names n)

  -- 6 (changed: arguments_agree): `arguments` in a field or a static block (15.7.1)
  pub code6 : raised 6 at ≡ only (arguments_said ns ss names n) n
  unfolding arguments_said
  code6 =
      at_with 6 n at (eqb (kind_of ns n) k.IdentifierReference) (arguments_said ns ss names n) (check_identifier_reference t ns ss names n)
      (λ e. arguments_said_is ns w.input.tree n w.shaped.placed t ss names h (eqb-true (kind_of ns n) 32 e)) (λ e. rw e) (at_code 6 t ns ss source names n)

  -- 9 (changed: octal_agrees, octal_escape_agrees): LegacyOctalIntegerLiteral, LegacyOctalEscapeSequence in strict code (12.9.3.1, 12.9.4.1)
  pub code9 : raised 9 at ≡ only (told_octal ns ss source n || first_octal_escape ns ss source n) n
  unfolding told_octal first_octal_escape
  code9 =
      at_two 9 n at (eqb (kind_of ns n) k.NumericLiteral) (eqb (kind_of ns n) k.StringLiteral) (told_octal ns ss source n || first_octal_escape ns ss source n)
      (check_number_literal ns ss source n) (check_string_literal ns ss source n)
      (λ e. number_octal ns ss source n (eqb-true (kind_of ns n) 35 e) ∙ left (told_octal ns ss source n) (first_octal_escape ns ss source n) n (rw (apart (kind_of ns n) 35 36 e refl)))
      (λ e f. string_octal ns ss source n (eqb-true (kind_of ns n) 36 f) ∙ right (told_octal ns ss source n) (first_octal_escape ns ss source n) n (rw e))
      (λ e f. rw (e, f)) (at_code 9 t ns ss source names n)

  -- 10 (changed: non_octal_agrees): NonOctalDecimalIntegerLiteral in strict code (12.9.3.1)
  pub code10 : raised 10 at ≡ only (told_non_octal ns ss source n) n
  unfolding told_non_octal
  code10 =
      at_with 10 n at (eqb (kind_of ns n) k.NumericLiteral) (told_non_octal ns ss source n) (check_number_literal ns ss source n)
      (λ e. number_non_octal ns ss source n (eqb-true (kind_of ns n) 35 e)) (λ e. rw e) (at_code 10 t ns ss source names n)

  -- 11 (changed: non_octal_escape_agrees): NonOctalDecimalEscapeSequence in strict code (12.9.4.1)
  pub code11 : raised 11 at ≡ only (first_non_octal_escape ns ss source n) n
  unfolding first_non_octal_escape
  code11 =
      at_with 11 n at (eqb (kind_of ns n) k.StringLiteral) (first_non_octal_escape ns ss source n) (check_string_literal ns ss source n)
      (λ e. string_non_octal ns ss source n (eqb-true (kind_of ns n) 36 e)) (λ e. rw e) (at_code 11 t ns ss source names n)

  -- 12 (changed: use_strict_agrees): "use strict" in a function whose parameters are not simple (15.2.1 and others)
  pub code12 : raised 12 at ≡ only (use_strict_scoped ns ss names n) n
  unfolding use_strict_scoped
  code12 =
      at_listed 12 n at (eqb (kind_of ns n) k.Directive) (use_strict_scoped ns ss names n) (check_directive ns ss names n)
      (λ e. use_strict_is ns ss names n (eqb-true (kind_of ns n) 23 e)) (λ e. rw e) (at_code 12 t ns ss source names n)

  -- 13 (changed: using_agrees): using in a script (14.3.1.1)
  pub code13 : raised 13 at ≡ only (top_using t ns ss n) n
  unfolding top_using
  code13 =
      at_listed 13 n at (eqb (kind_of ns n) k.VariableDeclaration) (top_using t ns ss n) (check_using t ns ss n)
      (λ e. using_is t ns ss n (eqb-true (kind_of ns n) 24 e)) (λ e. rw e) (at_code 13 t ns ss source names n)

  -- 14 (changed: block_agrees): await using in a static block (15.7.1)
  pub code14 : raised 14 at ≡ only (await_using ns n && scoped_in_block ns ss n) n
  code14 =
      at_listed 14 n at (eqb (kind_of ns n) k.VariableDeclaration) (await_using ns n && scoped_in_block ns ss n) (check_await_using ns ss n)
      (λ e. await_using_is ns ss n (eqb-true (kind_of ns n) 24 e)) (λ e. rw e) (at_code 14 t ns ss source names n)

  -- the findings of a holder by its kind
  abbrev by_kind : ℕ → List Finding
  by_kind c =
      cond (eqb (kind_of ns n) 6) (with_code c (listed (check_function_declaration_in_labeled_statement ns ss n)))
      (cond (eqb (kind_of ns n) 12) (with_code c (listed (check_consequent ns ss n)) ++ with_code c (listed (check_alternate ns ss n)))
      (cond (within (kind_of ns n) 7 13) (with_code c (listed (check_body ns ss n))) []))

  -- what is raised, if it is so for each kind
  by_holder : (c : ℕ) (r : List ℕ)
      → (eqb (kind_of ns n) 6 ≡ true → of_check c (check_function_declaration_in_labeled_statement ns ss n) ≡ r)
      → (eqb (kind_of ns n) 12 ≡ true → of_check c (check_consequent ns ss n) ++ of_check c (check_alternate ns ss n) ≡ r)
      → (eqb (kind_of ns n) 6 ≡ false → eqb (kind_of ns n) 12 ≡ false → within (kind_of ns n) 7 13 ≡ true → of_check c (check_body ns ss n) ≡ r)
      → (eqb (kind_of ns n) 6 ≡ false → eqb (kind_of ns n) 12 ≡ false → within (kind_of ns n) 7 13 ≡ false → [] ≡ r)
      → raised c (by_kind c) ≡ r
  by_holder c r label both body other = go (eqb (kind_of ns n) 6) refl (eqb (kind_of ns n) 12) refl (within (kind_of ns n) 7 13) refl
    where
      go : (x : Bool) → eqb (kind_of ns n) 6 ≡ x → (y : Bool) → eqb (kind_of ns n) 12 ≡ y → (z : Bool) → within (kind_of ns n) 7 13 ≡ z
          → raised c (cond x (with_code c (listed (check_function_declaration_in_labeled_statement ns ss n)))
          (cond y (with_code c (listed (check_consequent ns ss n)) ++ with_code c (listed (check_alternate ns ss n)))
          (cond z (with_code c (listed (check_body ns ss n))) [])))
          ≡ r
      go true x y f z g =
          raised_again c (listed (check_function_declaration_in_labeled_statement ns ss n)) ∙ raised_listed c (check_function_declaration_in_labeled_statement ns ss n) ∙ label x
      go false x true f z g =
          raised_append c (with_code c (listed (check_consequent ns ss n))) (with_code c (listed (check_alternate ns ss n)))
          ∙ rw (raised_again c (listed (check_consequent ns ss n)), raised_again c (listed (check_alternate ns ss n)), raised_listed c (check_consequent ns ss n), raised_listed c (check_alternate ns ss n)) (both f)
      go false x false f true g = raised_again c (listed (check_body ns ss n)) ∙ raised_listed c (check_body ns ss n) ∙ body x f g
      go false x false f false g = raised_nil c ∙ other x f g

  -- an if ends in a Statement
  if_ends : eqb (kind_of ns n) 12 ≡ true → within (kind_of ns n) 7 13 ≡ true
  if_ends e = rw (eqb-true (kind_of ns n) 12 e)

  -- the first of two parts, where nothing is behind else
  alone : (b s : Bool) {c : Bool} → c ≡ false → only b n ≡ only b n ++ only (s && c) n
  alone true true e = rw e
  alone true false e = refl
  alone false true e = rw e
  alone false false e = refl

  -- 15: a function in statement position, in strict code; both Statements of an if (14.6, 14.7, 14.11, 14.13.1)
  pub code15 : (told : Telling) → raised 15 at ≡ only (strict_function told ns ss n) n ++ only (strict_function_else told ns ss n) n
  unfolding function_misplaced function_misplaced_else
  code15 told =
      raised_by 15 at (by_kind 15) (at15 t ns ss source names n)
      ∙ by_holder 15 (only (strict_function told ns ss n) n ++ only (strict_function_else told ns ss n) n)
      (λ x. label_strict ns ss w.input.tree n h told (eqb-true (kind_of ns n) 6 x) ∙ alone (strict_function told ns ss n) (strict_code ns ss n) (rw (apart (kind_of ns n) 6 12 x refl)))
      (λ f. rw (consequent_strict ns ss n told (if_ends f), alternate_strict ns ss n told (eqb-true (kind_of ns n) 12 f)))
      (λ x f g. body_strict ns ss n told g ∙ alone (strict_function told ns ss n) (strict_code ns ss n) (rw f))
      (λ x f g. rw (x, f, g) (and_false ns ss n (strict_code ns ss n) ∙ alone (strict_code ns ss n && false) (strict_code ns ss n) refl))

  -- 16 (changed: misplaced_agrees, misplaced_else_agrees, labelled_agrees): a function in statement position, in sloppy code (14.6, 14.7, 14.11, 14.13, B.3.1, B.3.3), and a labelled one (14.6.1 and others)
  pub code16 : raised 16 at ≡ only (sloppy_function ordinary ns ss n || labelled_function_said ns ss n) n ++ only (sloppy_function_else ordinary ns ss n) n
  unfolding function_misplaced function_misplaced_else labelled_function_said
  code16 =
      raised_by 16 at (by_kind 16) (at16 t ns ss source names n)
      ∙ by_holder 16 (only (sloppy_function ordinary ns ss n || labelled_function_said ns ss n) n ++ only (sloppy_function_else ordinary ns ss n) n)
      (λ x. label_sloppy ns ss w.input.tree n h (eqb-true (kind_of ns n) 6 x) ∙ right (sloppy_function ordinary ns ss n) (labelled_function_said ns ss n) n (label_free ns ss n x)
      ∙ alone (sloppy_function ordinary ns ss n || labelled_function_said ns ss n) (not (strict_code ns ss n)) (rw (apart (kind_of ns n) 6 12 x refl)))
      (λ f. rw (consequent_sloppy ns ss n (if_ends f) f, alternate_sloppy ns ss n f)
      (ap (λ l. l ++ only (sloppy_function_else ordinary ns ss n) n) (left (sloppy_function ordinary ns ss n) (labelled_function_said ns ss n) n (rw (apart (kind_of ns n) 12 6 f refl)))))
      (λ x f g. body_sloppy ns ss n g f x ∙ left (sloppy_function ordinary ns ss n) (labelled_function_said ns ss n) n (rw x)
      ∙ alone (sloppy_function ordinary ns ss n || labelled_function_said ns ss n) (not (strict_code ns ss n)) (rw f))
      (λ x f g. let s = not (strict_code ns ss n) in rw (x, f, g) (and_false ns ss n s ∙ left (s && false) false n refl ∙ alone (s && false || false) s refl))

  -- 17: with in strict code (14.11.1), in JavaScript
  pub code17 : t ≤ 1 → raised 17 at ≡ only (strict_with ns ss n) n
  unfolding strict_with
  code17 s =
      at_listed 17 n at (eqb (kind_of ns n) k.With) (strict_with ns ss n) (check_with_statement t ns ss n)
      (λ e. with_is t s ns ss n (eqb-true (kind_of ns n) 13 e)) (λ e. rw e) (at_code 17 t ns ss source names n)

  -- 24 (changed: head_agrees): an Initializer in the head of a for-in or a for-of (14.7.5, B.3.5)
  pub code24 : raised 24 at ≡ only (said_head ns ss n) n
  unfolding said_head
  code24 =
      at_two_listed 24 n at (eqb (kind_of ns n) k.ForIn) (eqb (kind_of ns n) k.ForOf) (said_head ns ss n) (check_for_statement_left ns ss n true) (check_for_statement_left ns ss n false)
      (λ e. let q = eqb-true (kind_of ns n) 8 e in head_is ns ss n true e (in_range_lem (kind_of ns n) 8 9 (omega arith) (omega arith)))
      (λ e f. let q = eqb-true (kind_of ns n) 9 f in head_is ns ss n false e (in_range_lem (kind_of ns n) 8 9 (omega arith) (omega arith)))
      (λ e f. rw (neither e f)) (at_code 24 t ns ss source names n)
    where
      neither : eqb (kind_of ns n) 8 ≡ false → eqb (kind_of ns n) 9 ≡ false → within (kind_of ns n) 8 9 ≡ false
      neither e f = go (within (kind_of ns n) 8 9) refl
        where
          go : (b : Bool) → within (kind_of ns n) 8 9 ≡ b → b ≡ false
          go true q =
              let r = range_of (kind_of ns n) 8 9 q in
              let r0 = r.0 in
              let r1 = r.1 in
              let e' = eqb-false (kind_of ns n) 8 e in
              ⊎_elim (λ (x : 8 ≡ kind_of ns n). absurd (e' (sym x))) (λ (x : 8 < kind_of ns n). absurd (eqb-false (kind_of ns n) 9 f (omega arith))) (eq-or-lt_of_le r0)
          go false q = refl

  -- 25 (changed: block_agrees): for await in a static block (15.7.1)
  pub code25 : raised 25 at ≡ only (for_await ns n && scoped_in_block ns ss n) n
  code25 =
      at_listed 25 n at (eqb (kind_of ns n) k.ForOf) (for_await ns n && scoped_in_block ns ss n) (check_for_of_statement ns ss n)
      (λ e. for_await_is ns ss n (eqb-true (kind_of ns n) 9 e)) (λ e. rw e) (at_code 25 t ns ss source names n)

  -- 31: delete of a name in strict code (13.5.1.1)
  pub code31 : raised 31 at ≡ only (deletes_name ns ss n) n
  unfolding deletes_name
  code31 =
      at_with 31 n at (eqb (kind_of ns n) k.Unary) (deletes_name ns ss n) (check_unary_expression ns ss n)
      (λ e. delete_name ns w.input.tree w.listed ss n (eqb-true (kind_of ns n) 45 e)) (λ e. rw e) (at_code 31 t ns ss source names n)

  -- 32 (changed: delete_private_agrees): delete of a private reference (13.5.1.1)
  pub code32 : raised 32 at ≡ only (deletes_private_anywhere ns n) n
  unfolding deletes_private_anywhere
  code32 =
      at_with 32 n at (eqb (kind_of ns n) k.Unary) (deletes_private_anywhere ns n) (check_unary_expression ns ss n)
      (λ e. delete_private ns w.input.tree w.listed ss n (eqb-true (kind_of ns n) 45 e)) (λ e. rw e) (at_code 32 t ns ss source names n)

  -- 33 (changed: parameter_agrees): await or yield in parameters (15.3.1, 15.5.1, 15.6.1, 15.8.1, 15.9.1)
  pub code33 : raised 33 at ≡ only (await_in_parameter_said ns n) n
  unfolding await_in_parameter_said
  code33 =
      at_listed 33 n at (await_or_yield ns n) (await_in_parameter_said ns n) (in_parameter ns n)
      (λ e. parameter_is ns w.input.tree n h e) (λ e. rw e) (at33 t ns ss source names n)

-- Of the whole tree: the nodes at which findings with a code are raised are those where the rule is broken, in order.
abbrev pub Exactly : ℕ → ℕ → List ℕ → List ℕ → List ℕ → List ℕ → (ℕ → List ℕ) → Type 0
Exactly c t ns ss source names rule = raised c (findings_of t ns ss source names) ≡ each rule (upto 0 (count ns))

pub record EarlyErrors (t : ℕ) (ns ss source names : List ℕ) : Type 0 where
  pub reserved_word : Exactly 2 t ns ss source names (λ n. only (reserved_name t ns ss names n) n)
  pub await_in_block : Exactly 3 t ns ss source names (λ n. only (await_name_scoped t ns ss names n || (await_expression ns n && scoped_in_block ns ss n)) n)
  pub eval_assigned : Exactly 4 t ns ss source names (λ n. only (binds_eval ns ss names n || assigns_eval ns ss names n) n)
  pub let_declared : Exactly 5 t ns ss source names (λ n. only (let_bound_said ns ss names n) n)
  pub arguments_in_class : Exactly 6 t ns ss source names (λ n. only (arguments_said ns ss names n) n)
  pub legacy_octal : Exactly 9 t ns ss source names (λ n. only (told_octal ns ss source n || first_octal_escape ns ss source n) n)
  pub leading_zero : Exactly 10 t ns ss source names (λ n. only (told_non_octal ns ss source n) n)
  pub non_octal_escape : Exactly 11 t ns ss source names (λ n. only (first_non_octal_escape ns ss source n) n)
  -- the second spans of 9 to 11, whatever the tables tell: at a string the first escape that 12.9.4.1 forbids, at a number none
  pub string_spans : (n : ℕ) → kind_of ns n ≡ k.StringLiteral → StringTold ns ss source n (findings_at t ns ss source names n)
  pub number_spans : (n : ℕ) → kind_of ns n ≡ k.NumericLiteral → NumberTold ns n (findings_at t ns ss source names n)
  pub use_strict : Exactly 12 t ns ss source names (λ n. only (use_strict_scoped ns ss names n) n)
  pub using_in_script : Exactly 13 t ns ss source names (λ n. only (top_using t ns ss n) n)
  pub await_using_in_block : Exactly 14 t ns ss source names (λ n. only (await_using ns n && scoped_in_block ns ss n) n)
  pub strict_functions : (told : Telling) → Exactly 15 t ns ss source names (λ n. only (strict_function told ns ss n) n ++ only (strict_function_else told ns ss n) n)
  pub sloppy_functions : Exactly 16 t ns ss source names (λ n. only (sloppy_function ordinary ns ss n || labelled_function_said ns ss n) n ++ only (sloppy_function_else ordinary ns ss n) n)
  pub with_statement : Exactly 17 t ns ss source names (λ n. only (strict_with ns ss n) n)
  pub for_head : Exactly 24 t ns ss source names (λ n. only (said_head ns ss n) n)
  pub for_await_in_block : Exactly 25 t ns ss source names (λ n. only (for_await ns n && scoped_in_block ns ss n) n)
  pub delete_of_name : Exactly 31 t ns ss source names (λ n. only (deletes_name ns ss n) n)
  pub delete_of_private : Exactly 32 t ns ss source names (λ n. only (deletes_private_anywhere ns n) n)
  pub await_or_yield_in_parameters : Exactly 33 t ns ss source names (λ n. only (await_in_parameter_said ns n) n)

pub early_errors : (t : ℕ) → t ≤ 1 → (ns ss source names : List ℕ) → WellFormed t ns ss source names → EarlyErrors t ns ss source names
early_errors t s ns ss source names w = record {
  reserved_word = whole_is 2 t ns ss source names (λ n. only (reserved_name t ns ss names n) n) refl (code2 t ns ss source names w);
  await_in_block = whole_is 3 t ns ss source names (λ n. only (await_name_scoped t ns ss names n || (await_expression ns n && scoped_in_block ns ss n)) n) refl (code3 t ns ss source names w);
  eval_assigned = whole_is 4 t ns ss source names (λ n. only (binds_eval ns ss names n || assigns_eval ns ss names n) n) refl (code4 t ns ss source names w);
  let_declared = whole_is 5 t ns ss source names (λ n. only (let_bound_said ns ss names n) n) refl (code5 t ns ss source names w);
  arguments_in_class = whole_is 6 t ns ss source names (λ n. only (arguments_said ns ss names n) n) refl (code6 t ns ss source names w);
  legacy_octal = whole_is 9 t ns ss source names (λ n. only (told_octal ns ss source n || first_octal_escape ns ss source n) n) refl (code9 t ns ss source names w);
  leading_zero = whole_is 10 t ns ss source names (λ n. only (told_non_octal ns ss source n) n) refl (code10 t ns ss source names w);
  non_octal_escape = whole_is 11 t ns ss source names (λ n. only (first_non_octal_escape ns ss source n) n) refl (code11 t ns ss source names w);
  string_spans = string_told t ns ss source names;
  number_spans = number_told t ns ss source names;
  use_strict = whole_is 12 t ns ss source names (λ n. only (use_strict_scoped ns ss names n) n) refl (code12 t ns ss source names w);
  using_in_script = whole_is 13 t ns ss source names (λ n. only (top_using t ns ss n) n) refl (code13 t ns ss source names w);
  await_using_in_block = whole_is 14 t ns ss source names (λ n. only (await_using ns n && scoped_in_block ns ss n) n) refl (code14 t ns ss source names w);
  strict_functions = λ told. whole_is 15 t ns ss source names (λ n. only (strict_function told ns ss n) n ++ only (strict_function_else told ns ss n) n) refl (λ n h. code15 t ns ss source names w n h told);
  sloppy_functions = whole_is 16 t ns ss source names (λ n. only (sloppy_function ordinary ns ss n || labelled_function_said ns ss n) n ++ only (sloppy_function_else ordinary ns ss n) n) refl (code16 t ns ss source names w);
  with_statement = whole_is 17 t ns ss source names (λ n. only (strict_with ns ss n) n) refl (λ n h. code17 t ns ss source names w n h s);
  for_head = whole_is 24 t ns ss source names (λ n. only (said_head ns ss n) n) refl (code24 t ns ss source names w);
  for_await_in_block = whole_is 25 t ns ss source names (λ n. only (for_await ns n && scoped_in_block ns ss n) n) refl (code25 t ns ss source names w);
  delete_of_name = whole_is 31 t ns ss source names (λ n. only (deletes_name ns ss n) n) refl (code31 t ns ss source names w);
  delete_of_private = whole_is 32 t ns ss source names (λ n. only (deletes_private_anywhere ns n) n) refl (code32 t ns ss source names w);
  await_or_yield_in_parameters = whole_is 33 t ns ss source names (λ n. only (await_in_parameter_said ns n) n) refl (code33 t ns ss source names w);
}

-- The same of tables that no refusal of the input turns down.
pub early_errors_of : (t : ℕ) → t ≤ 1 → (ns ss source names : List ℕ) → input_refusal t ns ss source names ≡ Passed → EarlyErrors t ns ss source names
early_errors_of t s ns ss source names e = early_errors t s ns ss source names (input_well_formed t ns ss source names e)
