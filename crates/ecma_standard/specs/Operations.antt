-- THE OPERATIONS OF ECMA-262 AND THE FINDINGS: of a unit, as the standard states its rules, an operation is true exactly if a finding is raised at one of the nodes that it finds there.
-- On the conditions of the codes.
use Rattle.std.specs.Prelude.{ℕ, ◌+◌, ◌≤◌, ◌<◌, ◌≡◌, List, [], ◌++◌, ◌↔◌, Bool, true, false, cond, not, ◌&&◌, ◌||◌, eqb, Some}
use Rattle.base_common.specs.Upto.{upto}
use Rattle.base_common.specs.Tests.{within}
use Rattle.table_records.specs.Table.{kind_of, parent_of, count}
use Rattle.table_records.specs.Kinds as k
use Rattle.table_children.specs.Children.{function_body_of, class_body_of}
use Rattle.check_diagnostics.specs.declared.Finding.{Finding}
use Rattle.refusal_verdict.specs.Verdict.{Passed}
use Rattle.refusal_input.specs.Input.{input_refusal}
use Rattle.refusal_input.proofs.InputLaws.{input_well_formed}
use Rattle.check_dispatch.specs.Findings.{findings_at, findings_of}
use Rattle.ecma_trees.specs.Rose.{parts_of, marks_all}
use Rattle.ecma_trees.specs.Walk.{each, some, Says}
use Rattle.ecma_trees.specs.Trail.{unit_of}
use Rattle.ecma_dispatch.specs.WithCode.{with_code}
use Rattle.ecma_dispatch.specs.NodesOf.{raised}
use Rattle.ecma_base.specs.Telling.{Telling}
use Rattle.ecma_base.specs.Contains.{contains_from, comes, static_block}
use Rattle.ecma_base.specs.Scopes.{scopes_follow}
use Rattle.ecma_labels.specs.Labels.{is_unit, any_duplicate_labels, any_undefined_break_target, any_undefined_continue_target, any_break_not_nested}
use Rattle.ecma_labels.specs.Changed.{LabelsOnce}
use Rattle.ecma_labels.specs.Findings.{of_unit, break_findings, continue_findings}
use Rattle.ecma_labels.proofs.Theorems as labels
use Rattle.ecma_names.specs.Identifiers.{simple_parameters, contains_use_strict}
use Rattle.ecma_contains.specs.BoundNames.{binds_let}
use Rattle.ecma_contains.specs.Contains.{contains_into, block_begin, await_expression, for_await, await_using, arguments_reference, arguments_begin, arguments_into, parameter, parameter_begin, await_or_yield, lexical_declaration, bound_begin, bound_into, let_name}
use Rattle.ecma_statements.specs.Functions.{ends_in_statement, ends_in_labelled, labels_function, label_edge}
use Rattle.ecma_contains.specs.Changed.{field_home}
use Rattle.ecma_strict.specs.Units as units
use Rattle.ecma_privates.specs.PrivateNames.{all_private_identifiers_valid, invalid_identifiers}
use Rattle.ecma_supers.specs.Supers.{bare_error, call_error, property_error, standard_bare, standard_stray, standard_property}
use Rattle.ecma_privates.specs.Changed.{PrivatesPlain, UsedOutside}
use Rattle.ecma_supers.specs.Raised.{in_unit}
use Rattle.ecma_classes.specs.Theorems as classes

module _ (told : Telling) (t : ℕ) (ns ss source names : List ℕ) where
  abbrev at : ℕ → ℕ → List ℕ
  at c j = raised c (findings_at t ns ss source names j)

  -- what is sought among the nodes that an operation of u comes to, each with what g says of it
  abbrev found : (ℕ → Bool) → (ℕ → ℕ → Bool) → (ℕ → ℕ → Bool) → ℕ → (ℕ → List ℕ) → List ℕ
  found sought into begin u g = each (λ j. cond (comes ns begin into u j && sought j) (g j) []) (marks_all (parts_of ns u))

  -- some node of the unit u has one of these findings
  abbrev OfUnit : (ℕ → List Finding) → ℕ → Type 0
  OfUnit findings u = Says (of_unit ns findings u) (u + 1) (count ns)

  -- 8.3.1, 8.3.2, 8.3.3, 14.9.1, of a program, a function, an arrow or a static block u
  pub record LabelsOf (u : ℕ) : Type 0 where
    pub contains_duplicate_labels : (any_duplicate_labels ns names (parts_of ns u) [] ≡ true) ↔ OfUnit (λ j. with_code 23 (findings_at t ns ss source names j)) u
    pub contains_undefined_break_target : (any_undefined_break_target ns names (parts_of ns u) [] ≡ true) ↔ OfUnit (break_findings t ns ss source names) u
    pub contains_undefined_continue_target : LabelsOnce ns names u → (any_undefined_continue_target ns names (parts_of ns u) ([], []) ≡ true) ↔ OfUnit (continue_findings t ns ss source names) u
    pub break_not_nested : (any_break_not_nested ns names (parts_of ns u) false ≡ true) ↔ OfUnit (λ j. with_code 18 (findings_at t ns ss source names j)) u

  -- 15.7.1 "ClassStaticBlockStatementList Contains await", of a static block u
  pub record BlocksOf (u : ℕ) : Type 0 where
    pub await_expressions : contains_from ns (await_expression ns) (contains_into ns) (block_begin ns) u ≡ some (found (await_expression ns) (contains_into ns) (block_begin ns) u (at 3))
    pub for_awaits : contains_from ns (for_await ns) (contains_into ns) (block_begin ns) u ≡ some (found (for_await ns) (contains_into ns) (block_begin ns) u (at 25))
    pub await_usings : contains_from ns (await_using ns) (contains_into ns) (block_begin ns) u ≡ some (found (await_using ns) (contains_into ns) (block_begin ns) u (at 14))

  pub record Operations : Type 0 where
    pub labels : (u : ℕ) → u < count ns → is_unit ns u ≡ true → LabelsOf u
    pub blocks : scopes_follow ns ss ≡ true → (u : ℕ) → u < count ns → static_block ns u ≡ true → BlocksOf u
    -- 15.7.9 ContainsArguments, of a field or a static block u; 4 where `arguments` is assigned to
    pub contains_arguments : (u : ℕ) → u < count ns → field_home ns u ≡ true
        → contains_from ns (arguments_reference ns names) (arguments_into ns) (arguments_begin ns) u ≡ some (found (arguments_reference ns names) (arguments_into ns) (arguments_begin ns) u (λ j. at 6 j ++ at 4 j))
    -- "FormalParameters Contains YieldExpression", "AwaitExpression", of a FormalParameter u
    pub parameters_contain : (u : ℕ) → u < count ns → parameter ns u ≡ true
        → contains_from ns (await_or_yield ns) (contains_into ns) (parameter_begin ns) u ≡ some (found (await_or_yield ns) (contains_into ns) (parameter_begin ns) u (at 33))
    -- 8.2.1 BoundNames, of a lexical declaration u; 2 in strict code
    pub bound_names : (u : ℕ) → u < count ns → lexical_declaration ns u ≡ true
        → binds_let ns names u ≡ some (found (let_name ns names) (bound_into ns) (bound_begin ns) u (λ j. at 5 j ++ at 2 j))
    -- 14.13.2 IsLabelledFunction, of a statement u that ends in a Statement; 15 in strict code
    pub is_labelled_function : (u : ℕ) → u < count ns → ends_in_statement ns u ≡ true
        → ends_in_labelled ns u ≡ some (each (λ j. cond (eqb (unit_of ns (label_edge ns) j) u && labels_function ns j) (at 16 j ++ at 15 j) []) (upto (u + 1) (count ns)))
    -- 15.2.2 FunctionBodyContainsUseStrict, of the FunctionBody b of a function or an arrow f whose parameters are not simple
    pub body_contains_use_strict : scopes_follow ns ss ≡ true → (f b : ℕ) → function_body_of ns f ≡ Some (record { 0 = b }) → within (kind_of ns f) k.Function k.Arrow ≡ true → simple_parameters ns f ≡ false
        → contains_use_strict ns names b ≡ some (each (λ j. cond (eqb (parent_of ns j) b) (at 12 j) []) (upto (b + 1) (count ns)))
    -- 15.7.7 AllPrivateIdentifiersValid, and the PrivateIdentifiers at which it is false
    pub private_identifiers_valid : PrivatesPlain ns → UsedOutside ns → all_private_identifiers_valid ns names ≡ not (some (raised 7 (findings_of t ns ss source names)) || some (raised 8 (findings_of t ns ss source names)))
    pub valid_lists : all_private_identifiers_valid ns names ≡ not (some (invalid_identifiers ns names))
    -- 8 is raised at one Class: the parent of the ClassBody
    pub class_above : (b : ℕ) → b < count ns → kind_of ns b ≡ k.ClassBody → (kind_of ns (parent_of ns b) ≡ k.Class) × (class_body_of ns (parent_of ns b) ≡ Some (record { 0 = b }))
    -- 8.5.1 Contains and 15.4.2 HasDirectSuper, of a unit u
    pub super_bare : (u : ℕ) → u < count ns → bare_error ns names u ≡ some (in_unit ns (standard_bare ns names) u)
    pub super_call : (u : ℕ) → u < count ns → call_error told ns names u ≡ some (in_unit ns (standard_stray told ns names) u)
    pub super_property : (u : ℕ) → u < count ns → property_error ns u ≡ some (in_unit ns (standard_property ns) u)

-- THE THEOREM
pub operations262 : (told : Telling) (t : ℕ) → t ≤ 1 → (ns ss source names : List ℕ) → input_refusal t ns ss source names ≡ Passed → Operations told t ns ss source names
operations262 told t js ns ss source names e =
    let w = input_well_formed t ns ss source names e in
    record {
      labels = λ u c x.
          record {
            contains_duplicate_labels = labels.duplicate_labels_unit t ns ss source names w u c x;
            contains_undefined_break_target = labels.undefined_breaks_unit t ns ss source names w u c x;
            contains_undefined_continue_target = labels.undefined_continues_once t ns ss source names w u c x;
            break_not_nested = labels.breaks_not_nested_unit t ns ss source names w u c x;
          };
      blocks = λ s u h q.
          record {
            await_expressions = units.block_contains_await t ns ss source names w s u h q;
            for_awaits = units.block_contains_for_await t ns ss source names w s u h q;
            await_usings = units.block_contains_await_using t ns ss source names w s u h q;
          };
      contains_arguments = units.home_contains_arguments t ns ss source names w;
      parameters_contain = units.parameters_contain t ns ss source names w;
      bound_names = units.declaration_binds_let t ns ss source names w;
      is_labelled_function = units.statement_is_labelled t ns ss source names w;
      body_contains_use_strict = units.body_contains_use_strict t ns ss source names w;
      private_identifiers_valid = classes.valid_clean t js ns ss source names w;
      valid_lists = classes.valid_lists_lem t js ns ss source names w;
      class_above = classes.code8_once t js ns ss source names w;
      super_bare = classes.units28 t js ns ss source names w;
      super_call = classes.units29 t js ns ss source names w told;
      super_property = classes.units30 t js ns ss source names w;
    }
