-- THE FINDINGS AGAINST THE RULES OF ECMA-262 THEMSELVES, all codes together: of well-formed tables, for every telling of the functions that are async or generators.
-- Where a field has a condition, that is a named one (Changed.antt of each crate; docs/DIFFERENCES.md has a row for each, and a text where there is one); where it does not hold the Rust keeps another rule, which
-- Findings.antt states of all tables. Operations.antt has the standard's operations of units.
use Rattle.std.specs.Prelude.{ℕ, ◌≤◌, ◌<◌, ◌≡◌, ◌↔◌, Bool, true, false, not, ◌&&◌, ◌||◌, ltb, is_some}
use Rattle.std.proofs.Common.{ap, ◌∙◌}
use mathlib.Core.List.{List, [], ◌∷◌, ◌++◌, flat_map}
use Rattle.base_common.specs.Upto.{upto, all, any}
use Rattle.base_common.specs.Tests.{within}
use Rattle.base_walk.specs.On.{member}
use Rattle.table_records.specs.Table.{kind_of, count}
use Rattle.table_records.specs.Kinds as k
use Rattle.table_children.specs.Children.{keep}
use Rattle.check_diagnostics.specs.declared.Finding.{Finding}
use Rattle.refusal_verdict.specs.Verdict.{Passed}
use Rattle.refusal_input.specs.Input.{input_refusal}
use Rattle.refusal_input.proofs.InputLaws.{input_well_formed}
use Rattle.check_dispatch.specs.Findings.{findings_at, findings_of}
use Rattle.ecma_trees.specs.Walk.{some, only, Says}
use Rattle.ecma_trees.specs.Unit.{home_of}
use Rattle.ecma_dispatch.specs.WithCode.{with_code}
use Rattle.ecma_dispatch.specs.NodesOf.{nodes_of, raised}
use Rattle.ecma_base.specs.Telling.{Telling}
use Rattle.ecma_base.specs.Scopes.{scopes_follow}
use Rattle.ecma_base.specs.Strict.{strict_code}
use Rattle.ecma_dispatch.proofs.DispatchLaws.{whole_script, codes_listed}
use Rattle.ecma_standard.specs.Operations.{Operations, operations262}
use Rattle.ecma_labels.specs.Changed.{LabelsOnce, ContinuePlain}
use Rattle.ecma_labels.specs.Labels.{is_unit, label_errors}
use Rattle.ecma_labels.specs.Breaches.{duplicate_label_at, undefined_break_at, undefined_continue_at, continue_not_nested_at, break_not_nested_at}
use Rattle.ecma_labels.specs.Findings.{label_findings, with_codes}
use Rattle.ecma_labels.proofs.Theorems as labels
use Rattle.ecma_literals.specs.Literals.{strict_octal, strict_non_octal, strict_octal_escape, strict_non_octal_escape, numeric_literal, string_literal}
use Rattle.ecma_literals.specs.EscapeSpans.{StringTold, NumberTold}
use Rattle.ecma_literals.proofs.EscapeSpansLaws.{string_told, number_told}
use Rattle.ecma_literals.specs.Delete.{deletes_name, deletes_private}
use Rattle.ecma_statements.specs.Statements.{strict_with, initialized_head, using_declaration, bad_using}
use Rattle.ecma_names.specs.Identifiers.{identifier, identifier_error, binds_eval, assigns_eval, use_strict_there}
use Rattle.ecma_contains.specs.Contains.{await_expression, for_await, await_using, await_in_block, arguments_in_class, await_in_parameter, let_bound}
use Rattle.ecma_statements.specs.Functions.{function_misplaced, function_misplaced_else, labelled_function_at}
use Rattle.ecma_names.specs.Changed.{NameTold, DirectiveTold, reserved_name}
use Rattle.ecma_contains.specs.Changed.{BlockTold, LetTold, ArgumentsTold, ParameterTold}
use Rattle.ecma_literals.specs.Changed.{BaseTold, EscapesTold, DeleteTold}
use Rattle.ecma_statements.specs.Changed.{UsingTold, OrdinaryHeld, HeadTold, strict_function, strict_function_else, sloppy_function, sloppy_function_else}
use Rattle.ecma_strict.specs.Theorems as strict
use Rattle.ecma_strict.specs.Standard as rules
use Rattle.ecma_elements.specs.ClassElements.{name_missing, constructor_twice, proto_twice}
use Rattle.ecma_privates.specs.PrivateNames.{private_bound, entries, allowed, private_twice, invalid_identifiers, is_class_body}
use Rattle.ecma_supers.specs.Supers.{standard_bare, standard_stray, standard_property, super_error, unit}
use Rattle.ecma_elements.specs.Changed.{KeysPlain, ConstructorsNamed, ProtosTwiceAtMost}
use Rattle.ecma_privates.specs.Changed.{PrivatesEntered, OnceOrTwice, PrivatesPlain, OutsideUsed}
use Rattle.ecma_supers.specs.Changed.{OneConstructor, SupersStand, MethodsNamed, OneInClass, CallStands, PropertyStands, MethodNamed, ConstructorOrdinary}
use Rattle.ecma_elements.specs.Raised.{times}
use Rattle.ecma_privates.specs.Raised.{body_around, reported}
use Rattle.ecma_classes.specs.Theorems as classes

module _ (told : Telling) (t : ℕ) (ns ss source names : List ℕ) where
  abbrev pub nodes : List ℕ
  nodes = upto 0 (count ns)

  abbrev pub findings : List Finding
  findings = findings_of t ns ss source names

  abbrev pub at : ℕ → ℕ → List ℕ
  at c n = raised c (findings_at t ns ss source names n)

  -- at each node the findings with the code are one, where the rule is broken there, and none elsewhere
  abbrev pub Rule : ℕ → (ℕ → Bool) → Type 0
  Rule c rule = (n : ℕ) → n < count ns → at c n ≡ only (rule n) n

  -- the same at the nodes where a condition holds
  abbrev pub RuleOn : (ℕ → Type 0) → ℕ → (ℕ → Bool) → Type 0
  RuleOn condition c rule = (n : ℕ) → n < count ns → condition n → at c n ≡ only (rule n) n

  -- 8.3, 14.8.1, 14.9.1: LABELS, BREAK, CONTINUE
  pub record Labels : Type 0 where
    pub duplicate_labels : Rule 23 (duplicate_label_at ns names)
    pub break_not_nested : Rule 18 (break_not_nested_at ns names)
    -- 14.8.1; that of a continue with a label is told by 19, 20 or 22
    pub continue_not_nested : RuleOn (ContinuePlain ns names) 21 (continue_not_nested_at ns names)
    -- 8.3.2 at a break, 8.3.3 at a continue: one finding, 19, 20 or 22
    pub undefined_targets : (n : ℕ) → n < count ns → (kind_of ns n ≡ k.Continue → LabelsOnce ns names (home_of ns (is_unit ns) n))
        → nodes_of (with_codes t ns ss source names (19 ∷ 20 ∷ 22 ∷ []) n) ≡ only (undefined_break_at ns names n || undefined_continue_at ns names n) n
    -- the program has an error by any of these just where there is a finding 18 to 23
    pub program : (label_errors ns names ≡ true) ↔ Says (label_findings t ns ss source names) 0 (count ns)

  -- 12.9, 13.1.1, 13.5.1.1, 14.3.1.1, 14.6 to 14.13, 15.1 to 15.9, B.3: NAMES, LITERALS, EXPRESSIONS, STATEMENTS
  pub record Strict : Type 0 where
    pub identifiers : (n : ℕ) → n < count ns → identifier ns n ≡ true → NameTold told t ns ss names n → at 2 n ++ at 3 n ≡ only (identifier_error told t ns ss names n) n
    -- where the scopes follow the tree, no finding at a name is wrong, whatever is told
    pub names_sound : scopes_follow ns ss ≡ true → (n : ℕ) → n < count ns → identifier ns n ≡ true → some (at 2 n ++ at 3 n) ≡ true → identifier_error told t ns ss names n ≡ true
    pub no_identifiers : (n : ℕ) → n < count ns → identifier ns n ≡ false → at 2 n ≡ []
    pub await_expressions : (n : ℕ) → n < count ns → identifier ns n ≡ false → (await_expression ns n ≡ true → BlockTold ns ss n) → at 3 n ≡ only (await_expression ns n && await_in_block ns n) n
    pub eval_assigned : Rule 4 (λ n. binds_eval ns ss names n || assigns_eval ns ss names n)
    pub let_declared : RuleOn (LetTold ns ss names) 5 (let_bound ns names)
    pub arguments_used : RuleOn (ArgumentsTold ns ss names) 6 (arguments_in_class ns names)
    pub octal : RuleOn (λ n. (numeric_literal ns n ≡ true → BaseTold ns source n) × (string_literal ns n ≡ true → strict_code ns ss n ≡ true → EscapesTold ns source n)) 9 (λ n. strict_octal ns ss source n || strict_octal_escape ns ss source n)
    pub leading_zero : RuleOn (λ n. numeric_literal ns n ≡ true → BaseTold ns source n) 10 (strict_non_octal ns ss source)
    pub non_octal_escape : RuleOn (λ n. string_literal ns n ≡ true → strict_code ns ss n ≡ true → EscapesTold ns source n) 11 (strict_non_octal_escape ns ss source)
    -- the second spans of 9 to 11, without a condition: at a string the first escape that 12.9.4.1 forbids, which gave the code; at a number none
    pub string_spans : (n : ℕ) → n < count ns → kind_of ns n ≡ k.StringLiteral → StringTold ns ss source n (findings_at t ns ss source names n)
    pub number_spans : (n : ℕ) → n < count ns → kind_of ns n ≡ k.NumericLiteral → NumberTold ns n (findings_at t ns ss source names n)
    pub use_strict : RuleOn (λ n. kind_of ns n ≡ k.Directive → DirectiveTold ns ss n) 12 (use_strict_there ns names)
    pub using_declared : RuleOn (λ n. using_declaration ns n ≡ true → UsingTold ns ss n) 13 (bad_using t ns)
    pub await_using_in_block : RuleOn (λ n. await_using ns n ≡ true → BlockTold ns ss n) 14 (λ n. await_using ns n && await_in_block ns n)
    -- of both Statements of an if: in strict code, in sloppy code, and together
    pub strict_functions : (n : ℕ) → n < count ns → at 15 n ≡ only (strict_function told ns ss n) n ++ only (strict_function_else told ns ss n) n
    pub sloppy_functions : (n : ℕ) → n < count ns → OrdinaryHeld told ns ss n → strict_code ns ss n ≡ false
        → at 16 n ≡ only (sloppy_function told ns ss n || labelled_function_at ns n) n ++ only (sloppy_function_else told ns ss n) n
    pub functions : (n : ℕ) → n < count ns → OrdinaryHeld told ns ss n
        → at 15 n ++ at 16 n ≡ only (function_misplaced told ns ss n || labelled_function_at ns n) n ++ only (function_misplaced_else told ns ss n) n
    pub with_statement : Rule 17 (strict_with ns ss)
    pub for_head : RuleOn (HeadTold ns ss) 24 (initialized_head ns ss)
    pub for_await_in_block : RuleOn (λ n. for_await ns n ≡ true → BlockTold ns ss n) 25 (λ n. for_await ns n && await_in_block ns n)
    pub delete_of_name : Rule 31 (deletes_name ns ss)
    pub delete_of_private : RuleOn (DeleteTold ns ss) 32 (deletes_private ns ss)
    pub await_in_parameters : RuleOn (ParameterTold ns) 33 (await_in_parameter ns)

  -- 13.2.5.1, 15.7: OBJECTS, CLASSES, PRIVATE NAMES, SUPER
  pub record Classes : Type 0 where
    -- 1 at an object: some finding just where it breaks 13.2.5.1, and one, if no more than two properties are named so
    pub protos : (n : ℕ) → n < count ns → (kind_of ns n ≡ k.Object → KeysPlain ns names n) → some (at 1 n) ≡ proto_twice ns names n
    pub protos_once : RuleOn (λ n. kind_of ns n ≡ k.Object → KeysPlain ns names n × ProtosTwiceAtMost ns names n) 1 (proto_twice ns names)
    -- 1 at node 0, for the classes: one for each name that breaks 15.7.1, its second entry, if no name has more than two; behind them those of the objects
    pub private_names : ((b : ℕ) → b < count ns → is_class_body ns b ≡ true → PrivatesEntered ns b × OnceOrTwice ns names (private_bound ns b))
        → raised 1 findings
        ≡ flat_map (λ b. times 0 (keep (λ e. some (keep (λ d. ltb d e) (entries ns names (private_bound ns b) e)) && not (allowed ns (entries ns names (private_bound ns b) e))) (private_bound ns b))) (keep (is_class_body ns) nodes)
        ++ flat_map (at 1) nodes
    -- some finding 1 just where a class or an object breaks its rule
    pub redeclared : ((b : ℕ) → b < count ns → is_class_body ns b ≡ true → PrivatesEntered ns b) → ((n : ℕ) → n < count ns → kind_of ns n ≡ k.Object → KeysPlain ns names n)
        → some (raised 1 findings) ≡ (any (λ b. is_class_body ns b && private_twice ns names (private_bound ns b)) nodes || any (proto_twice ns names) nodes)
    -- 7 and 8: each PrivateIdentifier at which AllPrivateIdentifiersValid is false
    pub private_outside : RuleOn (OutsideUsed ns) 7 (λ j. member j (invalid_identifiers ns names) && not (is_some (body_around ns j)))
    pub private_undeclared : PrivatesPlain ns → with_code 8 findings ≡ reported ns (invalid_identifiers ns names)
    pub class_name : Rule 26 (name_missing ns)
    pub constructors : RuleOn (ConstructorsNamed ns names) 27 (constructor_twice ns names)
    pub super_bare : scopes_follow ns ss ≡ true
        → RuleOn (λ n. CallStands ns n × MethodNamed told ns names (unit ns n) × ConstructorOrdinary told ns names (unit ns n) × OneInClass ns names (unit ns n)) 28 (standard_bare ns names)
    pub super_call : scopes_follow ns ss ≡ true → RuleOn (λ n. CallStands ns n × MethodNamed told ns names (unit ns n)) 29 (standard_stray told ns names)
    pub super_property : scopes_follow ns ss ≡ true → RuleOn (PropertyStands ns) 30 (standard_property ns)
    -- a unit has an error on `super` just where there is a finding 28 to 30
    pub super : scopes_follow ns ss ≡ true → SupersStand ns → MethodsNamed told ns names → OneConstructor ns names
        → any (super_error told ns names) nodes ≡ (some (raised 28 findings) || (some (raised 29 findings) || some (raised 30 findings)))

  pub record Standard : Type 0 where
    pub labels : Labels
    pub strict : Strict
    pub classes : Classes
    -- the findings of the tree with a code but 1 are those of its nodes, in order
    pub whole : (c : ℕ) → member c (1 ∷ []) ≡ false → with_code c findings ≡ flat_map (λ n. with_code c (findings_at t ns ss source names n)) nodes
    -- and every finding has one of these codes
    pub codes : all (λ f. within f.code 1 33) findings ≡ true
    pub operations : Operations told t ns ss source names

no_name : (t : ℕ) (ns ss names : List ℕ) (n : ℕ) → identifier ns n ≡ false → reserved_name t ns ss names n ≡ false
unfolding reserved_name
no_name t ns ss names n e = rw e

-- THE THEOREM
pub standard262 : (told : Telling) (t : ℕ) → t ≤ 1 → (ns ss source names : List ℕ) → input_refusal t ns ss source names ≡ Passed → Standard told t ns ss source names
standard262 told t js ns ss source names e =
    let w = input_well_formed t ns ss source names e in
    record {
      labels = record {
        duplicate_labels = labels.duplicate_labels t ns ss source names w;
        break_not_nested = labels.breaks_not_nested t ns ss source names w;
        continue_not_nested = labels.continues_plain t ns ss source names w;
        undefined_targets = labels.undefined_targets t ns ss source names w;
        program = labels.label_errors_are t ns ss source names w;
      };
      strict = record {
        identifiers = λ n h i q. rules.standard_names t ns ss source names w n h told i q;
        names_sound = λ s n h i q. rules.sound_names t ns ss source names w n h told i s q;
        no_identifiers = λ n h i. strict.code2 t ns ss source names w n h ∙ ap (λ b. only b n) (no_name t ns ss names n i);
        await_expressions = λ n h i q. rules.standard3 t ns ss source names w n h i q;
        eval_assigned = λ n h. strict.code4 t ns ss source names w n h;
        let_declared = λ n h q. rules.standard5 t ns ss source names w n h q;
        arguments_used = λ n h q. rules.standard6 t ns ss source names w n h q;
        octal = λ n h q. rules.standard9 t ns ss source names w n h q.0 q.1;
        leading_zero = λ n h q. rules.standard10 t ns ss source names w n h q;
        non_octal_escape = λ n h q. rules.standard11 t ns ss source names w n h q;
        string_spans = λ n h q. string_told t ns ss source names n q;
        number_spans = λ n h q. number_told t ns ss source names n q;
        use_strict = λ n h q. rules.standard12 t ns ss source names w n h q;
        using_declared = λ n h q. rules.standard13 t ns ss source names w n h q;
        await_using_in_block = λ n h q. rules.standard14 t ns ss source names w n h q;
        strict_functions = λ n h. strict.code15 t ns ss source names w n h told;
        sloppy_functions = λ n h q s. rules.standard16 t ns ss source names w n h told q s;
        functions = λ n h q. rules.standard15with16 t ns ss source names w n h told q;
        with_statement = λ n h. strict.code17 t ns ss source names w n h js;
        for_head = λ n h q. rules.standard24 t ns ss source names w n h q;
        for_await_in_block = λ n h q. rules.standard25 t ns ss source names w n h q;
        delete_of_name = λ n h. strict.code31 t ns ss source names w n h;
        delete_of_private = λ n h q. rules.standard32 t ns ss source names w n h q;
        await_in_parameters = λ n h q. rules.standard33 t ns ss source names w n h q;
      };
      classes = record {
        protos = classes.protos_at t js ns ss source names w;
        protos_once = classes.protos_once_at t js ns ss source names w;
        private_names = classes.privates_once t js ns ss source names w;
        redeclared = classes.redeclared t js ns ss source names w;
        private_outside = classes.outside_at t js ns ss source names w;
        private_undeclared = classes.code8_standard t js ns ss source names w;
        class_name = classes.class_name_at t js ns ss source names w;
        constructors = classes.constructors_at t js ns ss source names w;
        super_bare = λ f n h q. classes.bare_at t js ns ss source names w f told n h q.0 q.1 q.2 q.3;
        super_call = λ f n h q. classes.stray_at_lem t js ns ss source names w f told n h q.0 q.1;
        super_property = λ f n h q. classes.property_at t js ns ss source names w f n h q;
        super = λ f s m c. classes.super_clean t js ns ss source names w f s told m c;
      };
      whole = whole_script t ns ss source names js;
      codes = codes_listed t ns ss source names js;
      operations = operations262 told t js ns ss source names e;
    }
