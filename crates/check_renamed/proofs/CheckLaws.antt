-- The checks that ask for no name.
use Rattle.table_records.specs.declared.ClassId.{ClassId}
use Rattle.table_records.specs.declared.NodeId.{NodeId}
use Prim.Native.Nat.{ℕ, zero, suc}
use Rattle.std.specs.Prelude.{◌≡◌, Bool, Option, Some, None}
use Rattle.std.proofs.Math.Path.{refl, ap, fun_ext}
use Rattle.std.proofs.Common.{◌∙◌}
use mathlib.Core.List.{List, [], ◌∷◌, foldr}
use Rattle.table_records.specs.Table.{ancestors}
use Rattle.check_statements.specs.Statements.{check_function_declaration, check_body, check_consequent, check_alternate, labelled_function, check_labeled_item, check_function_declaration_in_labeled_statement, check_with_statement, check_initialiser, check_left, check_for_statement_left, check_for_of_statement, check_using, check_await_using}
use Rattle.check_bodies.specs.Bodies.{check_async_body, async_bodies_at}
use Rattle.check_literals.specs.declared.Escape.{Escape}
use Rattle.check_literals.specs.declared.Escape.TheVariants.{LegacyOctal, NonOctalDecimal}
use Rattle.check_literals.specs.Literals.{source_text, escape_finding, check_string_literal, check_number_literal}
use Rattle.check_identifiers.specs.Identifiers.{strict_context, await_finding, let_at, let_from, is_field_value, arguments_at, arguments_from}
use Rattle.check_expressions.specs.Expressions.{repeats_after, repeats, inside, stripped, inner_expression, error_part, chain_finding, delete_of, delete_finding, check_unary_expression, is_parameter, in_formal_parameters, in_parameter, in_block}
use Rattle.check_jumps.specs.Jumps.{under, walk_up, plain_break_at, no_label, plain_continue_at, continue_to}
use Rattle.check_class_table.specs.Classes.{current_class, is_class_body, outer_classes, classes_of}
use Rattle.check_class_table.specs.Elements.{span_at, has_body_at, element_span, has_body}
use Rattle.check_classes.specs.ClassChecks.{outside_by, require_class_name}
use Rattle.table_renamed.specs.Alike.{Fields}
use Rattle.table_renamed.proofs.TableLaws.{tables}

module _ (ns ms : List ℕ) (a : Fields ns ms) where
  -- STATEMENTS
  function_declaration : (ss : List ℕ) (n : ℕ) (b : Bool) → check_function_declaration ns ss n b ≡ check_function_declaration ms ss n b
  unfolding check_function_declaration
  function_declaration ss n b = fun_ext (λ s. simp (tables, a))

  pub body : (ss : List ℕ) (n : ℕ) → check_body ns ss n ≡ check_body ms ss n
  body ss n = simp (tables, function_declaration, a)

  pub consequent : (ss : List ℕ) (n : ℕ) → check_consequent ns ss n ≡ check_consequent ms ss n
  consequent ss n = simp (tables, function_declaration, a)

  pub alternate : (ss : List ℕ) (n : ℕ) → check_alternate ns ss n ≡ check_alternate ms ss n
  alternate ss n = simp (tables, function_declaration, a)

  labeled_item_lem : (ss : List ℕ) (n : ℕ) → check_labeled_item ns ss n ≡ check_labeled_item ms ss n
  unfolding check_labeled_item labelled_function
  labeled_item_lem ss n = fun_ext (λ s. simp (tables, a))

  pub labeled_function : (ss : List ℕ) (n : ℕ) → check_function_declaration_in_labeled_statement ns ss n ≡ check_function_declaration_in_labeled_statement ms ss n
  labeled_function ss n = simp (tables, labeled_item_lem, a)

  pub with_statement_lem : (t : ℕ) (ss : List ℕ) (n : ℕ) → check_with_statement t ns ss n ≡ check_with_statement t ms ss n
  unfolding check_with_statement
  with_statement_lem t ss n = simp (tables, a)

  initialiser : (ss : List ℕ) (n : ℕ) (b : Bool) (d : ℕ) → check_initialiser ns ss n b d ≡ check_initialiser ms ss n b d
  unfolding check_initialiser
  initialiser ss n b d = fun_ext (λ v. simp (tables, a))

  left : (ss : List ℕ) (n : ℕ) (b : Bool) → check_left ns ss n b ≡ check_left ms ss n b
  unfolding check_left
  left ss n b = fun_ext (λ d. simp (tables, initialiser, a))

  pub for_left : (ss : List ℕ) (n : ℕ) (b : Bool) → check_for_statement_left ns ss n b ≡ check_for_statement_left ms ss n b
  for_left ss n b = simp (tables, left, a)

  pub for_of : (ss : List ℕ) (n : ℕ) → check_for_of_statement ns ss n ≡ check_for_of_statement ms ss n
  unfolding check_for_of_statement
  for_of ss n = simp (tables, a)

  pub its_using : (t : ℕ) (ss : List ℕ) (n : ℕ) → check_using t ns ss n ≡ check_using t ms ss n
  unfolding check_using
  its_using t ss n = simp (tables, a)

  pub await_using_lem : (ss : List ℕ) (n : ℕ) → check_await_using ns ss n ≡ check_await_using ms ss n
  unfolding check_await_using
  await_using_lem ss n = simp (tables, a)

  -- ASYNC BODIES
  async_body_lem : (n : ℕ) → check_async_body ns n ≡ check_async_body ms n
  unfolding check_async_body
  async_body_lem n = fun_ext (λ s. simp (tables, a))

  pub async_bodies_lem : (ss : List ℕ) (n : ℕ) → async_bodies_at ns ss n ≡ async_bodies_at ms ss n
  unfolding async_bodies_at
  async_bodies_lem ss n = simp (tables, async_body_lem, a)

  -- LITERALS
  source_text_lem : (source : List ℕ) (n : ℕ) → source_text ns source n ≡ source_text ms source n
  unfolding source_text
  source_text_lem source n = simp (tables, a)

  escape : (n : ℕ) (x : Option Escape) → escape_finding ns n x ≡ escape_finding ms n x
  escape n (Some (LegacyOctal i)) = simp (tables, a)
  escape n (Some (NonOctalDecimal i)) = simp (tables, a)
  escape n None = refl

  pub string : (ss source : List ℕ) (n : ℕ) → check_string_literal ns ss source n ≡ check_string_literal ms ss source n
  unfolding check_string_literal
  string ss source n = simp (tables, source_text_lem, escape, a)

  pub number : (ss source : List ℕ) (n : ℕ) → check_number_literal ns ss source n ≡ check_number_literal ms ss source n
  unfolding check_number_literal
  number ss source n = simp (tables, source_text_lem, a)

  -- IDENTIFIERS
  pub strict_context_lem : (t n : ℕ) → strict_context t ns n ≡ strict_context t ms n
  unfolding strict_context
  strict_context_lem t n = simp (tables, a)

  pub await_finding_lem : (t : ℕ) (ss : List ℕ) (n : ℕ) → await_finding t ns ss n ≡ await_finding t ms ss n
  unfolding await_finding
  await_finding_lem t ss n = simp (tables, a)

  let_at_lem : (n : ℕ) → let_at ns n ≡ let_at ms n
  unfolding let_at
  let_at_lem n = fun_ext (λ x. fun_ext (λ r. simp (tables, a)))

  pub let_from_lem : (n i : ℕ) → let_from ns n i ≡ let_from ms n i
  unfolding let_from
  let_from_lem n i = simp (tables, let_at_lem, a)

  arguments_at_lem : (n : ℕ) → arguments_at ns n ≡ arguments_at ms n
  unfolding arguments_at is_field_value
  arguments_at_lem n = fun_ext (λ x. fun_ext (λ r. simp (tables, a)))

  pub arguments_from_lem : (n i : ℕ) → arguments_from ns n i ≡ arguments_from ms n i
  unfolding arguments_from
  arguments_from_lem n i = ap (λ g. foldr g None (i ∷ ancestors ns i)) (arguments_at_lem n) ∙ simp (tables, a)

  -- EXPRESSIONS
  repeats_after_lem : (n b : ℕ) (l : List ℕ) → repeats_after ns n b l ≡ repeats_after ms n b l
  unfolding repeats_after
  repeats_after_lem n b [] = refl
  repeats_after_lem n b (c ∷ l) = simp (tables, repeats_after_lem n c l, a)

  pub all_repeats : (n : ℕ) (l : List ℕ) → repeats ns n l ≡ repeats ms n l
  unfolding repeats
  all_repeats n [] = refl
  all_repeats n (b ∷ l) = repeats_after_lem n b l

  its_inside : (n : ℕ) → inside ns n ≡ inside ms n
  unfolding inside
  its_inside n = simp (tables, a)

  strip : (f n : ℕ) → stripped ns f n ≡ stripped ms f n
  unfolding stripped
  strip zero n = refl
  strip (suc f) n = simp (its_inside, strip f)

  error_part_lem : (c n : ℕ) (f : Option NodeId) → error_part ns c n f ≡ error_part ms c n f
  error_part_lem c n (Some m) = simp (tables, a)
  error_part_lem c n None = refl

  chain : (n : ℕ) (f : Option NodeId) → chain_finding ns n f ≡ chain_finding ms n f
  chain n (Some m) = simp (tables, error_part_lem, a)
  chain n None = refl

  delete : (ss : List ℕ) (n : ℕ) (f : Option NodeId) → delete_finding ns ss n f ≡ delete_finding ms ss n f
  unfolding delete_of inner_expression
  delete ss n (Some m) = simp (tables, chain, strip, a)
  delete ss n None = refl

  pub unary : (ss : List ℕ) (n : ℕ) → check_unary_expression ns ss n ≡ check_unary_expression ms ss n
  unfolding check_unary_expression
  unary ss n = simp (tables, delete, a)

  pub in_parameter_lem : (n : ℕ) → in_parameter ns n ≡ in_parameter ms n
  unfolding in_parameter in_formal_parameters is_parameter
  in_parameter_lem n = simp (tables, a)

  pub in_block_lem : (ss : List ℕ) (n : ℕ) → in_block ns ss n ≡ in_block ms ss n
  unfolding in_block
  in_block_lem ss n = simp (tables, a)

  -- JUMPS
  pub under_same : (f i : ℕ) → under ns f i ≡ under ms f i
  unfolding under
  under_same zero i = refl
  under_same (suc f) i = simp (tables, under_same f, a)

  break_at : (n : ℕ) → plain_break_at ns n ≡ plain_break_at ms n
  unfolding plain_break_at
  break_at n = fun_ext (λ x. fun_ext (λ r. simp (tables, a)))

  pub plain_break_lem : (n : ℕ) → walk_up ns (plain_break_at ns n) n ≡ walk_up ms (plain_break_at ms n) n
  unfolding walk_up
  plain_break_lem n = simp (tables, break_at, a)

  continue_at : (n : ℕ) → plain_continue_at ns n ≡ plain_continue_at ms n
  unfolding plain_continue_at
  continue_at n = fun_ext (λ x. fun_ext (λ r. simp (tables, a)))

  pub plain_continue_lem : (n : ℕ) → walk_up ns (plain_continue_at ns n) n ≡ walk_up ms (plain_continue_at ms n) n
  unfolding walk_up
  plain_continue_lem n = simp (tables, continue_at, a)

  pub no_label_lem : (n l x : ℕ) → no_label ns n l x ≡ no_label ms n l x
  unfolding no_label
  no_label_lem n l x = simp (tables, a)

  pub continue_to_lem : (n l x m : ℕ) → continue_to ns n l x m ≡ continue_to ms n l x m
  unfolding continue_to
  continue_to_lem n l x m = simp (tables, under_same, a)

  -- CLASSES
  pub current_class_lem : (n : ℕ) → current_class ns n ≡ current_class ms n
  unfolding current_class
  current_class_lem n = simp (tables, a)

  class_body_lem : is_class_body ns ≡ is_class_body ms
  class_body_lem = fun_ext (λ c. simp (tables, a))

  pub outer_classes_lem : (c : ℕ) → outer_classes ns c ≡ outer_classes ms c
  unfolding outer_classes
  outer_classes_lem c = simp (tables, class_body_lem, a)

  pub classes_of_lem : classes_of ns ≡ classes_of ms
  unfolding classes_of
  classes_of_lem = simp (tables, class_body_lem, a)

  span_at_lem : (f : Option NodeId) → span_at ns f ≡ span_at ms f
  span_at_lem (Some m) = simp (tables, a)
  span_at_lem None = refl

  pub element_span_lem : (e : ℕ) → element_span ns e ≡ element_span ms e
  unfolding element_span
  element_span_lem e = simp (tables, span_at_lem, a)

  body_at : (f : Option NodeId) → has_body_at ns f ≡ has_body_at ms f
  body_at (Some m) = simp (tables, a)
  body_at None = refl

  pub has_body_lem : (e : ℕ) → has_body ns e ≡ has_body ms e
  unfolding has_body
  has_body_lem e = simp (tables, body_at, a)

  pub outside_by_lem : (n : ℕ) (c : Option ClassId) → outside_by ns n c ≡ outside_by ms n c
  outside_by_lem n (Some c) = refl
  outside_by_lem n None = simp (tables, a)

  pub require_name : (n : ℕ) → require_class_name ns n ≡ require_class_name ms n
  unfolding require_class_name
  require_name n = simp (tables, a)

-- with an entry for `Fields`
pub ruleset checks = (
  body,
  consequent,
  alternate,
  labeled_function,
  with_statement_lem,
  for_left,
  for_of,
  its_using,
  await_using_lem,
  async_bodies_lem,
  string,
  number,
  strict_context_lem,
  await_finding_lem,
  let_from_lem,
  arguments_from_lem,
  all_repeats,
  unary,
  in_parameter_lem,
  in_block_lem,
  under_same,
  plain_break_lem,
  plain_continue_lem,
  no_label_lem,
  continue_to_lem,
  current_class_lem,
  outer_classes_lem,
  classes_of_lem,
  element_span_lem,
  has_body_lem,
  outside_by_lem,
  require_name,
)
