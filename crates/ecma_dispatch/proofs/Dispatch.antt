-- The dispatch as a table: for each kind its checks, in order, with the codes that each can raise, and that it raises no other. A new code is a code of its check's row here.
use Rattle.std.specs.Prelude.{ℕ, true, false}
use mathlib.Core.List.{List, [], ◌∷◌}
use Rattle.table_records.specs.Kinds as k
use Rattle.check_diagnostics.specs.declared.Finding.{Finding}
use Rattle.check_diagnostics.specs.Finding.{listed}
use Rattle.check_jumps.specs.Jumps.{check_break_statement, check_continue_statement, check_labeled_statement}
use Rattle.check_statements.specs.Statements.{check_body, check_consequent, check_alternate, check_function_declaration_in_labeled_statement, check_with_statement, check_for_statement_left, check_for_of_statement, check_using, check_await_using}
use Rattle.check_identifiers.specs.Identifiers.{check_identifier, check_binding_identifier, check_identifier_reference, check_directive}
use Rattle.check_literals.specs.Literals.{check_number_literal, check_string_literal}
use Rattle.check_expressions.specs.Expressions.{check_object_expression, check_unary_expression, in_parameter, in_block}
use Rattle.check_classes.specs.ClassChecks.{private_outside, private_undeclared, require_class_name, second_constructor}
use Rattle.check_supers.specs.Super.{check_super}
use Rattle.ecma_dispatch.specs.Coded.{Coded}
use Rattle.ecma_dispatch.specs.CheckCodes.{of_break, of_continue, of_label, of_held, of_name, of_binding, of_reference, of_number, of_string, of_delete, of_super}
use Rattle.ecma_dispatch.proofs.CheckCodesLaws.{break_codes, continue_codes, label_codes, body_codes, consequent_codes, alternate_codes, labelled_function_codes, with_codes, left_codes, for_of_codes, using_codes, await_using_codes, name_codes, binding_codes, reference_codes, directive_codes, string_codes, number_codes, object_codes, unary_codes, parameter_codes, block_codes, outside_codes, undeclared_codes, class_name_codes, constructor_codes, super_codes}
use Rattle.ecma_dispatch.specs.Table.{Check, Row}

abbrev pub check : (cs : List ℕ) (fs : List Finding) → Coded cs fs → Check
check cs fs w = record { codes = cs; findings = fs; coded = w }

abbrev pub row : ℕ → List Check → Row
row kind checks = record { kind = kind; checks = checks }

-- THE TABLE
module _ (t : ℕ) (ns ss source names : List ℕ) (n : ℕ) where
  abbrev pub table : List Row
  table =
      row k.BindingIdentifier (check of_name (listed (check_identifier t ns ss names n)) (name_codes t ns ss names n) ∷ check of_binding (listed (check_binding_identifier t ns ss names n)) (binding_codes t ns ss names n) ∷ []) ∷
      row k.IdentifierReference (check of_name (listed (check_identifier t ns ss names n)) (name_codes t ns ss names n) ∷ check of_reference (listed (check_identifier_reference t ns ss names n)) (reference_codes t ns ss names n) ∷ []) ∷
      row k.LabelIdentifier (check of_name (listed (check_identifier t ns ss names n)) (name_codes t ns ss names n) ∷ []) ∷
      row k.PrivateIdentifier (check (7 ∷ []) (listed (private_outside ns n)) (outside_codes ns n) ∷ []) ∷
      row k.NumericLiteral (check of_number (listed (check_number_literal ns ss source n)) (number_codes ns ss source n) ∷ []) ∷
      row k.StringLiteral (check of_string (listed (check_string_literal ns ss source n)) (string_codes ns ss source n) ∷ []) ∷
      row k.Directive (check (12 ∷ []) (listed (check_directive ns ss names n)) (directive_codes ns ss names n) ∷ []) ∷
      row k.With (check of_held (listed (check_body ns ss n)) (body_codes ns ss n) ∷ check (17 ∷ []) (listed (check_with_statement t ns ss n)) (with_codes t ns ss n) ∷ []) ∷
      row k.Break (check of_break (listed (check_break_statement ns names n)) (break_codes ns names n) ∷ []) ∷
      row k.Continue (check of_continue (listed (check_continue_statement ns names n)) (continue_codes ns names n) ∷ []) ∷
      row k.Labeled (check of_label (listed (check_labeled_statement ns names n)) (label_codes ns names n) ∷ check of_held (listed (check_function_declaration_in_labeled_statement ns ss n)) (labelled_function_codes ns ss n) ∷ []) ∷
      row k.ForIn (check of_held (listed (check_body ns ss n)) (body_codes ns ss n) ∷ check (24 ∷ []) (listed (check_for_statement_left ns ss n true)) (left_codes ns ss n true) ∷ []) ∷
      row k.ForOf (check of_held (listed (check_body ns ss n)) (body_codes ns ss n) ∷ check (25 ∷ []) (listed (check_for_of_statement ns ss n)) (for_of_codes ns ss n) ∷ check (24 ∷ []) (listed (check_for_statement_left ns ss n false)) (left_codes ns ss n false) ∷ []) ∷
      row k.While (check of_held (listed (check_body ns ss n)) (body_codes ns ss n) ∷ []) ∷
      row k.DoWhile (check of_held (listed (check_body ns ss n)) (body_codes ns ss n) ∷ []) ∷
      row k.For (check of_held (listed (check_body ns ss n)) (body_codes ns ss n) ∷ []) ∷
      row k.If (check of_held (listed (check_consequent ns ss n)) (consequent_codes ns ss n) ∷ check of_held (listed (check_alternate ns ss n)) (alternate_codes ns ss n) ∷ []) ∷
      row k.Class (check (8 ∷ []) (private_undeclared t ns names n) (undeclared_codes t ns names n) ∷ check (26 ∷ []) (listed (require_class_name ns n)) (class_name_codes ns n) ∷ check (27 ∷ []) (listed (second_constructor t ns n)) (constructor_codes t ns n) ∷ []) ∷
      row k.Super (check of_super (listed (check_super ns ss n)) (super_codes ns ss n) ∷ []) ∷
      row k.Await (check (33 ∷ []) (listed (in_parameter ns n)) (parameter_codes ns n) ∷ check (3 ∷ []) (listed (in_block ns ss n)) (block_codes ns ss n) ∷ []) ∷
      row k.Object (check (1 ∷ []) (check_object_expression ns names n) (object_codes ns names n) ∷ []) ∷
      row k.Unary (check of_delete (listed (check_unary_expression ns ss n)) (unary_codes ns ss n) ∷ []) ∷
      row k.Yield (check (33 ∷ []) (listed (in_parameter ns n)) (parameter_codes ns n) ∷ []) ∷
      row k.VariableDeclaration (check (13 ∷ []) (listed (check_using t ns ss n)) (using_codes t ns ss n) ∷ check (14 ∷ []) (listed (check_await_using ns ss n)) (await_using_codes ns ss n) ∷ []) ∷ []
