-- The findings of a tree: checker/mod.rs.
use Rattle.std.specs.Prelude.{ℕ, true, false, cond, eqb}
use mathlib.Core.List.{List, [], ◌++◌, flat_map}
use Rattle.base_common.specs.Upto.{upto}
use Rattle.table_records.specs.Table.{kind_of, count}
use Rattle.table_records.specs.Kinds as k
use Rattle.check_diagnostics.specs.declared.Finding.{Finding}
use Rattle.check_diagnostics.specs.Finding.{listed}
use Rattle.check_jumps.specs.Jumps.{check_break_statement, check_continue_statement, check_labeled_statement}
use Rattle.check_statements.specs.Statements.{check_body, check_consequent, check_alternate, check_function_declaration_in_labeled_statement, check_with_statement, check_for_statement_left, check_for_of_statement, check_using, check_await_using}
use Rattle.check_identifiers.specs.Identifiers.{check_identifier, check_binding_identifier, check_identifier_reference, check_directive}
use Rattle.check_literals.specs.Literals.{check_number_literal, check_string_literal}
use Rattle.check_expressions.specs.Expressions.{check_object_expression, check_unary_expression, check_await_expression, check_yield_expression}
use Rattle.check_classes.specs.ClassChecks.{private_outside, check_class}
use Rattle.check_duplicates.specs.Duplicates.{duplicate_elements}
use Rattle.check_supers.specs.Super.{check_super}

-- the findings of a node: a case for each kind that is checked, in the order of the `match` of mod.rs
unfoldable pub findings_at : ℕ → List ℕ → List ℕ → List ℕ → List ℕ → ℕ → List Finding
findings_at source_type ns ss source names n =
    cond (eqb (kind_of ns n) k.BindingIdentifier) (listed (check_identifier source_type ns ss names n) ++ listed (check_binding_identifier source_type ns ss names n))
    (cond (eqb (kind_of ns n) k.IdentifierReference) (listed (check_identifier source_type ns ss names n) ++ listed (check_identifier_reference source_type ns ss names n))
    (cond (eqb (kind_of ns n) k.LabelIdentifier) (listed (check_identifier source_type ns ss names n))
    (cond (eqb (kind_of ns n) k.PrivateIdentifier) (listed (private_outside ns n))
    (cond (eqb (kind_of ns n) k.NumericLiteral) (listed (check_number_literal ns ss source n))
    (cond (eqb (kind_of ns n) k.StringLiteral) (listed (check_string_literal ns ss source n))
    (cond (eqb (kind_of ns n) k.Directive) (listed (check_directive ns ss names n))
    (cond (eqb (kind_of ns n) k.With) (listed (check_body ns ss n) ++ listed (check_with_statement source_type ns ss n))
    (cond (eqb (kind_of ns n) k.Break) (listed (check_break_statement ns names n))
    (cond (eqb (kind_of ns n) k.Continue) (listed (check_continue_statement ns names n))
    (cond (eqb (kind_of ns n) k.Labeled) (listed (check_labeled_statement ns names n) ++ listed (check_function_declaration_in_labeled_statement ns ss n))
    (cond (eqb (kind_of ns n) k.ForIn) (listed (check_body ns ss n) ++ listed (check_for_statement_left ns ss n true))
    (cond (eqb (kind_of ns n) k.ForOf) (listed (check_body ns ss n) ++ (listed (check_for_of_statement ns ss n) ++ listed (check_for_statement_left ns ss n false)))
    (cond (eqb (kind_of ns n) k.While) (listed (check_body ns ss n))
    (cond (eqb (kind_of ns n) k.DoWhile) (listed (check_body ns ss n))
    (cond (eqb (kind_of ns n) k.For) (listed (check_body ns ss n))
    (cond (eqb (kind_of ns n) k.If) (listed (check_consequent ns ss n) ++ listed (check_alternate ns ss n))
    (cond (eqb (kind_of ns n) k.Class) (check_class source_type ns names n)
    (cond (eqb (kind_of ns n) k.Super) (listed (check_super ns ss n))
    (cond (eqb (kind_of ns n) k.Await) (check_await_expression ns ss n)
    (cond (eqb (kind_of ns n) k.Object) (check_object_expression ns names n)
    (cond (eqb (kind_of ns n) k.Unary) (listed (check_unary_expression ns ss n))
    (cond (eqb (kind_of ns n) k.Yield) (listed (check_yield_expression ns n))
    (cond (eqb (kind_of ns n) k.VariableDeclaration) (listed (check_using source_type ns ss n) ++ listed (check_await_using ns ss n))
    [])))))))))))))))))))))))

-- the findings of the tree: duplicate class elements, which the Program raises, then node by node
unfoldable pub findings_of : ℕ → List ℕ → List ℕ → List ℕ → List ℕ → List Finding
findings_of source_type ns ss source names = duplicate_elements source_type ns names ++ flat_map (findings_at source_type ns ss source names) (upto 0 (count ns))
