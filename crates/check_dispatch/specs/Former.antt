-- The findings of JavaScript, source types 0 and 1, as they were defined before TypeScript rules came (request 13): what has changed since then, word for word. "For types 0 and 1 findings are what they were":
-- FormerLaws.antt. ECMA-262 says nothing of TypeScript, so that the standard's rules are compared with these.
use Rattle.table_records.specs.declared.ClassId.{ClassId}
use Rattle.table_records.specs.declared.NodeId.{NodeId}
use Rattle.std.specs.Prelude.{ℕ, ◌+◌, ◌-◌, Bool, true, false, cond, not, ◌&&◌, ◌||◌, eqb, ltb, Option, Some, None}
use mathlib.Core.List.{List, [], ◌∷◌, ◌++◌, flat_map}
use Rattle.std.specs.Bool.{xor}
use Rattle.base_common.specs.Upto.{upto, any}
use Rattle.table_records.specs.Table.{kind_of, extra_of, span_start_of, span_end_of, count}
use Rattle.table_records.specs.Kinds as k
use Rattle.table_names.specs.Name.{same, name_of}
use Rattle.table_children.specs.Children.{keep, children, class_body_of}
use Rattle.table_scoping.specs.Scoping.{is_strict}
use Rattle.check_diagnostics.specs.declared.Finding.{Finding}
use Rattle.check_diagnostics.specs.Finding.{listed, error_at, error_span}
use Rattle.check_diagnostics.specs.Codes as code
use Rattle.check_diagnostics.specs.Contexts as context
use Rattle.check_jumps.specs.Jumps.{check_break_statement, check_continue_statement, check_labeled_statement}
use Rattle.check_statements.specs.Statements.{check_body, check_consequent, check_alternate, check_function_declaration_in_labeled_statement, check_for_statement_left, check_for_of_statement, check_using, check_await_using}
use Rattle.check_identifiers.specs.Identifiers.{check_identifier, check_binding_identifier, check_identifier_reference, check_directive}
use Rattle.check_literals.specs.Literals.{check_number_literal, check_string_literal}
use Rattle.check_expressions.specs.Expressions.{check_object_expression, check_unary_expression, check_await_expression, check_yield_expression}
use Rattle.check_class_table.specs.declared.Span.{Span}
use Rattle.check_class_table.specs.Classes.{current_class, outer_classes, classes_of}
use Rattle.check_class_table.specs.Elements.{element_name, element_span, is_static, is_private, is_method, is_getter, is_setter, is_constructor, is_definition, has_name, has_body}
use Rattle.check_classes.specs.ClassChecks.{private_outside, references, require_class_name, constructors}
use Rattle.check_duplicates.specs.declared.Place.{Place}
use Rattle.check_duplicates.specs.Duplicates.{there, number, last_of, or_else}
use Rattle.check_supers.specs.Super.{check_super}

-- class/table.rs and class/builder.rs
unfoldable pub enters : List ℕ → ℕ → Bool
enters ns e = not (is_constructor ns e) && (not (is_method ns e && not (has_body ns e)) && has_name ns e)

unfoldable pub elements : List ℕ → ℕ → List ℕ
elements ns c = keep (enters ns) (keep (is_definition ns) (children ns c))

unfoldable pub privates : List ℕ → ℕ → List ℕ
privates ns c = keep (is_private ns) (elements ns c)

unfoldable pub has_private : List ℕ → List ℕ → ℕ → List ℕ → Bool
has_private ns names c name = any (λ e. same (element_name ns names e) name) (privates ns c)

unfoldable pub is_declared : List ℕ → List ℕ → ℕ → List ℕ → Bool
is_declared ns names c name = any (λ d. has_private ns names d name) (c ∷ outer_classes ns c)

-- `check_duplicate_class_elements`, of private names
unfoldable pub side_of : List ℕ → ℕ → ℕ
side_of ns e = cond (is_setter ns e) 1 0

abbrev pub is_earlier : List ℕ → List ℕ → ℕ → ℕ → ℕ → Bool
is_earlier ns names e side d = ltb d e && (same (element_name ns names d) (element_name ns names e) && eqb (side_of ns d) side)

unfoldable pub previous_on : List ℕ → List ℕ → ℕ → ℕ → ℕ → Place
previous_on ns names c e side = last_of (is_earlier ns names e side) (privates ns c)

unfoldable pub previous_of : List ℕ → List ℕ → ℕ → ℕ → Place
previous_of ns names c e = or_else (previous_on ns names c e (side_of ns e)) (previous_on ns names c e (1 - side_of ns e))

abbrev pub is_accessor : List ℕ → ℕ → Bool
is_accessor ns e = is_getter ns e || is_setter ns e

unfoldable pub is_duplicate : List ℕ → ℕ → ℕ → Bool
is_duplicate ns d e = cond (is_accessor ns e && is_accessor ns d) (eqb (extra_of ns e) (extra_of ns d) || xor (is_static ns e) (is_static ns d)) true

unfoldable pub redeclaration : List ℕ → ℕ → ℕ → Option Finding
redeclaration ns d e =
    Some (record {
      code = code.redeclaration;
      node = record { 0 = 0 };
      start = (element_span ns d).start;
      end = (element_span ns d).end;
      start2 = (element_span ns e).start;
      end2 = (element_span ns e).end;
      context = context.none;
    })

unfoldable pub duplicate_by : List ℕ → ℕ → Place → Option Finding
duplicate_by ns e p = cond (there p && is_duplicate ns (number p) e) (redeclaration ns (number p) e) None

abbrev pub duplicate_at : List ℕ → List ℕ → ℕ → ℕ → Option Finding
duplicate_at ns names c e = duplicate_by ns e (previous_of ns names c e)

unfoldable pub duplicates_in : List ℕ → List ℕ → ℕ → List Finding
duplicates_in ns names c = flat_map (λ e. listed (duplicate_at ns names c e)) (privates ns c)

unfoldable pub duplicate_elements : List ℕ → List ℕ → List Finding
duplicate_elements ns names = flat_map (duplicates_in ns names) (classes_of ns)

-- `check_private_identifier` and `check_class`
unfoldable pub undeclared_at : List ℕ → List ℕ → ℕ → ℕ → ℕ → Option Finding
undeclared_at ns names n c m = cond (is_declared ns names c (name_of ns names m)) None (error_at ns code.private_field_undeclared n m context.none)

unfoldable pub undeclared_in : List ℕ → List ℕ → ℕ → ℕ → List Finding
undeclared_in ns names n c = flat_map (λ m. listed (undeclared_at ns names n c m)) (references ns c)

abbrev pub undeclared_by : List ℕ → List ℕ → ℕ → Option ClassId → List Finding
undeclared_by ns names n (Some c) = undeclared_in ns names n c.0
undeclared_by ns names n None = []

abbrev pub private_undeclared : List ℕ → List ℕ → ℕ → List Finding
private_undeclared ns names n = undeclared_by ns names n (current_class ns n)

unfoldable pub constructor_span : List ℕ → ℕ → Span
constructor_span ns e = cond (has_name ns e) (element_span ns e) (record { start = span_start_of ns e; end = span_end_of ns e })

abbrev pub duplicate_constructor : List ℕ → ℕ → ℕ → ℕ → Option Finding
duplicate_constructor ns n a b =
    Some (record {
      code = code.duplicate_constructor;
      node = record { 0 = n };
      start = (constructor_span ns a).start;
      end = (constructor_span ns a).end;
      start2 = (constructor_span ns b).start;
      end2 = (constructor_span ns b).end;
      context = context.none;
    })

abbrev pub first_pair : List ℕ → ℕ → List ℕ → Option Finding
first_pair ns n [] = None
first_pair ns n (a ∷ []) = None
first_pair ns n (a ∷ b ∷ l) = duplicate_constructor ns n a b

abbrev pub second_by : List ℕ → ℕ → Option NodeId → Option Finding
second_by ns n (Some b) = first_pair ns n (constructors ns b.0)
second_by ns n None = None

abbrev pub second_constructor : List ℕ → ℕ → Option Finding
second_constructor ns n = second_by ns n (class_body_of ns n)

unfoldable pub check_class : List ℕ → List ℕ → ℕ → List Finding
check_class ns names n = private_undeclared ns names n ++ (listed (require_class_name ns n) ++ listed (second_constructor ns n))

-- `check_with_statement`
unfoldable pub check_with_statement : List ℕ → List ℕ → ℕ → Option Finding
check_with_statement ns ss n = cond (is_strict ns ss n) (error_span code.with_statement n (span_start_of ns n) (span_start_of ns n + 4) context.none) None

-- checker/mod.rs
unfoldable pub findings_at : ℕ → List ℕ → List ℕ → List ℕ → List ℕ → ℕ → List Finding
findings_at source_type ns ss source names n =
    cond (eqb (kind_of ns n) k.BindingIdentifier) (listed (check_identifier source_type ns ss names n) ++ listed (check_binding_identifier source_type ns ss names n))
    (cond (eqb (kind_of ns n) k.IdentifierReference) (listed (check_identifier source_type ns ss names n) ++ listed (check_identifier_reference source_type ns ss names n))
    (cond (eqb (kind_of ns n) k.LabelIdentifier) (listed (check_identifier source_type ns ss names n))
    (cond (eqb (kind_of ns n) k.PrivateIdentifier) (listed (private_outside ns n))
    (cond (eqb (kind_of ns n) k.NumericLiteral) (listed (check_number_literal ns ss source n))
    (cond (eqb (kind_of ns n) k.StringLiteral) (listed (check_string_literal ns ss source n))
    (cond (eqb (kind_of ns n) k.Directive) (listed (check_directive ns ss names n))
    (cond (eqb (kind_of ns n) k.With) (listed (check_body ns ss n) ++ listed (check_with_statement ns ss n))
    (cond (eqb (kind_of ns n) k.Break) (listed (check_break_statement ns names n))
    (cond (eqb (kind_of ns n) k.Continue) (listed (check_continue_statement ns names n))
    (cond (eqb (kind_of ns n) k.Labeled) (listed (check_labeled_statement ns names n) ++ listed (check_function_declaration_in_labeled_statement ns ss n))
    (cond (eqb (kind_of ns n) k.ForIn) (listed (check_body ns ss n) ++ listed (check_for_statement_left ns ss n true))
    (cond (eqb (kind_of ns n) k.ForOf) (listed (check_body ns ss n) ++ (listed (check_for_of_statement ns ss n) ++ listed (check_for_statement_left ns ss n false)))
    (cond (eqb (kind_of ns n) k.While) (listed (check_body ns ss n))
    (cond (eqb (kind_of ns n) k.DoWhile) (listed (check_body ns ss n))
    (cond (eqb (kind_of ns n) k.For) (listed (check_body ns ss n))
    (cond (eqb (kind_of ns n) k.If) (listed (check_consequent ns ss n) ++ listed (check_alternate ns ss n))
    (cond (eqb (kind_of ns n) k.Class) (check_class ns names n)
    (cond (eqb (kind_of ns n) k.Super) (listed (check_super ns ss n))
    (cond (eqb (kind_of ns n) k.Await) (check_await_expression ns ss n)
    (cond (eqb (kind_of ns n) k.Object) (check_object_expression ns names n)
    (cond (eqb (kind_of ns n) k.Unary) (listed (check_unary_expression ns ss n))
    (cond (eqb (kind_of ns n) k.Yield) (listed (check_yield_expression ns n))
    (cond (eqb (kind_of ns n) k.VariableDeclaration) (listed (check_using source_type ns ss n) ++ listed (check_await_using ns ss n))
    [])))))))))))))))))))))))

unfoldable pub findings_of : ℕ → List ℕ → List ℕ → List ℕ → List ℕ → List Finding
findings_of source_type ns ss source names = duplicate_elements ns names ++ flat_map (findings_at source_type ns ss source names) (upto 0 (count ns))
