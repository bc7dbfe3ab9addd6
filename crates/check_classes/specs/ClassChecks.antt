-- What is checked at a private name and at a Class: `check_private_identifier_outside_class`, `check_private_identifier` and `check_class`.
use Rattle.table_records.specs.declared.ClassId.{ClassId}
use Rattle.table_records.specs.declared.NodeId.{NodeId}
use Rattle.std.specs.Prelude.{ℕ, ◌+◌, Bool, false, cond, not, ◌&&◌, eqb, Option, Some, None, is_some}
use mathlib.Core.List.{List, [], ◌∷◌, ◌++◌, flat_map}
use Rattle.base_common.specs.Upto.{upto}
use Rattle.base_common.specs.Tests.{within}
use Rattle.table_records.specs.Table.{count, kind_of, parent_of, span_start_of, span_end_of, flags_of, has_flag}
use Rattle.table_records.specs.Kinds as k
use Rattle.table_records.specs.NodeFlag as flag
use Rattle.table_names.specs.Name.{name_of}
use Rattle.table_children.specs.Children.{keep, children, first_child, class_body_of, first_node}
use Rattle.check_diagnostics.specs.declared.Finding.{Finding}
use Rattle.check_diagnostics.specs.Finding.{listed, error_at, error_span}
use Rattle.check_diagnostics.specs.Codes as code
use Rattle.check_diagnostics.specs.Contexts as context
use Rattle.check_class_table.specs.declared.Span.{Span}
use Rattle.check_class_table.specs.Classes.{current_class}
use Rattle.check_class_table.specs.Elements.{element_span, is_constructor, fixed_name, has_body, is_declared}

-- a private name where no class is current
abbrev pub outside_by : List ℕ → ℕ → Option ClassId → Option Finding
outside_by ns n (Some c) = None
outside_by ns n None = error_at ns code.private_not_in_class n n context.none

abbrev pub private_outside : List ℕ → ℕ → Option Finding
private_outside ns n = outside_by ns n (current_class ns n)

-- the class that is current is c
abbrev pub is_class : ℕ → Option ClassId → Bool
is_class c (Some d) = eqb d.0 c
is_class c None = false

-- a PrivateIdentifier whose parent is a member expression or a PrivateIn: `add_private_identifier_reference`
abbrev pub is_reference : List ℕ → ℕ → Bool
is_reference ns m = eqb (kind_of ns m) k.PrivateIdentifier && within (kind_of ns (parent_of ns m)) k.OtherMember k.PrivateIn

-- node m is a private reference of class c
unfoldable pub is_reference_of : List ℕ → ℕ → ℕ → Bool
is_reference_of ns c m = is_reference ns m && is_class c (current_class ns m)

-- the private references of class c, in node order: those where it is current (what is in a ClassBody comes after it)
unfoldable pub references : List ℕ → ℕ → List ℕ
references ns c = keep (λ m. is_reference ns m && is_class c (current_class ns m)) (upto (c + 1) (count ns))

-- a reference whose name no private element of class c or of a class around it has
unfoldable pub undeclared_at : ℕ → List ℕ → List ℕ → ℕ → ℕ → ℕ → Option Finding
undeclared_at source_type ns names n c m = cond (is_declared source_type ns names c (name_of ns names m)) None (error_at ns code.private_field_undeclared n m context.none)

-- what node m raises as a reference of class c
unfoldable pub raised_at : ℕ → List ℕ → List ℕ → ℕ → ℕ → ℕ → Option Finding
raised_at source_type ns names n c m = cond (is_reference_of ns c m) (undeclared_at source_type ns names n c m) None

unfoldable pub undeclared_in : ℕ → List ℕ → List ℕ → ℕ → ℕ → List Finding
undeclared_in source_type ns names n c = flat_map (λ m. listed (undeclared_at source_type ns names n c m)) (references ns c)

-- `check_private_identifier`, raised at Class n
abbrev pub undeclared_by : ℕ → List ℕ → List ℕ → ℕ → Option ClassId → List Finding
undeclared_by source_type ns names n (Some c) = undeclared_in source_type ns names n c.0
undeclared_by source_type ns names n None = []

abbrev pub private_undeclared : ℕ → List ℕ → List ℕ → ℕ → List Finding
private_undeclared source_type ns names n = undeclared_by source_type ns names n (current_class ns n)

-- the class has an id: a BindingIdentifier, with any role
abbrev pub has_id : List ℕ → ℕ → Bool
has_id ns n = is_some (first_child ns n k.BindingIdentifier k.BindingIdentifier 0 7)

-- a class declaration without an id that is no `export default`; the span of the word `class`
unfoldable pub require_class_name : List ℕ → ℕ → Option Finding
require_class_name ns n =
    cond (has_flag (flags_of ns n) flag.Declaration && (not (has_id ns n) && not (eqb (kind_of ns (parent_of ns n)) k.ExportDefault)))
    (error_span code.require_class_name n (span_start_of ns n) (span_start_of ns n + 5) context.none)
    None

-- the constructors with a body, in order
unfoldable pub constructors : List ℕ → ℕ → List ℕ
constructors ns c = keep (λ e. is_constructor ns e && has_body ns e) (children ns c)

-- node e is a constructor of class c with a body
unfoldable pub is_constructor_of : List ℕ → ℕ → ℕ → Bool
is_constructor_of ns c e = eqb (parent_of ns e) c && (is_constructor ns e && has_body ns e)

-- the first one from node i on
abbrev pub next_constructor : List ℕ → ℕ → ℕ → Option NodeId
next_constructor ns c i = first_node (is_constructor_of ns c) i (count ns)

-- `prop_name` gives the key's span, if the constructor has a fixed name, or else it is the element's
unfoldable pub constructor_span : ℕ → List ℕ → ℕ → Span
constructor_span source_type ns e = cond (fixed_name source_type ns e) (element_span ns e) (record { start = span_start_of ns e; end = span_end_of ns e })

-- "It is a Syntax Error if PrototypePropertyNameList of ClassElementList contains more than one occurrence of "constructor"": the first pair alone
abbrev pub duplicate_constructor : ℕ → List ℕ → ℕ → ℕ → ℕ → Option Finding
duplicate_constructor source_type ns n a b =
    Some (record {
      code = code.duplicate_constructor;
      node = record { 0 = n };
      start = (constructor_span source_type ns a).start;
      end = (constructor_span source_type ns a).end;
      start2 = (constructor_span source_type ns b).start;
      end2 = (constructor_span source_type ns b).end;
      context = context.none;
    })

abbrev pub first_pair : ℕ → List ℕ → ℕ → List ℕ → Option Finding
first_pair source_type ns n [] = None
first_pair source_type ns n (a ∷ []) = None
first_pair source_type ns n (a ∷ b ∷ l) = duplicate_constructor source_type ns n a b

abbrev pub second_by : ℕ → List ℕ → ℕ → Option NodeId → Option Finding
second_by source_type ns n (Some b) = first_pair source_type ns n (constructors ns b.0)
second_by source_type ns n None = None

abbrev pub second_constructor : ℕ → List ℕ → ℕ → Option Finding
second_constructor source_type ns n = second_by source_type ns n (class_body_of ns n)

-- `check_class`
unfoldable pub check_class : ℕ → List ℕ → List ℕ → ℕ → List Finding
check_class source_type ns names n = private_undeclared source_type ns names n ++ (listed (require_class_name ns n) ++ listed (second_constructor source_type ns n))
