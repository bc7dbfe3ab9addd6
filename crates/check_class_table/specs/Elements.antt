-- The elements of a class: `Element` and `ClassTableBuilder::declare_class_body`. An element has the number of its node.
use Rattle.table_records.specs.declared.NodeId.{NodeId}
use Rattle.std.specs.Prelude.{ℕ, List, [], ◌∷◌, Bool, false, cond, not, ◌&&◌, ◌||◌, eqb, Option, Some, None, is_some}
use Rattle.base_common.specs.Upto.{any}
use Rattle.base_common.specs.Tests.{within}
use Rattle.table_source.specs.SourceType.{is_typescript}
use Rattle.table_records.specs.Table.{kind_of, parent_of, span_start_of, span_end_of, flags_of, extra_of, name_len_of, has_flag}
use Rattle.table_records.specs.Kinds as k
use Rattle.table_records.specs.Extras as extra
use Rattle.table_records.specs.NodeFlag as flag
use Rattle.table_names.specs.Name.{same, name_of}
use Rattle.table_children.specs.Children.{keep, children, key_of, value_of, function_body_of}
use Rattle.check_class_table.specs.declared.Span.{Span}
use Rattle.check_class_table.specs.Classes.{outer_classes}

-- the span of a part: "a missing one has span 0,0"
abbrev pub span_at : List ℕ → Option NodeId → Span
span_at ns (Some m) = record { start = span_start_of ns m.0; end = span_end_of ns m.0 }
span_at ns None = record { start = 0; end = 0 }

-- the name of a part: "Length 0 means no name"
abbrev pub name_at : List ℕ → List ℕ → Option NodeId → List ℕ
name_at ns names (Some m) = name_of ns names m.0
name_at ns names None = []

-- an IdentifierReference as key is that of `[a]`: a computed key gives its element no name
abbrev pub has_name_at : List ℕ → Option NodeId → Bool
has_name_at ns (Some m) = not (eqb (kind_of ns m.0) k.IdentifierReference) && not (eqb (name_len_of ns m.0) 0)
has_name_at ns None = false

-- an element's key has a name
abbrev pub has_name : List ℕ → ℕ → Bool
has_name ns e = has_name_at ns (key_of ns e)

-- whether a function has a body
abbrev pub has_body_at : List ℕ → Option NodeId → Bool
has_body_at ns (Some f) = is_some (function_body_of ns f.0)
has_body_at ns None = false

-- an element's name, span and tests: "Elements and properties have their name at the key node"
unfoldable pub element_name : List ℕ → List ℕ → ℕ → List ℕ
element_name ns names e = name_at ns names (key_of ns e)

unfoldable pub element_span : List ℕ → ℕ → Span
element_span ns e = span_at ns (key_of ns e)

abbrev pub is_static : List ℕ → ℕ → Bool
is_static ns e = has_flag (flags_of ns e) flag.Static

abbrev pub is_private : List ℕ → ℕ → Bool
is_private ns e = has_flag (flags_of ns e) flag.PrivateKey

abbrev pub is_method : List ℕ → ℕ → Bool
is_method ns e = eqb (kind_of ns e) k.MethodDefinition

-- a MethodDefinition with this extra number
abbrev pub is_method_of : List ℕ → ℕ → ℕ → Bool
is_method_of ns e x = is_method ns e && eqb (extra_of ns e) x

abbrev pub is_getter : List ℕ → ℕ → Bool
is_getter ns e = is_method_of ns e extra.Get

abbrev pub is_setter : List ℕ → ℕ → Bool
is_setter ns e = is_method_of ns e extra.Set

abbrev pub is_constructor : List ℕ → ℕ → Bool
is_constructor ns e = is_method_of ns e extra.Constructor

-- the function that is a method's value has a body
unfoldable pub has_body : List ℕ → ℕ → Bool
has_body ns e = has_body_at ns (value_of ns e)

-- "Flag 16384 .. marks an element without a fixed name" (document 02, request 13)
abbrev pub NoFixedName : ℕ
NoFixedName = 16384

-- whether an element has a fixed name: in TypeScript the flag alone decides, and "without it, length 0 is here the empty name"; else its key has a name
unfoldable pub fixed_name : ℕ → List ℕ → ℕ → Bool
fixed_name source_type ns e = cond (is_typescript source_type) (not (has_flag (flags_of ns e) NoFixedName)) (has_name ns e)

-- "constructors, bodiless methods and nameless keys enter no element"; "an element without a fixed name .. is entered nowhere"
unfoldable pub enters : ℕ → List ℕ → ℕ → Bool
enters source_type ns e = not (is_constructor ns e) && (not (is_method ns e && not (has_body ns e)) && fixed_name source_type ns e)

-- MethodDefinition, PropertyDefinition or AccessorProperty
abbrev pub is_definition : List ℕ → ℕ → Bool
is_definition ns e = within (kind_of ns e) k.MethodDefinition k.AccessorProperty

-- the elements of class c, in order
unfoldable pub elements : ℕ → List ℕ → ℕ → List ℕ
elements source_type ns c = keep (enters source_type ns) (keep (is_definition ns) (children ns c))

-- its private elements
unfoldable pub privates : ℕ → List ℕ → ℕ → List ℕ
privates source_type ns c = keep (is_private ns) (elements source_type ns c)

-- those that are compared: private ones, and in TypeScript "named non-private elements are compared too"
abbrev pub is_compared : ℕ → List ℕ → ℕ → Bool
is_compared source_type ns e = is_typescript source_type || is_private ns e

unfoldable pub compared : ℕ → List ℕ → ℕ → List ℕ
compared source_type ns c = keep (is_compared source_type ns) (elements source_type ns c)

-- class c has a private element of this name: `has_private_definition`, and whether `get_element_ids` finds any
unfoldable pub has_private : ℕ → List ℕ → List ℕ → ℕ → List ℕ → Bool
has_private source_type ns names c name = any (λ e. same (element_name ns names e) name) (privates source_type ns c)

-- class c or a class around it has
unfoldable pub is_declared : ℕ → List ℕ → List ℕ → ℕ → List ℕ → Bool
is_declared source_type ns names c name = any (λ d. has_private source_type ns names d name) (c ∷ outer_classes ns c)

-- "Public and private names belong to separate namespaces": e is private, or it is not
abbrev pub is_keyed : List ℕ → Bool → ℕ → Bool
is_keyed ns private e = cond private (is_private ns e) (not (is_private ns e))

-- The same as tests of a node: e is a definition in the body of class c that is compared
unfoldable pub is_compared_definition : ℕ → List ℕ → ℕ → ℕ → Bool
is_compared_definition source_type ns c e = eqb (parent_of ns e) c && (is_compared source_type ns e && is_definition ns e)

-- .. it is a compared element of class c
unfoldable pub is_compared_element : ℕ → List ℕ → ℕ → ℕ → Bool
is_compared_element source_type ns c e = is_compared_definition source_type ns c e && enters source_type ns e

-- .. it is a definition in the body of class c, private or not
unfoldable pub is_definition_in : List ℕ → ℕ → Bool → ℕ → Bool
is_definition_in ns c private e = eqb (parent_of ns e) c && (is_keyed ns private e && is_definition ns e)

-- .. it is an element of class c with this name, private or not
unfoldable pub is_named : ℕ → List ℕ → List ℕ → ℕ → Bool → List ℕ → ℕ → Bool
is_named source_type ns names c private name e = is_definition_in ns c private e && (same (element_name ns names e) name && enters source_type ns e)
