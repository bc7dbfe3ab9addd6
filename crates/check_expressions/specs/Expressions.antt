-- Object literals, `delete`, and `await` and `yield` in parameters.
use Rattle.table_records.specs.declared.NodeId.{NodeId}
use Rattle.std.specs.Prelude.{ℕ, zero, suc, ◌+◌, Bool, true, false, cond, not, ◌&&◌, ◌||◌, eqb, Option, Some, None}
use mathlib.Core.List.{List, [], ◌∷◌, ◌++◌, foldr, flat_map}
use Rattle.base_common.specs.Upto.{upto}
use Rattle.base_common.specs.Tests.{within}
use Rattle.table_records.specs.Table.{count, kind_of, parent_of, span_start_of, flags_of, extra_of, ancestors, has_flag}
use Rattle.table_records.specs.Kinds as k
use Rattle.table_records.specs.Extras as extra
use Rattle.table_records.specs.NodeFlag as flag
use Rattle.table_names.specs.Name.{name_is}
use Rattle.table_names.specs.Words as word
use Rattle.table_children.specs.Children.{keep, is_child, first_child, key_of, value_of, inner_of}
use Rattle.table_scoping.specs.Scoping.{is_strict, in_class_static_block}
use Rattle.check_diagnostics.specs.Finding.{listed, error_span, error_at, error_between}
use Rattle.check_diagnostics.specs.Codes as code
use Rattle.check_diagnostics.specs.Contexts as context
use Rattle.check_diagnostics.specs.declared.Finding.{Finding}

-- the properties of an object, in order
abbrev pub properties : List ℕ → ℕ → List ℕ
properties ns n = keep (is_child ns n k.ObjectProperty k.ObjectProperty 0 7) (upto (n + 1) (count ns))

-- "PropertyDefinition : PropertyName : AssignmentExpression"
abbrev pub is_plain : List ℕ → ℕ → Bool
is_plain ns p = eqb (extra_of ns p) extra.Init && not (has_flag (flags_of ns p) flag.Method)

-- a key that is called `__proto__`; an IdentifierReference as key is that of `[a]`, and a computed key has no PropName
abbrev pub if_proto : List ℕ → List ℕ → Option NodeId → Option NodeId
if_proto ns names (Some m) = cond (eqb (kind_of ns m.0) k.IdentifierReference) None (cond (name_is ns names m.0 word.proto) (Some m) None)
if_proto ns names None = None

-- the key of a plain property `__proto__`
unfoldable pub proto_key : List ℕ → List ℕ → ℕ → Option NodeId
proto_key ns names p = cond (is_plain ns p) (if_proto ns names (key_of ns p)) None

abbrev pub to_list : Option NodeId → List ℕ
to_list (Some m) = m.0 ∷ []
to_list None = []

abbrev pub proto_keys : List ℕ → List ℕ → ℕ → List ℕ
proto_keys ns names n = flat_map (λ p. to_list (proto_key ns names p)) (properties ns n)

-- a finding at n for each key of the list, with the key before it: a comes before the first
unfoldable pub repeats_after : List ℕ → ℕ → ℕ → List ℕ → List Finding
repeats_after ns n a [] = []
repeats_after ns n a (b ∷ l) = listed (error_between ns code.redeclaration n a b) ++ repeats_after ns n b l

-- the same for each key but the first
unfoldable pub repeats : List ℕ → ℕ → List ℕ → List Finding
repeats ns n [] = []
repeats ns n (a ∷ l) = repeats_after ns n a l

-- a key is raised where one came before it ..
abbrev pub repeated : List ℕ → ℕ → Option NodeId → Option NodeId → Option Finding
repeated ns n None b = None
repeated ns n (Some a) None = None
repeated ns n (Some a) (Some b) = error_between ns code.redeclaration n a.0 b.0

-- .. and is the last one from there on
abbrev pub later : Option NodeId → Option NodeId → Option NodeId
later a None = a
later a (Some b) = Some b

-- "duplicate entries for "__proto__" and at least two of those entries were obtained from" plain properties
unfoldable pub check_object_expression : List ℕ → List ℕ → ℕ → List Finding
check_object_expression ns names n = repeats ns n (proto_keys ns names n)

-- a parenthesis
abbrev pub is_parenthesis : List ℕ → ℕ → Bool
is_parenthesis ns n = eqb (kind_of ns n) k.AnythingElse && eqb (extra_of ns n) extra.Parenthesis

-- what is found, or else n
abbrev pub or_else : Option NodeId → ℕ → ℕ
or_else (Some m) n = m.0
or_else None n = n

-- n without one parenthesis around it
unfoldable pub inside : List ℕ → ℕ → ℕ
inside ns n = cond (is_parenthesis ns n) (or_else (inner_of ns n) n) n

-- n when that is done so many times
unfoldable pub stripped : List ℕ → ℕ → ℕ → ℕ
stripped ns zero n = n
stripped ns (suc f) n = stripped ns f (inside ns n)

-- an expression without the parentheses around it: each holds a later node, so that as many steps as there are nodes are enough
unfoldable pub inner_expression : List ℕ → ℕ → ℕ
inner_expression ns n = stripped ns (count ns) n

-- the span of a part, 0,0 where it is missing
abbrev pub error_part : List ℕ → ℕ → ℕ → Option NodeId → Option Finding
error_part ns c n (Some m) = error_at ns c n m.0 context.none
error_part ns c n None = error_span c n 0 0 context.none

-- the name of a private field: its first PrivateIdentifier
abbrev pub field_of : List ℕ → ℕ → Option NodeId
field_of ns p = first_child ns p k.PrivateIdentifier k.PrivateIdentifier 0 7

-- what a chain ends in: a private field is reported by its name
abbrev pub chain_finding : List ℕ → ℕ → Option NodeId → Option Finding
chain_finding ns n (Some m) = cond (eqb (kind_of ns m.0) k.PrivateField) (error_part ns code.delete_private_field n (field_of ns m.0)) None
chain_finding ns n None = None

-- `delete` of the expression e: a name in strict code, a private field, or a chain that ends in one
unfoldable pub delete_of : List ℕ → List ℕ → ℕ → ℕ → Option Finding
delete_of ns ss n e =
    cond (eqb (kind_of ns e) k.IdentifierReference)
    (cond (is_strict ns ss n) (error_at ns code.delete_of_unqualified n e context.none) None)
    (cond (eqb (kind_of ns e) k.PrivateField)
    (error_at ns code.delete_private_field n e context.none)
    (cond (eqb (kind_of ns e) k.Chain) (chain_finding ns n (inner_of ns e)) None))

abbrev pub delete_finding : List ℕ → List ℕ → ℕ → Option NodeId → Option Finding
delete_finding ns ss n (Some m) = delete_of ns ss n (inner_expression ns m.0)
delete_finding ns ss n None = None

unfoldable pub check_unary_expression : List ℕ → List ℕ → ℕ → Option Finding
check_unary_expression ns ss n = cond (has_flag (flags_of ns n) flag.Delete) (delete_finding ns ss n (value_of ns n)) None

-- a is a parameter, or the binding of a rest parameter
unfoldable pub is_parameter : List ℕ → ℕ → Bool
is_parameter ns a = eqb (kind_of ns a) k.FormalParameter || (eqb (kind_of ns a) k.BindingRestElement && eqb (kind_of ns (parent_of ns a)) k.FormalParameterRest)

-- among the ancestors of n, nearest first, a parameter comes before the program, a function or an arrow
unfoldable pub in_formal_parameters : List ℕ → ℕ → Bool
in_formal_parameters ns n = foldr (λ a r. cond (is_parameter ns a) true (cond (within (kind_of ns a) k.Program k.Arrow) false r)) false (ancestors ns n)

-- `await` or `yield` in parameters
unfoldable pub in_parameter : List ℕ → ℕ → Option Finding
in_parameter ns n = cond (in_formal_parameters ns n) (error_at ns code.await_or_yield_in_parameter n n context.none) None

-- "if ClassStaticBlockStatementList Contains await is true": the five bytes of the word
unfoldable pub in_block : List ℕ → List ℕ → ℕ → Option Finding
in_block ns ss n = cond (in_class_static_block ns ss n) (error_span code.class_static_block_await n (span_start_of ns n) (span_start_of ns n + 5) context.none) None

abbrev pub check_await_expression : List ℕ → List ℕ → ℕ → List Finding
check_await_expression ns ss n = listed (in_parameter ns n) ++ listed (in_block ns ss n)

abbrev pub check_yield_expression : List ℕ → ℕ → Option Finding
check_yield_expression ns n = in_parameter ns n
