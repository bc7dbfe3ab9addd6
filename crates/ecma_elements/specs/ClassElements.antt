-- ECMA-262, 15.7 Class Definitions, 15.7.1 Static Semantics: Early Errors, and 13.2.5 Object Initializer, 13.2.5.1 Static Semantics: Early Errors: those on the elements of one class or one object.
use Rattle.table_records.specs.declared.NodeId.{NodeId}
use Rattle.std.specs.Prelude.{ℕ, List, [], ◌∷◌, Bool, false, cond, not, ◌&&◌, ◌||◌, eqb, ltb, length, Option, Some, None, is_some}
use Rattle.base_common.specs.Tests.{within}
use Rattle.table_records.specs.Table.{kind_of, parent_of, flags_of, extra_of, has_flag}
use Rattle.table_records.specs.Kinds as k
use Rattle.table_records.specs.Extras as extra
use Rattle.table_records.specs.NodeFlag as flag
use Rattle.table_names.specs.Name.{same, name_of}
use Rattle.table_names.specs.Words as word
use Rattle.table_children.specs.Children.{keep, children, first_child, key_of, inner_of, class_body_of, is_node}

-- the name at the key of an element or a property; no name is []
abbrev pub name_found : List ℕ → List ℕ → Option NodeId → List ℕ
name_found ns names (Some m) = name_of ns names m.0
name_found ns names None = []

unfoldable pub key_name : List ℕ → List ℕ → ℕ → List ℕ
key_name ns names e = name_found ns names (key_of ns e)

-- 13.2.5, PropertyName : LiteralPropertyName, ComputedPropertyName. In the tables a LiteralPropertyName is a NumericLiteral, a StringLiteral or, as an IdentifierName or a bigint, a node of no other
-- kind that holds nothing. "[ AssignmentExpression ]" is the expression, of another kind, or a node that holds it.
abbrev pub literal_name : List ℕ → Option NodeId → Bool
literal_name ns (Some m) = within (kind_of ns m.0) k.NumericLiteral k.StringLiteral || (eqb (kind_of ns m.0) k.AnythingElse && not (is_some (inner_of ns m.0)))
literal_name ns None = false

-- 8.6.5 PropName: the name of a LiteralPropertyName; a ComputedPropertyName has none, and a PrivateIdentifier is no PropertyName
unfoldable pub prop_name : List ℕ → List ℕ → ℕ → List ℕ
prop_name ns names e = cond (not (has_flag (flags_of ns e) flag.PrivateKey) && literal_name ns (key_of ns e)) (key_name ns names e) []

-- MethodDefinition, FieldDefinition (an accessor among them)
abbrev pub is_definition : List ℕ → ℕ → Bool
is_definition ns e = within (kind_of ns e) k.MethodDefinition k.AccessorProperty

-- 15.7.4 IsStatic
abbrev pub is_static : List ℕ → ℕ → Bool
is_static ns e = has_flag (flags_of ns e) flag.Static

-- the elements of the class n
abbrev pub elements_in : List ℕ → Option NodeId → List ℕ
elements_in ns (Some b) = children ns b.0
elements_in ns None = []

unfoldable pub class_elements : List ℕ → ℕ → List ℕ
class_elements ns n = elements_in ns (class_body_of ns n)

-- `constructor`
abbrev pub constructor_word : List ℕ
constructor_word = 99 ∷ 111 ∷ 110 ∷ 115 ∷ 116 ∷ 114 ∷ 117 ∷ 99 ∷ 116 ∷ 111 ∷ 114 ∷ []

-- 15.7.6: the element gives "constructor" to PrototypePropertyNameList
unfoldable pub names_constructor : List ℕ → List ℕ → ℕ → Bool
names_constructor ns names e = is_definition ns e && (not (is_static ns e) && same (prop_name ns names e) constructor_word)

-- 15.7.1: "It is a Syntax Error if PrototypePropertyNameList of ClassElementList contains more than one occurrence of "constructor"."
unfoldable pub constructor_twice : List ℕ → List ℕ → ℕ → Bool
constructor_twice ns names n = eqb (kind_of ns n) k.Class && ltb 1 (length (keep (names_constructor ns names) (class_elements ns n)))

-- 15.7.2: ClassElementKind is ConstructorMethod: "ClassElement : MethodDefinition", not static, whose PropName is "constructor"
unfoldable pub is_constructor_kind : List ℕ → List ℕ → ℕ → Bool
is_constructor_kind ns names e = eqb (kind_of ns e) k.MethodDefinition && names_constructor ns names e

-- 15.7.3 ConstructorMethod of ClassElementList: its first element of that kind
unfoldable pub constructor_method : List ℕ → List ℕ → List ℕ → Option NodeId
constructor_method ns names [] = None
constructor_method ns names (e ∷ es) = cond (is_constructor_kind ns names e) (Some (record { 0 = e })) (constructor_method ns names es)

-- .. of ClassBody: e is that element of the ClassBody around it
unfoldable pub is_first_constructor : List ℕ → List ℕ → ℕ → Bool
is_first_constructor ns names e = is_node (constructor_method ns names (children ns (parent_of ns e))) e

-- 15.7: "ClassDeclaration : class BindingIdentifier ClassTail", and "[+Default] class ClassTail", which 16.2.3 has behind `export default` alone
unfoldable pub name_missing : List ℕ → ℕ → Bool
name_missing ns n =
    eqb (kind_of ns n) k.Class
    && (has_flag (flags_of ns n) flag.Declaration && not (is_some (first_child ns n k.BindingIdentifier k.BindingIdentifier 0 7) || eqb (kind_of ns (parent_of ns n)) k.ExportDefault))

-- "PropertyDefinition : PropertyName : AssignmentExpression", and no method, getter or setter; the key of a shorthand property has no name in the tables
abbrev pub is_colon : List ℕ → ℕ → Bool
is_colon ns p = eqb (extra_of ns p) extra.Init && not (has_flag (flags_of ns p) flag.Method)

-- .. with the PropName "__proto__"
unfoldable pub is_proto : List ℕ → List ℕ → ℕ → Bool
is_proto ns names p = eqb (kind_of ns p) k.ObjectProperty && (is_colon ns p && same (prop_name ns names p) word.proto)

-- 13.2.5.1: "It is a Syntax Error if PropertyNameList of PropertyDefinitionList contains any duplicate entries for "__proto__" and at least two of those entries were
-- obtained from productions of the form PropertyDefinition : PropertyName : AssignmentExpression."
unfoldable pub proto_twice : List ℕ → List ℕ → ℕ → Bool
proto_twice ns names n = eqb (kind_of ns n) k.Object && ltb 1 (length (keep (is_proto ns names) (children ns n)))
