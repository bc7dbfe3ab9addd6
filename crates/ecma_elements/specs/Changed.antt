-- THE RULES AS THE RUST HAS THEM, where they are not the standard's, and the conditions on which they are: in the order of the codes 1 (at an object) and 27.
use Rattle.table_records.specs.declared.NodeId.{NodeId}
use Rattle.std.specs.Prelude.{ℕ, ◌≤◌, ◌≡◌, List, [], ◌∷◌, Bool, true, false, cond, not, ◌&&◌, ◌||◌, eqb, ltb, length, Option, Some, None, is_some}
use Rattle.base_common.specs.Tests.{within}
use Rattle.base_walk.specs.On.{member}
use Rattle.table_records.specs.Table.{kind_of, flags_of, extra_of, has_flag}
use Rattle.table_records.specs.Kinds as k
use Rattle.table_records.specs.Extras as extra
use Rattle.table_records.specs.NodeFlag as flag
use Rattle.table_names.specs.Name.{same, name_of}
use Rattle.table_names.specs.Words as word
use Rattle.table_children.specs.Children.{keep, children, key_of, inner_of, value_of, function_body_of}
use Rattle.ecma_elements.specs.ClassElements.{class_elements, constructor_word, is_colon, is_proto}

-- 1 at an object: `__proto__`

-- an IdentifierReference as key is that of `[a]` and names nothing; of any other key the name counts, if it is computed or private too
abbrev pub named_proto : List ℕ → List ℕ → Option NodeId → Bool
named_proto ns names (Some m) = not (eqb (kind_of ns m.0) k.IdentifierReference) && same (name_of ns names m.0) word.proto
named_proto ns names None = false

unfoldable pub is_keyed_proto : List ℕ → List ℕ → ℕ → Bool
is_keyed_proto ns names p = eqb (kind_of ns p) k.ObjectProperty && (is_colon ns p && named_proto ns names (key_of ns p))

-- all but the first of a list
abbrev pub later : List ℕ → List ℕ
later [] = []
later (a ∷ l) = l

-- CHANGED RULE: a breach of its own is each such property but the first
unfoldable pub proto_again : List ℕ → List ℕ → ℕ → List ℕ
proto_again ns names n = cond (eqb (kind_of ns n) k.Object) (later (keep (is_keyed_proto ns names) (children ns n))) []

-- what the table says of a key: it is a number, a string, or a node of no other kind that holds nothing, so no expression in brackets
abbrev pub written_key : List ℕ → Option NodeId → Bool
written_key ns (Some m) = (eqb (kind_of ns m.0) k.NumericLiteral || eqb (kind_of ns m.0) k.StringLiteral) || (eqb (kind_of ns m.0) k.AnythingElse && not (is_some (inner_of ns m.0)))
written_key ns None = false

-- CONDITION: no property of the object has a private key, and one whose key gives the name `__proto__` has it written so
pub record KeysPlain (ns names : List ℕ) (n : ℕ) : Type 0 where
  pub public : (p : ℕ) → member p (children ns n) ≡ true → has_flag (flags_of ns p) flag.PrivateKey ≡ false
  pub written : (p : ℕ) → member p (children ns n) ≡ true → named_proto ns names (key_of ns p) ≡ true → written_key ns (key_of ns p) ≡ true

-- CONDITION: at most two properties of the object are such
abbrev pub ProtosTwiceAtMost : List ℕ → List ℕ → ℕ → Type 0
ProtosTwiceAtMost ns names n = length (keep (is_proto ns names) (children ns n)) ≤ 2

-- 27: a second constructor

-- what the table calls a constructor, of a MethodDefinition
abbrev pub is_table_constructor : List ℕ → ℕ → Bool
is_table_constructor ns e = eqb (extra_of ns e) extra.Constructor

abbrev pub body_in : List ℕ → Option NodeId → Bool
body_in ns (Some f) = is_some (function_body_of ns f.0)
body_in ns None = false

-- what the table calls a constructor, if it has a body: no getter, setter or field of that name, each of which is an error by another rule
unfoldable pub is_constructor : List ℕ → ℕ → Bool
is_constructor ns e = (eqb (kind_of ns e) k.MethodDefinition && is_table_constructor ns e) && body_in ns (value_of ns e)

-- CHANGED RULE: more than one such constructor
unfoldable pub built_twice : List ℕ → ℕ → Bool
built_twice ns n = eqb (kind_of ns n) k.Class && ltb 1 (length (keep (is_constructor ns) (class_elements ns n)))

-- what the table says of an element's name: it is not static, and its key is not private and is written `constructor`
abbrev pub keyed_constructor : List ℕ → List ℕ → Option NodeId → Bool
keyed_constructor ns names (Some m) = written_key ns (Some m) && same (name_of ns names m.0) constructor_word
keyed_constructor ns names None = false

unfoldable pub called_constructor : List ℕ → List ℕ → ℕ → Bool
called_constructor ns names e = not (has_flag (flags_of ns e) flag.Static) && (not (has_flag (flags_of ns e) flag.PrivateKey) && keyed_constructor ns names (key_of ns e))

-- CONDITION: what the table calls a constructor is called so, and a method, field or accessor that is called so is one and has a body
pub record ConstructorsNamed (ns names : List ℕ) (n : ℕ) : Type 0 where
  pub called : (e : ℕ) → member e (class_elements ns n) ≡ true → is_constructor ns e ≡ true → called_constructor ns names e ≡ true
  pub alone : (e : ℕ) → member e (class_elements ns n) ≡ true → within (kind_of ns e) k.MethodDefinition k.AccessorProperty ≡ true → called_constructor ns names e ≡ true → is_constructor ns e ≡ true
