-- ECMA-262, 15.7 Class Definitions, private names: 15.7.8 Static Semantics: PrivateBoundIdentifiers and the early error on its duplicates (15.7.1); 15.7.7 Static Semantics: AllPrivateIdentifiersValid.
use Rattle.std.specs.Prelude.{ℕ, Bool, true, false, cond, not, ◌&&◌, ◌||◌, eqb}
use mathlib.Core.List.{List, [], ◌∷◌, ◌++◌, foldr}
use Rattle.std.specs.Bool.{xor}
use Rattle.base_common.specs.Upto.{any}
use Rattle.base_common.specs.Tests.{within}
use Rattle.table_records.specs.Table.{kind_of, parent_of, flags_of, extra_of, has_flag}
use Rattle.table_records.specs.Kinds as k
use Rattle.table_records.specs.Extras as extra
use Rattle.table_records.specs.NodeFlag as flag
use Rattle.table_names.specs.Name.{same, name_of, has}
use Rattle.table_children.specs.Children.{keep, children}
use Rattle.ecma_trees.specs.Rose.{Rose, Roses, node, rnil, rcons, tree_of}
use Rattle.ecma_trees.specs.Walk.{walk, only}
use Rattle.ecma_elements.specs.ClassElements.{key_name, is_definition, is_static}

-- 15.7.8: a ClassElement whose ClassElementName is a PrivateIdentifier; key_name is its StringValue
unfoldable pub is_private_bound : List ℕ → ℕ → Bool
is_private_bound ns e = is_definition ns e && has_flag (flags_of ns e) flag.PrivateKey

-- 15.7.8 PrivateBoundIdentifiers of a ClassBody, as the elements that give an entry
unfoldable pub private_bound : List ℕ → ℕ → List ℕ
private_bound ns b = keep (is_private_bound ns) (children ns b)

-- the entries of a list that have the name of e
unfoldable pub entries : List ℕ → List ℕ → List ℕ → ℕ → List ℕ
entries ns names l e = keep (λ d. same (key_name ns names d) (key_name ns names e)) l

abbrev pub is_getter : List ℕ → ℕ → Bool
is_getter ns e = eqb (kind_of ns e) k.MethodDefinition && eqb (extra_of ns e) extra.Get

abbrev pub is_setter : List ℕ → ℕ → Bool
is_setter ns e = eqb (kind_of ns e) k.MethodDefinition && eqb (extra_of ns e) extra.Set

-- a getter and a setter, "either both static or both non-static"
unfoldable pub matched : List ℕ → ℕ → ℕ → Bool
matched ns a b = ((is_getter ns a && is_setter ns b) || (is_setter ns a && is_getter ns b)) && not (xor (is_static ns a) (is_static ns b))

-- the entries of one name: no duplicate, or "the name is used once for a getter and once for a setter and in no other entries"
abbrev pub allowed : List ℕ → List ℕ → Bool
allowed ns [] = true
allowed ns (a ∷ []) = true
allowed ns (a ∷ b ∷ []) = matched ns a b
allowed ns (a ∷ b ∷ c ∷ l) = false

-- 15.7.1: "It is a Syntax Error if PrivateBoundIdentifiers of ClassElementList contains any duplicate entries, unless the name is used once for a getter and once for
-- a setter and in no other entries, and the getter and setter are either both static or both non-static."
unfoldable pub private_twice : List ℕ → List ℕ → List ℕ → Bool
private_twice ns names l = any (λ e. not (allowed ns (entries ns names l e))) l

-- the StringValues of elements
abbrev pub strings : List ℕ → List ℕ → List ℕ → List (List ℕ)
strings ns names l = foldr (λ e r. key_name ns names e ∷ r) [] l

abbrev pub is_class_body : List ℕ → ℕ → Bool
is_class_body ns n = eqb (kind_of ns n) k.ClassBody

-- 15.7.7, by what `uses` a private name and what is `bound` by a ClassBody: parameters, so that changed rules are stated by the same operation
module _ (ns names : List ℕ) (uses : ℕ → Bool) (bound : ℕ → List ℕ) where
  -- "ClassBody : ClassElementList": "Let new_names be the list-concatenation of names and the PrivateBoundIdentifiers of ClassBody."
  abbrev pub new_names : ℕ → List (List ℕ) → List (List ℕ)
  new_names n l = cond (is_class_body ns n) (strings ns names (bound n) ++ l) l

  unfoldable mutual
    pub valid : Rose → List (List ℕ) → Bool
    valid (node n ks) l = cond (uses n) (has l (name_of ns names n)) true && all_valid ks (new_names n l)

    pub all_valid : Roses → List (List ℕ) → Bool
    all_valid rnil l = true
    all_valid (rcons t ts) l = valid t l && all_valid ts l

  -- the same, with the list of the PrivateIdentifiers at which it is false
  unfoldable pub invalid : Rose → List (List ℕ) → List ℕ
  invalid t l = walk (λ n l. only (uses n && not (has l (name_of ns names n))) n) (λ i j l. new_names i l) t l

-- "MemberExpression . PrivateIdentifier", "OptionalChain . PrivateIdentifier" and the like; "PrivateIdentifier in ShiftExpression"
unfoldable pub is_use : List ℕ → ℕ → Bool
is_use ns n = eqb (kind_of ns n) k.PrivateIdentifier && within (kind_of ns (parent_of ns n)) k.PrivateField k.PrivateIn

-- 15.7.7 AllPrivateIdentifiersValid; 16.1.1 and 16.2.1.1: "It is a Syntax Error if AllPrivateIdentifiersValid of StatementList [ModuleItemList] with an empty List is false."
abbrev pub all_private_identifiers_valid : List ℕ → List ℕ → Bool
all_private_identifiers_valid ns names = valid ns names (is_use ns) (private_bound ns) (tree_of ns) []

abbrev pub invalid_identifiers : List ℕ → List ℕ → List ℕ
invalid_identifiers ns names = invalid ns names (is_use ns) (private_bound ns) (tree_of ns) []
