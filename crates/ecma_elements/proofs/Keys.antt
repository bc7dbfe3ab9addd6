-- PropName (8.6.5) and what rests on it, computed on the tables of
-- `class C { ['constructor']() {} #p; constructor() {} static constructor() {} } ({ ['__proto__']: 1, __proto__: 2, __proto__() {} })`.
use Rattle.std.specs.Prelude.{ℕ, ◌≡◌, refl, List, [], ◌∷◌, map}
use Rattle.base_common.specs.Upto.{upto, range}
use Rattle.table_names.specs.Name.{same, name_of}
use Rattle.table_names.specs.Words as word
use Rattle.table_children.specs.Children.{keep, is_child, first_node}
use Rattle.ecma_elements.specs.ClassElements.{key_name, prop_name, constructor_word, names_constructor, is_proto}
use Rattle.ecma_elements.specs.Changed.{is_keyed_proto}

abbrev table : List ℕ
table =
    0 ∷ 0 ∷ 0 ∷ 0 ∷ 131 ∷ 0 ∷ 0 ∷ 0 ∷ 0 ∷ 0 ∷
    26 ∷ 0 ∷ 3 ∷ 0 ∷ 77 ∷ 0 ∷ 544 ∷ 1 ∷ 0 ∷ 0 ∷
    31 ∷ 1 ∷ 0 ∷ 6 ∷ 7 ∷ 1 ∷ 0 ∷ 0 ∷ 0 ∷ 1 ∷
    27 ∷ 1 ∷ 3 ∷ 8 ∷ 77 ∷ 1 ∷ 0 ∷ 0 ∷ 0 ∷ 0 ∷
    28 ∷ 3 ∷ 0 ∷ 10 ∷ 30 ∷ 1 ∷ 0 ∷ 1 ∷ 0 ∷ 0 ∷
    55 ∷ 4 ∷ 2 ∷ 11 ∷ 24 ∷ 1 ∷ 0 ∷ 0 ∷ 1 ∷ 11 ∷
    36 ∷ 5 ∷ 1 ∷ 11 ∷ 24 ∷ 1 ∷ 0 ∷ 11 ∷ 0 ∷ 0 ∷
    1 ∷ 4 ∷ 1 ∷ 25 ∷ 30 ∷ 1 ∷ 1024 ∷ 0 ∷ 0 ∷ 0 ∷
    55 ∷ 7 ∷ 0 ∷ 25 ∷ 27 ∷ 2 ∷ 0 ∷ 0 ∷ 0 ∷ 0 ∷
    4 ∷ 7 ∷ 3 ∷ 28 ∷ 30 ∷ 2 ∷ 0 ∷ 0 ∷ 0 ∷ 0 ∷
    29 ∷ 3 ∷ 0 ∷ 31 ∷ 34 ∷ 1 ∷ 4 ∷ 0 ∷ 0 ∷ 0 ∷
    34 ∷ 10 ∷ 2 ∷ 31 ∷ 33 ∷ 1 ∷ 0 ∷ 0 ∷ 12 ∷ 1 ∷
    28 ∷ 3 ∷ 0 ∷ 35 ∷ 51 ∷ 1 ∷ 0 ∷ 0 ∷ 0 ∷ 0 ∷
    55 ∷ 12 ∷ 2 ∷ 35 ∷ 46 ∷ 1 ∷ 0 ∷ 0 ∷ 13 ∷ 11 ∷
    1 ∷ 12 ∷ 1 ∷ 46 ∷ 51 ∷ 1 ∷ 1024 ∷ 0 ∷ 0 ∷ 0 ∷
    55 ∷ 14 ∷ 0 ∷ 46 ∷ 48 ∷ 3 ∷ 0 ∷ 0 ∷ 0 ∷ 0 ∷
    4 ∷ 14 ∷ 3 ∷ 49 ∷ 51 ∷ 3 ∷ 0 ∷ 0 ∷ 0 ∷ 0 ∷
    28 ∷ 3 ∷ 0 ∷ 52 ∷ 75 ∷ 1 ∷ 2 ∷ 1 ∷ 0 ∷ 0 ∷
    55 ∷ 17 ∷ 2 ∷ 59 ∷ 70 ∷ 1 ∷ 0 ∷ 0 ∷ 24 ∷ 11 ∷
    1 ∷ 17 ∷ 1 ∷ 70 ∷ 75 ∷ 1 ∷ 1024 ∷ 0 ∷ 0 ∷ 0 ∷
    55 ∷ 19 ∷ 0 ∷ 70 ∷ 72 ∷ 4 ∷ 0 ∷ 0 ∷ 0 ∷ 0 ∷
    4 ∷ 19 ∷ 3 ∷ 73 ∷ 75 ∷ 4 ∷ 0 ∷ 0 ∷ 0 ∷ 0 ∷
    22 ∷ 0 ∷ 3 ∷ 78 ∷ 130 ∷ 0 ∷ 0 ∷ 0 ∷ 0 ∷ 0 ∷
    55 ∷ 22 ∷ 0 ∷ 78 ∷ 130 ∷ 0 ∷ 0 ∷ 1 ∷ 0 ∷ 0 ∷
    43 ∷ 23 ∷ 1 ∷ 79 ∷ 129 ∷ 0 ∷ 0 ∷ 0 ∷ 0 ∷ 0 ∷
    44 ∷ 24 ∷ 0 ∷ 81 ∷ 97 ∷ 0 ∷ 0 ∷ 0 ∷ 0 ∷ 0 ∷
    55 ∷ 25 ∷ 2 ∷ 82 ∷ 93 ∷ 0 ∷ 0 ∷ 0 ∷ 0 ∷ 0 ∷
    36 ∷ 26 ∷ 1 ∷ 82 ∷ 93 ∷ 0 ∷ 0 ∷ 9 ∷ 0 ∷ 0 ∷
    35 ∷ 25 ∷ 1 ∷ 96 ∷ 97 ∷ 0 ∷ 0 ∷ 0 ∷ 0 ∷ 0 ∷
    44 ∷ 24 ∷ 0 ∷ 99 ∷ 111 ∷ 0 ∷ 0 ∷ 0 ∷ 0 ∷ 0 ∷
    55 ∷ 29 ∷ 2 ∷ 99 ∷ 108 ∷ 0 ∷ 0 ∷ 0 ∷ 35 ∷ 9 ∷
    35 ∷ 29 ∷ 1 ∷ 110 ∷ 111 ∷ 0 ∷ 0 ∷ 0 ∷ 0 ∷ 0 ∷
    44 ∷ 24 ∷ 0 ∷ 113 ∷ 127 ∷ 0 ∷ 128 ∷ 0 ∷ 0 ∷ 0 ∷
    55 ∷ 32 ∷ 2 ∷ 113 ∷ 122 ∷ 0 ∷ 0 ∷ 0 ∷ 44 ∷ 9 ∷
    1 ∷ 32 ∷ 1 ∷ 122 ∷ 127 ∷ 0 ∷ 1024 ∷ 0 ∷ 0 ∷ 0 ∷
    55 ∷ 34 ∷ 0 ∷ 122 ∷ 124 ∷ 5 ∷ 0 ∷ 0 ∷ 0 ∷ 0 ∷
    4 ∷ 34 ∷ 3 ∷ 125 ∷ 127 ∷ 5 ∷ 0 ∷ 0 ∷ 0 ∷ 0 ∷ []

abbrev bytes : List ℕ
bytes = 67 ∷ 99 ∷ 111 ∷ 110 ∷ 115 ∷ 116 ∷ 114 ∷ 117 ∷ 99 ∷ 116 ∷ 111 ∷ 114 ∷ 112 ∷ 99 ∷ 111 ∷ 110 ∷ 115 ∷ 116 ∷ 114 ∷ 117 ∷ 99 ∷ 116 ∷ 111 ∷ 114 ∷ 99 ∷ 111 ∷ 110 ∷ 115 ∷ 116 ∷ 114 ∷ 117 ∷ 99 ∷ 116 ∷ 111 ∷ 114 ∷ 95 ∷ 95 ∷ 112 ∷ 114 ∷ 111 ∷ 116 ∷ 111 ∷ 95 ∷ 95 ∷ 95 ∷ 95 ∷ 112 ∷ 114 ∷ 111 ∷ 116 ∷ 111 ∷ 95 ∷ 95 ∷ []

-- the elements and properties in order: neither a ComputedPropertyName nor a PrivateIdentifier has a PropName
pub prop_names : map (prop_name table bytes) (4 ∷ 10 ∷ 12 ∷ 17 ∷ 25 ∷ 29 ∷ 32 ∷ []) ≡ [] ∷ [] ∷ constructor_word ∷ constructor_word ∷ [] ∷ word.proto ∷ word.proto ∷ []
unfolding prop_name key_name name_of first_node is_child upto range
prop_names = refl

-- a static method gives nothing to PrototypePropertyNameList
pub constructors : keep (names_constructor table bytes) (upto 0 37) ≡ 12 ∷ []
unfolding names_constructor prop_name key_name same name_of keep first_node is_child upto range
constructors = refl

-- a method is no "PropertyName : AssignmentExpression"
pub protos : keep (is_proto table bytes) (upto 0 37) ≡ 29 ∷ []
unfolding is_proto prop_name key_name same name_of keep first_node is_child upto range
protos = refl

-- ({[__proto__]: 1, [__proto__]: 2}) with the reference itself as key: it has its name, and the properties have none
abbrev references : List ℕ
references =
    0 ∷ 0 ∷ 0 ∷ 0 ∷ 34 ∷ 0 ∷ 0 ∷ 0 ∷ 0 ∷ 0 ∷
    22 ∷ 0 ∷ 3 ∷ 0 ∷ 34 ∷ 0 ∷ 0 ∷ 0 ∷ 0 ∷ 0 ∷
    55 ∷ 1 ∷ 0 ∷ 0 ∷ 34 ∷ 0 ∷ 0 ∷ 1 ∷ 0 ∷ 0 ∷
    43 ∷ 2 ∷ 1 ∷ 1 ∷ 33 ∷ 0 ∷ 0 ∷ 0 ∷ 0 ∷ 0 ∷
    44 ∷ 3 ∷ 0 ∷ 2 ∷ 16 ∷ 0 ∷ 0 ∷ 0 ∷ 0 ∷ 0 ∷
    32 ∷ 4 ∷ 2 ∷ 3 ∷ 12 ∷ 0 ∷ 0 ∷ 0 ∷ 35 ∷ 9 ∷
    35 ∷ 4 ∷ 1 ∷ 15 ∷ 16 ∷ 0 ∷ 0 ∷ 0 ∷ 0 ∷ 0 ∷
    44 ∷ 3 ∷ 0 ∷ 18 ∷ 32 ∷ 0 ∷ 0 ∷ 0 ∷ 0 ∷ 0 ∷
    32 ∷ 7 ∷ 2 ∷ 19 ∷ 28 ∷ 0 ∷ 0 ∷ 0 ∷ 35 ∷ 9 ∷
    35 ∷ 7 ∷ 1 ∷ 31 ∷ 32 ∷ 0 ∷ 0 ∷ 0 ∷ 0 ∷ 0 ∷ []

pub reference_names : map (name_of references bytes) (5 ∷ 8 ∷ []) ≡ word.proto ∷ word.proto ∷ []
unfolding name_of
reference_names = refl

pub reference_props : map (prop_name references bytes) (4 ∷ 7 ∷ []) ≡ [] ∷ [] ∷ []
unfolding prop_name key_name name_of first_node is_child upto range
reference_props = refl

-- the Rust's rule finds none either
pub reference_protos : keep (is_keyed_proto references bytes) (upto 0 10) ≡ []
unfolding is_keyed_proto same name_of keep first_node is_child upto range
reference_protos = refl
