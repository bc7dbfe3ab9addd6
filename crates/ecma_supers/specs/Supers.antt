-- ECMA-262, where `super` may stand: 8.5.1 Static Semantics: Contains, 15.4.2 Static Semantics: HasDirectSuper, and the early errors that name SuperCall or SuperProperty.
use Rattle.std.specs.Prelude.{ℕ, List, Bool, not, ◌&&◌, ◌||◌, eqb}
use Rattle.base_common.specs.Tests.{within}
use Rattle.table_records.specs.Table.{kind_of, parent_of, flags_of, extra_of, has_flag}
use Rattle.table_records.specs.Kinds as k
use Rattle.table_records.specs.Extras as extra
use Rattle.table_records.specs.NodeFlag as flag
use Rattle.table_children.specs.Children.{value_of, is_node}
use Rattle.ecma_trees.specs.Trail.{unit_of}
use Rattle.ecma_base.specs.Telling.{Telling, async_or_generator}
use Rattle.ecma_base.specs.Contains.{initializer, contains_in}
use Rattle.ecma_elements.specs.ClassElements.{names_constructor, is_first_constructor}

-- "SuperCall : super Arguments", "SuperProperty : super [ Expression ]" and "super . IdentifierName"
unfoldable pub is_super_call : List ℕ → ℕ → Bool
is_super_call ns n = eqb (kind_of ns n) k.Super && eqb (kind_of ns (parent_of ns n)) k.Call

unfoldable pub is_super_property : List ℕ → ℕ → Bool
is_super_property ns n = eqb (kind_of ns n) k.Super && eqb (kind_of ns (parent_of ns n)) k.OtherMember

-- What Contains does not look into for these (8.5.1, 8.5.2 ComputedPropertyContains) begins a unit: FormalParameters and FunctionBody of a function, ClassStaticBlockStatementList,
-- the Initializer of a field. It looks into arrow functions, a ClassHeritage and computed keys. The program's StatementList or ModuleItemList is the outermost unit.
unfoldable pub begins : List ℕ → ℕ → ℕ → Bool
begins ns i j =
    eqb i 0
    || (eqb (kind_of ns i) k.Function
    || (eqb (kind_of ns i) k.StaticBlock || initializer ns i j))

-- 8.5.1 Contains, of the parts with which u begins a unit; of a MethodDefinition's function and SuperCall, it is 15.4.2 HasDirectSuper
abbrev pub unit_contains : List ℕ → (ℕ → Bool) → ℕ → Bool
unit_contains ns sought u = contains_in ns sought (begins ns) u

-- THE PRODUCTIONS: a function is that of a MethodDefinition of a class ..
unfoldable pub is_method : List ℕ → ℕ → Bool
is_method ns u = eqb (kind_of ns u) k.Function && (eqb (kind_of ns (parent_of ns u)) k.MethodDefinition && is_node (value_of ns (parent_of ns u)) u)

-- .. or of an object; or it is of none: FunctionDeclaration, FunctionExpression and the like
unfoldable pub is_object_method : List ℕ → ℕ → Bool
is_object_method ns u =
    eqb (kind_of ns u) k.Function
    && (eqb (kind_of ns (parent_of ns u)) k.ObjectProperty
    && ((has_flag (flags_of ns (parent_of ns u)) flag.Method || not (eqb (extra_of ns (parent_of ns u)) extra.Init)) && is_node (value_of ns (parent_of ns u)) u))

abbrev pub is_plain_function : List ℕ → ℕ → Bool
is_plain_function ns u = eqb (kind_of ns u) k.Function && not (is_method ns u || is_object_method ns u)

-- ClassStaticBlockBody, FieldDefinition
abbrev pub is_block_or_field : List ℕ → ℕ → Bool
is_block_or_field ns u = eqb (kind_of ns u) k.StaticBlock || within (kind_of ns u) k.PropertyDefinition k.AccessorProperty

-- the class around method, ClassBody and Class, and its ClassHeritage
abbrev pub class_of : List ℕ → ℕ → ℕ
class_of ns u = parent_of ns (parent_of ns (parent_of ns u))

unfoldable pub has_heritage : List ℕ → ℕ → Bool
has_heritage ns u = has_flag (flags_of ns (class_of ns u)) flag.Heritage

-- a method of a class that is a constructor, by what `constructs` says of MethodDefinitions: a parameter, so that changed rules are stated by the same definitions
unfoldable pub is_constructor_method : List ℕ → (ℕ → Bool) → ℕ → Bool
is_constructor_method ns constructs u = is_method ns u && constructs (parent_of ns u)

-- THE EARLY ERRORS, production by production: the units that may not contain a SuperCall, or a SuperProperty. A SuperCall:
-- 15.7.1, "ClassTail : ClassHeritage opt { ClassBody }": "ClassHeritage is not present and .. HasDirectSuper of constructor"
unfoldable pub is_bare : List ℕ → (ℕ → Bool) → ℕ → Bool
is_bare ns constructs u = is_constructor_method ns constructs u && not (has_heritage ns u)

-- all other productions that speak of it
unfoldable pub bars_call : Telling → List ℕ → List ℕ → ℕ → Bool
bars_call told ns names u =
    -- 16.1.1 ScriptBody, 16.2.1.1 ModuleBody: "Contains super"
    eqb u 0
    -- 15.7.1 ClassStaticBlockBody, FieldDefinition: "ClassStaticBlockStatementList Contains SuperCall", "Initializer Contains SuperCall"
    || (is_block_or_field ns u
    -- 13.2.5.1 PropertyDefinition : MethodDefinition: "HasDirectSuper of MethodDefinition"
    || (is_object_method ns u
    -- 15.7.1 ClassElement : MethodDefinition: "PropName of MethodDefinition is not "constructor" and HasDirectSuper of MethodDefinition"; static MethodDefinition: "HasDirectSuper of MethodDefinition"
    || ((is_method ns u && not (names_constructor ns names (parent_of ns u)))
    -- 15.5.1 GeneratorMethod, 15.6.1 AsyncGeneratorMethod, 15.8.1 AsyncMethod: "HasDirectSuper of GeneratorMethod" and so on
    || (((is_method ns u || is_object_method ns u) && async_or_generator told u)
    -- 15.2.1, 15.5.1, 15.6.1, 15.8.1, functions: "FormalParameters Contains SuperCall", "FunctionBody Contains SuperCall"
    || is_plain_function ns u))))

-- a SuperProperty
unfoldable pub bars_property : List ℕ → ℕ → Bool
bars_property ns u =
    -- 16.1.1 ScriptBody, 16.2.1.1 ModuleBody: "Contains super"
    eqb u 0
    -- 15.2.1, 15.5.1, 15.6.1, 15.8.1, functions: "FormalParameters Contains SuperProperty", "FunctionBody Contains SuperProperty"
    || is_plain_function ns u

-- u breaks one of them. ClassTail: "Let constructor be ConstructorMethod of ClassBody" ..
abbrev pub bare_error : List ℕ → List ℕ → ℕ → Bool
bare_error ns names u = is_bare ns (is_first_constructor ns names) u && unit_contains ns (is_super_call ns) u

-- .. the others on SuperCall ..
abbrev pub call_error : Telling → List ℕ → List ℕ → ℕ → Bool
call_error told ns names u = bars_call told ns names u && unit_contains ns (is_super_call ns) u

-- .. those on SuperProperty ..
abbrev pub property_error : List ℕ → ℕ → Bool
property_error ns u = bars_property ns u && unit_contains ns (is_super_property ns) u

-- .. any
abbrev pub super_error : Telling → List ℕ → List ℕ → ℕ → Bool
super_error told ns names u = bare_error ns names u || (call_error told ns names u || property_error ns u)

-- THE RULE AT THE SUPER: it is a SuperCall or a SuperProperty, and its unit may not contain one. A unit breaks an error just where one of its Supers does.
abbrev pub unit : List ℕ → ℕ → ℕ
unit ns n = unit_of ns (begins ns) n

abbrev pub standard_bare : List ℕ → List ℕ → ℕ → Bool
standard_bare ns names n = is_super_call ns n && is_bare ns (is_first_constructor ns names) (unit ns n)

abbrev pub standard_stray : Telling → List ℕ → List ℕ → ℕ → Bool
standard_stray told ns names n = is_super_call ns n && bars_call told ns names (unit ns n)

abbrev pub standard_property : List ℕ → ℕ → Bool
standard_property ns n = is_super_property ns n && bars_property ns (unit ns n)
