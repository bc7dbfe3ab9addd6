-- THE RULES AS THE RUST HAS THEM, where they are not the standard's, and the conditions on which they are: codes 28 to 30.
-- Those where the scopes are not the tree's stand in SupersByScopes.
use Rattle.std.specs.Prelude.{ℕ, ◌<◌, ◌≡◌, List, Bool, true, false, not, ◌&&◌, eqb}
use Rattle.base_common.specs.Tests.{within}
use Rattle.table_records.specs.Table.{kind_of, parent_of, count}
use Rattle.table_records.specs.Kinds as k
use Rattle.ecma_base.specs.Telling.{Telling, async_or_generator}
use Rattle.ecma_elements.specs.ClassElements.{names_constructor, constructor_twice}
use Rattle.ecma_elements.specs.Changed.{is_table_constructor, called_constructor}
use Rattle.ecma_supers.specs.Supers.{is_super_call, is_method, is_constructor_method, is_bare, bars_property, class_of, unit}

-- 28 to 30: `super`

-- CHANGED RULE: 28 asks each constructor, not ConstructorMethod of ClassBody alone, which is the first: so of a class that has two (27) the second too
abbrev pub each_bare : List ℕ → List ℕ → ℕ → Bool
each_bare ns names n = is_super_call ns n && is_bare ns (names_constructor ns names) (unit ns n)

-- CONDITION: the class of a method has not two, as 15.7.1 wants; no class has
abbrev pub OneInClass : List ℕ → List ℕ → ℕ → Type 0
OneInClass ns names u = is_method ns u ≡ true → constructor_twice ns names (class_of ns u) ≡ false

abbrev pub OneConstructor : List ℕ → List ℕ → Type 0
OneConstructor ns names = (n : ℕ) → n < count ns → constructor_twice ns names n ≡ false

-- `new super()` is taken for a call, and every other Super for a SuperProperty
unfoldable pub is_table_call : List ℕ → ℕ → Bool
is_table_call ns n = eqb (kind_of ns n) k.Super && within (kind_of ns (parent_of ns n)) k.Call k.New

unfoldable pub is_table_property : List ℕ → ℕ → Bool
is_table_property ns n = eqb (kind_of ns n) k.Super && not (within (kind_of ns (parent_of ns n)) k.Call k.New)

-- CHANGED RULES: by these, and by what the table calls a constructor, not by the name; what is async or a generator isn't asked. 28: a call in a constructor of a class without heritage ..
abbrev pub table_bare : List ℕ → ℕ → Bool
table_bare ns n = is_table_call ns n && is_bare ns (is_table_constructor ns) (unit ns n)

-- .. 29: a call in no constructor ..
abbrev pub table_stray : List ℕ → ℕ → Bool
table_stray ns n = is_table_call ns n && not (is_constructor_method ns (is_table_constructor ns) (unit ns n))

-- .. 30: any other Super where the standard bars a SuperProperty
abbrev pub table_property : List ℕ → ℕ → Bool
table_property ns n = is_table_property ns n && bars_property ns (unit ns n)

-- CONDITION of 28 and 29: no `new super()`
abbrev pub CallStands : List ℕ → ℕ → Type 0
CallStands ns n = kind_of ns n ≡ k.Super → kind_of ns (parent_of ns n) ≡ k.New → ⊥

-- CONDITION of 30: a Super stands in a call, a `new` or a member expression
abbrev pub PropertyStands : List ℕ → ℕ → Type 0
PropertyStands ns n = kind_of ns n ≡ k.Super → within (kind_of ns (parent_of ns n)) k.Call k.OtherMember ≡ true

-- both, of each Super
abbrev pub SupersStand : List ℕ → Type 0
SupersStand ns = (n : ℕ) → n < count ns → CallStands ns n × PropertyStands ns n

-- CONDITION: the table calls a method of a class a constructor just where it is called "constructor" and is neither async nor a generator; so of each
abbrev pub MethodNamed : Telling → List ℕ → List ℕ → ℕ → Type 0
MethodNamed told ns names u = is_method ns u ≡ true → is_table_constructor ns (parent_of ns u) ≡ (called_constructor ns names (parent_of ns u) && not (async_or_generator told u))

abbrev pub MethodsNamed : Telling → List ℕ → List ℕ → Type 0
MethodsNamed told ns names = (u : ℕ) → u < count ns → MethodNamed told ns names u

-- CONDITION: a method called "constructor" is neither async nor a generator; else 28 may be broken too (15.7.1), and the Rust raises 29 alone; so of each
abbrev pub ConstructorOrdinary : Telling → List ℕ → List ℕ → ℕ → Type 0
ConstructorOrdinary told ns names u = is_method ns u ≡ true → called_constructor ns names (parent_of ns u) ≡ true → async_or_generator told u ≡ false

abbrev pub ConstructorsOrdinary : Telling → List ℕ → List ℕ → Type 0
ConstructorsOrdinary told ns names = (u : ℕ) → u < count ns → ConstructorOrdinary told ns names u
