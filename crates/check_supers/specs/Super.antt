-- Where `super` may stand: check_super, as a search through the scopes from that of the Super outward. "Failing" is where the Rust ends in `unreachable!` or a failed `unwrap`.
use Rattle.table_records.specs.declared.ClassId.{ClassId}
use Rattle.check_diagnostics.specs.declared.Finding.{Finding}
use Rattle.table_records.specs.declared.NodeId.{NodeId}
use Rattle.std.specs.Prelude.{ℕ, Bool, true, false, cond, not, ◌&&◌, ◌||◌, eqb, Option, Some, None}
use mathlib.Core.List.{List, [], ◌∷◌, foldr}
use Rattle.base_common.specs.Tests.{within}
use Rattle.base_walk.specs.On.{on}
use Rattle.table_records.specs.Table.{kind_of, parent_of, flags_of, extra_of, scope_of, count, ancestors, outer, scope_flags_of, scope_node_of, has_flag}
use Rattle.table_records.specs.Kinds as k
use Rattle.table_records.specs.Extras as extra
use Rattle.table_records.specs.NodeFlag as flag
use Rattle.table_records.specs.ScopeFlag as scope
use Rattle.table_children.specs.Children.{value_of, first_node, is_node}
use Rattle.check_diagnostics.specs.Finding.{error_at, error_between}
use Rattle.check_diagnostics.specs.Codes as code
use Rattle.check_class_table.specs.Classes.{body_above}
use Rattle.check_supers.specs.declared.Reach.{Reach}
use Rattle.check_supers.specs.declared.Reach.TheVariants.{Legal, Illegal, Underived, Fails}
use Rattle.check_supers.specs.declared.ElementPart.{ElementPart}
use Rattle.check_supers.specs.declared.ElementPart.TheVariants.{Value, Key}
use Rattle.check_supers.specs.declared.Step.{Step}
use Rattle.check_supers.specs.declared.Step.TheVariants.{Stop, Leave, On}

-- `super()` or `new super()`: the parent is a Call or a New
abbrev pub is_call : List ℕ → ℕ → Bool
is_call ns n = within (kind_of ns (parent_of ns n)) k.Call k.New

-- `super.foo` is legal here, `super()` is not
abbrev pub if_call : Bool → Reach
if_call call = cond call Illegal Legal

-- x is the value of a
unfoldable pub is_value_of : List ℕ → ℕ → ℕ → Bool
is_value_of ns a x = is_node (value_of ns a) x

-- x stands in the class element a: in the value of a property or accessor, or else in a computed key or decorator
unfoldable pub part_of : List ℕ → ℕ → ℕ → ElementPart
part_of ns a x = cond (eqb (kind_of ns a) k.MethodDefinition) Key (cond (is_value_of ns a x) Value Key)

-- the same of any node a, if it is a class element
unfoldable pub part_at : List ℕ → ℕ → ℕ → Option ElementPart
part_at ns a x = cond (within (kind_of ns a) k.MethodDefinition k.AccessorProperty) (Some (part_of ns a x)) None

-- in which part of the nearest class element above it a node stands: x goes over the node and its ancestors
unfoldable pub place_of : List ℕ → ℕ → Option ElementPart
place_of ns start =
    foldr (λ x r. cond (within (kind_of ns (parent_of ns x)) k.MethodDefinition k.AccessorProperty) (Some (part_of ns (parent_of ns x) x)) r) None (start ∷ ancestors ns start)

-- a property of an object that is a method, getter or setter
abbrev pub is_method_like : List ℕ → ℕ → Bool
is_method_like ns p = has_flag (flags_of ns p) flag.Method || not (eqb (extra_of ns p) extra.Init)

-- a call in the constructor of the class with this ClassBody: legal with heritage
abbrev pub heritage_use : List ℕ → ℕ → Reach
heritage_use ns b = cond (has_flag (flags_of ns (parent_of ns b)) flag.Heritage) Legal (Underived (record { 0 = parent_of ns b }))

-- Where no class is current the Rust asks class number 0, the first of the table: if that class is not around the Super, it fails.
abbrev pub first_class : List ℕ → Option NodeId
first_class ns = first_node (λ j. eqb (kind_of ns j) k.ClassBody) 0 (count ns)

abbrev pub dummy_use : List ℕ → ℕ → Option NodeId → Reach
dummy_use ns n (Some b) = cond (on (parent_of ns) (parent_of ns b.0) n) (heritage_use ns b.0) Fails
dummy_use ns n None = Fails

abbrev pub derived_use : List ℕ → ℕ → Option NodeId → Reach
derived_use ns n (Some b) = heritage_use ns b.0
derived_use ns n None = dummy_use ns n (first_class ns)

-- f under a property of an object: legal in the value of a method, getter or setter, where `super` may not be called
unfoldable pub object_use : List ℕ → Bool → ℕ → ℕ → Reach
object_use ns call p f = cond (is_method_like ns p) (cond (is_value_of ns p f) (if_call call) Illegal) Illegal

-- f under a method of a class: legal in its value, and a call only in a constructor
unfoldable pub method_use : List ℕ → ℕ → Bool → Option NodeId → ℕ → ℕ → Reach
method_use ns n call class p f =
    cond (is_value_of ns p f) (cond call (cond (eqb (extra_of ns p) extra.Constructor) (derived_use ns n class) Illegal) Legal) Illegal

-- The Super n is in the function f: by f's parent; the program has none, and the Rust fails.
unfoldable pub function_use : List ℕ → ℕ → Bool → Option NodeId → ℕ → Reach
function_use ns n call class f =
    cond (eqb f 0) Fails
    (cond (eqb (kind_of ns (parent_of ns f)) k.ObjectProperty) (object_use ns call (parent_of ns f) f)
    (cond (eqb (kind_of ns (parent_of ns f)) k.MethodDefinition) (method_use ns n call class (parent_of ns f) f)
    Illegal))

-- the ClassBody of the class that is current, if one is
abbrev pub body_of : Option ClassId → Option NodeId
body_of (Some c) = Some (record { 0 = c.0 })
body_of None = None

-- s is the scope of the class with this ClassBody
abbrev pub is_class_scope : List ℕ → Option NodeId → ℕ → Bool
is_class_scope ns (Some b) s = eqb s (extra_of ns (parent_of ns b.0))
is_class_scope ns None s = false

-- at the class's scope: by the part of the class element that holds the node from which the search came
abbrev pub at_class : Bool → Option ElementPart → Step
at_class call (Some Value) = Stop (if_call call)
at_class call (Some Key) = Leave
at_class call None = Stop Fails

-- at another scope: by its flags
abbrev pub scope_step : List ℕ → List ℕ → ℕ → Bool → Option NodeId → ℕ → Step
scope_step ns ss n call class s =
    cond (has_flag (scope_flags_of ss s) scope.StaticBlockScope) (Stop (if_call call))
    (cond (not (has_flag (scope_flags_of ss s) scope.FunctionScope)) On
    (cond (has_flag (scope_flags_of ss s) scope.ArrowScope) On
    (Stop (function_use ns n call class (scope_node_of ss s)))))

-- what scope s says; `start` is the node of the scope before it, at first the Super
unfoldable pub step_at : List ℕ → List ℕ → ℕ → Bool → Option NodeId → ℕ → ℕ → Step
step_at ns ss n call class start s = cond (is_class_scope ns class s) (at_class call (place_of ns start)) (scope_step ns ss n call class s)

-- leaving a class, the search goes on in the class around it
abbrev pub leave_class : List ℕ → Option NodeId → Option NodeId
leave_class ns (Some b) = body_above ns b.0
leave_class ns None = None

abbrev pub class_after : List ℕ → Option NodeId → Step → Option NodeId
class_after ns class Leave = leave_class ns class
class_after ns class On = class
class_after ns class (Stop r) = class

-- what a step that ends the search says, and else what the rest of the search does
abbrev pub or_rest : Step → Reach → Reach
or_rest (Stop r) rest = r
or_rest Leave rest = rest
or_rest On rest = rest

-- the search over scopes, nearest first; where they are spent, `super` is illegal
unfoldable pub reach_from : List ℕ → List ℕ → ℕ → Bool → List ℕ → Option NodeId → ℕ → Reach
reach_from ns ss n call [] class start = Illegal
reach_from ns ss n call (s ∷ rest) class start =
    or_rest (step_at ns ss n call class start s) (reach_from ns ss n call rest (class_after ns class (step_at ns ss n call class start s)) (scope_node_of ss s))

-- what is found of the Super n
unfoldable pub reach_of : List ℕ → List ℕ → ℕ → Reach
reach_of ns ss n = reach_from ns ss n (is_call ns n) (scope_of ns n ∷ outer ss (scope_of ns n)) (body_above ns n) n

-- refusal 6: "at its Super, a walk that the Rust ends in `unreachable!` or a failed `unwrap`"
abbrev pub is_fails : Reach → Bool
is_fails Fails = true
is_fails Legal = false
is_fails Illegal = false
is_fails (Underived c) = false

unfoldable pub fails_at : List ℕ → List ℕ → ℕ → Bool
fails_at ns ss n = eqb (kind_of ns n) k.Super && is_fails (reach_of ns ss n)

-- the finding: 28 at the Super and its class, 29 at the call, 30 at the Super
abbrev pub by_reach : List ℕ → ℕ → Reach → Option Finding
by_reach ns n Legal = None
by_reach ns n Illegal = cond (is_call ns n) (error_at ns code.unexpected_super_call n (parent_of ns n) 0) (error_at ns code.unexpected_super_reference n n 0)
by_reach ns n (Underived c) = error_between ns code.super_without_derived_class n n c.0
by_reach ns n Fails = None

unfoldable pub check_super : List ℕ → List ℕ → ℕ → Option Finding
check_super ns ss n = by_reach ns n (reach_of ns ss n)
