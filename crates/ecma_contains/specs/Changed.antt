-- THE RULES AS THE RUST HAS THEM, where they are not the standard's, and the conditions on which they are: those of the file Contains.
use Rattle.std.specs.Prelude.{ℕ, ◌≡◌, Bool, true, false, cond, not, ◌&&◌, ◌||◌, eqb}
use mathlib.Core.List.{List, ◌∷◌, foldr}
use Rattle.base_common.specs.Tests.{within}
use Rattle.table_records.specs.Table.{kind_of, scope_of, scope_flags_of, outer, has_flag}
use Rattle.table_records.specs.Kinds as k
use Rattle.table_records.specs.ScopeFlag as scope
use Rattle.table_children.specs.Children.{value_of, is_node}
use Rattle.ecma_trees.specs.Trail.{unit_of}
use Rattle.ecma_base.specs.Strict.{strict_code}
use Rattle.ecma_base.specs.Contains.{initializer}
use Rattle.ecma_base.specs.Scopes.{scopes_follow}
use Rattle.ecma_names.specs.Identifiers.{assigns_eval}
use Rattle.ecma_contains.specs.Contains.{unbound, arguments_reference, parameter, await_or_yield, lexical_declaration, let_name, let_bound, arguments_in_class}

-- 3, 5, 6, 14, 25, 33: what goes down

-- The standard's rules by the way up from a node (NodeRules): the nearest place where one of their operations begins or ends is one where it begins.
abbrev pub await_edge : List ℕ → ℕ → ℕ → Bool
await_edge ns i j = within (kind_of ns i) k.Program k.StaticBlock || initializer ns i j

abbrev pub arguments_edge : List ℕ → ℕ → ℕ → Bool
arguments_edge ns i j = (within (kind_of ns i) k.Program k.Function || eqb (kind_of ns i) k.StaticBlock) || initializer ns i j

abbrev pub arguments_home : List ℕ → ℕ → Bool
arguments_home ns u = eqb (kind_of ns u) k.StaticBlock || within (kind_of ns u) k.PropertyDefinition k.AccessorProperty

abbrev pub parameter_edge : List ℕ → ℕ → ℕ → Bool
parameter_edge ns i j = (within (kind_of ns i) k.Program k.StaticBlock || parameter ns i) || initializer ns i j

abbrev pub bound_edge : List ℕ → ℕ → ℕ → Bool
bound_edge ns i j = (within (kind_of ns i) k.Program k.Arrow || eqb (kind_of ns i) k.VariableDeclaration) || unbound ns i j

-- 3, 14, 25 go by scopes: among the scope of n and those around it, nearest first, that of a static block comes before that of a function
unfoldable pub scoped_in_block : List ℕ → List ℕ → ℕ → Bool
scoped_in_block ns ss n =
    foldr (λ t r. cond (has_flag (scope_flags_of ss t) scope.StaticBlockScope) true (cond (has_flag (scope_flags_of ss t) scope.FunctionScope) false r)) false (scope_of ns n ∷ outer ss (scope_of ns n))

-- where they agree: the scopes follow the tree, and where they say that n is in a static block, no Initializer of a field stands between the block and n
pub record BlockTold (ns ss : List ℕ) (n : ℕ) : Type 0 where
  pub follow : scopes_follow ns ss ≡ true
  pub field : scoped_in_block ns ss n ≡ true → within (kind_of ns (unit_of ns (await_edge ns) n)) k.PropertyDefinition k.AccessorProperty ≡ false

-- 5: not in strict code, where 2 is raised; and what stands in an Initializer or a PropertyName counts as bound, if in no function and no arrow (of names, that of a class, whose code is strict)
abbrev pub let_edge : List ℕ → ℕ → ℕ → Bool
let_edge ns i j = within (kind_of ns i) k.Program k.Arrow || eqb (kind_of ns i) k.VariableDeclaration

unfoldable pub let_bound_said : List ℕ → List ℕ → List ℕ → ℕ → Bool
let_bound_said ns ss names n = let_name ns names n && (not (strict_code ns ss n) && lexical_declaration ns (unit_of ns (let_edge ns) n))

-- where they agree: a `let` that is bound stands in sloppy code, and on the way up from one of which the Rust's rule says an error, a declaration comes before any Initializer or PropertyName
pub record LetTold (ns ss names : List ℕ) (n : ℕ) : Type 0 where
  pub sloppy : let_bound ns names n ≡ true → strict_code ns ss n ≡ false
  pub declared : let_bound_said ns ss names n ≡ true → eqb (kind_of ns (unit_of ns (bound_edge ns) n)) k.VariableDeclaration ≡ true

-- 6: the Initializer of an auto-accessor is passed over; and a reference at which 4 is raised is left
abbrev pub field_edge : List ℕ → ℕ → ℕ → Bool
field_edge ns i j = (within (kind_of ns i) k.Program k.Function || eqb (kind_of ns i) k.StaticBlock) || (eqb (kind_of ns i) k.PropertyDefinition && is_node (value_of ns i) j)

abbrev pub field_home : List ℕ → ℕ → Bool
field_home ns u = eqb (kind_of ns u) k.StaticBlock || eqb (kind_of ns u) k.PropertyDefinition

unfoldable pub arguments_said : List ℕ → List ℕ → List ℕ → ℕ → Bool
arguments_said ns ss names n = arguments_reference ns names n && (not (assigns_eval ns ss names n) && field_home ns (unit_of ns (field_edge ns) n))

-- where they agree: an `arguments` that breaks the rule is not assigned to in strict code, and stands in no auto-accessor
pub record ArgumentsTold (ns ss names : List ℕ) (n : ℕ) : Type 0 where
  pub read : arguments_in_class ns names n ≡ true → assigns_eval ns ss names n ≡ false
  pub field : arguments_in_class ns names n ≡ true → eqb (kind_of ns (unit_of ns (arguments_edge ns) n)) k.AccessorProperty ≡ false

-- 33: static blocks and the Initializers of fields within a parameter count as its parts
abbrev pub through_class_edge : List ℕ → ℕ → ℕ → Bool
through_class_edge ns i j = within (kind_of ns i) k.Program k.Arrow || parameter ns i

unfoldable pub await_in_parameter_said : List ℕ → ℕ → Bool
await_in_parameter_said ns n = await_or_yield ns n && parameter ns (unit_of ns (through_class_edge ns) n)

-- where they agree: where the Rust's rule says an error, neither a static block nor the Initializer of a field stands between the parameter and n
abbrev pub class_part : List ℕ → ℕ → Bool
class_part ns u = eqb (kind_of ns u) k.StaticBlock || within (kind_of ns u) k.PropertyDefinition k.AccessorProperty

abbrev pub ParameterTold : List ℕ → ℕ → Type 0
ParameterTold ns n = await_in_parameter_said ns n ≡ true → class_part ns (unit_of ns (parameter_edge ns) n) ≡ false
