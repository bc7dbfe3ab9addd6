-- Texts of which the rules are told apart, as the tree maker writes them: what the standard's rule says at a node, and what the Rust's. Names.
use Rattle.std.specs.Prelude.{◌≡◌, refl, [], ◌∷◌, map, true, false}
use Rattle.table_names.specs.Name.{same, name_of}
use Rattle.base_walk.specs.Above.{above, climb}
use Rattle.base_common.specs.Upto.{upto, range}
use Rattle.table_children.specs.Children.{keep, children, is_child, first_node}
use Rattle.ecma_trees.specs.Rose.{kids, others, forest, parts_of}
use Rattle.ecma_trees.specs.Trail as trails
use Rattle.ecma_base.specs.Telling.{ordinary}
use Rattle.ecma_base.specs.Scopes.{follows_at, flagged_at, class_at, scopes_follow}
use Rattle.ecma_names.specs.Identifiers.{assigns_eval, identifier_error}
use Rattle.ecma_contains.specs.BoundNames.{bound_names, bound_names_of}
use Rattle.ecma_contains.specs.Contains.{await_in_block, arguments_in_class, await_in_parameter, unbound, let_bound}
use Rattle.ecma_contains.specs.Changed.{scoped_in_block, let_bound_said, arguments_said, await_in_parameter_said}
use Rattle.ecma_names.specs.Changed.{await_name_scoped, reserved_name}
use Rattle.ecma_names.specs.Parameters.{await_parameter}
use Rattle.ecma_strict.specs.ExampleTrees.{Tree, async_at, generator_at}

-- `class C { static { { await; } } }`
abbrev block_name_tree : Tree
block_name_tree = record {
  nodes =
      0 ∷ 0 ∷ 0 ∷ 0 ∷ 33 ∷ 0 ∷ 0 ∷ 0 ∷ 0 ∷ 0
      ∷ 26 ∷ 0 ∷ 3 ∷ 0 ∷ 33 ∷ 0 ∷ 544 ∷ 1 ∷ 0 ∷ 0
      ∷ 31 ∷ 1 ∷ 0 ∷ 6 ∷ 7 ∷ 1 ∷ 0 ∷ 0 ∷ 0 ∷ 1
      ∷ 27 ∷ 1 ∷ 3 ∷ 8 ∷ 33 ∷ 1 ∷ 0 ∷ 0 ∷ 0 ∷ 0
      ∷ 3 ∷ 3 ∷ 0 ∷ 10 ∷ 31 ∷ 1 ∷ 0 ∷ 0 ∷ 0 ∷ 0
      ∷ 5 ∷ 4 ∷ 3 ∷ 19 ∷ 29 ∷ 2 ∷ 0 ∷ 0 ∷ 0 ∷ 0
      ∷ 22 ∷ 5 ∷ 3 ∷ 21 ∷ 27 ∷ 3 ∷ 0 ∷ 0 ∷ 0 ∷ 0
      ∷ 32 ∷ 6 ∷ 0 ∷ 21 ∷ 26 ∷ 3 ∷ 0 ∷ 0 ∷ 1 ∷ 5
      ∷ [];
  scopes = 0 ∷ 2 ∷ 0 ∷ 0 ∷ 1 ∷ 1 ∷ 1 ∷ 17 ∷ 4 ∷ 2 ∷ 1 ∷ 5 ∷ [];
  names = 67 ∷ 97 ∷ 119 ∷ 97 ∷ 105 ∷ 116 ∷ [];
  source = [];
}

-- 13.1.1: `await` is no name in a static block; the Rust looks at the name's own scope only
pub block_name : identifier_error ordinary 0 block_name_tree.nodes block_name_tree.scopes block_name_tree.names 7 ∷ await_name_scoped 0 block_name_tree.nodes block_name_tree.scopes block_name_tree.names 7 ∷ [] ≡ true ∷ false ∷ []
unfolding identifier_error await_name_scoped same name_of above climb upto range keep children is_child first_node kids others forest parts_of trails.climb trails.trail
block_name = refl

-- `class C { static { (x = await) => 1; } }`
abbrev arrow_parameter_tree : Tree
arrow_parameter_tree = record {
  nodes =
      0 ∷ 0 ∷ 0 ∷ 0 ∷ 40 ∷ 0 ∷ 0 ∷ 0 ∷ 0 ∷ 0
      ∷ 26 ∷ 0 ∷ 3 ∷ 0 ∷ 40 ∷ 0 ∷ 544 ∷ 1 ∷ 0 ∷ 0
      ∷ 31 ∷ 1 ∷ 0 ∷ 6 ∷ 7 ∷ 1 ∷ 0 ∷ 0 ∷ 0 ∷ 1
      ∷ 27 ∷ 1 ∷ 3 ∷ 8 ∷ 40 ∷ 1 ∷ 0 ∷ 0 ∷ 0 ∷ 0
      ∷ 3 ∷ 3 ∷ 0 ∷ 10 ∷ 38 ∷ 1 ∷ 0 ∷ 0 ∷ 0 ∷ 0
      ∷ 22 ∷ 4 ∷ 3 ∷ 19 ∷ 36 ∷ 2 ∷ 0 ∷ 0 ∷ 0 ∷ 0
      ∷ 2 ∷ 5 ∷ 0 ∷ 19 ∷ 35 ∷ 2 ∷ 0 ∷ 0 ∷ 0 ∷ 0
      ∷ 55 ∷ 6 ∷ 0 ∷ 19 ∷ 30 ∷ 3 ∷ 0 ∷ 0 ∷ 0 ∷ 0
      ∷ 49 ∷ 7 ∷ 0 ∷ 20 ∷ 29 ∷ 3 ∷ 256 ∷ 0 ∷ 0 ∷ 0
      ∷ 31 ∷ 8 ∷ 0 ∷ 20 ∷ 21 ∷ 3 ∷ 0 ∷ 0 ∷ 1 ∷ 1
      ∷ 32 ∷ 8 ∷ 1 ∷ 24 ∷ 29 ∷ 3 ∷ 0 ∷ 0 ∷ 2 ∷ 5
      ∷ 4 ∷ 6 ∷ 3 ∷ 34 ∷ 35 ∷ 3 ∷ 0 ∷ 0 ∷ 0 ∷ 0
      ∷ 22 ∷ 11 ∷ 3 ∷ 34 ∷ 35 ∷ 3 ∷ 0 ∷ 0 ∷ 0 ∷ 0
      ∷ 35 ∷ 12 ∷ 0 ∷ 34 ∷ 35 ∷ 3 ∷ 0 ∷ 0 ∷ 0 ∷ 0
      ∷ [];
  scopes = 0 ∷ 2 ∷ 0 ∷ 0 ∷ 1 ∷ 1 ∷ 1 ∷ 17 ∷ 4 ∷ 2 ∷ 13 ∷ 6 ∷ [];
  names = 67 ∷ 120 ∷ 97 ∷ 119 ∷ 97 ∷ 105 ∷ 116 ∷ [];
  source = [];
}

-- 13.1.1: nor in the parameters of an arrow
pub arrow_parameter : identifier_error ordinary 0 arrow_parameter_tree.nodes arrow_parameter_tree.scopes arrow_parameter_tree.names 10 ∷ await_name_scoped 0 arrow_parameter_tree.nodes arrow_parameter_tree.scopes arrow_parameter_tree.names 10 ∷ [] ≡ true ∷ false ∷ []
unfolding identifier_error await_name_scoped same name_of above climb upto range keep children is_child first_node kids others forest parts_of trails.climb trails.trail
arrow_parameter = refl

-- `class C { static { () => await; } }`
abbrev arrow_body_tree : Tree
arrow_body_tree = record {
  nodes =
      0 ∷ 0 ∷ 0 ∷ 0 ∷ 35 ∷ 0 ∷ 0 ∷ 0 ∷ 0 ∷ 0
      ∷ 26 ∷ 0 ∷ 3 ∷ 0 ∷ 35 ∷ 0 ∷ 544 ∷ 1 ∷ 0 ∷ 0
      ∷ 31 ∷ 1 ∷ 0 ∷ 6 ∷ 7 ∷ 1 ∷ 0 ∷ 0 ∷ 0 ∷ 1
      ∷ 27 ∷ 1 ∷ 3 ∷ 8 ∷ 35 ∷ 1 ∷ 0 ∷ 0 ∷ 0 ∷ 0
      ∷ 3 ∷ 3 ∷ 0 ∷ 10 ∷ 33 ∷ 1 ∷ 0 ∷ 0 ∷ 0 ∷ 0
      ∷ 22 ∷ 4 ∷ 3 ∷ 19 ∷ 31 ∷ 2 ∷ 0 ∷ 0 ∷ 0 ∷ 0
      ∷ 2 ∷ 5 ∷ 0 ∷ 19 ∷ 30 ∷ 2 ∷ 1024 ∷ 0 ∷ 0 ∷ 0
      ∷ 55 ∷ 6 ∷ 0 ∷ 19 ∷ 21 ∷ 3 ∷ 0 ∷ 0 ∷ 0 ∷ 0
      ∷ 4 ∷ 6 ∷ 3 ∷ 25 ∷ 30 ∷ 3 ∷ 0 ∷ 0 ∷ 0 ∷ 0
      ∷ 22 ∷ 8 ∷ 3 ∷ 25 ∷ 30 ∷ 3 ∷ 0 ∷ 0 ∷ 0 ∷ 0
      ∷ 32 ∷ 9 ∷ 0 ∷ 25 ∷ 30 ∷ 3 ∷ 0 ∷ 0 ∷ 1 ∷ 5
      ∷ [];
  scopes = 0 ∷ 2 ∷ 0 ∷ 0 ∷ 1 ∷ 1 ∷ 1 ∷ 17 ∷ 4 ∷ 2 ∷ 13 ∷ 6 ∷ [];
  names = 67 ∷ 97 ∷ 119 ∷ 97 ∷ 105 ∷ 116 ∷ [];
  source = [];
}

-- 13.1.1: but in its body it is
pub arrow_body : identifier_error ordinary 0 arrow_body_tree.nodes arrow_body_tree.scopes arrow_body_tree.names 10 ∷ await_name_scoped 0 arrow_body_tree.nodes arrow_body_tree.scopes arrow_body_tree.names 10 ∷ [] ≡ false ∷ false ∷ []
unfolding identifier_error await_name_scoped same name_of above climb upto range keep children is_child first_node kids others forest parts_of trails.climb trails.trail
arrow_body = refl

-- `class C { static { function await() {} } }`
abbrev function_name_tree : Tree
function_name_tree = record {
  nodes =
      0 ∷ 0 ∷ 0 ∷ 0 ∷ 42 ∷ 0 ∷ 0 ∷ 0 ∷ 0 ∷ 0
      ∷ 26 ∷ 0 ∷ 3 ∷ 0 ∷ 42 ∷ 0 ∷ 544 ∷ 1 ∷ 0 ∷ 0
      ∷ 31 ∷ 1 ∷ 0 ∷ 6 ∷ 7 ∷ 1 ∷ 0 ∷ 0 ∷ 0 ∷ 1
      ∷ 27 ∷ 1 ∷ 3 ∷ 8 ∷ 42 ∷ 1 ∷ 0 ∷ 0 ∷ 0 ∷ 0
      ∷ 3 ∷ 3 ∷ 0 ∷ 10 ∷ 40 ∷ 1 ∷ 0 ∷ 0 ∷ 0 ∷ 0
      ∷ 1 ∷ 4 ∷ 3 ∷ 19 ∷ 38 ∷ 2 ∷ 1568 ∷ 0 ∷ 0 ∷ 0
      ∷ 31 ∷ 5 ∷ 0 ∷ 28 ∷ 33 ∷ 3 ∷ 0 ∷ 0 ∷ 1 ∷ 5
      ∷ 55 ∷ 5 ∷ 0 ∷ 33 ∷ 35 ∷ 3 ∷ 0 ∷ 0 ∷ 0 ∷ 0
      ∷ 4 ∷ 5 ∷ 3 ∷ 36 ∷ 38 ∷ 3 ∷ 0 ∷ 0 ∷ 0 ∷ 0
      ∷ [];
  scopes = 0 ∷ 2 ∷ 0 ∷ 0 ∷ 1 ∷ 1 ∷ 1 ∷ 17 ∷ 4 ∷ 2 ∷ 5 ∷ 5 ∷ [];
  names = 67 ∷ 97 ∷ 119 ∷ 97 ∷ 105 ∷ 116 ∷ [];
  source = [];
}

-- 13.1.1: nor as the name of a function declaration
pub function_name : identifier_error ordinary 0 function_name_tree.nodes function_name_tree.scopes function_name_tree.names 6 ∷ await_name_scoped 0 function_name_tree.nodes function_name_tree.scopes function_name_tree.names 6 ∷ [] ≡ true ∷ false ∷ []
unfolding identifier_error await_name_scoped same name_of above climb upto range keep children is_child first_node kids others forest parts_of trails.climb trails.trail
function_name = refl

-- `class C { static { (function await() {}); } }`
abbrev expression_name_tree : Tree
expression_name_tree = record {
  nodes =
      0 ∷ 0 ∷ 0 ∷ 0 ∷ 45 ∷ 0 ∷ 0 ∷ 0 ∷ 0 ∷ 0
      ∷ 26 ∷ 0 ∷ 3 ∷ 0 ∷ 45 ∷ 0 ∷ 544 ∷ 1 ∷ 0 ∷ 0
      ∷ 31 ∷ 1 ∷ 0 ∷ 6 ∷ 7 ∷ 1 ∷ 0 ∷ 0 ∷ 0 ∷ 1
      ∷ 27 ∷ 1 ∷ 3 ∷ 8 ∷ 45 ∷ 1 ∷ 0 ∷ 0 ∷ 0 ∷ 0
      ∷ 3 ∷ 3 ∷ 0 ∷ 10 ∷ 43 ∷ 1 ∷ 0 ∷ 0 ∷ 0 ∷ 0
      ∷ 22 ∷ 4 ∷ 3 ∷ 19 ∷ 41 ∷ 2 ∷ 0 ∷ 0 ∷ 0 ∷ 0
      ∷ 55 ∷ 5 ∷ 0 ∷ 19 ∷ 40 ∷ 2 ∷ 0 ∷ 1 ∷ 0 ∷ 0
      ∷ 1 ∷ 6 ∷ 1 ∷ 20 ∷ 39 ∷ 2 ∷ 1536 ∷ 0 ∷ 0 ∷ 0
      ∷ 31 ∷ 7 ∷ 0 ∷ 29 ∷ 34 ∷ 3 ∷ 0 ∷ 0 ∷ 1 ∷ 5
      ∷ 55 ∷ 7 ∷ 0 ∷ 34 ∷ 36 ∷ 3 ∷ 0 ∷ 0 ∷ 0 ∷ 0
      ∷ 4 ∷ 7 ∷ 3 ∷ 37 ∷ 39 ∷ 3 ∷ 0 ∷ 0 ∷ 0 ∷ 0
      ∷ [];
  scopes = 0 ∷ 2 ∷ 0 ∷ 0 ∷ 1 ∷ 1 ∷ 1 ∷ 17 ∷ 4 ∷ 2 ∷ 5 ∷ 7 ∷ [];
  names = 67 ∷ 97 ∷ 119 ∷ 97 ∷ 105 ∷ 116 ∷ [];
  source = [];
}

-- 13.1.1: but of a function expression
pub expression_name : identifier_error ordinary 0 expression_name_tree.nodes expression_name_tree.scopes expression_name_tree.names 8 ∷ await_name_scoped 0 expression_name_tree.nodes expression_name_tree.scopes expression_name_tree.names 8 ∷ [] ≡ false ∷ false ∷ []
unfolding identifier_error await_name_scoped same name_of above climb upto range keep children is_child first_node kids others forest parts_of trails.climb trails.trail
expression_name = refl

-- `function* g() { var yield; }`
abbrev generator_tree : Tree
generator_tree = record {
  nodes =
      0 ∷ 0 ∷ 0 ∷ 0 ∷ 28 ∷ 0 ∷ 0 ∷ 0 ∷ 0 ∷ 0
      ∷ 1 ∷ 0 ∷ 3 ∷ 0 ∷ 28 ∷ 0 ∷ 1568 ∷ 0 ∷ 0 ∷ 0
      ∷ 31 ∷ 1 ∷ 0 ∷ 10 ∷ 11 ∷ 1 ∷ 0 ∷ 0 ∷ 0 ∷ 1
      ∷ 55 ∷ 1 ∷ 0 ∷ 11 ∷ 13 ∷ 1 ∷ 0 ∷ 0 ∷ 0 ∷ 0
      ∷ 4 ∷ 1 ∷ 3 ∷ 14 ∷ 28 ∷ 1 ∷ 0 ∷ 0 ∷ 0 ∷ 0
      ∷ 24 ∷ 4 ∷ 3 ∷ 16 ∷ 26 ∷ 1 ∷ 0 ∷ 0 ∷ 0 ∷ 0
      ∷ 25 ∷ 5 ∷ 0 ∷ 20 ∷ 25 ∷ 1 ∷ 512 ∷ 0 ∷ 0 ∷ 0
      ∷ 31 ∷ 6 ∷ 0 ∷ 20 ∷ 25 ∷ 1 ∷ 0 ∷ 0 ∷ 1 ∷ 5
      ∷ [];
  scopes = 0 ∷ 2 ∷ 0 ∷ 0 ∷ 4 ∷ 1 ∷ [];
  names = 103 ∷ 121 ∷ 105 ∷ 101 ∷ 108 ∷ 100 ∷ [];
  source = [];
}

-- 13.1.1: `yield` is no name in a generator; the Rust does not know of generators
pub generator : identifier_error (generator_at 1) 0 generator_tree.nodes generator_tree.scopes generator_tree.names 7 ∷ identifier_error ordinary 0 generator_tree.nodes generator_tree.scopes generator_tree.names 7 ∷ reserved_name 0 generator_tree.nodes generator_tree.scopes generator_tree.names 7 ∷ await_name_scoped 0 generator_tree.nodes generator_tree.scopes generator_tree.names 7 ∷ [] ≡ true ∷ false ∷ false ∷ false ∷ []
unfolding identifier_error reserved_name await_name_scoped same name_of above climb upto range keep children is_child first_node kids others forest parts_of trails.climb trails.trail
generator = refl

-- `async function f() { var await; }`
abbrev async_tree : Tree
async_tree = record {
  nodes =
      0 ∷ 0 ∷ 0 ∷ 0 ∷ 33 ∷ 0 ∷ 0 ∷ 0 ∷ 0 ∷ 0
      ∷ 1 ∷ 0 ∷ 3 ∷ 0 ∷ 33 ∷ 0 ∷ 1568 ∷ 0 ∷ 0 ∷ 0
      ∷ 31 ∷ 1 ∷ 0 ∷ 15 ∷ 16 ∷ 1 ∷ 0 ∷ 0 ∷ 0 ∷ 1
      ∷ 55 ∷ 1 ∷ 0 ∷ 16 ∷ 18 ∷ 1 ∷ 0 ∷ 0 ∷ 0 ∷ 0
      ∷ 4 ∷ 1 ∷ 3 ∷ 19 ∷ 33 ∷ 1 ∷ 0 ∷ 0 ∷ 0 ∷ 0
      ∷ 24 ∷ 4 ∷ 3 ∷ 21 ∷ 31 ∷ 1 ∷ 0 ∷ 0 ∷ 0 ∷ 0
      ∷ 25 ∷ 5 ∷ 0 ∷ 25 ∷ 30 ∷ 1 ∷ 512 ∷ 0 ∷ 0 ∷ 0
      ∷ 31 ∷ 6 ∷ 0 ∷ 25 ∷ 30 ∷ 1 ∷ 0 ∷ 0 ∷ 1 ∷ 5
      ∷ [];
  scopes = 0 ∷ 2 ∷ 0 ∷ 0 ∷ 4 ∷ 1 ∷ [];
  names = 102 ∷ 97 ∷ 119 ∷ 97 ∷ 105 ∷ 116 ∷ [];
  source = [];
}

-- 13.1.1: nor `await` in an async function
pub async : identifier_error (async_at 1) 0 async_tree.nodes async_tree.scopes async_tree.names 7 ∷ identifier_error ordinary 0 async_tree.nodes async_tree.scopes async_tree.names 7 ∷ reserved_name 0 async_tree.nodes async_tree.scopes async_tree.names 7 ∷ await_name_scoped 0 async_tree.nodes async_tree.scopes async_tree.names 7 ∷ [] ≡ true ∷ false ∷ false ∷ false ∷ []
unfolding identifier_error reserved_name await_name_scoped same name_of above climb upto range keep children is_child first_node kids others forest parts_of trails.climb trails.trail
async = refl

-- ModuleItem has +Await, the name of a declaration has it from there, and the body of a function has its own
pub module_await : map (await_parameter ordinary 1 async_tree.nodes) (1 ∷ 2 ∷ 7 ∷ []) ≡ true ∷ true ∷ false ∷ []
unfolding upto range keep children is_child first_node trails.climb trails.trail
module_await = refl

-- `async function f(x = class { static { await 1; } }) {}`
abbrev parameter_block_tree : Tree
parameter_block_tree = record {
  nodes =
      0 ∷ 0 ∷ 0 ∷ 0 ∷ 54 ∷ 0 ∷ 0 ∷ 0 ∷ 0 ∷ 0
      ∷ 1 ∷ 0 ∷ 3 ∷ 0 ∷ 54 ∷ 0 ∷ 544 ∷ 0 ∷ 0 ∷ 0
      ∷ 31 ∷ 1 ∷ 0 ∷ 15 ∷ 16 ∷ 1 ∷ 0 ∷ 0 ∷ 0 ∷ 1
      ∷ 55 ∷ 1 ∷ 0 ∷ 16 ∷ 51 ∷ 1 ∷ 0 ∷ 0 ∷ 0 ∷ 0
      ∷ 49 ∷ 3 ∷ 0 ∷ 17 ∷ 50 ∷ 1 ∷ 256 ∷ 0 ∷ 0 ∷ 0
      ∷ 31 ∷ 4 ∷ 0 ∷ 17 ∷ 18 ∷ 1 ∷ 0 ∷ 0 ∷ 1 ∷ 1
      ∷ 26 ∷ 4 ∷ 1 ∷ 21 ∷ 50 ∷ 1 ∷ 0 ∷ 2 ∷ 0 ∷ 0
      ∷ 27 ∷ 6 ∷ 3 ∷ 27 ∷ 50 ∷ 2 ∷ 0 ∷ 0 ∷ 0 ∷ 0
      ∷ 3 ∷ 7 ∷ 0 ∷ 29 ∷ 48 ∷ 2 ∷ 0 ∷ 0 ∷ 0 ∷ 0
      ∷ 22 ∷ 8 ∷ 3 ∷ 38 ∷ 46 ∷ 3 ∷ 0 ∷ 0 ∷ 0 ∷ 0
      ∷ 47 ∷ 9 ∷ 0 ∷ 38 ∷ 45 ∷ 3 ∷ 0 ∷ 0 ∷ 0 ∷ 0
      ∷ 35 ∷ 10 ∷ 1 ∷ 44 ∷ 45 ∷ 3 ∷ 0 ∷ 0 ∷ 0 ∷ 0
      ∷ 4 ∷ 1 ∷ 3 ∷ 52 ∷ 54 ∷ 1 ∷ 0 ∷ 0 ∷ 0 ∷ 0
      ∷ [];
  scopes = 0 ∷ 2 ∷ 0 ∷ 0 ∷ 4 ∷ 1 ∷ 1 ∷ 1 ∷ 6 ∷ 2 ∷ 17 ∷ 8 ∷ [];
  names = 102 ∷ 120 ∷ [];
  source = [];
}

-- 15.8.1: the parameters do not contain the `await` of a static block in them; the Rust raises 33, too
pub parameter_block : await_in_parameter parameter_block_tree.nodes 10 ∷ await_in_parameter_said parameter_block_tree.nodes 10 ∷ await_in_block parameter_block_tree.nodes 10 ∷ scoped_in_block parameter_block_tree.nodes parameter_block_tree.scopes 10 ∷ [] ≡ false ∷ true ∷ true ∷ true ∷ []
unfolding await_in_parameter await_in_parameter_said await_in_block scoped_in_block same name_of above climb upto range keep children is_child first_node kids others forest parts_of trails.climb trails.trail
parameter_block = refl

-- `class C { accessor x = arguments; }`
abbrev accessor_tree : Tree
accessor_tree = record {
  nodes =
      0 ∷ 0 ∷ 0 ∷ 0 ∷ 35 ∷ 0 ∷ 0 ∷ 0 ∷ 0 ∷ 0
      ∷ 26 ∷ 0 ∷ 3 ∷ 0 ∷ 35 ∷ 0 ∷ 544 ∷ 1 ∷ 0 ∷ 0
      ∷ 31 ∷ 1 ∷ 0 ∷ 6 ∷ 7 ∷ 1 ∷ 0 ∷ 0 ∷ 0 ∷ 1
      ∷ 27 ∷ 1 ∷ 3 ∷ 8 ∷ 35 ∷ 1 ∷ 0 ∷ 0 ∷ 0 ∷ 0
      ∷ 30 ∷ 3 ∷ 0 ∷ 10 ∷ 33 ∷ 1 ∷ 256 ∷ 0 ∷ 0 ∷ 0
      ∷ 55 ∷ 4 ∷ 2 ∷ 19 ∷ 20 ∷ 1 ∷ 0 ∷ 0 ∷ 1 ∷ 1
      ∷ 32 ∷ 4 ∷ 1 ∷ 23 ∷ 32 ∷ 1 ∷ 0 ∷ 0 ∷ 2 ∷ 9
      ∷ [];
  scopes = 0 ∷ 2 ∷ 0 ∷ 0 ∷ 1 ∷ 1 ∷ [];
  names = 67 ∷ 120 ∷ 97 ∷ 114 ∷ 103 ∷ 117 ∷ 109 ∷ 101 ∷ 110 ∷ 116 ∷ 115 ∷ [];
  source = [];
}

-- 15.7.1: `arguments` in an Initializer; the Rust passes over auto-accessors
pub accessor : arguments_in_class accessor_tree.nodes accessor_tree.names 6 ∷ arguments_said accessor_tree.nodes accessor_tree.scopes accessor_tree.names 6 ∷ [] ≡ true ∷ false ∷ []
unfolding arguments_in_class arguments_said assigns_eval same name_of above climb upto range keep children is_child first_node kids others forest parts_of trails.climb trails.trail
accessor = refl

-- `class C { static { arguments = 1; } }`
abbrev assigned_tree : Tree
assigned_tree = record {
  nodes =
      0 ∷ 0 ∷ 0 ∷ 0 ∷ 37 ∷ 0 ∷ 0 ∷ 0 ∷ 0 ∷ 0
      ∷ 26 ∷ 0 ∷ 3 ∷ 0 ∷ 37 ∷ 0 ∷ 544 ∷ 1 ∷ 0 ∷ 0
      ∷ 31 ∷ 1 ∷ 0 ∷ 6 ∷ 7 ∷ 1 ∷ 0 ∷ 0 ∷ 0 ∷ 1
      ∷ 27 ∷ 1 ∷ 3 ∷ 8 ∷ 37 ∷ 1 ∷ 0 ∷ 0 ∷ 0 ∷ 0
      ∷ 3 ∷ 3 ∷ 0 ∷ 10 ∷ 35 ∷ 1 ∷ 0 ∷ 0 ∷ 0 ∷ 0
      ∷ 22 ∷ 4 ∷ 3 ∷ 19 ∷ 33 ∷ 2 ∷ 0 ∷ 0 ∷ 0 ∷ 0
      ∷ 55 ∷ 5 ∷ 0 ∷ 19 ∷ 32 ∷ 2 ∷ 0 ∷ 0 ∷ 0 ∷ 0
      ∷ 32 ∷ 6 ∷ 0 ∷ 19 ∷ 28 ∷ 2 ∷ 8 ∷ 0 ∷ 1 ∷ 9
      ∷ 35 ∷ 6 ∷ 1 ∷ 31 ∷ 32 ∷ 2 ∷ 0 ∷ 0 ∷ 0 ∷ 0
      ∷ [];
  scopes = 0 ∷ 2 ∷ 0 ∷ 0 ∷ 1 ∷ 1 ∷ 1 ∷ 17 ∷ 4 ∷ [];
  names = 67 ∷ 97 ∷ 114 ∷ 103 ∷ 117 ∷ 109 ∷ 101 ∷ 110 ∷ 116 ∷ 115 ∷ [];
  source = [];
}

-- 15.7.1 and 8.6.4: the Rust raises 4 only
pub assigned : arguments_in_class assigned_tree.nodes assigned_tree.names 7 ∷ arguments_said assigned_tree.nodes assigned_tree.scopes assigned_tree.names 7 ∷ assigns_eval assigned_tree.nodes assigned_tree.scopes assigned_tree.names 7 ∷ [] ≡ true ∷ false ∷ true ∷ []
unfolding arguments_in_class arguments_said assigns_eval same name_of above climb upto range keep children is_child first_node kids others forest parts_of trails.climb trails.trail
assigned = refl

-- `"use strict"; let let = 1;`
abbrev strict_let_tree : Tree
strict_let_tree = record {
  nodes =
      0 ∷ 0 ∷ 0 ∷ 0 ∷ 26 ∷ 0 ∷ 0 ∷ 0 ∷ 0 ∷ 0
      ∷ 23 ∷ 0 ∷ 0 ∷ 0 ∷ 13 ∷ 0 ∷ 0 ∷ 0 ∷ 0 ∷ 10
      ∷ 36 ∷ 1 ∷ 1 ∷ 0 ∷ 12 ∷ 0 ∷ 0 ∷ 10 ∷ 0 ∷ 0
      ∷ 24 ∷ 0 ∷ 3 ∷ 14 ∷ 26 ∷ 0 ∷ 0 ∷ 1 ∷ 0 ∷ 0
      ∷ 25 ∷ 3 ∷ 0 ∷ 18 ∷ 25 ∷ 0 ∷ 768 ∷ 0 ∷ 0 ∷ 0
      ∷ 31 ∷ 4 ∷ 0 ∷ 18 ∷ 21 ∷ 0 ∷ 0 ∷ 0 ∷ 10 ∷ 3
      ∷ 35 ∷ 4 ∷ 1 ∷ 24 ∷ 25 ∷ 0 ∷ 0 ∷ 0 ∷ 0 ∷ 0
      ∷ [];
  scopes = 0 ∷ 3 ∷ 0 ∷ [];
  names = 117 ∷ 115 ∷ 101 ∷ 32 ∷ 115 ∷ 116 ∷ 114 ∷ 105 ∷ 99 ∷ 116 ∷ 108 ∷ 101 ∷ 116 ∷ [];
  source = [];
}

-- 14.3.1.1 and 13.1.1: the Rust raises 2 only
pub strict_let : let_bound strict_let_tree.nodes strict_let_tree.names 5 ∷ let_bound_said strict_let_tree.nodes strict_let_tree.scopes strict_let_tree.names 5 ∷ reserved_name 0 strict_let_tree.nodes strict_let_tree.scopes strict_let_tree.names 5 ∷ [] ≡ true ∷ false ∷ true ∷ []
unfolding let_bound unbound let_bound_said reserved_name same name_of above climb upto range keep children is_child first_node kids others forest parts_of trails.climb trails.trail
strict_let = refl

-- `let {[class let {}]: let = class let {}} = class let {};`
abbrev let_pattern_tree : Tree
let_pattern_tree = record {
  nodes =
      0 ∷ 0 ∷ 0 ∷ 0 ∷ 57 ∷ 0 ∷ 0 ∷ 0 ∷ 0 ∷ 0
      ∷ 24 ∷ 0 ∷ 3 ∷ 0 ∷ 56 ∷ 0 ∷ 0 ∷ 1 ∷ 0 ∷ 0
      ∷ 25 ∷ 1 ∷ 0 ∷ 4 ∷ 55 ∷ 0 ∷ 256 ∷ 0 ∷ 0 ∷ 0
      ∷ 55 ∷ 2 ∷ 0 ∷ 4 ∷ 40 ∷ 0 ∷ 0 ∷ 0 ∷ 0 ∷ 0
      ∷ 55 ∷ 3 ∷ 0 ∷ 5 ∷ 39 ∷ 0 ∷ 0 ∷ 0 ∷ 0 ∷ 0
      ∷ 55 ∷ 4 ∷ 2 ∷ 6 ∷ 18 ∷ 0 ∷ 0 ∷ 0 ∷ 0 ∷ 0
      ∷ 26 ∷ 5 ∷ 1 ∷ 6 ∷ 18 ∷ 0 ∷ 512 ∷ 1 ∷ 0 ∷ 0
      ∷ 31 ∷ 6 ∷ 0 ∷ 12 ∷ 15 ∷ 1 ∷ 0 ∷ 0 ∷ 0 ∷ 3
      ∷ 27 ∷ 6 ∷ 3 ∷ 16 ∷ 18 ∷ 1 ∷ 0 ∷ 0 ∷ 0 ∷ 0
      ∷ 55 ∷ 4 ∷ 1 ∷ 21 ∷ 39 ∷ 0 ∷ 0 ∷ 0 ∷ 0 ∷ 0
      ∷ 31 ∷ 9 ∷ 0 ∷ 21 ∷ 24 ∷ 0 ∷ 0 ∷ 0 ∷ 0 ∷ 3
      ∷ 26 ∷ 9 ∷ 1 ∷ 27 ∷ 39 ∷ 0 ∷ 512 ∷ 2 ∷ 0 ∷ 0
      ∷ 31 ∷ 11 ∷ 0 ∷ 33 ∷ 36 ∷ 2 ∷ 0 ∷ 0 ∷ 0 ∷ 3
      ∷ 27 ∷ 11 ∷ 3 ∷ 37 ∷ 39 ∷ 2 ∷ 0 ∷ 0 ∷ 0 ∷ 0
      ∷ 26 ∷ 2 ∷ 1 ∷ 43 ∷ 55 ∷ 0 ∷ 512 ∷ 3 ∷ 0 ∷ 0
      ∷ 31 ∷ 14 ∷ 0 ∷ 49 ∷ 52 ∷ 3 ∷ 0 ∷ 0 ∷ 0 ∷ 3
      ∷ 27 ∷ 14 ∷ 3 ∷ 53 ∷ 55 ∷ 3 ∷ 0 ∷ 0 ∷ 0 ∷ 0
      ∷ [];
  scopes = 0 ∷ 2 ∷ 0 ∷ 0 ∷ 1 ∷ 6 ∷ 0 ∷ 1 ∷ 11 ∷ 0 ∷ 1 ∷ 14 ∷ [];
  names = 108 ∷ 101 ∷ 116 ∷ [];
  source = [];
}

-- 8.2.1: the BindingElement of a BindingProperty; not the class in its PropertyName, in its Initializer, nor in that of the declaration
pub let_pattern : map (let_bound let_pattern_tree.nodes let_pattern_tree.names) (7 ∷ 10 ∷ 12 ∷ 15 ∷ []) ≡ false ∷ true ∷ false ∷ false ∷ []
unfolding let_bound unbound same name_of above climb upto range keep children is_child first_node kids others forest parts_of trails.climb trails.trail
let_pattern = refl

pub let_pattern_names : bound_names_of let_pattern_tree.nodes (parts_of let_pattern_tree.nodes 1) (λ j. true) ≡ 10 ∷ []
unfolding bound_names bound_names_of unbound upto range keep children kids others forest parts_of
let_pattern_names = refl

-- .. and the Rust's rule, of code that is not strict
pub let_pattern_said : map (let_bound_said let_pattern_tree.nodes let_pattern_tree.scopes let_pattern_tree.names) (7 ∷ 10 ∷ 12 ∷ 15 ∷ []) ≡ false ∷ true ∷ false ∷ false ∷ []
unfolding let_bound_said same name_of above climb upto range keep children is_child first_node kids others forest parts_of trails.climb trails.trail
let_pattern_said = refl

-- `enum`, `null`, `with` and `wit` as names in sloppy code (no parser gives such a tree)
abbrev word_tree : Tree
word_tree = record {
  nodes =
      0 ∷ 0 ∷ 0 ∷ 0 ∷ 19 ∷ 0 ∷ 0 ∷ 0 ∷ 0 ∷ 0
      ∷ 32 ∷ 0 ∷ 3 ∷ 0 ∷ 4 ∷ 0 ∷ 0 ∷ 0 ∷ 0 ∷ 4
      ∷ 32 ∷ 0 ∷ 3 ∷ 5 ∷ 9 ∷ 0 ∷ 0 ∷ 0 ∷ 4 ∷ 4
      ∷ 32 ∷ 0 ∷ 3 ∷ 10 ∷ 14 ∷ 0 ∷ 0 ∷ 0 ∷ 8 ∷ 4
      ∷ 32 ∷ 0 ∷ 3 ∷ 15 ∷ 18 ∷ 0 ∷ 0 ∷ 0 ∷ 8 ∷ 3
      ∷ [];
  scopes = 0 ∷ 2 ∷ 0 ∷ [];
  names = 101 ∷ 110 ∷ 117 ∷ 109 ∷ 110 ∷ 117 ∷ 108 ∷ 108 ∷ 119 ∷ 105 ∷ 116 ∷ 104 ∷ [];
  source = [];
}

-- 13.1.1: "the StringValue of any ReservedWord"
pub word_names : map (identifier_error ordinary 0 word_tree.nodes word_tree.scopes word_tree.names) (1 ∷ 2 ∷ 3 ∷ 4 ∷ []) ≡ true ∷ true ∷ true ∷ false ∷ []
unfolding identifier_error same name_of above climb upto range keep children is_child first_node kids others forest parts_of trails.climb trails.trail
word_names = refl

-- the scopes of these trees follow the tree
pub scopes_hold : map (λ t. scopes_follow t.nodes t.scopes) (block_name_tree ∷ arrow_parameter_tree ∷ arrow_body_tree ∷ function_name_tree ∷ expression_name_tree ∷ parameter_block_tree ∷ accessor_tree ∷ assigned_tree ∷ strict_let_tree ∷ let_pattern_tree ∷ generator_tree ∷ async_tree ∷ []) ≡ map (λ t. true) (block_name_tree ∷ arrow_parameter_tree ∷ arrow_body_tree ∷ function_name_tree ∷ expression_name_tree ∷ parameter_block_tree ∷ accessor_tree ∷ assigned_tree ∷ strict_let_tree ∷ let_pattern_tree ∷ generator_tree ∷ async_tree ∷ [])
unfolding scopes_follow flagged_at follows_at class_at upto range
scopes_hold = refl
