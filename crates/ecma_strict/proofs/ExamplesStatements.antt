-- Texts of which the rules are told apart, as the tree maker writes them: what the standard's rule says at a node, and what the Rust's. Statements and declarations.
use Rattle.std.specs.Prelude.{◌≡◌, refl, [], ◌∷◌, map, true, false}
use Rattle.table_names.specs.Name.{same, name_of}
use Rattle.base_walk.specs.Above.{above, climb}
use Rattle.base_common.specs.Upto.{upto, range}
use Rattle.table_children.specs.Children.{keep, children, is_child, first_node}
use Rattle.ecma_trees.specs.Rose.{kids, others, forest, parts_of}
use Rattle.ecma_trees.specs.Trail as trails
use Rattle.ecma_base.specs.Telling.{ordinary}
use Rattle.ecma_base.specs.Scopes.{follows_at, flagged_at, class_at, scopes_follow}
use Rattle.ecma_statements.specs.Statements.{annex_head, bad_head, initialized_head, held_using, bad_using}
use Rattle.ecma_statements.specs.Functions.{function_misplaced, function_misplaced_else, is_labelled_function, labelled_among, ends_in_labelled, labelled_function_at}
use Rattle.ecma_statements.specs.Changed.{said_head, top_using, labelled_function_said}
use Rattle.ecma_strict.specs.ExampleTrees.{Tree, async_at, generator_at}

-- `for (let x = 1 in o);`
abbrev let_head_tree : Tree
let_head_tree = record {
  nodes =
      0 ∷ 0 ∷ 0 ∷ 0 ∷ 21 ∷ 0 ∷ 0 ∷ 0 ∷ 0 ∷ 0
      ∷ 8 ∷ 0 ∷ 3 ∷ 0 ∷ 21 ∷ 0 ∷ 0 ∷ 0 ∷ 0 ∷ 0
      ∷ 24 ∷ 1 ∷ 7 ∷ 5 ∷ 14 ∷ 1 ∷ 0 ∷ 1 ∷ 0 ∷ 0
      ∷ 25 ∷ 2 ∷ 0 ∷ 9 ∷ 14 ∷ 1 ∷ 768 ∷ 0 ∷ 0 ∷ 0
      ∷ 31 ∷ 3 ∷ 0 ∷ 9 ∷ 10 ∷ 1 ∷ 0 ∷ 0 ∷ 0 ∷ 1
      ∷ 35 ∷ 3 ∷ 1 ∷ 13 ∷ 14 ∷ 1 ∷ 0 ∷ 0 ∷ 0 ∷ 0
      ∷ 32 ∷ 1 ∷ 0 ∷ 18 ∷ 19 ∷ 1 ∷ 0 ∷ 0 ∷ 1 ∷ 1
      ∷ 22 ∷ 1 ∷ 3 ∷ 20 ∷ 21 ∷ 1 ∷ 0 ∷ 0 ∷ 0 ∷ 0
      ∷ [];
  scopes = 0 ∷ 2 ∷ 0 ∷ 0 ∷ 0 ∷ 1 ∷ [];
  names = 120 ∷ 111 ∷ [];
  source = [];
}

-- 14.7.5: a `let` has no Initializer in a for-in; the Rust says nothing of it
pub let_head : initialized_head let_head_tree.nodes let_head_tree.scopes 1 ∷ said_head let_head_tree.nodes let_head_tree.scopes 1 ∷ [] ≡ true ∷ false ∷ []
unfolding initialized_head bad_head annex_head said_head same name_of above climb upto range keep children is_child first_node kids others forest parts_of trails.climb trails.trail
let_head = refl

-- `for (var x = 1 in o);`
abbrev var_head_tree : Tree
var_head_tree = record {
  nodes =
      0 ∷ 0 ∷ 0 ∷ 0 ∷ 21 ∷ 0 ∷ 0 ∷ 0 ∷ 0 ∷ 0
      ∷ 8 ∷ 0 ∷ 3 ∷ 0 ∷ 21 ∷ 0 ∷ 0 ∷ 0 ∷ 0 ∷ 0
      ∷ 24 ∷ 1 ∷ 7 ∷ 5 ∷ 14 ∷ 1 ∷ 0 ∷ 0 ∷ 0 ∷ 0
      ∷ 25 ∷ 2 ∷ 0 ∷ 9 ∷ 14 ∷ 1 ∷ 768 ∷ 0 ∷ 0 ∷ 0
      ∷ 31 ∷ 3 ∷ 0 ∷ 9 ∷ 10 ∷ 1 ∷ 0 ∷ 0 ∷ 0 ∷ 1
      ∷ 35 ∷ 3 ∷ 1 ∷ 13 ∷ 14 ∷ 1 ∷ 0 ∷ 0 ∷ 0 ∷ 0
      ∷ 32 ∷ 1 ∷ 0 ∷ 18 ∷ 19 ∷ 1 ∷ 0 ∷ 0 ∷ 1 ∷ 1
      ∷ 22 ∷ 1 ∷ 3 ∷ 20 ∷ 21 ∷ 1 ∷ 0 ∷ 0 ∷ 0 ∷ 0
      ∷ [];
  scopes = 0 ∷ 2 ∷ 0 ∷ 0 ∷ 0 ∷ 1 ∷ [];
  names = 120 ∷ 111 ∷ [];
  source = [];
}

-- B.3.5: a `var` may, in sloppy code
pub var_head : initialized_head var_head_tree.nodes var_head_tree.scopes 1 ∷ said_head var_head_tree.nodes var_head_tree.scopes 1 ∷ [] ≡ false ∷ false ∷ []
unfolding initialized_head bad_head annex_head said_head same name_of above climb upto range keep children is_child first_node kids others forest parts_of trails.climb trails.trail
var_head = refl

-- `switch (a) { case 1: using x = y; }`
abbrev using_clause_tree : Tree
using_clause_tree = record {
  nodes =
      0 ∷ 0 ∷ 0 ∷ 0 ∷ 35 ∷ 0 ∷ 0 ∷ 0 ∷ 0 ∷ 0
      ∷ 14 ∷ 0 ∷ 3 ∷ 0 ∷ 35 ∷ 0 ∷ 0 ∷ 0 ∷ 0 ∷ 0
      ∷ 32 ∷ 1 ∷ 0 ∷ 8 ∷ 9 ∷ 0 ∷ 0 ∷ 0 ∷ 0 ∷ 1
      ∷ 15 ∷ 1 ∷ 3 ∷ 13 ∷ 33 ∷ 1 ∷ 0 ∷ 0 ∷ 0 ∷ 0
      ∷ 35 ∷ 3 ∷ 0 ∷ 18 ∷ 19 ∷ 1 ∷ 0 ∷ 0 ∷ 0 ∷ 0
      ∷ 24 ∷ 3 ∷ 3 ∷ 21 ∷ 33 ∷ 1 ∷ 0 ∷ 3 ∷ 0 ∷ 0
      ∷ 25 ∷ 5 ∷ 0 ∷ 27 ∷ 32 ∷ 1 ∷ 768 ∷ 0 ∷ 0 ∷ 0
      ∷ 31 ∷ 6 ∷ 0 ∷ 27 ∷ 28 ∷ 1 ∷ 0 ∷ 0 ∷ 1 ∷ 1
      ∷ 32 ∷ 6 ∷ 1 ∷ 31 ∷ 32 ∷ 1 ∷ 0 ∷ 0 ∷ 2 ∷ 1
      ∷ [];
  scopes = 0 ∷ 2 ∷ 0 ∷ 0 ∷ 0 ∷ 1 ∷ [];
  names = 97 ∷ 120 ∷ 121 ∷ [];
  source = [];
}

-- 14.3.1.1: no using in a clause of a switch; the Rust looks at the top scope only
pub using_clause : bad_using 0 using_clause_tree.nodes 5 ∷ top_using 0 using_clause_tree.nodes using_clause_tree.scopes 5 ∷ [] ≡ true ∷ false ∷ []
unfolding bad_using held_using top_using same name_of above climb upto range keep children is_child first_node kids others forest parts_of trails.climb trails.trail
using_clause = refl

-- `using x = y;`
abbrev using_top_tree : Tree
using_top_tree = record {
  nodes =
      0 ∷ 0 ∷ 0 ∷ 0 ∷ 12 ∷ 0 ∷ 0 ∷ 0 ∷ 0 ∷ 0
      ∷ 24 ∷ 0 ∷ 3 ∷ 0 ∷ 12 ∷ 0 ∷ 0 ∷ 3 ∷ 0 ∷ 0
      ∷ 25 ∷ 1 ∷ 0 ∷ 6 ∷ 11 ∷ 0 ∷ 768 ∷ 0 ∷ 0 ∷ 0
      ∷ 31 ∷ 2 ∷ 0 ∷ 6 ∷ 7 ∷ 0 ∷ 0 ∷ 0 ∷ 0 ∷ 1
      ∷ 32 ∷ 2 ∷ 1 ∷ 10 ∷ 11 ∷ 0 ∷ 0 ∷ 0 ∷ 1 ∷ 1
      ∷ [];
  scopes = 0 ∷ 2 ∷ 0 ∷ [];
  names = 120 ∷ 121 ∷ [];
  source = [];
}

-- 14.3.1.1: nor at the top of a script
pub using_top : bad_using 0 using_top_tree.nodes 1 ∷ top_using 0 using_top_tree.nodes using_top_tree.scopes 1 ∷ bad_using 1 using_top_tree.nodes 1 ∷ [] ≡ true ∷ true ∷ false ∷ []
unfolding bad_using held_using top_using same name_of above climb upto range keep children is_child first_node kids others forest parts_of trails.climb trails.trail
using_top = refl

-- `{ using x = y; }`
abbrev using_block_tree : Tree
using_block_tree = record {
  nodes =
      0 ∷ 0 ∷ 0 ∷ 0 ∷ 16 ∷ 0 ∷ 0 ∷ 0 ∷ 0 ∷ 0
      ∷ 5 ∷ 0 ∷ 3 ∷ 0 ∷ 16 ∷ 0 ∷ 0 ∷ 0 ∷ 0 ∷ 0
      ∷ 24 ∷ 1 ∷ 3 ∷ 2 ∷ 14 ∷ 1 ∷ 0 ∷ 3 ∷ 0 ∷ 0
      ∷ 25 ∷ 2 ∷ 0 ∷ 8 ∷ 13 ∷ 1 ∷ 768 ∷ 0 ∷ 0 ∷ 0
      ∷ 31 ∷ 3 ∷ 0 ∷ 8 ∷ 9 ∷ 1 ∷ 0 ∷ 0 ∷ 0 ∷ 1
      ∷ 32 ∷ 3 ∷ 1 ∷ 12 ∷ 13 ∷ 1 ∷ 0 ∷ 0 ∷ 1 ∷ 1
      ∷ [];
  scopes = 0 ∷ 2 ∷ 0 ∷ 0 ∷ 0 ∷ 1 ∷ [];
  names = 120 ∷ 121 ∷ [];
  source = [];
}

-- 14.3.1.1: in a Block it may stand
pub using_block : bad_using 0 using_block_tree.nodes 2 ∷ top_using 0 using_block_tree.nodes using_block_tree.scopes 2 ∷ [] ≡ false ∷ false ∷ []
unfolding bad_using held_using top_using same name_of above climb upto range keep children is_child first_node kids others forest parts_of trails.climb trails.trail
using_block = refl

-- `for (using x of y);`
abbrev using_for_tree : Tree
using_for_tree = record {
  nodes =
      0 ∷ 0 ∷ 0 ∷ 0 ∷ 19 ∷ 0 ∷ 0 ∷ 0 ∷ 0 ∷ 0
      ∷ 9 ∷ 0 ∷ 3 ∷ 0 ∷ 19 ∷ 0 ∷ 0 ∷ 0 ∷ 0 ∷ 0
      ∷ 24 ∷ 1 ∷ 7 ∷ 5 ∷ 12 ∷ 1 ∷ 0 ∷ 3 ∷ 0 ∷ 0
      ∷ 25 ∷ 2 ∷ 0 ∷ 11 ∷ 12 ∷ 1 ∷ 512 ∷ 0 ∷ 0 ∷ 0
      ∷ 31 ∷ 3 ∷ 0 ∷ 11 ∷ 12 ∷ 1 ∷ 0 ∷ 0 ∷ 0 ∷ 1
      ∷ 32 ∷ 1 ∷ 0 ∷ 16 ∷ 17 ∷ 1 ∷ 0 ∷ 0 ∷ 1 ∷ 1
      ∷ 22 ∷ 1 ∷ 3 ∷ 18 ∷ 19 ∷ 1 ∷ 0 ∷ 0 ∷ 0 ∷ 0
      ∷ [];
  scopes = 0 ∷ 2 ∷ 0 ∷ 0 ∷ 0 ∷ 1 ∷ [];
  names = 120 ∷ 121 ∷ [];
  source = [];
}

-- 14.3.1.1: and in the head of a for
pub using_for : bad_using 0 using_for_tree.nodes 2 ∷ top_using 0 using_for_tree.nodes using_for_tree.scopes 2 ∷ [] ≡ false ∷ false ∷ []
unfolding bad_using held_using top_using same name_of above climb upto range keep children is_child first_node kids others forest parts_of trails.climb trails.trail
using_for = refl

-- `"use strict"; while (1) a: function f() {}`
abbrev strict_label_tree : Tree
strict_label_tree = record {
  nodes =
      0 ∷ 0 ∷ 0 ∷ 0 ∷ 42 ∷ 0 ∷ 0 ∷ 0 ∷ 0 ∷ 0
      ∷ 23 ∷ 0 ∷ 0 ∷ 0 ∷ 13 ∷ 0 ∷ 0 ∷ 0 ∷ 0 ∷ 10
      ∷ 36 ∷ 1 ∷ 1 ∷ 0 ∷ 12 ∷ 0 ∷ 0 ∷ 10 ∷ 0 ∷ 0
      ∷ 10 ∷ 0 ∷ 3 ∷ 14 ∷ 42 ∷ 0 ∷ 0 ∷ 0 ∷ 0 ∷ 0
      ∷ 35 ∷ 3 ∷ 0 ∷ 21 ∷ 22 ∷ 0 ∷ 0 ∷ 0 ∷ 0 ∷ 0
      ∷ 6 ∷ 3 ∷ 3 ∷ 24 ∷ 42 ∷ 0 ∷ 0 ∷ 0 ∷ 0 ∷ 0
      ∷ 33 ∷ 5 ∷ 6 ∷ 24 ∷ 25 ∷ 0 ∷ 0 ∷ 0 ∷ 10 ∷ 1
      ∷ 1 ∷ 5 ∷ 3 ∷ 27 ∷ 42 ∷ 0 ∷ 1568 ∷ 0 ∷ 0 ∷ 0
      ∷ 31 ∷ 7 ∷ 0 ∷ 36 ∷ 37 ∷ 1 ∷ 0 ∷ 0 ∷ 11 ∷ 1
      ∷ 55 ∷ 7 ∷ 0 ∷ 37 ∷ 39 ∷ 1 ∷ 0 ∷ 0 ∷ 0 ∷ 0
      ∷ 4 ∷ 7 ∷ 3 ∷ 40 ∷ 42 ∷ 1 ∷ 0 ∷ 0 ∷ 0 ∷ 0
      ∷ [];
  scopes = 0 ∷ 3 ∷ 0 ∷ 0 ∷ 5 ∷ 7 ∷ [];
  names = 117 ∷ 115 ∷ 101 ∷ 32 ∷ 115 ∷ 116 ∷ 114 ∷ 105 ∷ 99 ∷ 116 ∷ 97 ∷ 102 ∷ [];
  source = [];
}

-- 14.7.3.1 and 14.13.1: the Rust raises 15 only
pub strict_label : ends_in_labelled strict_label_tree.nodes 3 ∷ labelled_function_at strict_label_tree.nodes 5 ∷ labelled_function_said strict_label_tree.nodes strict_label_tree.scopes 5 ∷ function_misplaced ordinary strict_label_tree.nodes strict_label_tree.scopes 5 ∷ [] ≡ true ∷ true ∷ false ∷ true ∷ []
unfolding ends_in_labelled is_labelled_function labelled_among labelled_function_at labelled_function_said function_misplaced same name_of above climb upto range keep children is_child first_node kids others forest parts_of trails.climb trails.trail
strict_label = refl

-- `while (1) a: b: function f() {}`
abbrev two_labels_tree : Tree
two_labels_tree = record {
  nodes =
      0 ∷ 0 ∷ 0 ∷ 0 ∷ 31 ∷ 0 ∷ 0 ∷ 0 ∷ 0 ∷ 0
      ∷ 10 ∷ 0 ∷ 3 ∷ 0 ∷ 31 ∷ 0 ∷ 0 ∷ 0 ∷ 0 ∷ 0
      ∷ 35 ∷ 1 ∷ 0 ∷ 7 ∷ 8 ∷ 0 ∷ 0 ∷ 0 ∷ 0 ∷ 0
      ∷ 6 ∷ 1 ∷ 3 ∷ 10 ∷ 31 ∷ 0 ∷ 0 ∷ 0 ∷ 0 ∷ 0
      ∷ 33 ∷ 3 ∷ 6 ∷ 10 ∷ 11 ∷ 0 ∷ 0 ∷ 0 ∷ 0 ∷ 1
      ∷ 6 ∷ 3 ∷ 3 ∷ 13 ∷ 31 ∷ 0 ∷ 0 ∷ 0 ∷ 0 ∷ 0
      ∷ 33 ∷ 5 ∷ 6 ∷ 13 ∷ 14 ∷ 0 ∷ 0 ∷ 0 ∷ 1 ∷ 1
      ∷ 1 ∷ 5 ∷ 3 ∷ 16 ∷ 31 ∷ 0 ∷ 1568 ∷ 0 ∷ 0 ∷ 0
      ∷ 31 ∷ 7 ∷ 0 ∷ 25 ∷ 26 ∷ 1 ∷ 0 ∷ 0 ∷ 2 ∷ 1
      ∷ 55 ∷ 7 ∷ 0 ∷ 26 ∷ 28 ∷ 1 ∷ 0 ∷ 0 ∷ 0 ∷ 0
      ∷ 4 ∷ 7 ∷ 3 ∷ 29 ∷ 31 ∷ 1 ∷ 0 ∷ 0 ∷ 0 ∷ 0
      ∷ [];
  scopes = 0 ∷ 2 ∷ 0 ∷ 0 ∷ 4 ∷ 7 ∷ [];
  names = 97 ∷ 98 ∷ 102 ∷ [];
  source = [];
}

-- 14.7.3.1: IsLabelledFunction goes through labels
pub two_labels : ends_in_labelled two_labels_tree.nodes 1 ∷ labelled_function_at two_labels_tree.nodes 5 ∷ labelled_function_said two_labels_tree.nodes two_labels_tree.scopes 5 ∷ [] ≡ true ∷ true ∷ true ∷ []
unfolding ends_in_labelled is_labelled_function labelled_among labelled_function_at labelled_function_said same name_of above climb upto range keep children is_child first_node kids others forest parts_of trails.climb trails.trail
two_labels = refl

-- `if (1) async function f() {}`
abbrev async_if_tree : Tree
async_if_tree = record {
  nodes =
      0 ∷ 0 ∷ 0 ∷ 0 ∷ 28 ∷ 0 ∷ 0 ∷ 0 ∷ 0 ∷ 0
      ∷ 12 ∷ 0 ∷ 3 ∷ 0 ∷ 28 ∷ 0 ∷ 0 ∷ 0 ∷ 0 ∷ 0
      ∷ 35 ∷ 1 ∷ 0 ∷ 4 ∷ 5 ∷ 0 ∷ 0 ∷ 0 ∷ 0 ∷ 0
      ∷ 1 ∷ 1 ∷ 3 ∷ 7 ∷ 28 ∷ 0 ∷ 1568 ∷ 0 ∷ 0 ∷ 0
      ∷ 31 ∷ 3 ∷ 0 ∷ 22 ∷ 23 ∷ 1 ∷ 0 ∷ 0 ∷ 0 ∷ 1
      ∷ 55 ∷ 3 ∷ 0 ∷ 23 ∷ 25 ∷ 1 ∷ 0 ∷ 0 ∷ 0 ∷ 0
      ∷ 4 ∷ 3 ∷ 3 ∷ 26 ∷ 28 ∷ 1 ∷ 0 ∷ 0 ∷ 0 ∷ 0
      ∷ [];
  scopes = 0 ∷ 2 ∷ 0 ∷ 0 ∷ 4 ∷ 3 ∷ [];
  names = 102 ∷ [];
  source = [];
}

-- 14.6 and B.3.3: an async function is no Statement of an if; the Rust takes it for an ordinary one
pub async_if : function_misplaced (async_at 3) async_if_tree.nodes async_if_tree.scopes 1 ∷ function_misplaced ordinary async_if_tree.nodes async_if_tree.scopes 1 ∷ [] ≡ true ∷ false ∷ []
unfolding function_misplaced upto range first_node is_child
async_if = refl

-- `if (1); else function* f() {}`
abbrev generator_else_tree : Tree
generator_else_tree = record {
  nodes =
      0 ∷ 0 ∷ 0 ∷ 0 ∷ 29 ∷ 0 ∷ 0 ∷ 0 ∷ 0 ∷ 0
      ∷ 12 ∷ 0 ∷ 3 ∷ 0 ∷ 29 ∷ 0 ∷ 0 ∷ 0 ∷ 0 ∷ 0
      ∷ 35 ∷ 1 ∷ 0 ∷ 4 ∷ 5 ∷ 0 ∷ 0 ∷ 0 ∷ 0 ∷ 0
      ∷ 22 ∷ 1 ∷ 3 ∷ 6 ∷ 7 ∷ 0 ∷ 0 ∷ 0 ∷ 0 ∷ 0
      ∷ 1 ∷ 1 ∷ 4 ∷ 13 ∷ 29 ∷ 0 ∷ 1568 ∷ 0 ∷ 0 ∷ 0
      ∷ 31 ∷ 4 ∷ 0 ∷ 23 ∷ 24 ∷ 1 ∷ 0 ∷ 0 ∷ 0 ∷ 1
      ∷ 55 ∷ 4 ∷ 0 ∷ 24 ∷ 26 ∷ 1 ∷ 0 ∷ 0 ∷ 0 ∷ 0
      ∷ 4 ∷ 4 ∷ 3 ∷ 27 ∷ 29 ∷ 1 ∷ 0 ∷ 0 ∷ 0 ∷ 0
      ∷ [];
  scopes = 0 ∷ 2 ∷ 0 ∷ 0 ∷ 4 ∷ 4 ∷ [];
  names = 102 ∷ [];
  source = [];
}

-- 14.6 and B.3.3: nor is a generator behind else
pub generator_else : function_misplaced_else (generator_at 4) generator_else_tree.nodes generator_else_tree.scopes 1 ∷ function_misplaced_else ordinary generator_else_tree.nodes generator_else_tree.scopes 1 ∷ [] ≡ true ∷ false ∷ []
unfolding function_misplaced_else upto range first_node is_child
generator_else = refl

-- `a: async function f() {}`
abbrev async_label_tree : Tree
async_label_tree = record {
  nodes =
      0 ∷ 0 ∷ 0 ∷ 0 ∷ 24 ∷ 0 ∷ 0 ∷ 0 ∷ 0 ∷ 0
      ∷ 6 ∷ 0 ∷ 3 ∷ 0 ∷ 24 ∷ 0 ∷ 0 ∷ 0 ∷ 0 ∷ 0
      ∷ 33 ∷ 1 ∷ 6 ∷ 0 ∷ 1 ∷ 0 ∷ 0 ∷ 0 ∷ 0 ∷ 1
      ∷ 1 ∷ 1 ∷ 3 ∷ 3 ∷ 24 ∷ 0 ∷ 1568 ∷ 0 ∷ 0 ∷ 0
      ∷ 31 ∷ 3 ∷ 0 ∷ 18 ∷ 19 ∷ 1 ∷ 0 ∷ 0 ∷ 1 ∷ 1
      ∷ 55 ∷ 3 ∷ 0 ∷ 19 ∷ 21 ∷ 1 ∷ 0 ∷ 0 ∷ 0 ∷ 0
      ∷ 4 ∷ 3 ∷ 3 ∷ 22 ∷ 24 ∷ 1 ∷ 0 ∷ 0 ∷ 0 ∷ 0
      ∷ [];
  scopes = 0 ∷ 2 ∷ 0 ∷ 0 ∷ 4 ∷ 3 ∷ [];
  names = 97 ∷ 102 ∷ [];
  source = [];
}

-- 14.13 and B.3.1: nor a LabelledItem
pub async_label : function_misplaced (async_at 3) async_label_tree.nodes async_label_tree.scopes 1 ∷ function_misplaced ordinary async_label_tree.nodes async_label_tree.scopes 1 ∷ [] ≡ true ∷ false ∷ []
unfolding function_misplaced upto range first_node is_child
async_label = refl

-- the scopes of these trees follow the tree
pub scopes_hold : map (λ t. scopes_follow t.nodes t.scopes) (let_head_tree ∷ var_head_tree ∷ using_clause_tree ∷ using_top_tree ∷ using_block_tree ∷ using_for_tree ∷ strict_label_tree ∷ two_labels_tree ∷ async_if_tree ∷ generator_else_tree ∷ async_label_tree ∷ []) ≡ map (λ t. true) (let_head_tree ∷ var_head_tree ∷ using_clause_tree ∷ using_top_tree ∷ using_block_tree ∷ using_for_tree ∷ strict_label_tree ∷ two_labels_tree ∷ async_if_tree ∷ generator_else_tree ∷ async_label_tree ∷ [])
unfolding scopes_follow flagged_at follows_at class_at upto range
scopes_hold = refl
