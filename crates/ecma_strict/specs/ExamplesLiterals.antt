-- Texts of which the rules are told apart, as the tree maker writes them: what the standard's rule says at a node, and what the Rust's. Literals and delete.
use Rattle.std.specs.Prelude.{ℕ, ◌≡◌, refl, List, [], ◌∷◌, map, Bool, true, false, length}
use Rattle.table_names.specs.Name.{same, name_of}
use Rattle.base_walk.specs.Above.{above, climb}
use Rattle.base_common.specs.Upto.{upto, range}
use Rattle.table_children.specs.Children.{keep, children, is_child, first_node}
use Rattle.ecma_trees.specs.Rose.{kids, others, forest, parts_of}
use Rattle.ecma_trees.specs.Trail as trails
use Rattle.ecma_base.specs.Scopes.{follows_at, flagged_at, class_at, scopes_follow}
use Rattle.ecma_literals.specs.Literals.{text_of, legacy_octal_integer, octals_then_non_octal, non_octal_decimal_integer, legacy_octal_escape, non_octal_decimal_escape, escapes, strict_octal_escape, strict_non_octal_escape, escaped, forbidden_escape}
use Rattle.ecma_literals.specs.Delete.{ultimately, private_reference, deletes_private}
use Rattle.ecma_literals.specs.Changed.{octal_first, non_octal_first, first_octal_escape, first_non_octal_escape, deletes_private_anywhere}
use Rattle.ecma_strict.specs.ExampleTrees.{Tree}

-- 12.9.3: numbers that are a LegacyOctalIntegerLiteral, and that begin with a NonOctalDecimalIntegerLiteral
pub record Number : Type 0 where
  pub text : List ℕ
  pub octal : Bool
  pub non_octal : Bool

abbrev pub numbers : List Number
numbers =
    -- 0
    record { text = 48 ∷ []; octal = false; non_octal = false }
    -- 00
    ∷ record { text = 48 ∷ 48 ∷ []; octal = true; non_octal = false }
    -- 07
    ∷ record { text = 48 ∷ 55 ∷ []; octal = true; non_octal = false }
    -- 010
    ∷ record { text = 48 ∷ 49 ∷ 48 ∷ []; octal = true; non_octal = false }
    -- 08
    ∷ record { text = 48 ∷ 56 ∷ []; octal = false; non_octal = true }
    -- 078
    ∷ record { text = 48 ∷ 55 ∷ 56 ∷ []; octal = false; non_octal = true }
    -- 09.5
    ∷ record { text = 48 ∷ 57 ∷ 46 ∷ 53 ∷ []; octal = false; non_octal = true }
    -- 08e1
    ∷ record { text = 48 ∷ 56 ∷ 101 ∷ 49 ∷ []; octal = false; non_octal = true }
    -- 0.5
    ∷ record { text = 48 ∷ 46 ∷ 53 ∷ []; octal = false; non_octal = false }
    -- 10
    ∷ record { text = 49 ∷ 48 ∷ []; octal = false; non_octal = false }
    -- 0o7
    ∷ record { text = 48 ∷ 111 ∷ 55 ∷ []; octal = false; non_octal = false }
    -- 0x08
    ∷ record { text = 48 ∷ 120 ∷ 48 ∷ 56 ∷ []; octal = false; non_octal = false }
    -- .07
    ∷ record { text = 46 ∷ 48 ∷ 55 ∷ []; octal = false; non_octal = false }
    ∷ []

pub numbers_hold : map (λ r. legacy_octal_integer r.text) numbers ≡ map (λ r. r.octal) numbers
unfolding legacy_octal_integer
numbers_hold = refl

pub numbers_hold_too : map (λ r. non_octal_decimal_integer r.text) numbers ≡ map (λ r. r.non_octal) numbers
unfolding non_octal_decimal_integer octals_then_non_octal
numbers_hold_too = refl

-- 12.9.4.1: strings, and the offsets of the escapes in them that strict code may not have
pub record Escaped : Type 0 where
  pub text : List ℕ
  pub at : List ℕ

abbrev pub strings : List Escaped
strings =
    -- '\0'
    record { text = 39 ∷ 92 ∷ 48 ∷ 39 ∷ []; at = [] }
    -- '\08'
    ∷ record { text = 39 ∷ 92 ∷ 48 ∷ 56 ∷ 39 ∷ []; at = 1 ∷ [] }
    -- '\8'
    ∷ record { text = 39 ∷ 92 ∷ 56 ∷ 39 ∷ []; at = 1 ∷ [] }
    -- 'a\123'
    ∷ record { text = 39 ∷ 97 ∷ 92 ∷ 49 ∷ 50 ∷ 51 ∷ 39 ∷ []; at = 2 ∷ [] }
    -- '\\1': an escaped backslash begins no escape
    ∷ record { text = 39 ∷ 92 ∷ 92 ∷ 49 ∷ 39 ∷ []; at = [] }
    -- '\\\1'
    ∷ record { text = 39 ∷ 92 ∷ 92 ∷ 92 ∷ 49 ∷ 39 ∷ []; at = 3 ∷ [] }
    -- '\x41\1\9'
    ∷ record { text = 39 ∷ 92 ∷ 120 ∷ 52 ∷ 49 ∷ 92 ∷ 49 ∷ 92 ∷ 57 ∷ 39 ∷ []; at = 5 ∷ 7 ∷ [] }
    ∷ []

pub strings_hold : map (λ r. keep (forbidden_escape r.text) (upto 0 (length r.text))) strings ≡ map (λ r. r.at) strings
unfolding forbidden_escape escaped legacy_octal_escape non_octal_decimal_escape keep upto range
strings_hold = refl

-- `"use strict"; "\1\8";`
abbrev two_escapes_tree : Tree
two_escapes_tree = record {
  nodes =
      0 ∷ 0 ∷ 0 ∷ 0 ∷ 21 ∷ 0 ∷ 0 ∷ 0 ∷ 0 ∷ 0
      ∷ 23 ∷ 0 ∷ 0 ∷ 0 ∷ 13 ∷ 0 ∷ 0 ∷ 0 ∷ 0 ∷ 10
      ∷ 36 ∷ 1 ∷ 1 ∷ 0 ∷ 12 ∷ 0 ∷ 0 ∷ 10 ∷ 0 ∷ 0
      ∷ 23 ∷ 0 ∷ 0 ∷ 14 ∷ 21 ∷ 0 ∷ 0 ∷ 0 ∷ 10 ∷ 4
      ∷ 36 ∷ 3 ∷ 1 ∷ 14 ∷ 20 ∷ 0 ∷ 0 ∷ 2 ∷ 0 ∷ 0
      ∷ [];
  scopes = 0 ∷ 3 ∷ 0 ∷ [];
  names = 117 ∷ 115 ∷ 101 ∷ 32 ∷ 115 ∷ 116 ∷ 114 ∷ 105 ∷ 99 ∷ 116 ∷ 92 ∷ 49 ∷ 92 ∷ 56 ∷ [];
  source = 34 ∷ 117 ∷ 115 ∷ 101 ∷ 32 ∷ 115 ∷ 116 ∷ 114 ∷ 105 ∷ 99 ∷ 116 ∷ 34 ∷ 59 ∷ 32 ∷ 34 ∷ 92 ∷ 49 ∷ 92 ∷ 56 ∷ 34 ∷ 59 ∷ [];
}

-- 12.9.4.1: both escapes are errors; the Rust raises the first
pub two_escapes : strict_octal_escape two_escapes_tree.nodes two_escapes_tree.scopes two_escapes_tree.source 4 ∷ strict_non_octal_escape two_escapes_tree.nodes two_escapes_tree.scopes two_escapes_tree.source 4 ∷ first_octal_escape two_escapes_tree.nodes two_escapes_tree.scopes two_escapes_tree.source 4 ∷ first_non_octal_escape two_escapes_tree.nodes two_escapes_tree.scopes two_escapes_tree.source 4 ∷ [] ≡ true ∷ true ∷ true ∷ false ∷ []
unfolding strict_octal_escape text_of legacy_octal_escape non_octal_decimal_escape escapes strict_non_octal_escape first_octal_escape octal_first first_non_octal_escape non_octal_first same name_of above climb upto range keep children is_child first_node kids others forest parts_of trails.climb trails.trail
two_escapes = refl

-- `class C { #a; f() { delete (this?.#a); } }`
abbrev private_chain_tree : Tree
private_chain_tree = record {
  nodes =
      0 ∷ 0 ∷ 0 ∷ 0 ∷ 42 ∷ 0 ∷ 0 ∷ 0 ∷ 0 ∷ 0
      ∷ 26 ∷ 0 ∷ 3 ∷ 0 ∷ 42 ∷ 0 ∷ 544 ∷ 1 ∷ 0 ∷ 0
      ∷ 31 ∷ 1 ∷ 0 ∷ 6 ∷ 7 ∷ 1 ∷ 0 ∷ 0 ∷ 0 ∷ 1
      ∷ 27 ∷ 1 ∷ 3 ∷ 8 ∷ 42 ∷ 1 ∷ 0 ∷ 0 ∷ 0 ∷ 0
      ∷ 29 ∷ 3 ∷ 0 ∷ 10 ∷ 13 ∷ 1 ∷ 4 ∷ 0 ∷ 0 ∷ 0
      ∷ 34 ∷ 4 ∷ 2 ∷ 10 ∷ 12 ∷ 1 ∷ 0 ∷ 0 ∷ 1 ∷ 1
      ∷ 28 ∷ 3 ∷ 0 ∷ 14 ∷ 40 ∷ 1 ∷ 0 ∷ 1 ∷ 0 ∷ 0
      ∷ 55 ∷ 6 ∷ 2 ∷ 14 ∷ 15 ∷ 1 ∷ 0 ∷ 0 ∷ 2 ∷ 1
      ∷ 1 ∷ 6 ∷ 1 ∷ 15 ∷ 40 ∷ 1 ∷ 1024 ∷ 0 ∷ 0 ∷ 0
      ∷ 55 ∷ 8 ∷ 0 ∷ 15 ∷ 17 ∷ 2 ∷ 0 ∷ 0 ∷ 0 ∷ 0
      ∷ 4 ∷ 8 ∷ 3 ∷ 18 ∷ 40 ∷ 2 ∷ 0 ∷ 0 ∷ 0 ∷ 0
      ∷ 22 ∷ 10 ∷ 3 ∷ 20 ∷ 38 ∷ 2 ∷ 0 ∷ 0 ∷ 0 ∷ 0
      ∷ 45 ∷ 11 ∷ 0 ∷ 20 ∷ 37 ∷ 2 ∷ 2048 ∷ 0 ∷ 0 ∷ 0
      ∷ 55 ∷ 12 ∷ 1 ∷ 27 ∷ 37 ∷ 2 ∷ 0 ∷ 1 ∷ 0 ∷ 0
      ∷ 46 ∷ 13 ∷ 1 ∷ 28 ∷ 36 ∷ 2 ∷ 0 ∷ 0 ∷ 0 ∷ 0
      ∷ 41 ∷ 14 ∷ 1 ∷ 28 ∷ 36 ∷ 2 ∷ 0 ∷ 0 ∷ 0 ∷ 0
      ∷ 55 ∷ 15 ∷ 0 ∷ 28 ∷ 32 ∷ 2 ∷ 0 ∷ 0 ∷ 0 ∷ 0
      ∷ 34 ∷ 15 ∷ 0 ∷ 34 ∷ 36 ∷ 2 ∷ 0 ∷ 0 ∷ 3 ∷ 1
      ∷ [];
  scopes = 0 ∷ 2 ∷ 0 ∷ 0 ∷ 1 ∷ 1 ∷ 1 ∷ 5 ∷ 8 ∷ [];
  names = 67 ∷ 97 ∷ 102 ∷ 97 ∷ [];
  source = [];
}

-- 13.5.1.1: through parentheses and a chain
pub private_chain : deletes_private private_chain_tree.nodes private_chain_tree.scopes 12 ∷ deletes_private_anywhere private_chain_tree.nodes 12 ∷ [] ≡ true ∷ true ∷ []
unfolding deletes_private ultimately private_reference deletes_private_anywhere same name_of above climb upto range keep children is_child first_node kids others forest parts_of trails.climb trails.trail
private_chain = refl

-- the scopes of these trees follow the tree
pub scopes_hold : map (λ t. scopes_follow t.nodes t.scopes) (two_escapes_tree ∷ private_chain_tree ∷ []) ≡ map (λ t. true) (two_escapes_tree ∷ private_chain_tree ∷ [])
unfolding scopes_follow flagged_at follows_at class_at upto range
scopes_hold = refl
