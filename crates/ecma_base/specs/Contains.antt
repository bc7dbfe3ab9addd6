-- ECMA-262, 8.5.1 Static Semantics: Contains, and operations like it: they begin at some parts of a node, go down, and end at others.
use Rattle.std.specs.Prelude.{ℕ, List, Bool, false, cond, not, ◌&&◌, ◌||◌, eqb}
use Rattle.base_common.specs.Tests.{within}
use Rattle.table_records.specs.Table.{kind_of}
use Rattle.table_records.specs.Kinds as k
use Rattle.table_children.specs.Children.{value_of, is_node}
use Rattle.ecma_trees.specs.Trail.{handed_down}
use Rattle.ecma_trees.specs.Rose.{Rose, Roses, node, rnil, rcons, idx, parts_of}

-- "For each child node child of this Parse Node: if child is an instance of symbol, return true; if child is an instance of a nonterminal, let contained be the result
-- of child Contains symbol. If contained is true, return true. Return false." It goes into the part j of the node i where `into i j` says so.
module _ (sought : ℕ → Bool) (into : ℕ → ℕ → Bool) where
  unfoldable mutual
    pub contains : Rose → Bool
    contains (node n ks) = sought n || contains_any ks (into n)

    pub contains_any : Roses → (ℕ → Bool) → Bool
    contains_any rnil b = false
    contains_any (rcons t ts) b = (b (idx t) && contains t) || contains_any ts b

-- The operation of a node u: it begins at those parts of u of which `begin` says so.
abbrev pub contains_from : List ℕ → (ℕ → Bool) → (ℕ → ℕ → Bool) → (ℕ → ℕ → Bool) → ℕ → Bool
contains_from ns sought into begin u = contains_any sought into (parts_of ns u) (begin u)

-- The same where `edge i j` says that one begins or ends between the node i and its part j.
abbrev pub contains_in : List ℕ → (ℕ → Bool) → (ℕ → ℕ → Bool) → ℕ → Bool
contains_in ns sought edge u = contains_from ns sought (λ i j. not (edge i j)) edge u

-- FieldDefinition : ClassElementName Initializer: j is the Initializer of i
abbrev pub initializer : List ℕ → ℕ → ℕ → Bool
initializer ns i j = within (kind_of ns i) k.PropertyDefinition k.AccessorProperty && is_node (value_of ns i) j

-- ClassStaticBlock : static { ClassStaticBlockBody }
abbrev pub static_block : List ℕ → ℕ → Bool
static_block ns u = eqb (kind_of ns u) k.StaticBlock

-- Where the operation of u comes to: it begins at a part of u on the way to j, and goes into all that follow.
abbrev pub comes : List ℕ → (ℕ → ℕ → Bool) → (ℕ → ℕ → Bool) → ℕ → ℕ → Bool
comes ns begin into u j = handed_down ns (λ i k r. cond (eqb i u) (begin i k) (r && into i k)) false j
