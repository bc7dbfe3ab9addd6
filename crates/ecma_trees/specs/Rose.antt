-- The tree of a table in preorder. A node of it is a number, its place in the table, and its parts, in the table's order.
use Rattle.std.specs.Prelude.{ℕ, zero, suc, ◌+◌, ◌-◌, cond, List, [], ◌∷◌, ◌++◌, eqb}
use Rattle.table_records.specs.Table.{parent_of, count}

mutual
  pub data Rose : Type 0 where
    node : ℕ → Roses → Rose

  pub data Roses : Type 0 where
    rnil : Roses
    rcons : Rose → Roses → Roses

abbrev pub idx : Rose → ℕ
idx (node i ks) = i

-- The trees at the front whose parent is i, and the others.
unfoldable pub kids : List ℕ → ℕ → Roses → Roses
kids ns i rnil = rnil
kids ns i (rcons t ts) = cond (eqb (parent_of ns (idx t)) i) (rcons t (kids ns i ts)) rnil

unfoldable pub others : List ℕ → ℕ → Roses → Roses
others ns i rnil = rnil
others ns i (rcons t ts) = cond (eqb (parent_of ns (idx t)) i) (others ns i ts) (rcons t ts)

-- The k nodes from i on, as trees: each takes the trees behind it that name it as their parent.
unfoldable pub forest : List ℕ → ℕ → ℕ → Roses
forest ns i zero = rnil
forest ns i (suc k) = rcons (node i (kids ns i (forest ns (suc i) k))) (others ns i (forest ns (suc i) k))

-- The parts of a node, and the trees behind it that are none of its parts.
unfoldable pub parts_of : List ℕ → ℕ → Roses
parts_of ns u = kids ns u (forest ns (suc u) (count ns - suc u))

unfoldable pub rest_of : List ℕ → ℕ → Roses
rest_of ns u = others ns u (forest ns (suc u) (count ns - suc u))

-- The tree at a node, and the tree of the table.
abbrev pub tree_at : List ℕ → ℕ → Rose
tree_at ns u = node u (parts_of ns u)

abbrev pub tree_of : List ℕ → Rose
tree_of ns = tree_at ns 0

-- The nodes of a tree, in preorder.
unfoldable mutual
  pub marks : Rose → List ℕ
  marks (node i ks) = i ∷ marks_all ks

  pub marks_all : Roses → List ℕ
  marks_all rnil = []
  marks_all (rcons t ts) = marks t ++ marks_all ts

-- A fold over the parts of a node.
abbrev pub fold_parts : {R : Type 0} → (ℕ → R → R) → R → Roses → R
fold_parts f d rnil = d
fold_parts f d (rcons t ts) = f (idx t) (fold_parts f d ts)
