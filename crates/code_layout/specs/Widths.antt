-- How many words each node takes, alone and with all below it. b is the node that holds the unit's statements.
use Rattle.std.specs.Prelude.{ℕ, zero, suc, ◌+◌, Bool, true, false, cond, ◌&&◌, ◌||◌, eqb, leb}
use mathlib.Core.List.{List, [], ◌∷◌, foldr}
use Rattle.base_walk.specs.Above.{above}
use Rattle.table_records.specs.Table.{role_of, count}
use Rattle.table_records.specs.Roles as role
use Rattle.code_tree.specs.Parts.{up_of, shape_at, is_part, order}
use Rattle.code_tree.specs.declared.Shape.{Shape}
use Rattle.code_tree.specs.declared.Shape.TheVariants.{Leaf, Class, If, With, Block, Label, Loop, Switch, Case, Try, Catch}

-- Some node of a list has the role r.
abbrev pub has_role : List ℕ → ℕ → List ℕ → Bool
has_role ns r [] = false
has_role ns r (c ∷ cs) = eqb (role_of ns c) r || has_role ns r cs

unfoldable pub sum : (ℕ → ℕ) → List ℕ → ℕ
sum z [] = 0
sum z (c ∷ cs) = z c + sum z cs

-- THE TABLE: how many words a node takes, by its shape.
abbrev pub number_by : Shape → ℕ
number_by Leaf = 5
number_by Class = 5
number_by If = 7
number_by With = 2
number_by Block = 3
number_by Label = 0
number_by Loop = 10
number_by Switch = 7
number_by Case = 4
number_by Try = 0
number_by Catch = 0

-- OPEN has two words. A Try has them where it has a finally.
abbrev pub open_words : ℕ
open_words = 2

abbrev pub is_try : Shape → Bool
is_try Leaf = false
is_try Class = false
is_try If = false
is_try With = false
is_try Block = false
is_try Label = false
is_try Loop = false
is_try Switch = false
is_try Case = false
is_try Try = true
is_try Catch = false

-- The words of a node alone; ps are its parts.
abbrev pub own_width_by : List ℕ → Shape → List ℕ → ℕ
own_width_by ns s ps = cond (is_try s && has_role ns role.Finally ps) open_words (number_by s)

module _ (ns : List ℕ) (b : ℕ) where
  -- j is one of the unit's: it is b, or a part of such a node.
  unfoldable pub in_unit : ℕ → Bool
  in_unit j = foldr (λ a r. cond (leb a b) (eqb a b) (is_part ns a && r)) false (j ∷ above (up_of ns) j)

  -- The words of j itself; those of b are the ends, and stand behind all others.
  unfoldable pub own_width : ℕ → ℕ
  own_width j = cond (eqb j b) 0 (own_width_by ns (shape_at ns j) (order ns j))

  -- The words of j and of all below it. The first number bounds the nesting; the count is enough (LayoutLaws.antt).
  unfoldable pub width_by : ℕ → ℕ → ℕ
  width_by zero j = 0
  width_by (suc f) j = own_width j + sum (width_by f) (order ns j)

  unfoldable pub width_at : ℕ → ℕ
  width_at j = width_by (count ns) j
