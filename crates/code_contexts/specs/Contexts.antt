-- What the arrays hold once each node's words have their place: how deep the pending ends are, where the words stand, and from which node's end control goes on.
use Rattle.std.specs.Prelude.{ℕ, suc, ◌+◌, ◌≤◌, ◌<◌, ◌≡◌, List, Bool, true, false, cond, eqb, leb, get_or, length}
use Rattle.table_records.specs.Table.{kind_of, parent_of, role_of, count}
use Rattle.table_records.specs.Kinds as k
use Rattle.table_records.specs.Roles as role
use Rattle.route_completion.specs.Sem.{normal}
use Rattle.code_flat.specs.Code.{Stat, at}
use Rattle.code_tree.specs.Parts.{up_of, shape_at, is_part, parts}
use Rattle.code_tree.specs.declared.Shape.{Shape}
use Rattle.code_tree.specs.declared.Shape.TheVariants.{Leaf, Class, If, With, Block, Label, Loop, Switch, Case, Try, Catch}
use Rattle.code_layout.specs.Widths.{sum, in_unit, width_at}
use Rattle.code_layout.specs.Context.{offset_at}
use Rattle.code_layout.specs.Shaped.{Held}
use Rattle.code_targets.specs.Targets.{next_by, target, depth_at}
use Rattle.code_widths.specs.Widths.{counted}

-- "Try holds one Block with role 3, at most one CatchClause with role 4, one Block with role 5": they are its own children.
abbrev pub TryParts : List ℕ → Type 0
TryParts ns = (j : ℕ) → j < count ns → is_part ns j ≡ true → shape_at ns (up_of ns j) ≡ Try
    → (kind_of ns j ≡ cond (eqb (role_of ns j) role.Alternate) k.CatchClause k.Block) × (parent_of ns j ≡ up_of ns j)

-- What is asked of the tables.
-- In the invariant of `Layout` (code_branch). A `requires` of `fill_places` and what it calls, which write the arrays before there is a `Layout`.
pub record Ready (ns names : List ℕ) (b : ℕ) : Type 0 where
  pub held : Held ns names b
  pub direct : TryParts ns

-- The widths of the unit's nodes.
-- A `requires` and no struct's invariant: it ties the nodes with an array, and `Draft`, which holds the array by a `&mut`, holds no nodes.
pub record Wide (ns : List ℕ) (b : ℕ) (widths : List ℕ) : Type 0 where
  pub long : count ns ≤ length widths
  pub is : (j : ℕ) → b ≤ j → j < count ns → in_unit ns b j ≡ true → get_or widths j 0 ≡ width_at ns b j

-- `goes_on_by` by whether there is a next part.
abbrev pub goes_by : Shape → Bool → ℕ → Bool
goes_by Leaf x r = false
goes_by Class x r = x
goes_by If x r = false
goes_by With x r = false
goes_by Block x r = x
goes_by Label x r = false
goes_by Loop x r = true
goes_by Switch x r = x
goes_by Case x r = x
goes_by Try x r = eqb r role.Finally
goes_by Catch x r = false

module _ (ns names : List ℕ) (b : ℕ) where
  -- Where control goes from the end of f, a node that goes on by itself; from the end of b to the end of the unit.
  unfoldable pub next_of : ℕ → Stat
  next_of f =
      cond (leb f b) (at (width_at ns b b) 0)
      (next_by (shape_at ns (up_of ns f)) (offset_at ns names b (up_of ns f)) (depth_at ns names b (up_of ns f)) (depth_at ns names b f) (offset_at ns names b f + width_at ns b f))

  -- What falls out of j goes on from the end of f.
  pub record Follow (j f : ℕ) : Type 0 where
    pub low : b ≤ f
    pub inside : f < count ns
    pub member : in_unit ns b f ≡ true
    pub goes : target ns names b j normal ≡ next_of f

  -- Before i: the unit's nodes with their depths (one more, so that 0 is left for the others), offsets and follows. From i on: which nodes are the unit's, and the words behind each. The level of a node that isn't the unit's is 0.
  pub record Places (i : ℕ) (levels offsets follows : List ℕ) : Type 0 where
    pub level : (j : ℕ) → b ≤ j → j < i → in_unit ns b j ≡ true → get_or levels j 0 ≡ suc (depth_at ns names b j)
    pub offset : (j : ℕ) → b ≤ j → j < i → in_unit ns b j ≡ true → get_or offsets j 0 ≡ offset_at ns names b j
    pub follow : (j : ℕ) → b ≤ j → j < i → in_unit ns b j ≡ true → Follow j (get_or follows j 0)
    pub unit : (j : ℕ) → i ≤ j → j < count ns → get_or levels j 0 ≡ cond (in_unit ns b j) 1 0
    pub after : (j : ℕ) → i ≤ j → j < count ns → in_unit ns b j ≡ true → get_or offsets j 0 ≡ sum (counted ns b) (parts ns (up_of ns j) (j + 1))
    pub other : (j : ℕ) → j < count ns → in_unit ns b j ≡ false → get_or levels j 0 ≡ 0
