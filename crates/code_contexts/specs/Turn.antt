-- A layout in the making, at the turn of a node.
use Rattle.std.specs.Prelude.{ℕ, ◌≤◌, ◌<◌, ◌≡◌, List, true, length}
use Rattle.table_records.specs.Table.{count}
use Rattle.code_layout.specs.Widths.{in_unit}
use Rattle.code_contexts.specs.declared.Draft.{Draft}
use Rattle.code_contexts.specs.Contexts.{Ready, Wide, Places}

-- Each array has a place for each node.
-- A `requires` and no struct's invariant: it ties the nodes with the arrays of a `Draft`, which holds no nodes.
pub record Room (ns : List ℕ) (d : Draft) : Type 0 where
  pub widths : count ns ≤ length d.widths.now
  pub levels : count ns ≤ length d.levels.now
  pub offsets : count ns ≤ length d.offsets.now
  pub follows : count ns ≤ length d.follows.now

-- The arrays that were lent are the draft's still, each where it was.
pub record SameArrays (before after : Draft) : Type 0 where
  pub widths : after.widths.ghost_name ≡ before.widths.ghost_name
  pub levels : after.levels.ghost_name ≡ before.levels.ghost_name
  pub offsets : after.offsets.ghost_name ≡ before.offsets.ghost_name
  pub follows : after.follows.ghost_name ≡ before.follows.ghost_name

-- n, behind b, is the unit's, and the unit's nodes before it have their places.
-- A `requires` and no struct's invariant: `lay_at` writes array by array, so that it holds between turns and not at each write.
pub record Turn (ns names : List ℕ) (b n : ℕ) (d : Draft) : Type 0 where
  pub ready : Ready ns names b
  pub behind : b < n
  pub inside : n < count ns
  pub member : in_unit ns b n ≡ true
  pub room : Room ns d
  pub wide : Wide ns b d.widths.now
  pub places : Places ns names b n d.levels.now d.offsets.now d.follows.now
