-- Where a jump stops on its way up, and where it goes from there: one law for breaks, continues, returns and throws.
use Rattle.std.specs.Prelude.{ℕ, ◌+◌, ◌≤◌, List, Bool, true, false, ◌&&◌, eqb, length}
use Rattle.table_records.specs.Table.{role_of, count}
use Rattle.table_children.specs.Children.{below}
use Rattle.route_completion.specs.Tree.{near, named}
use Rattle.route_completion.specs.Sem.{Comp, normal, breaks, continues, returns, throws, spent, elem}
use Rattle.code_flat.specs.Code.{Stat, at}
use Rattle.code_tree.specs.Labels.{id_at, lab_by}
use Rattle.code_tree.specs.Parts.{up_of, shape_at, is_labeled}
use Rattle.code_layout.specs.Widths.{width_at}
use Rattle.code_layout.specs.Context.{offset_at}
use Rattle.code_targets.specs.Targets.{is_loop, is_breakable, catches_at, target, depth_at, labels_at}
use Rattle.code_contexts.specs.Contexts.{Ready, Wide, Places}
use Rattle.code_machine.specs.declared.Target.{Target}
use Rattle.code_branch.specs.declared.Jump.{Jump}
use Rattle.code_branch.specs.declared.Jump.TheVariants.{Break, Continue, Return, Throw}

abbrev pub stat_of : Target → Stat
stat_of t = at t.place t.depth

-- The completion of a jump: a label is known by its node.
abbrev pub comp_by : List ℕ → List ℕ → Jump → Comp
comp_by ns names (Break l) = breaks (lab_by ns names l)
comp_by ns names (Continue l) = continues (lab_by ns names l)
comp_by ns names Return = returns
comp_by ns names Throw = throws

abbrev pub LabelIn : List ℕ → Jump → Type 0
LabelIn ns (Break l) = below ns l
LabelIn ns (Continue l) = below ns l
LabelIn ns Return = Unit {0}
LabelIn ns Throw = Unit {0}

-- How far behind the unit's words the end stands that a jump goes to where nothing in the unit stops it.
abbrev pub end_by : Jump → ℕ
end_by (Break l) = 6
end_by (Continue l) = 6
end_by Return = 2
end_by Throw = 4

module _ (ns names : List ℕ) (b : ℕ) where
  -- The completion c of the part j ends at its holder: a break at the nearest loop or Switch, or the Labeled of its name; a continue at the nearest loop, or the one that the Labeled of its name holds;
  -- a throw at the Try that catches it.
  abbrev pub stops_at : Comp → ℕ → Bool
  stops_at normal j = false
  stops_at (breaks near) j = is_breakable (shape_at ns (up_of ns j))
  stops_at (breaks (named l)) j = is_labeled (shape_at ns (up_of ns j)) && eqb l (id_at ns names (up_of ns j))
  stops_at (continues near) j = is_loop (shape_at ns (up_of ns j))
  stops_at (continues (named l)) j = is_loop (shape_at ns (up_of ns j)) && elem l (labels_at ns names b (up_of ns j))
  stops_at returns j = false
  stops_at throws j = catches_at ns (up_of ns j) (role_of ns j)
  stops_at spent j = false

  -- Where it goes then: a break on from the holder, a continue to the loop's next turn, a throw to the catch, which begins where the Block's words end.
  abbrev pub land_at : Comp → ℕ → Stat
  land_at normal j = target ns names b (up_of ns j) normal
  land_at (breaks l) j = target ns names b (up_of ns j) normal
  land_at (continues l) j = at (offset_at ns names b (up_of ns j) + 3) (depth_at ns names b (up_of ns j))
  land_at returns j = target ns names b (up_of ns j) returns
  land_at throws j = at (offset_at ns names b j + width_at ns b j) (depth_at ns names b j)
  land_at spent j = target ns names b (up_of ns j) spent

  abbrev pub is_jump : Comp → Bool
  is_jump normal = false
  is_jump (breaks l) = true
  is_jump (continues l) = true
  is_jump returns = true
  is_jump throws = true
  is_jump spent = false

  -- The arrays of the code maker.
  pub record Arrays (widths levels offsets follows : List ℕ) : Type 0 where
    pub ready : Ready ns names b
    pub wide : Wide ns b widths
    pub places : Places ns names b (count ns) levels offsets follows
    pub long_levels : count ns ≤ length levels
    pub long_offsets : count ns ≤ length offsets
    pub long_follows : count ns ≤ length follows

-- What a clause sees of a layout.
pub record Plan : Type 0 where
  pub nodes : List ℕ
  pub names : List ℕ
  pub body : ℕ
  pub widths : List ℕ
  pub levels : List ℕ
  pub offsets : List ℕ
  pub follows : List ℕ

-- Its arrays are those of the code maker: the invariant of `Layout`.
abbrev pub Laid : Plan → Type 0
Laid l = Arrays l.nodes l.names l.body l.widths l.levels l.offsets l.follows
