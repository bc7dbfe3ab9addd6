-- Where each completion of a node leads, and what says so, one step up. Document 01: "A break leaves the nearest loop or Switch, with a label the nearest Labeled of that name. A continue
-- goes to the next answer of the nearest loop, with a label of the one that the nearest Labeled so named holds, only Labeled between."
use Rattle.std.specs.Prelude.{ℕ, zero, suc, ◌+◌, List, Bool, true, false, ◌&&◌, eqb}
use Rattle.table_records.specs.Roles as role
use Rattle.route_completion.specs.Sem.{Comp}
use Rattle.code_flat.specs.Code.{Stat, at}
use Rattle.code_tree.specs.Parts.{shape_at, order}
use Rattle.code_tree.specs.declared.Shape.{Shape}
use Rattle.code_tree.specs.declared.Shape.TheVariants.{Leaf, Class, If, With, Block, Label, Loop, Switch, Case, Try, Catch}
use Rattle.code_layout.specs.Widths.{has_role, is_try}
use Rattle.code_layout.specs.Context.{context_at}

abbrev pub is_loop : Shape → Bool
is_loop Leaf = false
is_loop Class = false
is_loop If = false
is_loop With = false
is_loop Block = false
is_loop Label = false
is_loop Loop = true
is_loop Switch = false
is_loop Case = false
is_loop Try = false
is_loop Catch = false

abbrev pub is_breakable : Shape → Bool
is_breakable Leaf = false
is_breakable Class = false
is_breakable If = false
is_breakable With = false
is_breakable Block = false
is_breakable Label = false
is_breakable Loop = true
is_breakable Switch = true
is_breakable Case = false
is_breakable Try = false
is_breakable Catch = false

abbrev pub is_catch : Shape → Bool
is_catch Leaf = false
is_catch Class = false
is_catch If = false
is_catch With = false
is_catch Block = false
is_catch Label = false
is_catch Loop = false
is_catch Switch = false
is_catch Case = false
is_catch Try = false
is_catch Catch = true

-- There is one (0: none).
abbrev pub some : ℕ → Bool
some zero = false
some (suc m) = true

-- A part goes on by itself where its holder is a list and it isn't the last, in a loop (to the next turn), and as a finally (to what is pending); else as its holder does.
-- m is the next part (0: none), r the part's role.
abbrev pub goes_on_by : Shape → ℕ → ℕ → Bool
goes_on_by Leaf m r = false
goes_on_by Class m r = some m
goes_on_by If m r = false
goes_on_by With m r = false
goes_on_by Block m r = some m
goes_on_by Label m r = false
goes_on_by Loop m r = true
goes_on_by Switch m r = some m
goes_on_by Case m r = some m
goes_on_by Try m r = eqb r role.Finally
goes_on_by Catch m r = false

-- Where such a part goes on, at the depth d, whose words end at e; its holder stands at o, at the depth δ.
abbrev pub next_by : Shape → ℕ → ℕ → ℕ → ℕ → Stat
next_by Leaf o δ d e = at e δ
next_by Class o δ d e = at e δ
next_by If o δ d e = at e δ
next_by With o δ d e = at e δ
next_by Block o δ d e = at e δ
next_by Label o δ d e = at e δ
next_by Loop o δ d e = at (o + 3) δ
next_by Switch o δ d e = at e δ
next_by Case o δ d e = at e δ
next_by Try o δ d e = at 0 d
next_by Catch o δ d e = at e δ

-- "the nearest Try in the unit that has a catch and holds the throw in its role 3 Block": the Try p catches what its part with the role r throws.
abbrev pub catches_at : List ℕ → ℕ → ℕ → Bool
catches_at ns p r = is_try (shape_at ns p) && (eqb r role.Held && has_role ns role.Alternate (order ns p))

module _ (ns names : List ℕ) (b : ℕ) where
  unfoldable pub target : ℕ → Comp → Stat
  target j c = (context_at ns names b j).env c

  unfoldable pub depth_at : ℕ → ℕ
  depth_at j = (context_at ns names b j).depth

  unfoldable pub labels_at : ℕ → List ℕ
  labels_at j = (context_at ns names b j).labels
