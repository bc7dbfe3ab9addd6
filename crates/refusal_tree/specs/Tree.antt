-- What node is out of place: document 01, refusal 3.
use Rattle.std.specs.Prelude.{ℕ, ◌-◌, List, ◌∷◌, Bool, cond, not, ◌||◌, eqb, ltb, Option, Some, None}
use Rattle.base_walk.specs.On.{member, on}
use Rattle.table_records.specs.Table.{kind_of, parent_of, ancestors, depth_of}

-- Node 0 is a Program with parent 0; another node is none, its parent is the node before it or an ancestor of that, and it is at most 512 deep.
unfoldable pub misplaced_at : List ℕ → ℕ → Bool
misplaced_at ns i =
    cond (eqb i 0)
    (not (eqb (kind_of ns i) 0) || not (eqb (parent_of ns i) 0))
    (eqb (kind_of ns i) 0 || (not (member (parent_of ns i) ((i - 1) ∷ ancestors ns (i - 1))) || ltb 512 (depth_of ns i)))

-- what the walk up from `at` gives
unfoldable pub depth_from : List ℕ → ℕ → ℕ → Option ℕ
depth_from ns at p = cond (on (parent_of ns) p at) (Some (depth_of ns p)) None

-- what the test of one node gives
unfoldable pub depth_if : List ℕ → ℕ → Option ℕ
depth_if ns i = cond (misplaced_at ns i) None (Some (depth_of ns i))
