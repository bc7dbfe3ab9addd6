-- What is known of a unit that is not refused: its statements are held by a node that can be coded.
use Rattle.std.specs.Prelude.{ℕ, ◌<◌, ◌≡◌, List, Some}
use Rattle.table_records.specs.Table.{count}
use Rattle.table_records.specs.Facts.{Tree}
use Rattle.code_tree.specs.Statements.{holder_of}
use Rattle.code_contexts.specs.Contexts as contexts

-- A `requires` and no struct's invariant: it ties two lent slices and a unit, and `Rule` (check_dispatch), which holds the slices, stands where this is not known.
pub record Ready (ns names : List ℕ) (u : ℕ) : Type 0 where
  pub tree : Tree ns
  pub root : u < count ns
  pub held : (b : ℕ) → holder_of ns u ≡ Some (record { 0 = b }) → contexts.Ready ns names b
