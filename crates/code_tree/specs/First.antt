-- The first of some nodes.
use Rattle.std.specs.Prelude.{ℕ, List, [], ◌∷◌, Option, Some, None}
use Rattle.table_records.specs.declared.NodeId.{NodeId}

abbrev pub first_of : List ℕ → Option NodeId
first_of [] = None
first_of (c ∷ cs) = Some (record { 0 = c })
