-- Refusal 15: "A return whose nearest unit is a static block has no meaning in the standard and is refused"; entered or not.
use Rattle.table_records.specs.declared.NodeId.{NodeId}
use Rattle.std.specs.Prelude.{ℕ, List, Bool, false, ◌&&◌, eqb, Option, Some, None}
use Rattle.table_records.specs.Table.{kind_of}
use Rattle.table_records.specs.Kinds as k
use Rattle.table_ancestry.specs.Ancestry.{nearest_of}

abbrev pub is_static : List ℕ → Option NodeId → Bool
is_static ns (Some u) = eqb (kind_of ns u.0) k.StaticBlock
is_static ns None = false

-- A unit is a node of kind 0-3.
unfoldable pub return_in_static : List ℕ → ℕ → Bool
return_in_static ns n = eqb (kind_of ns n) k.Return && is_static ns (nearest_of ns k.Program k.StaticBlock n)
