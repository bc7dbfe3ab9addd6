-- The node that holds a unit's statements is ready for the code maker.
use Rattle.std.specs.Prelude.{ℕ, ◌≤◌, ◌<◌, ◌≡◌, List, Some}
use Rattle.table_records.specs.Table.{kind_of, count}
use Rattle.table_records.specs.Facts.{Tree, Named}
use Rattle.table_records.specs.Kinds as k
use Rattle.refusal_fields.specs.Fields.{Listed}
use Rattle.refusal_standing.specs.Standing.{Placed}
use Rattle.refusal_counts.specs.Counts.{Counted}
use Rattle.code_tree.specs.Statements.{holder_of}
use Rattle.code_contexts.specs.Contexts.{Ready}
use Rattle.code_wellformed.proofs.ReadyLaws.{ready}
use Rattle.code_wellformed.proofs.Holder.{holder_in_lem, holder_holds}

module _ (ns : List ℕ) (u : ℕ) (lu : u < count ns) (eu : kind_of ns u ≤ k.StaticBlock) (b : ℕ) (e : holder_of ns u ≡ Some (record { 0 = b })) where
  -- What the code maker asks for holds of it.
  pub holder_ready : Tree ns → Listed ns → Placed ns → Counted ns → (names : List ℕ) → Named ns names → Ready ns names b
  holder_ready t li pl co names n = ready ns t li pl co names n b (holder_in_lem ns u lu eu b e) (holder_holds ns u lu eu b e)
