use Rattle.table_scoping.specs.Scoping.{in_static_block}
use Rattle.table_records.specs.Table.{count_scopes}
use mathlib.Core.Path.{◌≡◌}
use Prim.Native.Nat.{◌<◌}
use Rattle.table_scoping.proofs.in_static_block.Given as goal

abbrev pub invariant-loop-at : goal.invariant-loop-at
invariant-loop-at l = (l.at.0 < count_scopes l.scopes) × (in_static_block l.scopes l.at.0 ≡ in_static_block l.scopes l.initial.at.0)

abbrev pub decreases-loop-at : goal.decreases-loop-at
decreases-loop-at l = l.at.0
