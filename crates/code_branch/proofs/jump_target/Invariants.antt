use Prim.Native.Nat.{◌<◌}
use mathlib.Core.Path.{◌≡◌}
use mathlib.Core.Bool.{true}
use Rattle.table_records.specs.Table.{count}
use Rattle.code_targets.specs.Targets.{target}
use Rattle.code_layout.specs.Widths.{in_unit}
use Rattle.code_branch.specs.Branch.{comp_by}
use Rattle.code_branch.proofs.jump_target.Given as goal

abbrev pub invariant-loop-at : goal.invariant-loop-at
invariant-loop-at l = (l.at < count l.laid.nodes) × (in_unit l.laid.nodes l.laid.body l.at ≡ true) × (target l.laid.nodes l.laid.names l.laid.body l.at (comp_by l.laid.nodes l.laid.names l.jump) ≡ target l.laid.nodes l.laid.names l.laid.body l.initial.at (comp_by l.laid.nodes l.laid.names l.jump))

abbrev pub decreases-loop-at : goal.decreases-loop-at
decreases-loop-at l = l.at
