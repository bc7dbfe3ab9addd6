use mathlib.Core.Path.{◌≡◌}
use mathlib.Core.Bool.{true}
use Rattle.table_records.specs.Table.{count}
use Rattle.route_completion.specs.Sem.{elem}
use Rattle.code_tree.specs.Labels.{name_id}
use Rattle.code_targets.specs.Targets.{labels_at}
use Rattle.code_layout.specs.Widths.{in_unit}
use Prim.Native.Nat.{◌<◌}
use Rattle.code_branch.proofs.has_label_above.Given as goal

abbrev pub invariant-loop-at : goal.invariant-loop-at
invariant-loop-at l = (l.at < count l.laid.nodes) × (in_unit l.laid.nodes l.laid.body l.at ≡ true) × (elem (name_id l.laid.nodes l.laid.names l.l.0) (labels_at l.laid.nodes l.laid.names l.laid.body l.at) ≡ elem (name_id l.laid.nodes l.laid.names l.l.0) (labels_at l.laid.nodes l.laid.names l.laid.body l.initial.at))

abbrev pub decreases-loop-at : goal.decreases-loop-at
decreases-loop-at l = l.at
