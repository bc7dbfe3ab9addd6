use mathlib.Core.Path.{◌≡◌}
use Prim.Native.Nat.{◌<◌}
use Rattle.table_records.specs.Table.{count}
use Rattle.code_tree.specs.Labels.{name_id}
use Rattle.route_completion.specs.Sem.{elem}
use Rattle.route_steps.specs.Statement.{labels_of}
use Rattle.route_walk.proofs.has_label.Given as goal

abbrev pub invariant-loop-named : goal.invariant-loop-named
invariant-loop-named l = (l.at.0 < count l.given.nodes) × (elem (name_id l.given.nodes l.given.names l.l.0) (labels_of l.given.nodes l.given.names l.at.0) ≡ elem (name_id l.given.nodes l.given.names l.l.0) (labels_of l.given.nodes l.given.names l.initial.at.0))

abbrev pub decreases-loop-named : goal.decreases-loop-named
decreases-loop-named l = l.at.0
