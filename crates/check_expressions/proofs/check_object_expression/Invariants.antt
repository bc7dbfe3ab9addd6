use Prim.Native.Nat.{◌<◌, ◌≤◌, ◌-◌, ◌+◌, ◌*◌}
use Rattle.table_records.specs.Table.{count}
use Rattle.check_diagnostics.proofs.Gather.{Left}
use Rattle.table_children.specs.Children.{below}
use Rattle.check_expressions.specs.Expressions.{check_object_expression}
use Rattle.check_expressions.proofs.ExpressionLaws.{repeats_from, keys_from}
use Rattle.check_expressions.proofs.check_object_expression.Given as goal

abbrev pub invariant-loop-p : goal.invariant-loop-p
invariant-loop-p l = (l.n.0 < l.from) × (l.from ≤ count l.named.nodes) × (l.findings.raised ≤ l.initial.findings.raised + 7 * l.from) × below l.named.nodes l.previous
    × Left l.initial.findings l.findings (check_object_expression l.named.nodes l.named.names l.n.0) (repeats_from l.named.nodes l.n.0 l.previous (keys_from l.named.nodes l.named.names l.n.0 l.from))

abbrev pub decreases-loop-p : goal.decreases-loop-p
decreases-loop-p l = count l.named.nodes - l.from
