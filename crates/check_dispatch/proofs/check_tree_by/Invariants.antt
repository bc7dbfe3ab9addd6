use Rattle.check_dispatch.specs.Lent.{rule_of}
use Rattle.check_dispatch.specs.Reported.{reported_at}
use Rattle.check_diagnostics.proofs.Gather.{Left}
use Rattle.table_records.specs.Table.{count}
use Rattle.base_common.specs.Upto.{upto}
use mathlib.Core.List.{flat_map}
use Prim.Native.Nat.{◌+◌, ◌*◌, ◌≤◌}
use Rattle.check_dispatch.proofs.check_tree_by.Given as goal

abbrev pub invariant-loop-i : goal.invariant-loop-i
invariant-loop-i l = (l.all.raised ≤ l.initial.all.raised + 458794 * l.i)
    × Left l.initial.all l.all (flat_map (reported_at (rule_of l.rule)) (upto 0 (count l.rule.nodes.now)))
    (flat_map (reported_at (rule_of l.rule)) (upto l.i (count l.rule.nodes.now)))
