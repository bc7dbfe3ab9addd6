use Rattle.table_records.specs.Table as table
use Rattle.refusal_verdict.specs.First.{first}
use Rattle.call_labels.specs.Order.{seen_before}
use Rattle.call_labels.specs.Unfit.{unfit_at}
use Rattle.call_labels.specs.Firsts.{Firsts}
use mathlib.Core.Path.{◌≡◌}
use Rattle.call_labels.proofs.first_labels.Given as goal

abbrev pub invariant-loop-i : goal.invariant-loop-i
invariant-loop-i l =
    Firsts l.named.nodes l.named.names l.kept.nodes l.kept.size (seen_before l.named.nodes l.named.names l.i)
    × (first (unfit_at l.named.nodes l.named.names) l.i (table.count l.named.nodes) ≡ first (unfit_at l.named.nodes l.named.names) 0 (table.count l.named.nodes))
