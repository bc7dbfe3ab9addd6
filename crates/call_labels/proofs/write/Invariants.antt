use Rattle.table_records.specs.Table as table
use Rattle.base_common.specs.Upto.{upto}
use Rattle.base_common.specs.Wrote.{Wrote}
use Rattle.call_labels.specs.Written.{new_name_of, names_to, record_of, nodes_renamed, names_renamed}
use lib.ListN.{length}
use mathlib.Core.List.{flat_map}
use mathlib.Core.Path.{◌≡◌}
use Prim.Native.Nat.{◌*◌}
use Rattle.call_labels.proofs.write.Given as goal

abbrev pub invariant-loop-i : goal.invariant-loop-i
invariant-loop-i l =
    (l.w ≡ length (names_to l.labels.nodes l.labels.names l.i))
    × Wrote l.initial.renamed_nodes l.renamed_nodes (l.i * 10) (flat_map (record_of l.labels.nodes l.labels.names) (upto l.i (table.count l.labels.nodes))) (nodes_renamed l.labels.nodes l.labels.names)
    × Wrote l.initial.renamed_names l.renamed_names l.w (flat_map (new_name_of l.labels.nodes l.labels.names) (upto l.i (table.count l.labels.nodes))) (names_renamed l.labels.nodes l.labels.names)
