use Prim.Native.Nat.{◌<◌}
use mathlib.Core.Path.{◌≡◌}
use Rattle.table_records.specs.Table.{count}
use Rattle.check_class_table.specs.Elements.{is_declared}
use Rattle.check_element_index.proofs.is_declared.Given as goal

abbrev pub invariant-loop-nodes : goal.invariant-loop-nodes
invariant-loop-nodes l = let s = l.elements in
    (l.at.0 < count s.nodes) × (is_declared s.source_type s.nodes s.names l.at.0 l.name ≡ is_declared s.source_type s.nodes s.names l.initial.at.0 l.name)

abbrev pub decreases-loop-nodes : goal.decreases-loop-nodes
decreases-loop-nodes l = l.at.0
