use Prim.Native.Nat.{◌≤◌}
use mathlib.Core.Path.{◌≡◌}
use Rattle.std.specs.Prelude.{length}
use Rattle.table_records.specs.Table.{count}
use Rattle.check_class_table.specs.Elements.{is_private, element_name}
use Rattle.check_element_index.specs.Index.{last_below}
use Rattle.check_element_index.proofs.SearchLaws.{of_key}
use Rattle.check_duplicates.proofs.PreviousLaws.{Left}
use Rattle.check_duplicates.proofs.previous_of.Given as goal

abbrev pub invariant-loop-at : goal.invariant-loop-at
invariant-loop-at l = let s = l.elements in record {
  in_table : l.at ≤ count s.nodes;
  in_chain : last_below (of_key s.source_type s.nodes s.names (length s.last) l.c.0 (is_private s.nodes l.fn.e.0) (element_name s.nodes s.names l.fn.e.0)) l.at ≡ l.at;
  left : Left s.source_type s.nodes s.names l.c.0 (is_private s.nodes l.fn.e.0) (element_name s.nodes s.names l.fn.e.0) l.previous l.at l.fn.e.0;
}

abbrev pub decreases-loop-at : goal.decreases-loop-at
decreases-loop-at l = l.at
