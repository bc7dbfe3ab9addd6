use Prim.Native.Nat.{◌+◌, ◌≤◌, ◌<◌}
use mathlib.Core.Path.{◌≡◌}
use mathlib.Core.Bool.{true}
use Rattle.std.specs.Prelude.{length}
use Rattle.table_records.specs.Table.{count}
use Rattle.check_class_table.specs.Elements.{has_private}
use Rattle.check_class_table.proofs.ElementsLaws.{has_private_from}
use Rattle.check_element_index.specs.Index.{last_below}
use Rattle.check_element_index.proofs.SearchLaws.{of_key, has_private_to}
use Rattle.check_element_index.proofs.has_private_definition.Given as goal

abbrev pub invariant-loop-at : goal.invariant-loop-at
invariant-loop-at l = let s = l.elements in record {
  after : l.c.0 < l.front;
  in_step : l.at + l.front ≤ count s.nodes + (l.c.0 + 1);
  in_chain : last_below (of_key s.source_type s.nodes s.names (length s.last) l.c.0 true l.name) l.at ≡ l.at;
  left : has_private_to s.source_type s.nodes s.names l.c.0 l.name l.at ≡ has_private s.source_type s.nodes s.names l.c.0 l.name;
  ahead : has_private_from s.source_type s.nodes s.names l.c.0 l.name l.front ≡ has_private s.source_type s.nodes s.names l.c.0 l.name;
}

abbrev pub decreases-loop-at : goal.decreases-loop-at
decreases-loop-at l = l.at
