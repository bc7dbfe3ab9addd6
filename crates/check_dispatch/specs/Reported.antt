-- The findings that a call reports: the Rust's and, with the option on, those of async and generator bodies (document 02, request 8).
use Rattle.std.specs.Prelude.{ℕ, cond, eqb}
use mathlib.Core.List.{List, [], ◌++◌, flat_map}
use Rattle.base_common.specs.Upto.{upto}
use Rattle.table_records.specs.Table.{count}
use Rattle.check_diagnostics.specs.declared.Finding.{Finding}
use Rattle.check_bodies.specs.Bodies.{async_bodies_at}
use Rattle.check_duplicates.specs.Duplicates.{duplicate_elements}
use Rattle.check_dispatch.specs.Findings.{findings_at}
use Rattle.check_dispatch.specs.Rule.{Rule}

-- "raised at that If or Labeled after its other findings"
unfoldable pub reported_at : Rule → ℕ → List Finding
reported_at r n = findings_at r.source_type r.nodes r.scopes r.source r.names n ++ cond (eqb r.async_bodies 0) [] (async_bodies_at r.nodes r.scopes n)

unfoldable pub reported : Rule → List Finding
reported r = duplicate_elements r.source_type r.nodes r.names ++ flat_map (reported_at r) (upto 0 (count r.nodes))
