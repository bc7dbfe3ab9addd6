use mathlib.Core.Path.{◌≡◌}
use Prim.Native.Nat.{◌≤◌, ◌<◌, ◌-◌, ◌+◌}
use Rattle.table_records.specs.Table.{count}
use Rattle.code_tree.specs.Parts.{parts}
use lib.ListN.{drop}
use Rattle.route_walk.proofs.nth_part.Given as goal

abbrev pub invariant-loop-passed : goal.invariant-loop-passed
invariant-loop-passed l = (l.p.0 < l.from) × (l.from ≤ count l.given.nodes) × (drop (l.a - l._passed) (parts l.given.nodes l.p.0 l.from) ≡ drop l.a (parts l.given.nodes l.p.0 (l.p.0 + 1)))
