use mathlib.Core.Path.{◌≡◌}
use Prim.Native.Nat.{◌≤◌, ◌<◌, ◌-◌, ◌+◌}
use Rattle.table_records.specs.Table.{count}
use Rattle.code_tree.specs.Parts.{parts}
use Rattle.route_steps.specs.Steps.{from_default}
use Rattle.route_walk.proofs.default_part.Given as goal

abbrev pub invariant-loop-c : goal.invariant-loop-c
invariant-loop-c l = (l.p.0 < l.from) × (l.from ≤ count l.given.nodes) × (from_default l.given.nodes (parts l.given.nodes l.p.0 l.from) ≡ from_default l.given.nodes (parts l.given.nodes l.p.0 (l.p.0 + 1)))

abbrev pub decreases-loop-c : goal.decreases-loop-c
decreases-loop-c l = count l.given.nodes - l.from
