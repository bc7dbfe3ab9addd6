use mathlib.Core.Path.{◌≡◌}
use Prim.Native.Nat.{◌≤◌, ◌<◌, ◌-◌}
use Rattle.table_records.specs.Table.{count}
use Rattle.code_tree.specs.Parts.{parts, with_role}
use Rattle.code_tree.specs.First.{first_of}
use Rattle.route_steps.specs.Steps.{role_in}
use Rattle.route_walk.proofs.part_with_role.Given as goal

abbrev pub invariant-loop-c : goal.invariant-loop-c
invariant-loop-c l = (l.p.0 < l.from) × (l.from ≤ count l.given.nodes) × (first_of (with_role l.given.nodes l.r (parts l.given.nodes l.p.0 l.from)) ≡ role_in l.given.nodes l.p.0 l.r)

abbrev pub decreases-loop-c : goal.decreases-loop-c
decreases-loop-c l = count l.given.nodes - l.from
