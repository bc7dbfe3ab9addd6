use Rattle.check_jumps.specs.Jumps.{labeled_item}
use Rattle.table_records.specs.Table.{count}
use Prim.Native.Nat.{◌<◌, ◌-◌}
use mathlib.Core.Path.{◌≡◌}
use Rattle.check_jumps.proofs.labeled_item.Given as goal

abbrev pub invariant-loop-target : goal.invariant-loop-target
invariant-loop-target l = (l.target.0 < count l.nodes) × (labeled_item l.nodes l.target.0 ≡ labeled_item l.nodes l.initial.target.0)

abbrev pub decreases-loop-target : goal.decreases-loop-target
decreases-loop-target l = count l.nodes - l.target.0
