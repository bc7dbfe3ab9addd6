use Rattle.table_records.specs.Table.{count}
use mathlib.Core.Path.{◌≡◌}
use Prim.Native.Nat.{◌≤◌}
use Rattle.check_supers.specs.Super.{first_class}
use Rattle.check_supers.proofs.SuperLaws.{classes_from}
use Rattle.check_supers.proofs.first_class.Given as goal

abbrev pub invariant-loop-i : goal.invariant-loop-i
invariant-loop-i l = (l.i-iterator.start ≤ count l.nodes) × (classes_from l.nodes l.i-iterator.start ≡ first_class l.nodes)
