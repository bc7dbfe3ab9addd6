use Rattle.route_marks.specs.Marks.{ends_numbers}
use Rattle.code_machine.specs.Pending.{stack}
use lib.Seq.{sets}
use mathlib.Core.Path.{◌≡◌}
use Rattle.route_marks.proofs.save.Given as goal

abbrev pub invariant-loop-i : goal.invariant-loop-i
invariant-loop-i l = l.marks ≡ sets l.initial.marks l.at (ends_numbers (stack l.ends l.i))
