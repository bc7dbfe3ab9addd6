use mathlib.Core.Path.{◌≡◌}
use Rattle.check_classes.specs.ClassChecks.{next_constructor}
use Rattle.check_classes.proofs.next_constructor.Given as goal

abbrev pub invariant-loop-i : goal.invariant-loop-i
invariant-loop-i l = next_constructor l.nodes l.c.0 l.i ≡ next_constructor l.nodes l.c.0 l.from
