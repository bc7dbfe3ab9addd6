use Rattle.code_widths.specs.Widths.{Units, Zeros}
use Rattle.code_widths.proofs.fill_units.Given as goal

abbrev pub invariant-loop-j : goal.invariant-loop-j
invariant-loop-j l = record { units : Units l.nodes l.b.0 l.j l.units; zeros : Zeros l.j l.widths }
