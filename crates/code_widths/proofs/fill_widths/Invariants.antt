use Rattle.code_widths.specs.Widths.{Counts}
use Prim.Native.Nat.{◌<◌}
use Rattle.code_widths.proofs.fill_widths.Given as goal

abbrev pub invariant-loop-j : goal.invariant-loop-j
invariant-loop-j l = record { low : l.b.0 < l.j; counts : Counts l.nodes l.b.0 l.j l.widths l.behinds }
