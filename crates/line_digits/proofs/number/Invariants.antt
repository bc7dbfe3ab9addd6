-- `digits::number` meets its contract. The loop keeps: what is left of the work, with what is done, is the whole.
use Rattle.line_digits.proofs.NumberLaws.{number_from}
use Rattle.line_digits.specs.Number.{number_of}
use lib.ListN.{drop}
use mathlib.Core.Path.{◌≡◌}
use Prim.Native.Nat.{◌≤◌}
use Rattle.line_digits.proofs.number.Given as goal

abbrev pub invariant-loop-c : goal.invariant-loop-c
invariant-loop-c l = (l.v ≤ 4294967295) × (number_from l.v (drop l.c-index l.s) ≡ number_of l.s)
