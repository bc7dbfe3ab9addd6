-- `line_fields::skip_lines` meets its contract. The loop keeps: so many lines were passed.
use Rattle.line_fields.specs.Split.{lines_of}
use lib.ListN.{drop}
use mathlib.Core.Path.{◌≡◌}
use Rattle.line_fields.proofs.skip_lines.Given as goal

abbrev pub invariant-loop : goal.invariant-loop
invariant-loop l = lines_of l.t ≡ drop l.counter (lines_of l.b)
