-- `line_fields::skip` meets its contract. The loop keeps: so many fields were passed.
use Rattle.line_fields.specs.Split.{fields_in}
use lib.ListN.{drop}
use mathlib.Core.Path.{◌≡◌}
use Rattle.line_fields.proofs.skip.Given as goal

abbrev pub invariant-loop : goal.invariant-loop
invariant-loop l = fields_in l.t ≡ drop l.counter (fields_in l.tail)
