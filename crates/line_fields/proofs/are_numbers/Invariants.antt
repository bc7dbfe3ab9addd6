-- `line_fields::are_numbers` meets its contract. The loop keeps: the fields that are left decide.
use Rattle.line_fields.specs.Split.{firsts}
use Rattle.line_digits.specs.Number.{is_number}
use Rattle.base_common.specs.Upto.{all}
use mathlib.Core.Path.{◌≡◌}
use Prim.Native.Nat.{◌-◌}
use Rattle.line_fields.proofs.are_numbers.Given as goal

abbrev pub invariant-loop : goal.invariant-loop
invariant-loop l = all is_number (firsts (l.n - l.counter) l.t) ≡ all is_number (firsts l.n l.tail)
