-- `reader::write_numbers` meets its contract. The loop keeps: what is left of the work, with what is done, is the whole.
use Rattle.line_fields.specs.Split.{firsts, fields_in}
use Rattle.line_digits.specs.Number.{is_number, value_of}
use Rattle.base_common.specs.Wrote.{Wrote}
use Rattle.base_common.specs.Upto.{all}
use lib.ListN.{length, take, drop}
use mathlib.Core.List.{map, ◌++◌}
use mathlib.Core.Bool.{true}
use mathlib.Core.Path.{◌≡◌}
use Prim.Native.Nat.{◌≤◌, ◌+◌, ◌-◌}
use Rattle.line_reader.proofs.write_numbers.Given as goal

abbrev pub invariant-loop-k : goal.invariant-loop-k
invariant-loop-k l =
    let left = l.w + l.n - l.k in
    let rest = drop l.at l.tail in
    (left ≤ length (fields_in rest)) × (all is_number (firsts left rest) ≡ true) × Wrote l.initial.out l.out l.k (map value_of (firsts left rest)) (take l.w l.initial.out ++ map value_of (firsts l.n l.tail))
