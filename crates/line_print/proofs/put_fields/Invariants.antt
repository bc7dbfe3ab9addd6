-- `print::put_fields` meets its contract. The loop keeps: what is left of the work, with what is done, is the whole.
use Rattle.line_print.specs.Print.{fields_for}
use Rattle.base_common.specs.Wrote.{Wrote}
use lib.ListN.{take, drop}
use mathlib.Core.List.{◌++◌, map}
use Rattle.line_print.proofs.put_fields.Given as goal

abbrev pub invariant-loop-n : goal.invariant-loop-n
invariant-loop-n g l =
    let ns = map g.T.Decimal.number l.numbers in
    Wrote l.initial.out l.out l.at (fields_for (drop l.n-index ns)) (take l.w l.initial.out ++ fields_for ns)
