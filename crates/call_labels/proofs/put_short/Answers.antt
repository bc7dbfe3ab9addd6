use Rattle.call_labels.proofs.ShortLaws.{short_two}
use lib.ListN.{length, length-set}
use native.Mathlib.Omega.{arith}
use mathlib.Core.Path.{ap}
use Rattle.call_labels.proofs.put_short.Goals as goal

pub bounds-out-w-3 : goal.bounds-out-w-3
bounds-out-w-3 c = let a = c.args in simp length-set (omega (arith, c.requires.k_in_bounds, ap length (short_two a.k (omega arith))))
