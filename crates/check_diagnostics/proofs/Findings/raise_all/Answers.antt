use Rattle.std.proofs.Common.{arith}
use mathlib.Core.List.{flat_map}
use Rattle.check_diagnostics.proofs.RaisesLaws.{adds_more, adds_none}
use Rattle.check_diagnostics.proofs.Findings.raise_all.Goals as goal

pub loop-r-init : goal.loop-r-init
unfolding flat_map
loop-r-init c = record { adds = adds_none _; upper_bound = omega arith }

pub loop-r-preserved : goal.loop-r-preserved
loop-r-preserved c =
    record {
      adds = adds_more _ _ _ c.args.results.now c.loop-r.r-index _ c.loop-r-test.true c.loop-r.invariant.adds c.raise.ensures.adds;
      upper_bound = omega (arith, c.raise.ensures.upper_bound);
    }
