use Rattle.std.proofs.Common.{◌+◌, ◌*◌, ◌≤◌, take}
use mathlib.Core.List.{flat_map}
use Rattle.check_diagnostics.specs.Finding.{listed}
use Rattle.check_diagnostics.specs.Raises.{Adds}
use Rattle.check_diagnostics.proofs.Findings.raise_all.Given as goal

abbrev pub invariant-loop-r : goal.invariant-loop-r
invariant-loop-r l = record {
  adds : Adds l.initial.self l.self (flat_map listed (take l.r-index l.fn.results));
  upper_bound : l.self.raised ≤ l.initial.self.raised + 7 * l.r-index;
}
