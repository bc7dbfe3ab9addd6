-- `digits::write_bytes` meets its contract. The loop keeps: what is left of the work, with what is done, is the whole.
use Rattle.line_digits.specs.Hex.{is_hex, bytes_of}
use Rattle.base_common.specs.Wrote.{Wrote}
use lib.ListN.{length}
use mathlib.Core.Bool.{true}
use mathlib.Core.Path.{◌≡◌}
use Rattle.line_digits.proofs.write_bytes.Given as goal

abbrev pub invariant-loop-t : goal.invariant-loop-t
invariant-loop-t l = (is_hex l.t ≡ true) × Wrote l.initial.out l.out l.k (bytes_of l.t) (bytes_of l.s)

abbrev pub decreases-loop-t : goal.decreases-loop-t
decreases-loop-t l = length l.t
