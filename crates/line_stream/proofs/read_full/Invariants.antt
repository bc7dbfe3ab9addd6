use Rattle.std.proofs.Common.{◌-◌, ◌≡◌, ◌≤◌, length, take}
use Rattle.std.specs.Io.KnownBytes.{Consumes}
use Rattle.line_stream.proofs.read_full.Given as goal

-- what has been read stands at the slice's front
abbrev pub invariant-loop-done : goal.invariant-loop-done
invariant-loop-done g l =
    (length l.out ≡ length l.initial.out)
    × (l.done ≤ length l.out)
    × Consumes (g.R.Read.remaining l.initial.reader) (g.R.Read.remaining l.reader) (take l.done l.out)

abbrev pub decreases-loop-done : goal.decreases-loop-done
decreases-loop-done g l = length l.initial.out - l.done
