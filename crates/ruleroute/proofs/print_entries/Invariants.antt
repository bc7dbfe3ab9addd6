use Rattle.std.proofs.Common.{length, ◌≡◌, take}
use Rattle.std.specs.Io.KnownBytes.{Appends}
use Rattle.ruleroute.specs.Answer.{lines_for}
use Rattle.ruleroute.proofs.print_entries.Given as goal

-- the lines of the first entries are written
abbrev pub invariant-loop-entry : goal.invariant-loop-entry
invariant-loop-entry g l =
    (length l.text ≡ 256)
    × Appends (g.O.Write.contents l.initial.writer) (g.O.Write.contents l.writer) (lines_for (take l.entry-index l.entries))
