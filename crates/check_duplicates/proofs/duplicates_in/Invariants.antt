use Prim.Native.Nat.{◌+◌, ◌*◌, ◌≤◌}
use Rattle.check_diagnostics.proofs.Gather.{Left}
use Rattle.check_duplicates.proofs.DuplicatesLaws.{duplicates_from}
use Rattle.check_duplicates.specs.Duplicates.{duplicates_in}
use Rattle.check_duplicates.proofs.duplicates_in.Given as goal

abbrev pub invariant-loop-i : goal.invariant-loop-i
invariant-loop-i l = let s = l.elements in
    (l.findings.raised ≤ l.initial.findings.raised + 7 * l.i) × Left l.initial.findings l.findings (duplicates_in s.source_type s.nodes s.names l.c.0) (duplicates_from s.source_type s.nodes s.names l.c.0 l.i)
