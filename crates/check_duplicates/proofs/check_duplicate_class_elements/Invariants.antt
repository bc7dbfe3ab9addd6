use Prim.Native.Nat.{◌+◌, ◌*◌, ◌≤◌}
use Rattle.check_diagnostics.proofs.Gather.{Left}
use Rattle.check_duplicates.proofs.DuplicatesLaws.{classes_from}
use Rattle.check_duplicates.specs.Duplicates.{duplicate_elements}
use Rattle.check_duplicates.proofs.check_duplicate_class_elements.Given as goal

abbrev pub invariant-loop-i : goal.invariant-loop-i
invariant-loop-i l = let s = l.elements in
    (l.findings.raised ≤ l.initial.findings.raised + 458745 * l.i) × Left l.initial.findings l.findings (duplicate_elements s.source_type s.nodes s.names) (classes_from s.source_type s.nodes s.names l.i)
