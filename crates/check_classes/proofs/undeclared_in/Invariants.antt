use Prim.Native.Nat.{◌+◌, ◌*◌, ◌≤◌}
use Rattle.check_diagnostics.proofs.Gather.{Left}
use Rattle.check_classes.proofs.ClassChecksLaws.{undeclared_from}
use Rattle.check_classes.specs.ClassChecks.{undeclared_in}
use Rattle.check_classes.proofs.undeclared_in.Given as goal

abbrev pub invariant-loop-i : goal.invariant-loop-i
invariant-loop-i l = let s = l.elements in
    (l.findings.raised ≤ l.initial.findings.raised + 7 * l.i) × Left l.initial.findings l.findings (undeclared_in s.source_type s.nodes s.names l.n.0 l.c.0) (undeclared_from s.source_type s.nodes s.names l.n.0 l.c.0 l.i)
