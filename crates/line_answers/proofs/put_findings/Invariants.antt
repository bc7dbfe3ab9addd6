-- `answers::put_findings` meets its contract. The loop keeps: what is left of the work, with what is done, is the whole.
use Prim.Native.Nat.{◌-◌, ◌*◌, ◌≤◌}
use lib.ListN.{drop}
use Rattle.base_common.specs.Wrote.{Wrote}
use Rattle.line_answers.specs.Answer.{finding_lines}
use Rattle.line_answers.proofs.put_findings.Given as goal

abbrev pub invariant-loop-i : goal.invariant-loop-i
invariant-loop-i l = Wrote l.initial.out l.out l.at (finding_lines (l.count - l.i) (drop (l.i * 7) l.findings)) (finding_lines l.count l.findings)
