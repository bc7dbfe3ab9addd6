use native.Mathlib.Omega.{arith}
use Rattle.line_print.proofs.PrintLaws.{put_done}
use Rattle.line_answers.specs.Answer.{finding_lines}
use Rattle.line_answers.proofs.AnswerLaws.{lines_turn, lines_room, lines_end}
use Rattle.line_answers.proofs.put_findings.Goals as goal

pub put_finding-at-requires : goal.put_finding-at-requires
put_finding-at-requires c =
    let a = c.args in
    let o = c.loop-i in
    let p = c.requires in
    record { at_in_bounds = omega arith; findings_in_bounds = lines_room a.out.now o.out o.at a.count o.i a.findings.now _ o.invariant (omega arith) }

pub loop-i-preserved : goal.loop-i-preserved
loop-i-preserved c =
    let a = c.args in
    let o = c.loop-i in
    let e = c.put_finding-at.ensures in
    rw (e.1, e.0) (lines_turn a.out.now o.out o.at a.count o.i a.findings.now _ o.invariant (omega arith))

pub returns : goal.returns
returns c =
    let a = c.args in
    let o = c.loop-i in
    let p = c.requires.findings_in_bounds in
    let d = put_done a.out.now o.out 0 o.at (finding_lines a.count a.findings.now) (omega arith) (lines_end a.out.now o.out o.at a.count o.i a.findings.now _ o.invariant (omega arith)) in
    let k = d.0 in
    (omega arith, d.1)
