use mathlib.Core.Path.{◌∙◌}
use lib.ListN.{length-set}
use native.Mathlib.Omega.{arith}
use Rattle.route_marks.proofs.MarksLaws.{read_more}
use Rattle.route_marks.proofs.load.Goals as goal

pub loop-i-preserved : goal.loop-i-preserved
loop-i-preserved c =
    let l = c.loop-i in
    let e = c.pending_end in
    (length-set l.ends l.i e.result ∙ l.invariant.0, read_more c.args.marks.now l.ends c.args.at l.i e.result (omega (arith, l.invariant.0)) l.invariant.1 e.ensures)
