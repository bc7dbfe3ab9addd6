use Rattle.std.proofs.Common.{◌≡◌, ap, sym, ◌∙◌, ◌+◌, ◌-◌, arith}
use Rattle.table_records.specs.Table.{count, depth_of}
use Rattle.refusal_verdict.proofs.FirstLaws.{first_on}
use Rattle.refusal_tree.specs.Tree.{misplaced_at}
use Rattle.refusal_tree.proofs.TreeLaws.{if_of_lem, falls_more, fine_on}
use Rattle.refusal_tree.proofs.misplaced.Goals as goal

pub loop-i-preserved : goal.loop-i-preserved
loop-i-preserved c = let n = c.args.nodes.now in
    let i = c.loop-i.i in
    let w = if_of_lem n i c.in-Some.d (cc) in
    let q : i ≡ i + 1 - 1 = omega arith in
    (falls_more n i c.loop-i.invariant.0 (omega arith) (fine_on n i (omega arith) w.0), sym w.1 ∙ ap (depth_of n) q, cc (first_on (misplaced_at n) i (count n) (omega arith) w.0))
