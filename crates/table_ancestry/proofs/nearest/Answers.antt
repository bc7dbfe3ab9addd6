use Rattle.std.proofs.Common.{rules, ◌≡◌, true, false, arith}
use Rattle.base_common.specs.Tests.{within}
use Rattle.table_records.specs.Table.{kind_of}
use Rattle.table_ancestry.proofs.AncestryLaws.{nearest_stop, nearest_on, nearest_root}
use Rattle.table_ancestry.proofs.nearest.Goals as goal

pub returns-then-contains-clause-value : goal.returns-then-contains-clause-value
returns-then-contains-clause-value c = let a = c.args in
    let w : within (kind_of a.nodes.now c.up-at.result.0) a.low a.high ≡ true = search rules in
    cc (nearest_stop a.nodes.now c.up-at.ensures.tree a.low a.high c.loop-at.at.0 c.up-at.result.0 (omega arith) (omega arith) c.up-at.ensures.result_value w)

pub loop-at-preserved : goal.loop-at-preserved
loop-at-preserved c = let a = c.args in
    let w : within (kind_of a.nodes.now c.up-at.result.0) a.low a.high ≡ false = search rules in
    (omega arith, cc (nearest_on a.nodes.now c.up-at.ensures.tree a.low a.high c.loop-at.at.0 c.up-at.result.0 (omega arith) (omega arith) c.up-at.ensures.result_value w))

pub returns-clause-value : goal.returns-clause-value
returns-clause-value c = let a = c.args in
    let z : c.loop-at.at.0 ≡ 0 = omega arith in
    cc (nearest_root a.nodes.now a.low a.high, z)
