use Rattle.std.proofs.Common.{sym, ◌∙◌, arith}
use Rattle.refusal_tree.proofs.TreeLaws.{at_deep, at_fine}
use Rattle.refusal_tree.proofs.depth_at.Goals as goal

pub returns-then-d-gt511 : goal.returns-then-d-gt511
returns-then-d-gt511 c = let a = c.args in
    let e = rw c.parent-p.ensures at (sym c.depth_from.ensures ∙ c.in_ok-d.was) in
    sym (at_deep a.nodes.now a.i.0 (omega arith) c.requires.falls (λ q. c.if-kind-eq-PROGRAM.false (cc)) c.in_ok-d.d e (omega arith))

pub returns : goal.returns
returns c = let a = c.args in
    let e = rw c.parent-p.ensures at (sym c.depth_from.ensures ∙ c.in_ok-d.was) in
    sym (at_fine a.nodes.now a.i.0 (omega arith) c.requires.falls (λ q. c.if-kind-eq-PROGRAM.false (cc)) c.in_ok-d.d e (omega arith))
