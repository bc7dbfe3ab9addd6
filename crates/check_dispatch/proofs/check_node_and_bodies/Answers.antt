use Rattle.check_dispatch.specs.Findings.{findings_at}
use Rattle.check_dispatch.specs.Reported.{reported_at}
use Rattle.check_dispatch.proofs.ReportedLaws.{nil_right_lem}
use Rattle.check_bodies.specs.Bodies.{async_bodies_at}
use Rattle.check_diagnostics.proofs.RaisesLaws.{adds_then}
use borrow.Author.Tests.{eq-eqb, ne_eqb}
use native.Mathlib.Omega.{arith}
use Rattle.check_dispatch.proofs.check_node_and_bodies.Goals as goal

pub returns-then-rule-eq0 : goal.returns-then-rule-eq0
unfolding reported_at
returns-then-rule-eq0 c = let a = c.args in record { adds = rw (eq-eqb _ _ c.if-rule-eq0.true, nil_right_lem (findings_at a.rule.now.source_type a.rule.now.nodes.now a.rule.now.scopes.now a.rule.now.source.now a.rule.now.names.now a.n.0)) c.check_node.ensures.adds; upper_bound = omega (arith, c.check_node.ensures.upper_bound) }

pub check_async_bodies-requires : goal.check_async_bodies-requires
check_async_bodies-requires c = let i = c.requires.input in record { scoped = i.scoped; n_bound = c.requires.n_bound; raised_bound = omega (arith, c.check_node.ensures.upper_bound) }

pub returns : goal.returns
unfolding reported_at
returns c = let a = c.args in
    record { adds = rw (ne_eqb _ _ c.if-rule-eq0.false) (adds_then _ _ _ (findings_at a.rule.now.source_type a.rule.now.nodes.now a.rule.now.scopes.now a.rule.now.source.now a.rule.now.names.now a.n.0) (async_bodies_at a.rule.now.nodes.now a.rule.now.scopes.now a.n.0) c.check_node.ensures.adds c.check_async_bodies.ensures.adds); upper_bound = omega (arith, c.check_node.ensures.upper_bound, c.check_async_bodies.ensures.upper_bound) }
