use Rattle.std.specs.Prelude.{◌≡◌, ◌<◌, ◌≤◌}
use Rattle.std.proofs.Common.{ap, subst, arith}
use Rattle.table_records.specs.Table.{count, parent_of}
use Rattle.refusal_counts.specs.Tally.{Notes}
use Rattle.refusal_counts.proofs.TallyLaws.{notes_start, notes_more, notes_out}
use Rattle.refusal_counts.proofs.wrong_count_at.Goals.{else-loop-c-test, then-loop-c-test+then-parent-n}
use Rattle.refusal_counts.proofs.wrong_count_at.Goals as goal

pub loop-c-init : goal.loop-c-init
loop-c-init c = notes_start c.args.nodes.now c.args.n.0

pub loop-c-preserved : goal.loop-c-preserved
loop-c-preserved c =
    notes_more c.args.nodes.now c.args.n.0 c.loop-c.c c.loop-c.seen c.with_child-seen.result (omega arith) c.loop-c.invariant (rw c.deref-in-loop-c-2.ensures.same at c.with_child-seen.ensures)

pub wrong_count_of-requires-clause-seen : goal.wrong_count_of-requires-clause-seen
wrong_count_of-requires-clause-seen c = let ns = c.args.nodes.now in
    let size = ap count c.deref-2.ensures.same in
    elim c.loop-c-test.branch [
      | else-loop-c-test w ↦
          let h : count ns ≤ c.loop-c.c = omega (arith, w.loop-c-test.false) in
          let b = c.loop-c.auto.c-end (omega arith) in
          let e : c.loop-c.c ≡ count ns = omega arith in
          subst (Notes ns c.args.n.0 c.loop-c.seen) e c.loop-c.invariant
      | then-loop-c-test+then-parent-n w ↦
          let h : c.loop-c.c < count ns = omega (arith, w.loop-c-test.true) in
          let q = rw w.deref-in-loop-c.ensures.same at w.parent.ensures in
          let u : parent_of ns c.loop-c.c < c.args.n.0 = omega (arith, w.if-parent-n.true) in
          notes_out ns c.deref.ensures.tree c.args.n.0 c.loop-c.c c.loop-c.seen (omega arith) h u c.loop-c.invariant
    ]
