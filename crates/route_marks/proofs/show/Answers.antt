use Rattle.route_marks.proofs.TakenLaws.{held_marks}
use Rattle.route_marks.specs.Taken.{begin_at}
use native.Mathlib.Omega.{arith}
use mathlib.Core.Path.{sym, ◌∙◌}
use Rattle.route_marks.proofs.show.Goals as goal

pub returns-then-halt-eq-STOPPED-clause-marks : goal.returns-then-halt-eq-STOPPED-clause-marks
returns-then-halt-eq-STOPPED-clause-marks c =
    let a = c.args in
    let told = c.run_section-halt.ensures.told in
    c.set_mark.ensures ∙ sym (held_marks a.marks.now a.code.now a.section.now.answers.now (begin_at a.marks.now a.section.now.begin) a.section.now.stop a.section.now.to _ _ (omega arith) told.entries (omega (arith, c.run_section-counted.ensures.told.entries, told.entries)) _ told.end c.if-halt-eq-STOPPED.true _ c.run_section-halt.ensures.stands)
