use Rattle.std.specs.Prelude.{Option}
use Rattle.table_records.specs.declared.ClassId.{ClassId}
use Rattle.table_records.specs.declared.NodeId.{NodeId}
use Rattle.table_records.specs.Facts.{Tree}
use mathlib.Core.Path.{sym, subst, ap, ◌∙◌}
use Rattle.check_class_table.specs.Classes.{before, body_above}
use Rattle.check_class_table.proofs.ClassesLaws.{above_before}
use Rattle.check_class_table.proofs.parent_class.Goals as goal

pub returns-clause-before : goal.returns-clause-before
returns-clause-before c = let a = c.args in
    let t : Tree a.nodes.now = subst Tree c.nodes.view_is c.nodes.invariant in
    subst (λ (r : Option ClassId). before a.c.0 r) (sym c.class_at.ensures) (above_before a.nodes.now t a.c.0 c.requires.c_bound c.nearest.result (ap (λ (n : NodeId). body_above a.nodes.now n.0) (sym c.from.ensures) ∙ sym c.nearest.ensures.value))
