use Rattle.code_mark.proofs.MarkLaws.{started_first, reached_end}
use Rattle.code_mark.specs.Marks.{Started}
use mathlib.Core.Path.{sym, subst}
use Rattle.code_mark.proofs.mark_reached.Goals as goal

pub returns : goal.returns
returns c =
    let C = c.args.code.now in
    reached_end C c.requires _ (c.mark_rest.ensures C c.requires (subst (Started C) (sym c.mark.ensures.marks) (started_first C c.requires)))
