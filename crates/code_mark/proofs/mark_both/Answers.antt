use Rattle.code_mark.proofs.MarkLaws.{news_two, marks_two}
use Rattle.code_shorten.specs.Marking.{marked_at, new_at}
use mathlib.Core.Path.{sym, ◌∙◌, ap}
use mathlib.Core.Bool.{◌||◌}
use Rattle.code_mark.proofs.mark_both.Goals as goal

pub returns : goal.returns
returns c =
    let C = c.args.code.now in record { news = (λ j. (c.mark-first.ensures.news j) || ((c.mark-second.ensures.news ∙ ap (λ l. new_at l c.args.u) c.mark-first.ensures.marks) j)) ∙ sym (news_two C c.args.t c.args.u); marks = c.mark-second.ensures.marks ∙ ap (λ l. marked_at l c.args.u) c.mark-first.ensures.marks ∙ sym (marks_two C c.args.t c.args.u) }
