-- `answers::findings_text` meets its contract.
use mathlib.Core.Path.{◌∙◌, sym}
use mathlib.Core.List.{[], ◌∷◌}
use lib.ListN.{length-append}
use Rattle.line_print.specs.Print.{line_of}
use Rattle.line_answers.specs.Answer.{finding_lines}
use Rattle.line_answers.proofs.AnswerLaws.{count_put}
use Rattle.line_answers.proofs.findings_text.Goals as goal

pub returns : goal.returns
returns c =
    let a = c.args in
    let e = c.put_findings-at.ensures in
    let k = c.line.ensures in
    (k.0 ∙ rw e.0 (sym (length-append (finding_lines a.count a.findings.now) (line_of 69 (a.count ∷ [])))), k.1 ∙ rw e.0 (count_put a.out.now c.put_findings-at.new.out a.count a.findings.now c.requires.findings_in_bounds e.1))
