use Rattle.call_marks.proofs.MarkedLaws.{passed_answer, passed_code, passed_slice, passed_marks}
use Rattle.check_dispatch.specs.Lent.{rule_of}
use lib.ListN.{length}
use mathlib.Core.Path.{sym, ◌∙◌}
use Rattle.call_marks.proofs.marked.Goals as goal

pub returns : goal.returns
returns c = let a = c.args in let M = a.marks.now in let g = a.section.now in let o = a.out.now in let k = a.code.now in let u = a.unit in let r = rule_of a.rule.now in let e = sym c.in_ok-refusal.ensures in record { answer = c.made.ensures.answer ∙ passed_answer r u M g e (length k) (length o); code = c.made.ensures.code ∙ passed_code r u M g e k; list = c.made.ensures.list ∙ passed_slice r u M g e (length k) o; marks = c.made.ensures.marks ∙ passed_marks r u M g e (length k) (length o) }
