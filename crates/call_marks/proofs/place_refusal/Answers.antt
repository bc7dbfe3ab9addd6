use Rattle.std.specs.Prelude.{Err}
use Rattle.refusal_verdict.specs.declared.Refusal.TheVariants as refusal
use Rattle.call_marks.specs.Marked.{seventeen_of}
use Rattle.route_marks.specs.Taken.{begins_at}
use Rattle.route_marks.proofs.BeginsLaws.{same_test}
use Rattle.route_marks.specs.declared.Begin.{Begin}
use Rattle.refusal_verdict.specs.declared.Refused.TheVariants.{At}
use Rattle.refusal_verdict.specs.Verdict.{Passed}
use mathlib.Core.Bool.{Bool, cond}
use mathlib.Core.Path.{sym, ◌∙◌, ap}
use Rattle.call_marks.proofs.place_refusal.Goals as goal

pub returns-then-begins : goal.returns-then-begins
returns-then-begins c = sym (ap (λ (x : Bool). cond x Passed (Err (At refusal.MarkPlace c.in-Mark.mark))) (sym (same_test c.args.code.now c.place_at.result c.begins.result c.begins.ensures ∙ ap (begins_at c.args.code.now) c.place_at.ensures) ∙ c.if-begins.true)) ∙ sym (ap (λ (b : Begin). seventeen_of c.args.marks.now c.args.code.now b) c.in-Mark.is)

pub returns-else-begins : goal.returns-else-begins
returns-else-begins c = sym (ap (λ (x : Bool). cond x Passed (Err (At refusal.MarkPlace c.in-Mark.mark))) (sym (same_test c.args.code.now c.place_at.result c.begins.result c.begins.ensures ∙ ap (begins_at c.args.code.now) c.place_at.ensures) ∙ c.if-begins.false)) ∙ sym (ap (λ (b : Begin). seventeen_of c.args.marks.now c.args.code.now b) c.in-Mark.is)
