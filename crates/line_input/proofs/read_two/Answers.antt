-- `lines::read_two` meets its contract.
use Prim.Native.Nat.{ℕ}
use Rattle.line_input.proofs.RouteLaws.{two_unit, two_answers_lem, two_both}
use Rattle.line_input.specs.Route.{unit_in}
use Rattle.line_input.specs.Format.{first_of, front}
use Rattle.line_forms.specs.Forms.{rest, numbers_of}
use Rattle.line_fields.specs.Split.{lines_of}
use lib.ListN.{length, drop}
use mathlib.Core.List.{List}
use mathlib.Core.Path.{◌≡◌, ◌∙◌, ap}
use Rattle.line_input.proofs.read_two.Goals as goal

pub returns-then-not-is_numbers : goal.returns-then-not-is_numbers
returns-then-not-is_numbers c = two_unit (length c.args.answers.now) (lines_of c.args.b.now) c.args.answers.now (cc (c.if-not-is_numbers.true))

pub returns-then-not-is_answers : goal.returns-then-not-is_answers
returns-then-not-is_answers c =
    let ls = lines_of c.args.b.now in
    let a : c.line-a.result.now ≡ first_of (drop 1 ls) = c.line-a.ensures ∙ ap first_of c.after.ensures in
    two_answers_lem (length c.args.answers.now) ls c.args.answers.now (cc (c.if-not-is_numbers.false)) (cc (c.if-not-is_answers.true))

pub returns : goal.returns
returns c =
    let ls = lines_of c.args.b.now in
    let a : c.line-a.result.now ≡ first_of (drop 1 ls) = c.line-a.ensures ∙ ap first_of c.after.ensures in
    let w = c.write_answers.ensures in
    two_both (length c.args.answers.now) ls c.args.answers.now (cc (c.if-not-is_numbers.false)) (cc (c.if-not-is_answers.false))
    c.unit.result c.write_answers.result _ (c.unit.ensures ∙ ap unit_in c.line-u.ensures) (w.0 ∙ ap (λ (l : List ℕ). length (rest l)) a) (w.1 ∙ ap (λ (l : List ℕ). front (numbers_of (rest l)) c.args.answers.now) a)
