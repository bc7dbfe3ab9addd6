use Rattle.std.proofs.Common.{◌∙◌, ap}
use Rattle.code_marks.specs.Begins.{width}
use Rattle.route_marks.proofs.BeginsLaws.{width_read}
use Rattle.route_marks.proofs.PaddedCode.size_at.Goals as goal

pub returns-clause-value : goal.returns-clause-value
returns-clause-value c = c.width.ensures ∙ ap width c.word.ensures ∙ width_read c.args.self.0.now c.args.p
