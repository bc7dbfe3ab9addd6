use Rattle.std.proofs.Common.{drop-drop}
use Rattle.line_fields.specs.Split.{lines_of}
use Rattle.line_fields.proofs.skip_lines.Goals as goal

pub loop-preserved : goal.loop-preserved
loop-preserved c = cc (drop-drop 1 c.loop.counter (lines_of c.args.b.now))
