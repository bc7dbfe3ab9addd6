use Rattle.line_fields.proofs.FieldLaws.{fields_next}
use Rattle.std.proofs.Common.{drop-drop}
use Rattle.line_fields.specs.Split.{fields_in}
use Rattle.line_fields.proofs.skip.Goals as goal

pub loop-preserved : goal.loop-preserved
loop-preserved c = cc (fields_next c.loop.t.now, drop-drop 1 c.loop.counter (fields_in c.args.tail.now))
