use Rattle.std.specs.Prelude.{length}
use Rattle.std.proofs.Common.{rules}
use Rattle.std.proofs.lemmas.Result.{on_ok_weaker}
use Rattle.ruleroute.proofs.Whole.{appended_whole}
use Rattle.ruleroute.proofs.run.Goals as goal

pub returns : goal.returns
returns g c =
    on_ok_weaker _ (appended_whole (g.I.Read.remaining c.args.reader.now) _ _ (length c.args.input.now) _ _ _ _ _ (search rules) c.in_ok-got.ensures.bytes c.front.ensures c.respond-answer.ensures) c.print_routed.ensures
