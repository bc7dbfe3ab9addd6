use Rattle.std.proofs.Common.{ap, ◌∙◌, rules}
use Rattle.table_records.specs.Table.{count}
use Rattle.refusal_verdict.specs.First.{first}
use Rattle.refusal_verdict.proofs.FirstLaws.{first_found}
use Rattle.refusal_return.specs.Return.{return_in_static}
use Rattle.refusal_return.proofs.return_in_static.Goals as goal

pub returns : goal.returns
returns c = let p = return_in_static c.args.nodes.now in
    first_found p _ _ _ c.find.result c.find.ensures.ran (λ x q k. search rules) (λ x q k. search rules) ∙ ap (first p 0) (c.size.ensures ∙ ap count c.deref.ensures.same)
