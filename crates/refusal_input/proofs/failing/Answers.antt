use Rattle.std.proofs.Common.{ap, ◌∙◌, rules}
use Rattle.table_records.specs.Table.{count}
use Rattle.refusal_verdict.specs.First.{first}
use Rattle.refusal_verdict.proofs.FirstLaws.{first_found}
use Rattle.check_supers.specs.Super.{fails_at}
use Rattle.refusal_input.proofs.failing.Goals as goal

pub returns : goal.returns
returns c = let p = fails_at c.args.nodes.now c.args.scopes.now in
    first_found p _ _ _ c.find.result c.find.ensures.ran (λ x q k. search rules) (λ x q k. search rules) ∙ ap (first p 0) (c.size.ensures ∙ ap count c.deref.ensures.same)
