use Rattle.std.proofs.Common.{ap, ◌∙◌, rules}
use Rattle.refusal_verdict.specs.First.{first}
use Rattle.refusal_verdict.proofs.FirstLaws.{first_found}
use Rattle.refusal_fields.specs.Fields.{unlisted_at}
use Rattle.refusal_fields.proofs.unlisted.Goals as goal

pub returns : goal.returns
returns c = let p = unlisted_at c.args.source_type c.args.nodes.now in
    first_found p _ _ _ c.find.result c.find.ensures.ran (λ x q k. search rules) (λ x q k. search rules) ∙ ap (first p 0) c.size.ensures
