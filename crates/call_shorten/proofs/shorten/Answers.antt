use Rattle.std.proofs.Common.{sym, ◌∙◌}
use Rattle.std.proofs.lemmas.Result.{err_from_is_err_and}
use Rattle.call_shorten.proofs.ShortenLaws.{refused, accepted}
use Rattle.call_shorten.proofs.shorten.Goals as goal

pub shorten_valid-requires : goal.shorten_valid-requires
shorten_valid-requires c = sym c.check.ensures ∙ c.in_ok-check.was

pub returns-in_err-check : goal.returns-in_err-check
returns-in_err-check c =
    let p = err_from_is_err_and c.from_residual.result c.from_residual.ensures.1 in
    let g = refused c.args.code.now _ (sym c.check.ensures ∙ c.in_err-check.was) in
    record { answer = rw (p.1, p.2) g.0; code_after = g.1 }

pub returns : goal.returns
returns c =
    let g = accepted c.args.code.now c.shorten_valid.new.code c.shorten_valid.result (sym c.check.ensures ∙ c.in_ok-check.was) c.shorten_valid.ensures.value c.shorten_valid.ensures.code_after in
    record { answer = g.0; code_after = g.1 }
