use Rattle.call_shared.specs.Shared.{shared_length}
use Rattle.call_shared.proofs.SharedLaws.{shared_by, shared_by_lem, shares}
use Rattle.check_dispatch.specs.Lent.{rule_of}
use Rattle.route_shared.specs.Shared.{shared_entries}
use Rattle.std.specs.Prelude.{Ok}
use lib.ListN.{length, take}
use mathlib.Core.Path.{ap, ◌∙◌}
use Rattle.call_shared.proofs.shared.Goals as goal

pub returns : goal.returns
returns c = let a = c.args in
    let k = a.code.now in
    let r = rule_of a.rule.now in
    let n = c.in_ok-n.n in
    let e = c.in_ok-n.ensures.value in
    let y = c.shared_entries.ensures ∙ ap (λ s. shared_entries s a.first.now a.second.now) c.front-made.ensures ∙ ap (λ s. shared_entries (take n s) a.first.now a.second.now) c.in_ok-n.ensures.code_after ∙ shares r a.unit n k e a.first.now a.second.now in
    record { value = (λ i. Ok (y i)) ∙ ap (shared_by (shared_length r a.unit a.first.now a.second.now)) e ∙ shared_by_lem r a.unit a.first.now a.second.now (length k); code_after = c.in_ok-n.ensures.code_after }
