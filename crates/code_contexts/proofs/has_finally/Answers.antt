use Rattle.code_contexts.proofs.EndLaws.{has_found}
use mathlib.Core.Logic.{inr}
use mathlib.Core.Path.{refl, sym, ◌∙◌}
use Rattle.code_contexts.proofs.has_finally.Goals as goal

pub returns : goal.returns
returns c = let a = c.args in c.is_some.ensures ∙ sym (has_found a.nodes.now a.names.now a.b.0 c.requires.ready a.p.0 c.requires.p_bound c.requires.p_value 5 (inr (inr refl)) c.first_child.result (sym (rw c.of.ensures at c.first_child.ensures.value)))
