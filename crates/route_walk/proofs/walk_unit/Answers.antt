use borrow.Author.Rules.{rules}
use mathlib.Core.Path.{refl, sym, ◌∙◌, ap}
use native.Mathlib.Omega.{arith}
use Rattle.code_tree.specs.Parts.{is_labeled}
use Rattle.route_walk.proofs.WalkLaws.{whole, whole_none}
use Rattle.route_steps.proofs.StatementLaws.{labels_off, unit_is_lem, unit_none}
use Rattle.route_walk.proofs.walk_unit.Goals as goal

pub returns-in_default : goal.returns-in_default
returns-in_default c =
    rw (unit_none c.args.nodes.now c.args.names.now c.args.u.0 (sym c.holder.ensures.value ∙ c.in_default.is)) (whole_none _ _ _ _ _ (omega arith) refl refl refl)

pub invariant_of-given : goal.invariant_of-given
invariant_of-given c = let h = c.requires.held _ (sym c.holder.ensures.value ∙ c.in-Some.is) in record { good = h.good; named = h.named }

pub walk_parts-how-requires-clause-n_value : goal.walk_parts-how-requires-clause-n_value
walk_parts-how-requires-clause-n_value c = let h = c.requires.held _ (sym c.holder.ensures.value ∙ c.in-Some.is) in labels_off _ _ h.good _ (ap is_labeled h.block)

pub returns : goal.returns
returns c =
    let e = sym c.holder.ensures.value ∙ c.in-Some.is in
    let h = c.requires.held _ e in
    rw (unit_is_lem c.args.nodes.now c.args.names.now h.good c.args.u.0 _ e h.block) (whole _ _ _ _ _ refl refl (omega arith) (search rules) _ c.walk_parts-how.ensures)
