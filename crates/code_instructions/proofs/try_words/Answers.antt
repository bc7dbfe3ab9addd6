use Rattle.code_instructions.proofs.PartLaws.{finally_part, finally_in_lem, finally_has, finally_at}
use Rattle.code_instructions.proofs.WordsLaws.{open_has}
use Rattle.table_children.specs.Children.{first_child}
use mathlib.Core.Path.{sym, subst, ap, ◌∙◌}
use lib.ListN.{get_or}
use Rattle.code_branch.specs.Branch.{Plan, Laid}
use Rattle.code_branch.proofs.JumpLaws as array
use Rattle.code_instructions.proofs.try_words.Goals as goal

pub returns-in-Some : goal.returns-in-Some
returns-in-Some c = let l = c.args.laid.now in
    let n = c.args.n.0 in
    let f = c.in-Some.f.0 in
    let r = c.requires in
    let A = subst Laid c.laid.view_is c.laid.invariant in
    let s = sym (ap (λ (p : Plan). first_child p.nodes n 5 5 5 5) c.laid.view_is) ∙ sym (rw c.of.ensures at c.first_child.ensures.value) ∙ c.in-Some.is in
    open_has l.nodes l.names l.body n r.b_lt_n r.n_value_2 (finally_has A n r.b_lt_n r.n_bound r.n_value r.n_value_2 f s) (get_or c.laid.inside.offsets.now f 0)
    (ap (λ (p : Plan). get_or p.offsets f 0) c.laid.view_is
    ∙ array.offset_is A f (finally_part A n r.b_lt_n r.n_bound r.n_value r.n_value_2 f s).inside (finally_in_lem A n r.b_lt_n r.n_bound r.n_value r.n_value_2 f s)
    ∙ finally_at A n r.b_lt_n r.n_bound r.n_value r.n_value_2 f s)
