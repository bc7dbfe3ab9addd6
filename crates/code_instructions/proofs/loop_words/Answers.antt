use Rattle.code_instructions.proofs.WordsLaws.{loop_has}
use Prim.Native.Nat.{◌+◌, ◌-◌}
use mathlib.Core.Path.{◌≡◌, ap, ◌∙◌, sym, subst}
use lib.ListN.{get_or}
use Rattle.route_completion.specs.Sem.{pick}
use Rattle.code_tree.specs.Statements.{before_at, test_at}
use Rattle.code_branch.specs.Branch.{stat_of, Plan, Laid}
use Rattle.code_branch.proofs.JumpLaws as array
use Rattle.code_instructions.proofs.loop_words.Goals as goal
use Rattle.code_instructions.proofs.loop_words.Goals.{then-is_before, else-is_before, then-has_test, else-has_test}

pub returns : goal.returns
returns c = let a = c.args in
    let ns = a.laid.now.nodes in
    let nm = a.laid.now.names in
    let b = a.laid.now.body in
    let n = a.n.0 in
    let A = subst Laid c.laid.view_is c.laid.invariant in
    let o = get_or c.laid.inside.offsets.now n 0 in
    let d = c.from-depth.result - 1 in
    let eo = ap (λ (p : Plan). get_or p.offsets n 0) c.laid.view_is ∙ array.offset_is A n c.requires.n_bound c.requires.n_value in
    let ed = ap (λ k. k - 1) c.from-depth.ensures ∙ ap (λ (p : Plan). get_or p.levels n 0 - 1) c.laid.view_is ∙ array.depth_is A n c.requires.n_bound c.requires.n_value in
    let p : c.is_before.result ≡ before_at ns n = cc (ap (λ (p : Plan). p.nodes) c.laid.view_is) in
    let q : c.has_test.result ≡ test_at ns n = cc (ap (λ (p : Plan). p.nodes) c.laid.view_is) in
    loop_has ns nm b n c.requires.b_lt_n c.requires.n_value_2 (stat_of c.normal_target-t.result) c.normal_target-t.ensures o d c.if-is_before.first c.if-has_test.no eo ed
    (elim c.if-is_before.branch [ then-is_before w ↦ w.first-is ∙ ap (λ t. pick t (o + 3) (o + 10)) (sym w.if-is_before.true ∙ p) | else-is_before w ↦ w.first-is ∙ ap (λ t. pick t (o + 3) (o + 10)) (sym w.if-is_before.false ∙ p) ])
    (elim c.if-has_test.branch [ then-has_test w ↦ w.no-is ∙ ap (λ t. pick t (o + 7) (o + 10)) (sym w.if-has_test.true ∙ q) | else-has_test w ↦ w.no-is ∙ ap (λ t. pick t (o + 7) (o + 10)) (sym w.if-has_test.false ∙ q) ])
