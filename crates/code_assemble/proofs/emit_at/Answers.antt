use Rattle.code_assemble.proofs.WrittenLaws.{length_whole, emit_fits, emit_put, level_in}
use native.Mathlib.Omega.{arith}
use mathlib.Core.Path.{ap, subst, ◌∙◌}
use lib.ListN.{get_or}
use Rattle.code_layout.specs.Widths.{own_width}
use Rattle.code_branch.specs.Branch.{Plan, Laid}
use Rattle.code_branch.proofs.JumpLaws as array
use Rattle.code_assemble.proofs.emit_at.Goals as goal

pub put_words-requires-clause-n_in_bounds_2 : goal.put_words-requires-clause-n_in_bounds_2
put_words-requires-clause-n_in_bounds_2 c =
    let n = c.args.n.0 in
    let v = c.laid.view_is in
    let A = subst Laid v c.laid.invariant in
    let u = level_in A n c.requires.n_bound (λ z. c.if-laid-n-eq0.false (ap (λ (p : Plan). get_or p.levels n 0) v ∙ z)) in
    let x = ap (λ (p : Plan). get_or p.offsets n 0) v ∙ array.offset_is A n c.requires.n_bound u in
    let w = c.own_of-own.ensures.value ∙ ap (λ (p : Plan). own_width p.nodes p.body n) v in
    omega (arith, emit_fits A.ready n c.requires.n_bound u, length_whole A.ready, x, c.requires.b_in_bounds, w)

pub returns : goal.returns
returns c =
    let n = c.args.n.0 in
    let v = c.laid.view_is in
    let A = subst Laid v c.laid.invariant in
    let u = level_in A n c.requires.n_bound (λ z. c.if-laid-n-eq0.false (ap (λ (p : Plan). get_or p.levels n 0) v ∙ z)) in
    let x = ap (λ (p : Plan). get_or p.offsets n 0) v ∙ array.offset_is A n c.requires.n_bound u in
    let w = c.own_of-own.ensures.value ∙ ap (λ (p : Plan). own_width p.nodes p.body n) v in
    emit_put A.ready n c.requires.n_bound u c.words_of-words.result c.words_of-words.ensures (get_or c.laid.inside.offsets.now n 0) c.own_of-own.result x w c.args.code.now _ c.put_words.ensures
