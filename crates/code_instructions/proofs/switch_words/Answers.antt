use Rattle.code_instructions.proofs.PartLaws.{ifz_none, ifz_some, head_none, head_has, default_none}
use Rattle.code_instructions.proofs.WordsLaws.{switch_has}
use Prim.Native.Nat.{◌+◌}
use mathlib.Core.Path.{◌≡◌, sym, ap, ◌∙◌, subst}
use lib.ListN.{get_or}
use Rattle.code_tree.specs.Parts.{order}
use Rattle.code_layout.specs.Context.{head0, offset_at}
use Rattle.code_layout.specs.Widths.{is_try, number_by}
use Rattle.code_layout.specs.Words.{words_at}
use Rattle.code_flat.specs.Has.{Has}
use Rattle.code_branch.specs.Branch.{stat_of, Plan, Laid}
use Rattle.code_branch.proofs.JumpLaws as array
use Rattle.code_instructions.proofs.switch_words.Goals as goal

pub returns-then-laid-n-eq-SWITCH_WORDS : goal.returns-then-laid-n-eq-SWITCH_WORDS
returns-then-laid-n-eq-SWITCH_WORDS c = let a = c.args in
    let ns = a.laid.now.nodes in
    let nm = a.laid.now.names in
    let b = a.laid.now.body in
    let n = a.n.0 in
    let A = subst Laid c.laid.view_is c.laid.invariant in
    let o = get_or c.laid.inside.offsets.now n 0 in
    let eo : o ≡ offset_at ns nm b n = ap (λ (p : Plan). get_or p.offsets n 0) c.laid.view_is ∙ array.offset_is A n c.requires.n_bound c.requires.n_value in
    let m = head_none A n c.requires.b_lt_n c.requires.n_bound c.requires.n_value (ap is_try c.requires.n_value_2) (sym (ap (λ (p : Plan). get_or p.widths n 0) c.laid.view_is) ∙ c.if-laid-n-eq-SWITCH_WORDS.true ∙ sym (ap number_by c.requires.n_value_2)) in
    subst (λ r. Has r 0 (words_at ns nm b n)) (sym c.asking.ensures) (switch_has ns nm b n c.requires.b_lt_n c.requires.n_value_2 (stat_of c.normal_target-t.result) c.normal_target-t.ensures 0 (o + 4) (ifz_none (head0 (order ns n)) 0 (offset_at ns nm b n + 7) m) (ap (λ k. k + 4) eo ∙ default_none A n c.requires.b_lt_n c.requires.n_bound c.requires.n_value c.requires.n_value_2 m (offset_at ns nm b n + 4)))

pub returns : goal.returns
returns c = let a = c.args in
    let ns = a.laid.now.nodes in
    let nm = a.laid.now.names in
    let b = a.laid.now.body in
    let n = a.n.0 in
    let A = subst Laid c.laid.view_is c.laid.invariant in
    let o = get_or c.laid.inside.offsets.now n 0 in
    let eo : o ≡ offset_at ns nm b n = ap (λ (p : Plan). get_or p.offsets n 0) c.laid.view_is ∙ array.offset_is A n c.requires.n_bound c.requires.n_value in
    subst (λ r. Has r 0 (words_at ns nm b n)) (sym c.asking-2.ensures) (switch_has ns nm b n c.requires.b_lt_n c.requires.n_value_2 (stat_of c.normal_target-t.result) c.normal_target-t.ensures (o + 7) c.default_at-d.result (ap (λ k. k + 7) eo ∙ ifz_some (head0 (order ns n)) 0 (offset_at ns nm b n + 7) (head_has A n c.requires.b_lt_n c.requires.n_bound c.requires.n_value (ap is_try c.requires.n_value_2) (λ y. c.if-laid-n-eq-SWITCH_WORDS.false (ap (λ (p : Plan). get_or p.widths n 0) c.laid.view_is ∙ y ∙ ap number_by c.requires.n_value_2)))) c.default_at-d.ensures)
