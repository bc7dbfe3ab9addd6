use Rattle.code_instructions.proofs.PartLaws.{ifz_none, ifz_some, behind_none, behind_has, case_holder}
use Rattle.code_instructions.proofs.WordsLaws.{case_has}
use Prim.Native.Nat.{◌+◌}
use mathlib.Core.Path.{refl, sym, subst, ap, ◌∙◌}
use lib.Dec.{eqb}
use lib.ListN.{get_or}
use Rattle.route_completion.specs.Sem.{normal}
use Rattle.code_tree.specs.Parts.{up_of, parts, order}
use Rattle.code_widths.specs.Widths.{counted}
use Rattle.code_targets.specs.Targets.{target, depth_at}
use Rattle.code_layout.specs.Context.{ifz, head0, behind, offset_at}
use Rattle.code_layout.specs.Widths.{sum, width_at}
use Rattle.code_flat.specs.Code.{at}
use Rattle.code_branch.specs.Branch.{stat_of, Plan, Laid}
use Rattle.code_branch.proofs.JumpLaws as array
use Rattle.code_instructions.proofs.case_words.Goals as goal

pub returns-then-is_last : goal.returns-then-is_last
returns-then-is_last c = let a = c.args in
    let ns = a.laid.now.nodes in
    let nm = a.laid.now.names in
    let b = a.laid.now.body in
    let n = a.n.0 in
    let A = subst Laid c.laid.view_is c.laid.invariant in
    let u = c.up_of-p.ensures.result_value ∙ ap (λ (p : Plan). up_of p.nodes n) c.laid.view_is in
    case_has ns nm b n c.requires.b_lt_n c.requires.n_value_2 (stat_of c.entry_of-t.result) (c.entry_of-t.ensures ∙ ap (λ k. ifz (head0 (order ns n)) (target ns nm b n normal) (at (offset_at ns nm b n + k) (depth_at ns nm b n))) c.number_by-own.ensures.value) 0 (ifz_none (behind (order ns (up_of ns n)) n) 0 (offset_at ns nm b n + width_at ns b n) (behind_none A n c.requires.b_lt_n c.requires.n_bound c.requires.n_value (up_of ns n) refl (case_holder A n c.requires.b_lt_n c.requires.n_bound c.requires.n_value c.requires.n_value_2) (ap (λ k. eqb (sum (counted ns b) (parts ns k (n + 1))) 0) (sym u) ∙ sym c.is_last.ensures ∙ c.if-is_last.true)))

pub returns : goal.returns
returns c = let a = c.args in
    let ns = a.laid.now.nodes in
    let nm = a.laid.now.names in
    let b = a.laid.now.body in
    let n = a.n.0 in
    let A = subst Laid c.laid.view_is c.laid.invariant in
    let u = c.up_of-p.ensures.result_value ∙ ap (λ (p : Plan). up_of p.nodes n) c.laid.view_is in
    let s = c.laid.inside in
    let x = ap (λ (p : Plan). get_or p.offsets n 0) c.laid.view_is ∙ array.offset_is A n c.requires.n_bound c.requires.n_value in
    let y = ap (λ (p : Plan). get_or p.widths n 0) c.laid.view_is ∙ array.width_is_lem A n c.requires.n_bound c.requires.n_value in
    case_has ns nm b n c.requires.b_lt_n c.requires.n_value_2 (stat_of c.entry_of-t.result) (c.entry_of-t.ensures ∙ ap (λ k. ifz (head0 (order ns n)) (target ns nm b n normal) (at (offset_at ns nm b n + k) (depth_at ns nm b n))) c.number_by-own.ensures.value) (get_or s.offsets.now n 0 + get_or s.widths.now n 0) ((λ i. x i + y i) ∙ ifz_some (behind (order ns (up_of ns n)) n) 0 (offset_at ns nm b n + width_at ns b n) (behind_has A n c.requires.b_lt_n c.requires.n_bound c.requires.n_value (up_of ns n) refl (case_holder A n c.requires.b_lt_n c.requires.n_bound c.requires.n_value c.requires.n_value_2) (ap (λ k. eqb (sum (counted ns b) (parts ns k (n + 1))) 0) (sym u) ∙ sym c.is_last.ensures ∙ c.if-is_last.false)))
