use Prim.Native.Nat.{◌+◌}
use Rattle.code_contexts.proofs.PlacesLaws.{goes_is_lem, follow_self, follow_up}
use Rattle.code_contexts.proofs.TurnLaws.{behind_is, holder_follow}
use lib.ListN.{get_or}
use Rattle.code_contexts.specs.Contexts.{goes_by, Follow}
use Rattle.code_widths.specs.Widths.{counted}
use Rattle.code_layout.specs.Widths.{sum}
use Rattle.table_records.specs.Table.{role_of}
use Rattle.code_tree.specs.Parts.{up_of, shape_at, parts}
use lib.Dec.{eqb}
use mathlib.Core.Bool.{not}
use mathlib.Core.Path.{◌≡◌, sym, ◌∙◌, ap, subst}
use Rattle.code_contexts.proofs.follow_of.Goals as goal

pub returns-then-goes_by : goal.returns-then-goes_by
returns-then-goes_by c =
    let a = c.args in
    let t = c.requires.turn in
    let ns = a.nodes.now in
    let ep = c.requires.p_value in
    let s : c.shape_of.result ≡ shape_at ns (up_of ns a.n.0) = cc in
    let r : c.role.result ≡ role_of ns a.n.0 = cc in
    let x : not (eqb (get_or a.draft.now.offsets.now a.n.0 0) 0) ≡ not (eqb (sum (counted ns a.b.0) (parts ns (up_of ns a.n.0) (a.n.0 + 1))) 0) = ap (λ k. not (eqb k 0)) (behind_is t a.p.0 ep ∙ ap (λ k. sum (counted ns a.b.0) (parts ns k (a.n.0 + 1))) ep) in
    follow_self ns a.names.now a.b.0 t.ready a.n.0 t.behind t.inside t.member
    (goes_is_lem ns a.names.now a.b.0 t.ready a.n.0 t.behind t.inside t.member ∙ sym (λ i. goes_by (s i) (x i) (r i)) ∙ sym c.goes_by.ensures ∙ c.if-goes_by.true)

pub returns : goal.returns
returns c =
    let a = c.args in
    let t = c.requires.turn in
    let ns = a.nodes.now in
    let ep = c.requires.p_value in
    let s : c.shape_of.result ≡ shape_at ns (up_of ns a.n.0) = cc in
    let r : c.role.result ≡ role_of ns a.n.0 = cc in
    let x : not (eqb (get_or a.draft.now.offsets.now a.n.0 0) 0) ≡ not (eqb (sum (counted ns a.b.0) (parts ns (up_of ns a.n.0) (a.n.0 + 1))) 0) = ap (λ k. not (eqb k 0)) (behind_is t a.p.0 ep ∙ ap (λ k. sum (counted ns a.b.0) (parts ns k (a.n.0 + 1))) ep) in
    follow_up ns a.names.now a.b.0 t.ready a.n.0 t.behind t.inside t.member
    (goes_is_lem ns a.names.now a.b.0 t.ready a.n.0 t.behind t.inside t.member ∙ sym (λ i. goes_by (s i) (x i) (r i)) ∙ sym c.goes_by.ensures ∙ c.if-goes_by.false)
    (get_or a.draft.now.follows.now a.p.0 0) (subst (λ k. Follow ns a.names.now a.b.0 k (get_or a.draft.now.follows.now a.p.0 0)) ep (holder_follow t a.p.0 ep))
