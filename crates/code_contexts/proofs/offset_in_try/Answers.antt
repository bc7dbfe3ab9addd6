use Rattle.code_contexts.proofs.OffsetLaws.{up_lt, up_room, finally_room, finally_is, block_is_lem, catch_is, catch_room}
use Rattle.code_contexts.proofs.PlacesLaws.{try_low, block_found}
use Rattle.code_contexts.proofs.EndLaws.{child_part}
use Rattle.code_contexts.proofs.TurnLaws.{holder_offset}
use lib.ListN.{get_or}
use Rattle.std.specs.Option.{is_some}
use Rattle.code_tree.specs.Parts.{shape_at}
use Rattle.table_children.specs.Children.{first_child}
use Rattle.table_records.specs.Table.{role_of}
use Rattle.base_common.proofs.Bools.{never}
use native.Mathlib.Omega.{arith}
use mathlib.Core.Logic.{inl}
use mathlib.Core.Path.{◌≡◌, refl, sym, ◌∙◌, ap}
use Rattle.code_contexts.proofs.offset_in_try.Goals as goal

pub overflow_add-result : goal.overflow_add-result
overflow_add-result c =
    let a = c.args in
    let t = c.requires.turn in
    let l = up_room a.nodes.now a.names.now a.b.0 t.ready a.draft.now.widths.now t.wide a.n.0 t.behind t.inside t.member a.p.0 (get_or a.draft.now.offsets.now a.p.0 0) c.requires.p_value (holder_offset t a.p.0 c.requires.p_value) in
    omega (arith, l)

pub overflow_sub-result : goal.overflow_sub-result
overflow_sub-result c =
    let a = c.args in
    let t = c.requires.turn in
    let q : role_of a.nodes.now a.n.0 ≡ 5 = cc in
    let l = finally_room a.nodes.now a.names.now a.b.0 t.ready a.draft.now.widths.now t.wide a.n.0 t.behind t.inside t.member a.p.0 (get_or a.draft.now.offsets.now a.p.0 0) c.requires.p_value (holder_offset t a.p.0 c.requires.p_value) c.requires.p_value_2 q in
    omega (arith, l)

pub returns-then-r-eq-FINALLY : goal.returns-then-r-eq-FINALLY
returns-then-r-eq-FINALLY c =
    let a = c.args in
    let t = c.requires.turn in
    let q : role_of a.nodes.now a.n.0 ≡ 5 = cc in
    (finally_is a.nodes.now a.names.now a.b.0 t.ready a.draft.now.widths.now t.wide a.n.0 t.behind t.inside t.member a.p.0 (get_or a.draft.now.offsets.now a.p.0 0) c.requires.p_value (holder_offset t a.p.0 c.requires.p_value) c.requires.p_value_2 q)

pub own_of_try-requires : goal.own_of_try-requires
own_of_try-requires c =
    let a = c.args in
    let t = c.requires.turn in
    let ns = a.nodes.now in
    let e = c.requires.p_value in
    let s = c.requires.p_value_2 in
    let l = up_lt ns a.names.now a.b.0 t.ready a.draft.now.widths.now t.wide a.n.0 t.behind t.inside t.member a.p.0 (get_or a.draft.now.offsets.now a.p.0 0) c.requires.p_value (holder_offset t a.p.0 c.requires.p_value) in
    let y = try_low ns a.names.now a.b.0 t.ready a.n.0 t.behind t.inside t.member (ap (shape_at ns) (sym e) ∙ s) in
    record { ready = t.ready; b_lt_p = omega (arith, y, e); p_bound = omega (arith, l, t.inside); p_value = s }

pub overflow_add-start : goal.overflow_add-start
overflow_add-start c =
    let a = c.args in
    let t = c.requires.turn in
    let l = up_room a.nodes.now a.names.now a.b.0 t.ready a.draft.now.widths.now t.wide a.n.0 t.behind t.inside t.member a.p.0 (get_or a.draft.now.offsets.now a.p.0 0) c.requires.p_value (holder_offset t a.p.0 c.requires.p_value) in
    omega (arith, l, c.own_of_try.ensures.upper_bound)

pub returns-then-r-eq-HELD : goal.returns-then-r-eq-HELD
returns-then-r-eq-HELD c =
    let a = c.args in
    let t = c.requires.turn in
    let q : role_of a.nodes.now a.n.0 ≡ 3 = cc in
    rw c.own_of_try.ensures.value (block_is_lem a.nodes.now a.names.now a.b.0 t.ready a.draft.now.widths.now t.wide a.n.0 t.behind t.inside t.member a.p.0 (get_or a.draft.now.offsets.now a.p.0 0) c.requires.p_value (holder_offset t a.p.0 c.requires.p_value) c.requires.p_value_2 q)

pub returns-in_default : goal.returns-in_default
returns-in_default c =
    let a = c.args in
    let t = c.requires.turn in
    let ns = a.nodes.now in
    let e = c.requires.p_value in
    let f = block_found ns a.names.now a.b.0 t.ready a.n.0 t.behind t.inside t.member (ap (shape_at ns) (sym e) ∙ c.requires.p_value_2) in
    never (sym f ∙ ap (λ k. is_some (first_child ns k 5 5 3 3)) (sym e) ∙ ap is_some (sym (rw c.of.ensures at c.first_child.ensures.value) ∙ c.in_default.is))

pub overflow_add-result-2 : goal.overflow_add-result-2
overflow_add-result-2 c =
    let a = c.args in
    let t = c.requires.turn in
    let ns = a.nodes.now in
    let l = up_lt ns a.names.now a.b.0 t.ready a.draft.now.widths.now t.wide a.n.0 t.behind t.inside t.member a.p.0 (get_or a.draft.now.offsets.now a.p.0 0) c.requires.p_value (holder_offset t a.p.0 c.requires.p_value) in
    let w = child_part ns a.names.now a.b.0 t.ready a.p.0 (omega (arith, l, t.inside)) c.requires.p_value_2 3 c.in-Some.block.0 (inl refl) (sym (rw c.of.ensures at c.first_child.ensures.value) ∙ c.in-Some.is) in
    let z = catch_room ns a.names.now a.b.0 t.ready a.draft.now.widths.now t.wide a.n.0 t.behind t.inside t.member a.p.0 (get_or a.draft.now.offsets.now a.p.0 0) c.requires.p_value (holder_offset t a.p.0 c.requires.p_value) c.requires.p_value_2
    (λ y. c.if-r-eq-HELD.false (cc)) (λ y. c.if-r-eq-FINALLY.false (cc)) c.in-Some.block.0 w.0 w.1 in
    omega (arith, z, c.own_of_try.ensures.value)

pub returns : goal.returns
returns c =
    let a = c.args in
    let t = c.requires.turn in
    let ns = a.nodes.now in
    let l = up_lt ns a.names.now a.b.0 t.ready a.draft.now.widths.now t.wide a.n.0 t.behind t.inside t.member a.p.0 (get_or a.draft.now.offsets.now a.p.0 0) c.requires.p_value (holder_offset t a.p.0 c.requires.p_value) in
    let w = child_part ns a.names.now a.b.0 t.ready a.p.0 (omega (arith, l, t.inside)) c.requires.p_value_2 3 c.in-Some.block.0 (inl refl) (sym (rw c.of.ensures at c.first_child.ensures.value) ∙ c.in-Some.is) in
    rw (c.own_of_try.ensures.value) (catch_is ns a.names.now a.b.0 t.ready a.draft.now.widths.now t.wide a.n.0 t.behind t.inside t.member a.p.0 (get_or a.draft.now.offsets.now a.p.0 0) c.requires.p_value (holder_offset t a.p.0 c.requires.p_value) c.requires.p_value_2
    (λ y. c.if-r-eq-HELD.false (cc)) (λ y. c.if-r-eq-FINALLY.false (cc)) c.in-Some.block.0 w.0 w.1)
