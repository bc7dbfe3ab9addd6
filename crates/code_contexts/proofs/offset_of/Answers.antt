use Rattle.code_contexts.proofs.OffsetLaws.{up_room, plain_room}
use Rattle.code_contexts.proofs.TurnLaws.{holder_offset, behind_is}
use lib.ListN.{get_or}
use native.Mathlib.Omega.{arith}
use Rattle.code_contexts.proofs.offset_of.Goals as goal

pub overflow_add-result : goal.overflow_add-result
overflow_add-result c =
    let a = c.args in
    let t = c.requires.turn in
    let l = up_room a.nodes.now a.names.now a.b.0 t.ready a.draft.now.widths.now t.wide a.n.0 t.behind t.inside t.member a.p.0 (get_or a.draft.now.offsets.now a.p.0 0) c.requires.p_value (holder_offset t a.p.0 c.requires.p_value) in
    omega (arith, l)

pub overflow_sub-result : goal.overflow_sub-result
overflow_sub-result c =
    let a = c.args in
    let t = c.requires.turn in
    let l = plain_room a.nodes.now a.names.now a.b.0 t.ready a.draft.now.widths.now t.wide a.n.0 t.behind t.inside t.member a.p.0 (get_or a.draft.now.offsets.now a.p.0 0) c.requires.p_value (holder_offset t a.p.0 c.requires.p_value) (cc) (get_or a.draft.now.offsets.now a.n.0 0) (behind_is t a.p.0 c.requires.p_value) in
    omega (arith, l)
