use native.Mathlib.Omega.{arith}
use mathlib.Core.Path.{sym, ◌∙◌, subst}
use Rattle.code_gather.specs.Gather.{Found}
use Rattle.code_gather.proofs.NowLaws.{fronted_tagged, sent_kept, sent_lost}
use Rattle.code_gather.proofs.hop_front.Goals as goal

pub returns-in-Some : goal.returns-in-Some
returns-in-Some c =
    λ C p s n e k b d.
    let f = c.args.code.now in
    let split = c.args.places.now.split in
    c.aim_at.ensures ∙ sent_kept C p.valid f split s c.args.t c.in-Some.q (omega arith) c.if-t-eq0.false (sym c.in-Some.is ∙ c.front_place.ensures C p (fronted_tagged C f split p.valid s) (omega arith))

pub returns-in_default-slot_of : goal.returns-in_default-slot_of
returns-in_default-slot_of c =
    λ C p s n e k b d.
    let f = c.args.code.now in
    let split = c.args.places.now.split in
    sent_lost C p.valid f split s c.args.t c.args.block n e (omega arith) c.if-t-eq0.false (sym c.in_default.is ∙ c.front_place.ensures C p (fronted_tagged C f split p.valid s) (omega arith))
    (subst (Found f c.args.block split c.args.t) c.in_default-slot_of.is c.slot_of.ensures) d
