use mathlib.Core.Path.{◌≡◌, sym, ◌∙◌}
use mathlib.Core.Bool.{true, false}
use Rattle.code_valid.specs.Instrs.{parse}
use Rattle.code_shorten.specs.Short.{hop}
use Rattle.code_gather.specs.Gather.{is_jump}
use Rattle.code_gather.proofs.NowLaws.{fronted_behind}
use Rattle.code_gather.proofs.SentLaws.{at_none, at_begin, at_saved, at_end, at_next, at_kept, at_ring, at_on}
use Rattle.code_gather.proofs.sent_at.Goals as goal

pub returns-in_default : goal.returns-in_default
returns-in_default c =
    λ C p s n e w l b k.
    let f = c.args.code.now in
    let split = c.args.places.now.split in
    at_none C p.valid split c.args.p b f (fronted_behind C f split s) l k (sym c.in_default.is ∙ c.entry_of.ensures)

pub returns-in_default-hop_front : goal.returns-in_default-hop_front
returns-in_default-hop_front c =
    λ C p s n e w l b k.
    let f = c.args.code.now in
    let split = c.args.places.now.split in
    let t = c.in-Some.last in
    let h = fronted_behind C f split s in
    let q = sym c.in-Some.is ∙ c.entry_of.ensures in
    at_end C p.valid split c.args.p b f h l k t.place t.depth q
    (sym c.in_default-hop_front.is
    ∙ c.hop_front.ensures C p s n e w.slots (at_begin C p.valid split c.args.p b f h l k t.place t.depth q) (at_saved C p.valid split c.args.p b f h l k t.place t.depth q c.args.block n w))

pub returns-then-is_kept_jump : goal.returns-then-is_kept_jump
returns-then-is_kept_jump c =
    λ C p s n e w l b k.
    let f = c.args.code.now in
    let split = c.args.places.now.split in
    let t = c.in-Some.last in
    let u = c.in-Some-hop_front.next in
    let h = fronted_behind C f split s in
    let q = sym c.in-Some.is ∙ c.entry_of.ensures in
    let g = sym c.in-Some-hop_front.is
    ∙ c.hop_front.ensures C p s n e w.slots (at_begin C p.valid split c.args.p b f h l k t.place t.depth q) (at_saved C p.valid split c.args.p b f h l k t.place t.depth q c.args.block n w) in
    let j : is_jump (hop (parse C) u.place) ≡ true =
    sym (c.is_kept_jump.ensures C p s (at_next C p.valid split c.args.p b f h l k t.place t.depth q u.place u.depth g) (at_kept C p.valid split c.args.p b f h l k t.place t.depth q u.place u.depth g)) ∙ c.if-is_kept_jump.true in
    at_ring C p.valid split c.args.p b f h l k t.place t.depth q u.place u.depth g j

pub returns : goal.returns
returns c =
    λ C p s n e w l b k.
    let f = c.args.code.now in
    let split = c.args.places.now.split in
    let t = c.in-Some.last in
    let u = c.in-Some-hop_front.next in
    let h = fronted_behind C f split s in
    let q = sym c.in-Some.is ∙ c.entry_of.ensures in
    let g = sym c.in-Some-hop_front.is
    ∙ c.hop_front.ensures C p s n e w.slots (at_begin C p.valid split c.args.p b f h l k t.place t.depth q) (at_saved C p.valid split c.args.p b f h l k t.place t.depth q c.args.block n w) in
    let j : is_jump (hop (parse C) u.place) ≡ false =
    sym (c.is_kept_jump.ensures C p s (at_next C p.valid split c.args.p b f h l k t.place t.depth q u.place u.depth g) (at_kept C p.valid split c.args.p b f h l k t.place t.depth q u.place u.depth g)) ∙ c.if-is_kept_jump.false in
    at_on C p.valid split c.args.p b f h l k t.place t.depth q u.place u.depth g j c.min.result c.min.ensures
