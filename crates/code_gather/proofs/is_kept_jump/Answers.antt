use mathlib.Core.Path.{sym, ◌∙◌, ap}
use lib.ListN.{get_or}
use Prim.Native.Nat.{◌+◌}
use Rattle.code_mark.specs.Read.{read_at}
use Rattle.code_flat.specs.Machine.{decode}
use Rattle.code_shorten.specs.Short.{aim_of}
use Rattle.code_gather.specs.Gather.{is_jump}
use Rattle.code_gather.proofs.NowLaws.{hop_start, now_some, now_none}
use Rattle.code_gather.proofs.is_kept_jump.Goals as goal

pub returns-then-t-eq0 : goal.returns-then-t-eq0
returns-then-t-eq0 c = λ C p s b k. sym (ap is_jump (hop_start C p.valid c.args.code.now c.args.places.now.split s c.args.t c.if-t-eq0.true))

pub returns-in-Some : goal.returns-in-Some
unfolding read_at
returns-in-Some c =
    λ C p s b k.
    let f = c.args.code.now in
    let q = c.in-Some.q in
    c.is_jump.ensures (get_or f (q + 1) 0) (get_or f (q + 2) 0) (get_or f (q + 3) 0)
    ∙ ap (λ x. is_jump (aim_of (decode x (get_or f (q + 1) 0) (get_or f (q + 2) 0) (get_or f (q + 3) 0)))) c.opcode_at.ensures
    ∙ now_some C p.valid f c.args.places.now.split s c.args.t q b c.if-t-eq0.false (sym c.in-Some.is ∙ c.place_now.ensures C p s)

pub returns-in-None : goal.returns-in-None
returns-in-None c = λ C p s b k. now_none C p.valid c.args.code.now c.args.places.now.split s c.args.t (sym c.in-None.is ∙ c.place_now.ensures C p s) k
