use native.Mathlib.Omega.{arith}
use Rattle.code_gather.proofs.NowLaws.{fronted_tagged, place_front, place_behind}
use Rattle.code_gather.proofs.place_now.Goals as goal

pub returns-then-t-places : goal.returns-then-t-places
returns-then-t-places c =
    λ C p s.
    place_front C p.valid c.args.code.now c.args.places.now.split s c.args.t c.front_place.result (omega arith) (c.front_place.ensures C p (fronted_tagged C c.args.code.now c.args.places.now.split p.valid s) (omega arith))

pub returns : goal.returns
returns c = λ C p s. place_behind C p.valid c.args.code.now c.args.places.now.split s c.args.t (omega arith)
