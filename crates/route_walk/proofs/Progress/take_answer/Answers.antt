use mathlib.Core.Path.{refl, ap}
use Prim.Native.Nat.{◌<◌}
use lib.ListN.{get_or, length}
use Rattle.route_walk.proofs.WalkLaws.{takes}
use Rattle.route_walk.proofs.Progress.take_answer.Goals as goal

pub returns-then-given-at : goal.returns-then-given-at
returns-then-given-at c = record { none = rw (← c.given.view_is) c.if-given-at.true; same = refl }

pub returns : goal.returns
returns c =
    let a = c.args in
    let h : a.self.now.taken < length a.given.now.answers = rw (← c.given.view_is) c.if-given-at.false in
    record { left = h; answer = ap (λ v. get_or v.answers a.self.now.taken 0) c.given.view_is; taken = refl; walked = takes _ _ _ a.n.0 _ refl c.add-self.ensures.written c.add-self.ensures.counted refl h refl tt }
