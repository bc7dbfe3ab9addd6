use native.Mathlib.Omega.{arith}
use mathlib.Core.Path.{◌≡◌, ◌∙◌, ap}
use lib.ListN.{get_or}
use Prim.Native.Nat.{ℕ, ◌+◌, ◌-◌, ◌*◌, ◌<◌}
use Rattle.code_gather.proofs.BehindLaws.{moved_fronted, moved_saved}
use Rattle.code_gather.proofs.gather.Goals as goal

pub returns : goal.returns
returns c =
    λ C p s.
    let split = c.args.places.now.split in
    let front = c.gather_front-front.result in
    let f = c.gather_front-front.new.code in
    let f' = c.copy_within.new.self in
    let g = c.gather_front-front.ensures.gathered C p.valid p.cut s in
    let block = split - 3 * front.saved in
    let by = c.copy_within.ensures.by_index in
    let ends : block + 3 * front.saved ≡ split = omega arith in
    let copied = λ (y : ℕ) (r : y < 3 * front.saved). by.0 (block + y) 0 (omega arith) (omega arith) ∙ ap (λ k. get_or f k 0) (let z : front.kept + (block + y - block) ≡ front.kept + y = omega arith in z) in
    c.gather_behind.ensures C p
    (moved_fronted C p.valid split p.cut f f' front.kept front.saved block g ends c.copy_within.ensures.len copied (λ y r. by.1 y 0 r) (λ y r. by.2 y 0 (omega arith)))
    g.value front.saved ends
    (moved_saved C p.valid split p.cut f f' front.kept front.saved block g ends c.copy_within.ensures.len copied (λ y r. by.1 y 0 r) (λ y r. by.2 y 0 (omega arith)))
