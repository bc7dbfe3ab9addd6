use Rattle.code_gather.proofs.JumpLaws.{way_end, way_on, way_out}
use Rattle.code_gather.specs.Gather.{way, hop_read}
use native.Mathlib.Omega.{arith}
use lib.ListN.{length}
use mathlib.Core.Path.{◌≡◌, sym, ◌∙◌, ap}
use Prim.Native.Nat.{◌+◌, ◌-◌}
use Rattle.code_gather.proofs.last_behind.Goals as goal

pub returns-in_default : goal.returns-in_default
returns-in_default c =
    let f = c.args.code.now in
    let h = hop_read f c.args.split in
    let l = c.loop-jump in
    let n : length f + 1 - l._jump ≡ length f - l._jump + 1 = omega arith in
    sym (way_end h (length f - l._jump) l.aim.place l.aim.depth (sym c.hop_behind.ensures ∙ c.in_default.is)) ∙ ap (λ k. way h k l.aim.place l.aim.depth) (sym n) ∙ l.invariant

pub loop-jump-preserved : goal.loop-jump-preserved
loop-jump-preserved c =
    let f = c.args.code.now in
    let h = hop_read f c.args.split in
    let l = c.loop-jump in
    let next = c.in-Some.next in
    let n : length f + 1 - l._jump ≡ length f - l._jump + 1 = omega arith in
    let m : length f + 1 - (l._jump + 1) ≡ length f - l._jump = omega arith in
    (λ i. way h (m i) next.place (c.min.ensures i))
    ∙ sym (way_on h (length f - l._jump) l.aim.place l.aim.depth next.place next.depth (sym c.hop_behind.ensures ∙ c.in-Some.is)) ∙ ap (λ k. way h k l.aim.place l.aim.depth) (sym n) ∙ l.invariant

pub returns : goal.returns
returns c =
    let l = c.loop-jump in
    sym (way_out (hop_read c.args.code.now c.args.split) (length c.args.code.now + 1 - l._jump) l.aim.place l.aim.depth (omega arith)) ∙ l.invariant
