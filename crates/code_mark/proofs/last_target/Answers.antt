use Rattle.code_mark.proofs.SendLaws.{last_end, last_on, last_out}
use Rattle.code_mark.specs.Read.{last_in}
use native.Mathlib.Omega.{arith}
use lib.ListN.{length}
use mathlib.Core.Path.{◌≡◌, sym, ◌∙◌, ap}
use Prim.Native.Nat.{◌+◌, ◌-◌}
use Rattle.code_mark.proofs.last_target.Goals as goal

pub returns-in_default : goal.returns-in_default
returns-in_default c =
    let C = c.args.code.now in
    let l = c.loop-jump in
    let n : length C + 1 - l._jump ≡ length C - l._jump + 1 = omega arith in
    sym (last_end C (length C - l._jump) l.aim.place l.aim.depth (sym c.hop.ensures ∙ c.in_default.is)) ∙ ap (λ k. last_in C k l.aim.place l.aim.depth) (sym n) ∙ l.invariant

pub loop-jump-preserved : goal.loop-jump-preserved
loop-jump-preserved c =
    let C = c.args.code.now in
    let l = c.loop-jump in
    let next = c.in-Some.next in
    let n : length C + 1 - l._jump ≡ length C - l._jump + 1 = omega arith in
    let m : length C + 1 - (l._jump + 1) ≡ length C - l._jump = omega arith in
    (λ i. last_in C (m i) next.place (c.min.ensures i))
    ∙ sym (last_on C (length C - l._jump) l.aim.place l.aim.depth next.place next.depth (sym c.hop.ensures ∙ c.in-Some.is)) ∙ ap (λ k. last_in C k l.aim.place l.aim.depth) (sym n) ∙ l.invariant

pub returns : goal.returns
returns c =
    let l = c.loop-jump in
    sym (last_out c.args.code.now (length c.args.code.now + 1 - l._jump) l.aim.place l.aim.depth (omega arith)) ∙ l.invariant
