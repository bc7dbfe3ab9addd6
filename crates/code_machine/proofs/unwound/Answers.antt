use Prim.Native.Nat.{◌+◌, ◌-◌}
use lib.ListN.{set}
use mathlib.Core.Path.{◌≡◌, sym, ap, ◌∙◌}
use Rattle.code_flat.specs.Machine.{pos}
use Rattle.code_machine.specs.Pending.{stack}
use Rattle.code_machine.proofs.PendingLaws.{unwind_here, unwind_into, unwind_below, unwind_none}
use native.Mathlib.Omega.{arith}
use Rattle.code_machine.proofs.unwound.Goals as goal

pub returns-in-Here-clause-to : goal.returns-in-Here-clause-to
returns-in-Here-clause-to c =
    let l = c.loop-top in
    let n : l.top ≡ l.top - 1 + 1 = omega arith in
    sym l.invariant.1 ∙ unwind_here l.ends l.top (l.top - 1) l.on c.met-passing.result (omega arith) c.met-passing.ensures.depth_value c.in-Here.is
    ∙ ap (λ k. pos l.on.place (stack l.ends k)) n

pub returns-in-Into-clause-to : goal.returns-in-Into-clause-to
returns-in-Into-clause-to c =
    let l = c.loop-top in
    let n : l.top ≡ l.top - 1 + 1 = omega arith in
    sym l.invariant.1
    ∙ unwind_into l.ends l.top (l.top - 1) l.on c.met-passing.result (omega arith) c.met-passing.ensures.depth_value c.in-Into.f c.in-Into.is c.waiting_end.result c.waiting_end.ensures (omega arith)
    ∙ ap (λ k. pos c.in-Into.f (stack (set l.ends (l.top - 1) c.waiting_end.result) k)) n

pub loop-top-preserved : goal.loop-top-preserved
loop-top-preserved c =
    let l = c.loop-top in
    (omega arith, sym (unwind_below l.ends l.top (l.top - 1) l.on c.met-passing.result (omega arith) c.met-passing.ensures.depth_value c.in-Below.below c.in-Below.is) ∙ l.invariant.1)

pub returns-clause-to : goal.returns-clause-to
returns-clause-to c = let l = c.loop-top in sym l.invariant.1 ∙ unwind_none l.ends l.top l.on (omega arith)
