use Rattle.code_machine.proofs.TurnLaws.{chase_end, chase_here, chase_on}
use native.Mathlib.Omega.{arith}
use mathlib.Core.Path.{sym, ◌∙◌}
use Prim.Native.Nat.{◌-◌}
use Rattle.code_machine.proofs.chased.Goals as goal

pub returns-then-left-eq0 : goal.returns-then-left-eq0
returns-then-left-eq0 c =
    let a = c.args in
    let l = c.loop-p in
    sym (chase_here a.code.now l.from l.to a.e l.left (sym c.is_case.ensures ∙ c.loop-p-test.true) (omega arith)) ∙ l.invariant.1

pub loop-p-preserved : goal.loop-p-preserved
loop-p-preserved c =
    let a = c.args in
    let l = c.loop-p in
    let b = chase_on a.code.now l.from l.to a.e l.left (sym c.is_case.ensures ∙ c.loop-p-test.true) (l.left - 1) (omega arith) in
    (omega arith, cc (b))

pub returns : goal.returns
returns c =
    let a = c.args in
    let l = c.loop-p in
    sym (chase_end a.code.now l.from l.to a.e l.left (sym c.is_case.ensures ∙ c.loop-p-test.false)) ∙ l.invariant.1
