use Rattle.code_mark.proofs.SendLaws.{Sending, sending_first, sending_some, sending_next, sending_end}
use Rattle.code_mark.specs.Read.{threaded_in}
use native.Mathlib.Omega.{arith}
use mathlib.Core.Path.{refl, sym, ◌∙◌, subst}
use Prim.Native.Nat.{◌+◌}
use borrow.Author.Rules.{rules}
use Rattle.code_mark.proofs.send_front.Goals as goal

pub loop-p-init : goal.loop-p-init
loop-p-init c = (refl, λ C v m s. sending_first C v c.args.split s c.args.code.now m)

pub returns-then-size-eq0 : goal.returns-then-size-eq0
returns-then-size-eq0 c =
    λ C v m s. absurd (sending_some C v c.args.split s c.loop-p.code c.loop-p.p (c.loop-p.invariant.1 C v m s) (omega arith) (sym c.size_at-size.ensures.value ∙ c.if-size-eq0.true))

pub loop-p-preserved : goal.loop-p-preserved
loop-p-preserved c =
    let l = c.loop-p in
    let split = c.args.split in (
      search rules,
      λ C v m s.
          subst (λ g. Sending C g split (l.p + c.size_at-size.result)) (sym c.thread_at.ensures)
          (subst (λ w. Sending C (threaded_in l.code l.p) split (l.p + w)) (sym c.size_at-size.ensures.value)
          (sending_next C v split s l.code l.p (l.invariant.1 C v m s) (omega arith))),
    )

pub returns : goal.returns
returns c = λ C v m s. sending_end C v c.args.split s c.loop-p.code c.loop-p.p (c.loop-p.invariant.1 C v m s) (omega arith)
