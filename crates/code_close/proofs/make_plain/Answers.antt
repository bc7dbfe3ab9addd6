use Rattle.std.proofs.Common.{◌+◌, set, length-set, sym, ◌∙◌, subst, refl, arith}
use Rattle.code_close.proofs.ClosingLaws.{Plaining, plain_start, plain_some, plain_next, plain_end}
use Rattle.code_close.proofs.make_plain.Goals as goal

pub loop-p-init : goal.loop-p-init
loop-p-init c = record { same = refl; plaining = λ is s st r. plain_start is s c.args.code.now c.args.from c.args.to st r }

pub returns-then-size-eq0 : goal.returns-then-size-eq0
returns-then-size-eq0 c =
    λ is s st r.
    absurd (plain_some is s c.args.code.now c.args.from c.args.to st r c.loop-p.code c.loop-p.p (c.loop-p.invariant.plaining is s st r) (omega arith) (sym c.size_at-size.ensures.value ∙ c.if-size-eq0.true))

pub loop-p-preserved : goal.loop-p-preserved
loop-p-preserved c = record {
  same = length-set c.loop-p.code c.loop-p.p c.opcode_at.result ∙ c.loop-p.invariant.same;
  plaining = λ is s st r.
      subst (λ w. Plaining is c.args.code.now (set c.loop-p.code c.loop-p.p c.opcode_at.result) c.args.from c.args.to (c.loop-p.p + w)) (sym c.size_at-size.ensures.value)
      (plain_next is s c.args.code.now c.args.from c.args.to st r c.loop-p.code c.loop-p.p (c.loop-p.invariant.plaining is s st r) (omega arith) c.opcode_at.result c.opcode_at.ensures (omega (arith, c.size_at-size.ensures.upper_bound)));
}

pub returns : goal.returns
returns c = λ is s st r. plain_end is s c.args.code.now c.args.from c.args.to st r c.loop-p.code c.loop-p.p (c.loop-p.invariant.plaining is s st r) (omega arith)
