use Rattle.std.proofs.Common.{◌∙◌, refl, sym, arith}
use Rattle.check_diagnostics.proofs.FindingLaws.{one_room_lem, one_full}
use Rattle.check_diagnostics.proofs.RaisesLaws.{adds_none}
use Rattle.check_diagnostics.proofs.Findings.raise.Goals as goal

pub returns-in_default-clause-adds : goal.returns-in_default-clause-adds
returns-in_default-clause-adds c = rw c.in_default.is (adds_none c.args.self.now)

pub returns-then-at-self-clause-adds : goal.returns-then-at-self-clause-adds
returns-then-at-self-clause-adds c = let s = c.args.self.now in
    rw c.in-Some.is (record {
      same_slice = c.put.ensures.same_slice;
      raises = record { place = omega (arith, c.put.ensures.raised); slice = c.put.ensures.slice ∙ sym (one_room_lem s.slice.now s.raised _ c.if-at-self.true) };
    })

pub returns-else-at-self-clause-adds : goal.returns-else-at-self-clause-adds
returns-else-at-self-clause-adds c = let s = c.args.self.now in
    rw c.in-Some.is (record {
      same_slice = refl;
      raises = record { place = omega arith; slice = sym (one_full s.slice.now s.raised _ c.if-at-self.false) };
    })
