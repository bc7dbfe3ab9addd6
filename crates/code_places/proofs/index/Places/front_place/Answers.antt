use Rattle.std.proofs.Common.{◌/◌, refl, sym, ◌∙◌, ap, subst, arith}
use Rattle.code_places.specs.Placing.{begins, news}
use Rattle.code_valid.proofs.WalkLaws.{turn_here}
use Rattle.code_places.proofs.PlacingLaws.{Seeking, seek_first, seek_found, seek_on, seek_done}
use Rattle.code_places.proofs.index.Places.front_place.Goals as goal

pub loop-instruction-init : goal.loop-instruction-init
loop-instruction-init c =
    let s = c.args.self.now in
    rw (c.into_iter-instruction-iterator.ensures.into_iter_gives, c.between-instruction-items.ensures)
    (record {
      code = refl;
      end = refl;
      seeking = λ C k t l. subst (Seeking C s.stride c.args.o) (sym c.stride_at.ensures.new) (seek_first C (begins s.index.now) (news s.index.now) c.args.code.now s.stride s.split s.front c.args.o k t l (omega arith));
    })

pub returns-then-word-o : goal.returns-then-word-o
returns-then-word-o c =
    λ C k t l.
    let s = c.args.self.now in
    let w = c.loop-instruction.invariant in
    let e = c.in-Some.ensures.steps.turn.place in
    let inside = c.in-Some.ensures.steps.inside in
    seek_found C (begins s.index.now) (news s.index.now) c.args.code.now s.stride s.split s.front c.args.o k t l (omega arith) c.in-Some.instruction.place (rw (sym e) at (w.seeking C k t l))
    (omega (arith, w.end, c.min.ensures, c.min-end.ensures, c.stride_at-next.ensures.new)) (ap (λ x. x / 8) (sym c.word.ensures) ∙ c.if-word-o.true)

pub loop-instruction-preserved : goal.loop-instruction-preserved
loop-instruction-preserved c =
    let s = c.args.self.now in
    let l = c.loop-instruction in
    let g = c.in-Some.ensures.steps in
    let inside = g.inside in
    let h = turn_here _ _ _ _ (rw l.invariant.code at g.turn) in
    let e = g.turn.place in record {
      code = ap (λ w. w.0.now) g.code ∙ l.invariant.code;
      end = g.end ∙ l.invariant.end;
      seeking = λ C k t o.
          rw (h.next, h.size)
          (seek_on C (begins s.index.now) (news s.index.now) c.args.code.now s.stride s.split s.front c.args.o k t o (omega arith) c.in-Some.instruction.place (rw (sym e) at (l.invariant.seeking C k t o))
          (omega (arith, l.invariant.end, c.min.ensures, c.min-end.ensures, c.stride_at-next.ensures.new)) (λ x. c.if-word-o.false (ap (λ x. x / 8) c.word.ensures ∙ x)));
    }

pub returns : goal.returns
returns c =
    λ C k t l.
    let s = c.args.self.now in
    let w = c.loop-instruction.invariant in
    seek_done C (begins s.index.now) (news s.index.now) c.args.code.now s.stride s.split s.front c.args.o k t l (omega arith) _ (w.seeking C k t l) _
    (omega (arith, w.end, c.min.ensures, c.min-end.ensures, c.stride_at-next.ensures.new)) (rw w.code at c.in-None.ensures.steps.none)
