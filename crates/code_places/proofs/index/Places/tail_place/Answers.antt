use Rattle.std.proofs.Common.{◌≡◌, ◌/◌, ◌≤◌, ◌<◌, get_or, refl, sym, ◌∙◌, ap, subst, arith}
use Rattle.code_places.specs.Placing.{begins, news}
use Rattle.code_valid.proofs.WalkLaws.{turn_here}
use Rattle.code_places.proofs.PlacingLaws.{Counting, count_split, count_first, count_on, count_done}
use Rattle.code_places.proofs.index.Places.tail_place.Goals.{then-begin-self, else-begin-self}
use Rattle.code_places.proofs.index.Places.tail_place.Goals as goal

pub loop-instruction-init : goal.loop-instruction-init
loop-instruction-init c =
    let s = c.args.self.now in
    rw (c.into_iter-instruction-iterator.ensures.into_iter_gives, c.between-instruction-items.ensures)
    (record {
      code = refl;
      end = refl;
      counting = λ C k t l i.
          elim c.if-begin-self.branch [
            | then-begin-self w ↦
                let h : get_or (begins s.index.now) (c.args.o / s.stride) 0 < s.split = omega (arith, c.stride_at-begin.ensures.begin, w.if-begin-self.true) in
                let e : c.max-start.result ≡ s.split = omega (arith, c.max-start.ensures, c.stride_at-begin.ensures.begin) in
                subst (λ p. Counting C s.split c.args.o p c.if-begin-self.place) (sym e)
                (subst (Counting C s.split c.args.o s.split) (sym w.place-is) (count_split C (begins s.index.now) (news s.index.now) c.args.code.now s.stride s.split s.front c.args.o k t l i h))
            | else-begin-self w ↦
                let h : s.split ≤ get_or (begins s.index.now) (c.args.o / s.stride) 0 = omega (arith, c.stride_at-begin.ensures.begin, w.if-begin-self.false) in
                let e : c.max-start.result ≡ get_or (begins s.index.now) (c.args.o / s.stride) 0 = omega (arith, c.max-start.ensures, c.stride_at-begin.ensures.begin) in
                subst (λ p. Counting C s.split c.args.o p c.if-begin-self.place) (sym e)
                (subst (Counting C s.split c.args.o (get_or (begins s.index.now) (c.args.o / s.stride) 0)) (sym (w.place-is ∙ c.stride_at-begin.ensures.new))
                (count_first C (begins s.index.now) (news s.index.now) c.args.code.now s.stride s.split s.front c.args.o k t l i (omega arith) h))
          ];
    })

pub loop-instruction-preserved : goal.loop-instruction-preserved
loop-instruction-preserved c =
    let s = c.args.self.now in
    let w = c.loop-instruction.invariant in
    let g = c.in-Some.ensures.steps in
    let i = c.in-Some.instruction in
    let inside = g.inside in
    let h = turn_here _ _ _ _ (rw w.code at g.turn) in
    let e = g.turn.place in record {
      code = ap (λ k. k.0.now) g.code ∙ w.code;
      end = g.end ∙ w.end;
      counting = λ C k t l o.
          rw h.next
          (count_on C (begins s.index.now) (news s.index.now) c.args.code.now s.stride s.split s.front c.args.o k t l o i.place c.loop-instruction.place (rw (sym e) at (w.counting C k t l o)) (omega (arith, w.end))
          i.size c.kept_at.result _ h.size c.kept_at.ensures.value (λ x. omega (arith, c.saturating_add-place.ensures, t.same)));
    }

pub returns : goal.returns
returns c =
    λ C k t l i.
    let s = c.args.self.now in
    let w = c.loop-instruction.invariant in
    count_done C (begins s.index.now) (news s.index.now) c.args.code.now s.stride s.split s.front c.args.o k t l i _ c.loop-instruction.place (w.counting C k t l i) _ w.end
    (rw w.code at c.in-None.ensures.steps.none)
