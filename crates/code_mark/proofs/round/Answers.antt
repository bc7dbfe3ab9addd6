use Rattle.code_mark.proofs.MarkLaws.{low_marks, low_or, Going, going_first, going_some, going_next, going_end}
use Rattle.code_mark.specs.Marks.{leads_in}
use Rattle.code_shorten.specs.Marking.{marks_at, news_at, low}
use native.Mathlib.Omega.{arith}
use mathlib.Core.Path.{refl, sym, ◌∙◌, subst}
use mathlib.Core.Bool.{◌||◌}
use Prim.Native.Nat.{◌+◌}
use borrow.Author.Rules.{rules}
use Rattle.code_mark.proofs.round.Goals as goal

pub returns-then-size-eq0 : goal.returns-then-size-eq0
returns-then-size-eq0 c = record {
  rounded = (λ C v S k. absurd (going_some C v S c.loop-p.code c.loop-p.p c.loop-p.news (c.loop-p.invariant.1.1 C v S k) (omega arith) (sym c.size_at-size.ensures.value ∙ c.if-size-eq0.true)));
  result_bound = c.loop-p.invariant.1.0;
}

pub loop-p-init : goal.loop-p-init
loop-p-init c = (refl, (omega arith, λ C v S k. going_first C v S c.args.code.now k))

pub loop-p-preserved : goal.loop-p-preserved
loop-p-preserved c = (
  search rules,
  (
    rw (c.mark_leads-more.ensures.marks, c.mark_leads-more.ensures.news)
        (low_or c.loop-p.news (news_at c.loop-p.code (leads_in c.loop-p.code c.loop-p.p)) (low c.loop-p.code) (low (marks_at c.loop-p.code (leads_in c.loop-p.code c.loop-p.p))) (low c.args.code.now) c.loop-p.invariant.1.0 (low_marks c.loop-p.code (leads_in c.loop-p.code c.loop-p.p))),
    λ C v S k.
        rw (c.mark_leads-more.ensures.marks, c.mark_leads-more.ensures.news)
        (subst (λ w. Going C v S (marks_at c.loop-p.code (leads_in c.loop-p.code c.loop-p.p)) (c.loop-p.p + w) (c.loop-p.news || news_at c.loop-p.code (leads_in c.loop-p.code c.loop-p.p)))
        (sym c.size_at-size.ensures.value)
        (going_next C v S c.loop-p.code c.loop-p.p c.loop-p.news (c.loop-p.invariant.1.1 C v S k) (omega arith))),
  ),
)

pub returns : goal.returns
returns c = record { rounded = (λ C v S k. going_end C v S c.loop-p.code c.loop-p.p c.loop-p.news (c.loop-p.invariant.1.1 C v S k) (omega arith)); result_bound = c.loop-p.invariant.1.0 }
