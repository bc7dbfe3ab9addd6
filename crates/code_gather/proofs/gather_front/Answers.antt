use native.Mathlib.Omega.{arith}
use mathlib.Core.Path.{refl, sym, ◌∙◌}
use Rattle.std.proofs.Common.{true≢false}
use lib.ListN.{get_or}
use Prim.Native.Nat.{◌≤◌, ◌<◌}
use Rattle.code_pass.specs.Stages.{mark}
use Rattle.code_mark.specs.Read.{standing_in}
use Rattle.code_shorten.proofs.PlaceLaws.{len_most}
use Rattle.code_gather.proofs.FrontLaws.{fronting_first, front_some, front_behind, front_keep, front_pass, front_unneeded, front_save, front_end, long_size}
use Rattle.code_gather.proofs.gather_front.Goals.{then-word-ge-RAISE, else-word-ge-RAISE+then-any+then-is_needed, else-word-ge-RAISE+else-any, else-any-via-then-any+else-is_needed, else-any-via-else-any}
use Rattle.code_gather.proofs.gather_front.Goals as goal

pub loop-p-init : goal.loop-p-init
loop-p-init c = (refl, omega arith, omega arith, λ C v s t. fronting_first C v c.args.split s c.args.code.now t)

pub returns-then-size-eq0-clause-gathered : goal.returns-then-size-eq0-clause-gathered
returns-then-size-eq0-clause-gathered c =
    λ C v s t.
    let l = c.loop-p in
    absurd (front_some C v c.args.split s c.args.code.now t l.code l.p l.front.kept l.front.saved (l.invariant.3 C v s t) (omega arith) (sym c.size_at-size.ensures.value ∙ c.if-size-eq0.true))

pub save-requires-clause-at_bound : goal.save-requires-clause-at_bound
save-requires-clause-at_bound c =
    omega (arith, c.loop-p.invariant.2, long_size c.loop-p.code c.loop-p.p c.size_at-size.result c.size_at-size.ensures.value c.if-size-eq0.false (c.is_needed.ensures.size c.if-is_needed.true))

pub loop-p-preserved : goal.loop-p-preserved
loop-p-preserved c =
    let l = c.loop-p in
    let size = c.size_at-size.result in
    elim c.if-word-ge-RAISE.branch [
      | then-word-ge-RAISE w ↦
          rw (w.code-is, w.front-is) (
            w.keep.ensures.same ∙ l.invariant.0,
            omega (arith, c.size_at-size.ensures.upper_bound, w.keep.ensures.same, l.invariant.1),
            omega (arith, l.invariant.2),
            λ C v s t.
                front_keep C v c.args.split s c.args.code.now t l.code l.p l.front.kept l.front.saved (l.invariant.3 C v s t) (omega arith) size c.size_at-size.ensures.value
                (omega (arith, len_most (standing_in l.code l.p), c.size_at-size.ensures.value)) (omega (arith, c.word.ensures, w.if-word-ge-RAISE.true)) l.invariant.2 _ w.keep.ensures,
          )
      | else-word-ge-RAISE+then-any+then-is_needed w ↦
          let big : 3 ≤ size = long_size l.code l.p size c.size_at-size.ensures.value c.if-size-eq0.false (w.is_needed.ensures.size w.if-is_needed.true) in
          rw (w.code-is, w.front-is) (
            w.save.ensures.same ∙ l.invariant.0,
            omega (arith, c.size_at-size.ensures.upper_bound, w.save.ensures.same, l.invariant.1),
            omega (arith, l.invariant.2, big),
            λ C v s t.
                let g = l.invariant.3 C v s t in
                let q = sym (w.is_needed.ensures.value C v s (front_behind C v c.args.split s c.args.code.now t l.code l.p l.front.kept l.front.saved g (omega arith))) ∙ w.if-is_needed.true in
                front_save C v c.args.split s c.args.code.now t l.code l.p l.front.kept l.front.saved g (omega arith) size c.size_at-size.ensures.value
                (omega (arith, c.word.ensures, w.if-word-ge-RAISE.false)) q big l.invariant.2 _ w.save.ensures,
          )
      | else-word-ge-RAISE+else-any w ↦
          rw (w.code-is, w.front-is) (
            l.invariant.0,
            omega (arith, c.size_at-size.ensures.upper_bound, l.invariant.1),
            omega (arith, l.invariant.2),
            λ C v s t.
                let g = l.invariant.3 C v s t in
                let low : get_or l.code l.p 0 < mark = omega (arith, c.word.ensures, w.if-word-ge-RAISE.false) in
                front_pass C v c.args.split s c.args.code.now t l.code l.p l.front.kept l.front.saved g (omega arith) size c.size_at-size.ensures.value low
                (elim w.else-any.branch [
                  | else-any-via-then-any+else-is_needed w' ↦
                      front_unneeded C v c.args.split s c.args.code.now t l.code l.p l.front.kept l.front.saved g (omega arith) low
                      (sym (w'.is_needed.ensures.value C v s (front_behind C v c.args.split s c.args.code.now t l.code l.p l.front.kept l.front.saved g (omega arith))) ∙ w'.if-is_needed.false)
                  | else-any-via-else-any w' ↦ λ k. true≢false (sym k ∙ c.is_any_entered-any.ensures C v s t w'.if-any.false l.p)
                ]),
          )
    ]

pub returns-clause-gathered : goal.returns-clause-gathered
returns-clause-gathered c =
    λ C v s t.
    let l = c.loop-p in
    front_end C v c.args.split s c.args.code.now t l.code l.p l.front.kept l.front.saved (l.invariant.3 C v s t) (omega arith) l.invariant.2
