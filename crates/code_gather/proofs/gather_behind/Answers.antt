use native.Mathlib.Omega.{arith}
use mathlib.Core.Path.{refl, sym, ◌∙◌}
use lib.ListN.{length, get_or}
use Prim.Native.Nat.{◌≤◌, ◌<◌}
use Rattle.code_pass.specs.Stages.{mark}
use Rattle.code_gather.proofs.NowLaws.{fronted_behind}
use Rattle.code_gather.proofs.BehindLaws.{going_first, going_begin, going_some, going_size, going_in, going_pass, going_keep, going_end}
use Rattle.code_gather.proofs.gather_behind.Goals.{then-word-ge-RAISE, else-word-ge-RAISE}
use Rattle.code_gather.proofs.gather_behind.Goals as goal

pub loop-p-init : goal.loop-p-init
loop-p-init c = (refl, omega arith, c.requires, λ C p s i n e w. going_first C p.valid c.args.places.now.split p.cut c.args.code.now c.args.kept c.args.block n i s e w)

pub returns-then-size-eq0 : goal.returns-then-size-eq0
returns-then-size-eq0 c =
    λ C p s i n e w.
    let l = c.loop-p in
    absurd (going_some C p.valid c.args.places.now.split p.cut l.code l.p l.q l.block (l.invariant.3 C p s i n e w) l.invariant.1 (omega arith) (sym c.size_at-size.ensures.value ∙ c.if-size-eq0.true))

pub loop-p-preserved : goal.loop-p-preserved
loop-p-preserved c =
    let l = c.loop-p in
    let size = c.size_at-size.result in
    let split = c.args.places.now.split in
    elim c.if-word-ge-RAISE.branch [
      | then-word-ge-RAISE b ↦
          rw (b.code-is, b.q-is, b.block-is) (
            b.put_words.ensures.same ∙ b.free-block.ensures.same ∙ l.invariant.0,
            omega (arith, l.invariant.1),
            omega (arith, l.invariant.2),
            λ C p s i n e w.
                let g = l.invariant.3 C p s i n e w in
                let m : l.p < length l.code = omega arith in
                let z = going_size C p.valid split p.cut l.code l.p l.q l.block g l.invariant.1 m size c.size_at-size.ensures.value in
                let a : mark ≤ get_or l.code l.p 0 = omega (arith, c.word.ensures, b.if-word-ge-RAISE.true) in
                let begun = going_begin C p.valid split p.cut l.code l.p l.q l.block g l.invariant.1 m in
                let k = going_in C p.valid split p.cut l.code l.p l.q l.block g l.invariant.1 m a in
                going_keep C p.valid split p.cut l.code l.p l.q l.block g l.invariant.1 m size c.size_at-size.ensures.value a _ _ b.free-block.result _ b.free-block.ensures.same b.free-block.ensures.outside
                (b.free-block.ensures.freed C p.valid (fronted_behind C l.code split g.gathered.fronted) g.freed.count g.freed.ends g.freed.all_saved l.invariant.1 begun z)
                (λ j r. b.words_at-words.ensures C p g.gathered.fronted g.freed.count g.freed.ends g.freed.all_saved l.invariant.1 begun k z j r) b.put_words.ensures,
          )
      | else-word-ge-RAISE b ↦
          rw (b.code-is, b.q-is, b.block-is) (
            l.invariant.0,
            omega (arith, l.invariant.1),
            omega (arith, l.invariant.2),
            λ C p s i n e w.
                going_pass C p.valid split p.cut l.code l.p l.q l.block (l.invariant.3 C p s i n e w) l.invariant.1 (omega arith) size c.size_at-size.ensures.value
                (omega (arith, c.word.ensures, b.if-word-ge-RAISE.false)),
          )
    ]

pub returns : goal.returns
returns c =
    λ C p s i n e w.
    let l = c.loop-p in
    going_end C p.valid c.args.places.now.split p.cut l.code l.p l.q l.block (l.invariant.3 C p s i n e w) (omega arith)
