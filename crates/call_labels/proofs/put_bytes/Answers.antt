use Rattle.std.specs.Prelude.{◌+◌, ◌++◌, take, drop, set, get_or}
use Rattle.std.proofs.Common.{subst, arith}
use Rattle.base_common.specs.Wrote.{Wrote}
use Rattle.table_put.proofs.Writes.{put_start, put_end, copy_turn, copy_room, copy_end}
use Rattle.call_labels.proofs.put_bytes.Goals as goal

pub loop-i-init : goal.loop-i-init
loop-i-init c =
    let a = c.args in
    subst (λ k. Wrote a.out.now a.out.now k a.bytes.now (take a.w a.out.now ++ a.bytes.now)) (omega arith) (put_start a.out.now a.w a.bytes.now c.requires)

pub loop-i-preserved : goal.loop-i-preserved
loop-i-preserved c =
    let a = c.args in
    let l = c.loop-i in
    let whole = take a.w a.out.now ++ a.bytes.now in
    subst (λ k. Wrote a.out.now (set l.out (a.w + l.i) (get_or a.bytes.now l.i 0)) k (drop (l.i + 1) a.bytes.now) whole) (omega arith)
    (copy_turn a.out.now l.out (a.w + l.i) a.bytes.now l.i whole (omega arith) l.invariant)

pub returns : goal.returns
returns c =
    let a = c.args in
    let l = c.loop-i in
    put_end a.out.now a.w a.bytes.now c.requires l.out (a.w + l.i) (copy_end a.out.now l.out (a.w + l.i) a.bytes.now l.i _ (omega arith) l.invariant)
