use Rattle.std.proofs.Common.{length}
use Rattle.code_places.specs.Placing.{begins, news}
use Rattle.call_shorten.proofs.ShortenLaws.{saved_first, placed_first}
use Rattle.call_shorten.proofs.shorten_by.Goals as goal

pub returns-clause-code_after : goal.returns-clause-code_after
returns-clause-code_after c =
    let C = c.args.code.now in
    let v = c.requires.valid in
    let f = c.mark_reached.new.code in
    let m = c.mark_reached.ensures in
    let n = c.new_length-length.result in
    let e = c.new_length-length.ensures.value C v m in
    let split = c.split_of-split.result in
    let cut = c.split_of-split.ensures.value C v m e in
    let k = placed_first C f v m n split e cut (begins c.fill.new.index) (news c.fill.new.index) (length c.args.index.now) c.stride_of-stride.result c.kept_before-front.result (c.fill.ensures C v m) c.stride_of-stride.ensures.value (c.kept_before-front.ensures.value C v m) in
    let s = saved_first C f v m n split e cut c.word.result c.word-2.result c.word-3.result c.word.ensures c.word-2.ensures c.word-3.ensures in
    c.close_up.ensures C k e (c.gather.ensures C k (c.send_front.ensures C v m cut)) s
