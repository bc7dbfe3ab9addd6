use native.Mathlib.Omega.{arith}
use mathlib.Core.Path.{◌≡◌, sym, ◌∙◌, ap}
use lib.ListN.{get_or}
use Rattle.code_flat.specs.Machine.{decode}
use Rattle.code_valid.specs.Instrs.{words, parse, find}
use Rattle.code_mark.specs.Read.{read_at}
use Rattle.code_mark.proofs.PlaceLaws.{sent_find}
use Rattle.code_gather.proofs.NowLaws.{fronted_behind}
use Rattle.code_gather.proofs.WayLaws.{read}
use Rattle.code_gather.proofs.WordsLaws.{words_are, thread_stays, words_sent}
use Rattle.code_gather.proofs.words_at.Goals as goal

pub returns-in-Some : goal.returns-in-Some
unfolding read_at
returns-in-Some c =
    λ C p s n e w l b k z j m.
    let f = c.args.code.now in
    let split = c.args.places.now.split in
    let q = c.args.p in
    let aim = c.in-Some.aim in
    let d : decode c.opcode_at.result c.word.result c.word-2.result c.word-3.result ≡ find (parse C) 0 q =
    (λ t. decode (c.opcode_at.ensures t) (c.word.ensures t) (c.word-2.ensures t) (c.word-3.ensures t)) ∙ read C p.valid f split (fronted_behind C f split s) q b l in
    words_sent (parse C) (find (parse C) 0 q) aim.place aim.depth c.opcode_at.result c.word.result c.word-2.result c.word-3.result c.args.size
    (sym (sym c.in-Some.is ∙ c.sent_at.ensures C p s n e w l b k)) d z j m ∙ ap (λ i. get_or (words i) j 0) (sym (sent_find C p.valid q))

pub returns-in_default : goal.returns-in_default
unfolding read_at
returns-in_default c =
    λ C p s n e w l b k z j m.
    let f = c.args.code.now in
    let split = c.args.places.now.split in
    let q = c.args.p in
    let d : decode c.opcode_at.result c.word.result c.word-2.result c.word-3.result ≡ find (parse C) 0 q =
    (λ t. decode (c.opcode_at.ensures t) (c.word.ensures t) (c.word-2.ensures t) (c.word-3.ensures t)) ∙ read C p.valid f split (fronted_behind C f split s) q b l in
    words_are c.opcode_at.result c.word.result c.word-2.result c.word-3.result (find (parse C) 0 q) d j (omega (arith, z))
    ∙ ap (λ i. get_or (words i) j 0) (sym (thread_stays (parse C) (find (parse C) 0 q) (sym (sym c.in_default.is ∙ c.sent_at.ensures C p s n e w l b k))) ∙ sym (sent_find C p.valid q))
