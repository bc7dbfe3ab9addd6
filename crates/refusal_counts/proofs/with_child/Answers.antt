use Rattle.refusal_counts.specs.declared.Sort.TheVariants.{Value, Key, Held, Alternate, Finally, Handler, Label, FunctionBody, ClassBody, Default}
use Rattle.refusal_counts.proofs.TallyLaws.{none_noted, one_noted, all_noted, plain_adds}
use Rattle.refusal_counts.proofs.with_child.Goals as goal

pub returns-then-is_plain : goal.returns-then-is_plain
returns-then-is_plain c = plain_adds c.args.nodes.now c.args.p.0 c.args.c.0 c.args.seen c.requires.small (c.is_plain.ensures c.if-is_plain.true c.args.p.0)

pub returns : goal.returns
returns c = let ns = c.args.nodes.now in
    let p = c.args.p.0 in
    let k = c.args.c.0 in
    let n = c.args.seen in
    let e1 = one_noted ns p k n Value n c.note-seen.result (none_noted ns p k n) c.note-seen.ensures.value in
    let e2 = one_noted ns p k n Key c.note-seen.result c.note-seen-2.result e1 c.note-seen-2.ensures.value in
    let e3 = one_noted ns p k n Held c.note-seen-2.result c.note-seen-3.result e2 c.note-seen-3.ensures.value in
    let e4 = one_noted ns p k n Alternate c.note-seen-3.result c.note-seen-4.result e3 c.note-seen-4.ensures.value in
    let e5 = one_noted ns p k n Finally c.note-seen-4.result c.note-seen-5.result e4 c.note-seen-5.ensures.value in
    let e6 = one_noted ns p k n Handler c.note-seen-5.result c.note-seen-6.result e5 c.note-seen-6.ensures.value in
    let e7 = one_noted ns p k n Label c.note-seen-6.result c.note-seen-7.result e6 c.note-seen-7.ensures.value in
    let e8 = one_noted ns p k n FunctionBody c.note-seen-7.result c.note-seen-8.result e7 c.note-seen-8.ensures.value in
    let e9 = one_noted ns p k n ClassBody c.note-seen-8.result c.note-seen-9.result e8 c.note-seen-9.ensures.value in
    let e10 = one_noted ns p k n Default c.note-seen-9.result c.note.result e9 c.note.ensures.value in
    all_noted ns p k n c.note.result c.requires.small e10
