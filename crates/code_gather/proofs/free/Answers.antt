use native.Mathlib.Omega.{arith}
use mathlib.Core.Path.{◌≡◌, sym, ◌∙◌, ap, subst}
use lib.ListN.{get_or}
use Prim.Native.Nat.{◌+◌, ◌-◌}
use Rattle.code_gather.specs.Gather.{Found}
use Rattle.code_gather.proofs.EnteredLaws.{at_more}
use Rattle.code_gather.proofs.FreeLaws.{free_empty, free_none, free_lost, free_later, free_moved}
use Rattle.code_gather.proofs.free.Goals as goal

pub returns-then-split-block-clause-freed : goal.returns-then-split-block-clause-freed
returns-then-split-block-clause-freed c =
    λ C v h n ends s l b e. free_empty C v c.args.split c.args.p b c.args.code.now h l c.args.block n c.args.size ends s e c.if-split-block.true

pub returns-in_default-clause-freed : goal.returns-in_default-clause-freed
returns-in_default-clause-freed c =
    λ C v h n ends s l b e.
    free_none C v c.args.split c.args.p b c.args.code.now h l c.args.block n c.args.size ends s e (sym c.in_default.is ∙ c.entry_of.ensures)

pub returns-in_default-slot_of-clause-freed : goal.returns-in_default-slot_of-clause-freed
returns-in_default-slot_of-clause-freed c =
    λ C v h n ends s l b e.
    let t = c.in-Some.entry in
    free_lost C v c.args.split c.args.p b c.args.code.now h l c.args.block n c.args.size ends s e t.place t.depth (sym c.in-Some.is ∙ c.entry_of.ensures)
    (subst (Found c.args.code.now c.args.block c.args.split t.place) c.in_default-slot_of.is c.slot_of.ensures)

pub returns-then-is_entered-clause-freed : goal.returns-then-is_entered-clause-freed
returns-then-is_entered-clause-freed c =
    λ C v h n ends s l b e.
    let t = c.in-Some.entry in
    free_later C v c.args.split c.args.p b c.args.code.now h l c.args.block n c.args.size ends s e t.place t.depth (sym c.in-Some.is ∙ c.entry_of.ensures) c.in-Some-slot_of.at
    (subst (Found c.args.code.now c.args.block c.args.split t.place) c.in-Some-slot_of.is c.slot_of.ensures)
    (sym (c.is_entered.ensures.value C v h (omega arith) (at_more C v c.args.p b c.args.size e)) ∙ c.if-is_entered.true)

pub returns-clause-freed : goal.returns-clause-freed
returns-clause-freed c =
    λ C v h n ends s l b e.
    let t = c.in-Some.entry in
    let f = c.args.code.now in
    let at = c.in-Some-slot_of.at in
    let block = c.args.block in
    free_moved C v c.args.split c.args.p b f h l block n c.args.size ends s e t.place t.depth (sym c.in-Some.is ∙ c.entry_of.ensures) at
    (subst (Found f block c.args.split t.place) c.in-Some-slot_of.is c.slot_of.ensures)
    (sym (c.is_entered.ensures.value C v h (omega arith) (at_more C v c.args.p b c.args.size e)) ∙ c.if-is_entered.false)
    c.copy_within.new.self
    (λ y r. c.copy_within.ensures.by_index.0 (at + y) 0 (omega arith) (omega arith) ∙ ap (λ k. get_or f k 0) (let z : block + (at + y - at) ≡ block + y = omega arith in z))
    (λ y r. c.copy_within.ensures.by_index.1 y 0 r)
    (λ y r. c.copy_within.ensures.by_index.2 y 0 (omega arith))
