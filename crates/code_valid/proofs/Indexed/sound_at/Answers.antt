use Rattle.code_valid.proofs.ReadingLaws.{standing_in, sound_not, sound_inside, sound_last}
use Rattle.code_valid.specs.Reading.{standing, from}
use Rattle.code_valid.specs.Valid.{sound}
use Rattle.code_valid.specs.Instrs.{parse}
use native.Mathlib.Omega.{arith}
use mathlib.Core.Path.{◌≡◌, sym, ◌∙◌, subst}
use mathlib.Core.Bool.{true, false, not}
use Prim.Native.Nat.{◌+◌}
use borrow.Author.Tests.{lt-ltb}
use Rattle.code_valid.proofs.Indexed.sound_at.Goals as goal

pub overflow_sub-self : goal.overflow_sub-self
overflow_sub-self c = omega (arith, standing_in c.args.self.now.code.now c.args.p (λ z. c.requires.size_nonzero (c.requires.size_value ∙ z)))

pub offset_bounds-self-p : goal.offset_bounds-self-p
offset_bounds-self-p c = omega (arith, standing_in c.args.self.now.code.now c.args.p (λ z. c.requires.size_nonzero (c.requires.size_value ∙ z)))

pub bounds-self-p : goal.bounds-self-p
bounds-self-p c = omega (arith, standing_in c.args.self.now.code.now c.args.p (λ z. c.requires.size_nonzero (c.requires.size_value ∙ z)))

pub returns-then-size-self : goal.returns-then-size-self
returns-then-size-self c =
    let C = c.args.self.now.code.now in
    lt-ltb _ _ c.if-size-self.true
    ∙ subst (λ w. true ≡ sound (parse C) (standing C c.args.p) (from C (c.args.p + w))) (sym c.requires.size_value)
    (sym (sound_inside C c.args.p (λ z. c.requires.size_nonzero (c.requires.size_value ∙ z)) (sym c.targets_begin.ensures ∙ c.if-targets_begin.true) (omega (arith, c.requires.size_value))))

pub returns-else-size-self : goal.returns-else-size-self
returns-else-size-self c =
    let C = c.args.self.now.code.now in
    subst (λ w. not c.runs_on.result ≡ sound (parse C) (standing C c.args.p) (from C (c.args.p + w))) (sym c.requires.size_value)
    (sym (sound_last C c.args.p (λ z. c.requires.size_nonzero (c.requires.size_value ∙ z)) (sym c.targets_begin.ensures ∙ c.if-targets_begin.true) (omega (arith, c.requires.size_value)) c.runs_on.result c.runs_on.ensures))

pub returns-else-targets_begin : goal.returns-else-targets_begin
returns-else-targets_begin c =
    let C = c.args.self.now.code.now in
    c.if-targets_begin.false
    ∙ subst (λ w. false ≡ sound (parse C) (standing C c.args.p) (from C (c.args.p + w))) (sym c.requires.size_value)
    (sym (sound_not C c.args.p (λ z. c.requires.size_nonzero (c.requires.size_value ∙ z)) (sym c.targets_begin.ensures ∙ c.if-targets_begin.false)))
