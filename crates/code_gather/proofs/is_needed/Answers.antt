use native.Mathlib.Omega.{arith}
use mathlib.Core.Path.{◌≡◌, sym, ◌∙◌, ap}
use mathlib.Core.Bool.{◌&&◌}
use lib.ListN.{get_or}
use Prim.Native.Nat.{◌+◌}
use Rattle.code_flat.specs.Machine.{decode}
use Rattle.code_shorten.specs.Short.{aim_of}
use Rattle.code_mark.specs.Read.{read_at}
use Rattle.code_gather.specs.Gather.{is_jump, entered}
use Rattle.code_gather.proofs.WordsLaws.{jump_long}
use Rattle.code_gather.proofs.is_needed.Goals as goal

pub returns-then-is_jump-clause-value : goal.returns-then-is_jump-clause-value
unfolding read_at
returns-then-is_jump-clause-value c =
    λ C v s h.
    let f = c.args.code.now in
    let p = c.args.p in
    let j : c.is_jump.result ≡ is_jump (aim_of (read_at f p)) =
    c.is_jump.ensures (get_or f (p + 1) 0) (get_or f (p + 2) 0) (get_or f (p + 3) 0)
    ∙ ap (λ x. is_jump (aim_of (decode x (get_or f (p + 1) 0) (get_or f (p + 2) 0) (get_or f (p + 3) 0)))) c.opcode_at.ensures in
    c.is_entered.ensures.value C v h (omega arith) s.begins ∙ ap (λ b. b && entered C c.args.split p c.args.split) (sym c.if-is_jump.true ∙ j)

pub returns-then-is_jump-clause-size : goal.returns-then-is_jump-clause-size
unfolding read_at
returns-then-is_jump-clause-size c =
    λ e.
    let f = c.args.code.now in
    let p = c.args.p in
    let j : c.is_jump.result ≡ is_jump (aim_of (read_at f p)) =
    c.is_jump.ensures (get_or f (p + 1) 0) (get_or f (p + 2) 0) (get_or f (p + 3) 0)
    ∙ ap (λ x. is_jump (aim_of (decode x (get_or f (p + 1) 0) (get_or f (p + 2) 0) (get_or f (p + 3) 0)))) c.opcode_at.ensures in
    jump_long (read_at f p) (sym j ∙ c.if-is_jump.true)

pub returns-else-is_jump-clause-value : goal.returns-else-is_jump-clause-value
unfolding read_at
returns-else-is_jump-clause-value c =
    λ C v s h.
    let f = c.args.code.now in
    let p = c.args.p in
    let j : c.is_jump.result ≡ is_jump (aim_of (read_at f p)) =
    c.is_jump.ensures (get_or f (p + 1) 0) (get_or f (p + 2) 0) (get_or f (p + 3) 0)
    ∙ ap (λ x. is_jump (aim_of (decode x (get_or f (p + 1) 0) (get_or f (p + 2) 0) (get_or f (p + 3) 0)))) c.opcode_at.ensures in
    c.if-is_jump.false ∙ ap (λ b. b && entered C c.args.split p c.args.split) (sym c.if-is_jump.false ∙ j)
