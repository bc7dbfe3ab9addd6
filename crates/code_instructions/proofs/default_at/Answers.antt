use Rattle.code_instructions.proofs.PartLaws.{default_of, default_yes, default_is_lem, case_in, rest_of, IsFound}
use Prim.Native.Nat.{◌+◌}
use native.Mathlib.Omega.{arith}
use mathlib.Core.Path.{sym, ap, ◌∙◌, subst}
use lib.ListN.{get_or}
use Rattle.code_tree.specs.Parts.{parts}
use Rattle.code_layout.specs.Context.{offset_at}
use Rattle.code_branch.specs.Branch.{Plan, Laid}
use Rattle.code_branch.proofs.JumpLaws as array
use Rattle.code_instructions.proofs.default_at.Goals as goal

pub returns-then-is_default : goal.returns-then-is_default
returns-then-is_default c =
    let y = c.args.laid.now in
    let ns = y.nodes in
    let n = c.args.n.0 in
    let k = c.in-Some.c.0 in
    let z = offset_at ns y.names y.body n + 4 in
    let w = subst (IsFound ns n) c.in-Some.is c.loop-next.invariant.found in
    let A = subst Laid c.laid.view_is c.laid.invariant in
    ap (λ (p : Plan). get_or p.offsets k 0) c.laid.view_is
    ∙ array.offset_is A k w.inside (case_in A n c.requires.b_lt_n c.requires.n_bound c.requires.n_value c.requires.n_value_2 k w)
    ∙ sym (default_yes ns y.names y.body k (parts ns n (k + 1)) z (cc))
    ∙ ap (λ m. default_of ns y.names y.body (rest_of ns n m) z) (sym c.in-Some.is)
    ∙ c.loop-next.invariant.same
    ∙ sym (default_is_lem A n c.requires.b_lt_n c.requires.n_bound c.requires.n_value c.requires.n_value_2 z)

pub overflow_add-result : goal.overflow_add-result
overflow_add-result c =
    let n = c.args.n.0 in
    let s = array.end_small (subst Laid c.laid.view_is c.laid.invariant) n c.requires.n_bound c.requires.n_value in
    let v = ap (λ (p : Plan). get_or p.offsets n 0) c.laid.view_is in
    omega (arith, s, v)
