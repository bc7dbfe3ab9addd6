use Rattle.code_valid.proofs.ReadingLaws.{check_none, check_some, table_first, zeros}
use Prim.Native.Nat.{ℕ}
use lib.ListN.{length, replicate}
use borrow.Author.Tests.{eqb-true, eqb-false}
use native.Mathlib.Omega.{arith}
use mathlib.Core.Path.{◌≡◌, sym, ◌∙◌}
use Rattle.code_valid.proofs.check.Goals as goal

pub returns-then-is_empty : goal.returns-then-is_empty
returns-then-is_empty c = sym (check_none c.args.code.now (eqb-true _ _ (sym c.is_empty.ensures ∙ c.if-is_empty.true)))

pub fill-requires : goal.fill-requires
fill-requires c = table_first c.args.code.now (replicate {A = ℕ} 4096 0) c.stride_of-stride.result c.stride_of-stride.ensures (λ k. zeros 4096 k)

pub returns : goal.returns
returns c =
    let n : length c.args.code.now ≡ 0 → ⊥ = eqb-false _ _ (sym c.is_empty.ensures ∙ c.if-is_empty.false) in
    c.first_bad.ensures ∙ sym (check_some c.args.code.now (omega (arith, n)))
