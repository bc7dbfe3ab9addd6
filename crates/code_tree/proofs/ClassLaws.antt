-- Request 5, a class with static blocks: it is listed, and then its blocks run. `withs j (block ..)` is just that statement, so that neither `completion`
-- nor `flat` needs a further constructor; and without blocks its code is the five words that it has today.
use Rattle.std.specs.Prelude.{ℕ, ◌+◌, ◌≡◌, refl, List, [], ◌∷◌, ◌++◌}
use Rattle.std.proofs.Common.{ap, arith}
use Rattle.route_completion.specs.Tree.{Stmts, nil, cons}
use Rattle.route_completion.specs.Sem.{Comp, plain, more, exec, execs}
use Rattle.code_tree.specs.Statements.{class_of}
use Rattle.code_flat.specs.Code.{Stat, goto, first, size, sizes, code, codes}

-- "After the class is listed, its static blocks run in node order"; what ends one ends the class.
pub class_runs : (j : ℕ) (bs : Stmts) (ls qs : List ℕ) → exec (class_of j bs) ls qs ≡ more (plain j ∷ []) (execs bs qs)
unfolding exec
class_runs j nil ls qs = refl
class_runs j (cons b bs) ls qs = refl

-- Its code: five words, and behind them the blocks.
pub class_code : (j : ℕ) (bs : Stmts) (ls : List ℕ) (o δ : ℕ) (ρ : Comp → Stat)
    → code (class_of j bs) ls o δ ρ ≡ (1 ∷ j ∷ goto (first bs (o + 5) δ ρ)) ++ codes bs (o + 5) δ ρ
unfolding code
class_code j nil ls o δ ρ = refl
class_code j (cons b bs) ls o δ ρ =
    let e : o + 2 + 3 ≡ o + 5 = omega arith in
    ap (λ k. (1 ∷ j ∷ goto (first (cons b bs) k δ ρ)) ++ codes (cons b bs) k δ ρ) e

pub class_size : (j : ℕ) (bs : Stmts) → size (class_of j bs) ≡ 5 + sizes bs
unfolding size
class_size j nil = refl
class_size j (cons b bs) = omega arith
