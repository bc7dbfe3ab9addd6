-- The length of the code is the sum of the nodes' numbers, whatever the place and the targets.
use Rattle.std.specs.Prelude.{ℕ, suc, ◌+◌, ◌<◌, ◌≡◌, refl, List, [], ◌∷◌, length}
use Rattle.std.proofs.Common.{length-append, arith}
use Rattle.route_completion.specs.Tree.{Stmt, Stmts, Cases, leaf, if1, if2, if3, withs, block, label, loop, switch, try_c, try_f, nil, cons, none, case}
use Rattle.route_completion.specs.Sem.{Comp, no_label, no_break}
use Rattle.code_flat.specs.Code.{Stat, at, goto, next, in_loop, in_try, size, sizes, size_cases, first, through, code, codes, code_cases}

pub goto_length : (s : Stat) → length (goto s) ≡ 3
goto_length s = refl

mutual
  unfolding code size

  pub code_length : (s : Stmt) (ls : List ℕ) (o δ : ℕ) (ρ : Comp → Stat) → length (code s ls o δ ρ) ≡ size s
  code_length (leaf n l) ls o δ ρ = refl
  code_length (if1 n s) ls o δ ρ = simp length-append (omega (arith, code_length s [] (o + 7) δ ρ))
  code_length (if2 n s t) ls o δ ρ = simp length-append (omega (arith, code_length s [] (o + 7) δ ρ, code_length t [] (o + 7 + size s) δ ρ))
  code_length (if3 n t s) ls o δ ρ = simp length-append (omega (arith, code_length t [] (o + 7) δ ρ, code_length s [] (o + 7 + size t) δ ρ))
  code_length (withs n s) ls o δ ρ = omega (arith, code_length s [] (o + 2) δ ρ)
  code_length (block ss) ls o δ ρ = simp length-append (omega (arith, codes_length ss (o + 3) δ ρ))
  code_length (label l s) ls o δ ρ = code_length s (l ∷ ls) o δ (λ c. ρ (no_label l c))
  code_length (loop n before test s) ls o δ ρ = simp length-append (omega (arith, code_length s [] (o + 10) δ (in_loop ls (o + 3) δ ρ)))
  code_length (switch n cs) ls o δ ρ = simp length-append (omega (arith, code_cases_length cs (o + 7) δ (λ c. ρ (no_break c))))
  code_length (try_c b h) ls o δ ρ = simp length-append (omega (arith, code_length b [] o δ (in_try ρ (o + size b) δ), code_length h [] (o + size b) δ ρ))
  code_length (try_f b f) ls o δ ρ =
      simp length-append (omega (arith, code_length b [] (o + 2) (suc δ) ρ, code_length f [] (o + 2 + size b) (suc δ) (next ρ (at 0 (suc δ)))))

  pub codes_length : (ss : Stmts) (o δ : ℕ) (ρ : Comp → Stat) → length (codes ss o δ ρ) ≡ sizes ss
  codes_length nil o δ ρ = refl
  codes_length (cons s ss) o δ ρ = simp length-append (omega (arith, code_length s [] o δ (next ρ (first ss (o + size s) δ ρ)), codes_length ss (o + size s) δ ρ))

  pub code_cases_length : (cs : Cases) (o δ : ℕ) (ρ : Comp → Stat) → length (code_cases cs o δ ρ) ≡ size_cases cs
  code_cases_length none o δ ρ = refl
  code_cases_length (case d ss cs) o δ ρ =
      simp length-append (omega (arith, codes_length ss (o + 4) δ (next ρ (through cs (o + 4 + sizes ss) δ ρ)), code_cases_length cs (o + 4 + sizes ss) δ ρ))

-- Every statement has some code.
mutual
  unfolding size

  pub size_pos : (s : Stmt) → 0 < size s
  size_pos (leaf n l) = omega arith
  size_pos (if1 n s) = omega arith
  size_pos (if2 n s t) = omega arith
  size_pos (if3 n t s) = omega arith
  size_pos (withs n s) = omega arith
  size_pos (block ss) = omega arith
  size_pos (label l s) = size_pos s
  size_pos (loop n before test s) = omega arith
  size_pos (switch n cs) = omega arith
  size_pos (try_c b h) = omega (arith, size_pos b)
  size_pos (try_f b f) = omega arith
