-- The length of a unit's code is the sum of its nodes' numbers.
use Rattle.std.specs.Prelude.{◌+◌, ◌*◌, ◌≤◌, ◌≡◌, refl, List, [], ◌∷◌, ◌++◌, length}
use Rattle.std.proofs.Common.{arith}
use Rattle.route_completion.specs.Tree.{Stmt, Stmts, Cases, leaf, if1, if2, if3, withs, block, label, loop, switch, try_c, try_f, nil, cons, none, case}
use Rattle.code_flat.specs.Code.{size, sizes, size_cases, unit}
use Rattle.code_flat.specs.Own.{Shape, s_simple, s_if, s_with, s_block, s_label, s_loop, s_switch, s_case, s_finally, s_unit, own, total, shapes, shapes_all, shapes_cases}
use Rattle.code_flat.proofs.Correct.{unit_length}

total_append : (a b : List Shape) → total (a ++ b) ≡ total a + total b
unfolding total
total_append [] b = omega arith
total_append (k ∷ a) b = omega (arith, total_append a b)

mutual
  unfolding size shapes total

  pub size_sum : (s : Stmt) → size s ≡ total (shapes s)
  size_sum (leaf n l) = refl
  size_sum (if1 n s) = omega (arith, size_sum s)
  size_sum (if2 n s t) = omega (arith, size_sum s, size_sum t, total_append (shapes s) (shapes t))
  size_sum (if3 n t s) = omega (arith, size_sum s, size_sum t, total_append (shapes t) (shapes s))
  size_sum (withs n s) = omega (arith, size_sum s)
  size_sum (block ss) = omega (arith, sizes_sum ss)
  size_sum (label l s) = omega (arith, size_sum s)
  size_sum (loop n before test s) = omega (arith, size_sum s)
  size_sum (switch n cs) = omega (arith, size_cases_sum cs)
  size_sum (try_c b h) = omega (arith, size_sum b, size_sum h, total_append (shapes b) (shapes h))
  size_sum (try_f b f) = omega (arith, size_sum b, size_sum f, total_append (shapes b) (s_finally ∷ shapes f))

  pub sizes_sum : (ss : Stmts) → sizes ss ≡ total (shapes_all ss)
  sizes_sum nil = refl
  sizes_sum (cons s ss) = omega (arith, size_sum s, sizes_sum ss, total_append (shapes s) (shapes_all ss))

  pub size_cases_sum : (cs : Cases) → size_cases cs ≡ total (shapes_cases cs)
  size_cases_sum none = refl
  size_cases_sum (case d ss cs) = omega (arith, sizes_sum ss, size_cases_sum cs, total_append (shapes_all ss) (shapes_cases cs))

-- The code's length.
pub length_sum : (ss : Stmts) → length (unit ss) ≡ total (s_unit ∷ shapes_all ss)
unfolding total
length_sum ss = omega (arith, unit_length ss, sizes_sum ss)

-- "at most 16 numbers per node of the unit": no node takes more than ten.
pub own_small : (k : Shape) → own k ≤ 10
own_small s_simple = omega arith
own_small s_if = omega arith
own_small s_with = omega arith
own_small s_block = omega arith
own_small s_label = omega arith
own_small s_loop = omega arith
own_small s_switch = omega arith
own_small s_case = omega arith
own_small s_finally = omega arith
own_small s_unit = omega arith

pub total_small : (ks : List Shape) → total ks ≤ 16 * length ks
unfolding total
total_small [] = omega arith
total_small (k ∷ ks) = omega (arith, own_small k, total_small ks)
