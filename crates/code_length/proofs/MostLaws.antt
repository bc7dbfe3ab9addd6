-- No code is longer than the most.
use Prim.Native.Nat.{ℕ, zero, suc, ◌+◌, ◌*◌, ◌-◌, ◌≤◌, ◌<◌}
use Rattle.std.specs.Prelude.{◌≡◌, Bool, ◌&&◌, eqb}
use Rattle.std.proofs.Common.{arith}
use mathlib.Core.List.{List, foldr}
use Rattle.std.proofs.Math.Bool.{true, false, cond}
use Rattle.std.proofs.Math.Decide.{dec_lt}
use Rattle.base_common.specs.Upto.{upto}
use Rattle.base_common.proofs.UptoLaws.{fold_turn, fold_end}
use Rattle.base_common.specs.Tests.{within}
use Rattle.table_records.specs.Table.{kind_of, role_of, count}
use Rattle.table_records.specs.Kinds as k
use Rattle.table_records.specs.Roles as role
use Rattle.table_ancestry.proofs.AncestryLaws.{ancestors_root}
use Rattle.refusal_standing.specs.Standing.{is_held, is_holder, may_be_statement, parent_kind}
use Rattle.code_length.specs.Length.{number_of, is_closed, of_unit, added_by, code_length}
use Rattle.code_length.specs.Most.{most_number, most_length}

either_most : (b : Bool) (x y n : ℕ) → x ≤ n → y ≤ n → cond b x y ≤ n
either_most true x y n p q = p
either_most false x y n p q = q

-- Each number of the table is at most the largest, whatever the tests say.
pub number_most : (kind r above : ℕ) → number_of kind r above ≤ most_number
unfolding number_of
number_most kind r above =
    go (eqb kind k.StaticBlock) (eqb kind k.Block) (eqb r role.Finally && eqb above k.Try) (within kind k.For k.DoWhile) (eqb kind k.If) (eqb kind k.With) (eqb kind k.Switch)
    (eqb kind k.SwitchCase) (within kind k.Break k.OtherStatement) (may_be_statement kind && (is_held r && is_holder above))
  where
    go : (block body last loop ask scope switch case plain held : Bool)
        → cond block 3 (cond body (cond last 5 3) (cond loop 10 (cond ask 7 (cond scope 2 (cond switch 7 (cond case 4 (cond plain 5 (cond held 5 0)))))))) ≤ most_number
    go true body last loop ask scope switch case plain held = omega arith
    go false true true loop ask scope switch case plain held = omega arith
    go false true false loop ask scope switch case plain held = omega arith
    go false false last true ask scope switch case plain held = omega arith
    go false false last false true scope switch case plain held = omega arith
    go false false last false false true switch case plain held = omega arith
    go false false last false false false true case plain held = omega arith
    go false false last false false false false true plain held = omega arith
    go false false last false false false false false true held = omega arith
    go false false last false false false false false false true = omega arith
    go false false last false false false false false false false = omega arith

module _ (ns : List ℕ) (u : ℕ) where
  sum : ℕ → ℕ
  sum i = foldr (λ n r. added_by ns u n + r) 0 (upto i (count ns))

  -- The program's node is in no unit: it is above all.
  root_adds : added_by ns u 0 ≡ 0
  unfolding of_unit
  root_adds = let e = ancestors_root (λ a r. cond (eqb a u) true (cond (is_closed ns a) false r)) false ns in rw e

  sum_most : (f i : ℕ) → count ns ≤ i + f → sum i ≤ most_number * (count ns - i)
  unfolding sum
  sum_most zero i h = let e = fold_end (λ n r. added_by ns u n + r) 0 i (count ns) (omega arith) in omega (arith, e)
  sum_most (suc f) i h = go (dec_lt i (count ns)) (sum_most f (i + 1) (omega arith))
    where
      go : Dec (i < count ns) → sum (i + 1) ≤ most_number * (count ns - (i + 1)) → sum i ≤ most_number * (count ns - i)
      go (yes l) s = omega (arith, fold_turn (λ n r. added_by ns u n + r) 0 i (count ns) l, either_most (of_unit ns u i) (number_of (kind_of ns i) (role_of ns i) (parent_kind ns i)) 0 most_number (number_most (kind_of ns i) (role_of ns i) (parent_kind ns i)) (omega arith))
      go (no l) s = let e = fold_end (λ n r. added_by ns u n + r) 0 i (count ns) (omega arith) in omega (arith, e)

  -- THE MOST, of all tables
  pub length_most : code_length ns u ≤ most_length (count ns)
  unfolding code_length sum
  length_most = go (dec_lt 0 (count ns))
    where
      go : Dec (0 < count ns) → code_length ns u ≤ most_length (count ns)
      go (yes l) = omega (arith, fold_turn (λ n r. added_by ns u n + r) 0 0 (count ns) l, root_adds, sum_most (count ns) 1 (omega arith))
      go (no l) = omega (arith, fold_end (λ n r. added_by ns u n + r) 0 0 (count ns) (omega arith))
