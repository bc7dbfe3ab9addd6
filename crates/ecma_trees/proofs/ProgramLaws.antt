-- A rule that the standard states at each unit of a program, and the same rule node by node.
use Rattle.std.specs.Prelude.{ℕ, ◌+◌, ◌-◌, ◌<◌, ◌≡◌, refl, ◌↔◌, Bool, true, false, cond, ◌&&◌, ◌||◌, List, [], eqb}
use Rattle.std.proofs.Common.{sym, ◌∙◌, ap, true≢false, eq-eqb, arith}
use Rattle.base_common.proofs.UptoLaws.{and_left_lem, and_right_lem}
use Rattle.table_records.specs.Table.{count}
use Rattle.table_records.specs.Facts.{Tree}
use Rattle.ecma_trees.specs.Rose.{Rose, Roses, node, rnil, rcons, marks, marks_all, parts_of, tree_of}
use Rattle.ecma_trees.proofs.RoseLaws.{Whole, WholeAll, parts_whole, tree_marks}
use Rattle.ecma_trees.specs.Walk.{each, some, Says, only}
use Rattle.ecma_trees.proofs.WalkLaws.{each_append, some_append, some_each, some_only}
use Rattle.ecma_trees.specs.Unit.{home_of, broken, broken_any}
use Rattle.ecma_trees.proofs.UnitLaws.{home_before, home_edge}

module _ (unit : ℕ → Bool) (rule : Roses → Bool) where
  module _ (ns : List ℕ) where
    mutual
      unfolding broken marks

      broken_is : (t : Rose) → Whole ns t → broken unit rule t ≡ some (each (λ n. only (unit n && rule (parts_of ns n)) n) (marks t))
      broken_is (node n ks) q =
          rw (broken_any_is ks q.1, ap (λ x. unit n && rule x) q.0)
          (ap (λ b. b || some (each (λ n. only (unit n && rule (parts_of ns n)) n) (marks_all ks))) (sym (some_only (unit n && rule (parts_of ns n)) n))
          ∙ sym (some_append (only (unit n && rule (parts_of ns n)) n) (each (λ n. only (unit n && rule (parts_of ns n)) n) (marks_all ks))))

      broken_any_is : (ts : Roses) → WholeAll ns ts → broken_any unit rule ts ≡ some (each (λ n. only (unit n && rule (parts_of ns n)) n) (marks_all ts))
      broken_any_is rnil q = refl
      broken_any_is (rcons t ts) q =
          rw (broken_is t q.0, broken_any_is ts q.1, each_append (λ n. only (unit n && rule (parts_of ns n)) n) (marks t) (marks_all ts))
          (sym (some_append (each (λ n. only (unit n && rule (parts_of ns n)) n) (marks t)) (each (λ n. only (unit n && rule (parts_of ns n)) n) (marks_all ts))))

    -- If the rule of a unit is broken just where some node of the unit says something, then the rule is broken somewhere just where some node says something.
    pub program_is : Tree ns → unit 0 ≡ true → (g : ℕ → List ℕ)
        → ((u : ℕ) → u < count ns → unit u ≡ true → (rule (parts_of ns u) ≡ true) ↔ Says (λ j. cond (eqb (home_of ns unit j) u) (g j) []) (u + 1) (count ns))
        → (broken unit rule (tree_of ns) ≡ true) ↔ Says g 1 (count ns)
    program_is w z g iff =
        rw (broken_is (tree_of ns) (refl, parts_whole ns 0 w.some), tree_marks ns w)
        ((λ e. down ((some_each (λ n. only (unit n && rule (parts_of ns n)) n) 0 (count ns)).0 e)), λ s. (some_each (λ n. only (unit n && rule (parts_of ns n)) n) 0 (count ns)).1 (up s))
      where
        inner : (b : Bool) (l : List ℕ) → some (cond b l []) ≡ true → some l ≡ true
        inner true l e = e
        inner false l e = absurd (true≢false (sym e))

        down : Says (λ n. only (unit n && rule (parts_of ns n)) n) 0 (count ns) → Says g 1 (count ns)
        down s =
            let e : (unit s.at && rule (parts_of ns s.at)) ≡ true = sym (some_only (unit s.at && rule (parts_of ns s.at)) s.at) ∙ s.does in
            let r = (iff s.at s.high (and_left_lem (unit s.at) (rule (parts_of ns s.at)) e)).0 (and_right_lem (unit s.at) (rule (parts_of ns s.at)) e) in
            let l = r.low in
            record { at = r.at; low = omega arith; high = r.high; does = inner (eqb (home_of ns unit r.at) s.at) (g r.at) r.does }

        up : Says g 1 (count ns) → Says (λ n. only (unit n && rule (parts_of ns n)) n) 0 (count ns)
        up s =
            let l = s.low in
            let h = s.high in
            let b = home_before ns unit w s.at (omega arith) h in
            let x = home_edge ns unit z s.at in
            let r : rule (parts_of ns (home_of ns unit s.at)) ≡ true
            = (iff (home_of ns unit s.at) (omega arith) x).1
            (record { at = s.at; low = omega arith; high = h; does = rw (eq-eqb (home_of ns unit s.at) (home_of ns unit s.at) refl) s.does }) in
            record { at = home_of ns unit s.at; low = omega arith; high = omega arith; does = rw (x, r) }
