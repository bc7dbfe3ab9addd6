-- A walk up that ends at units, beside what is handed down from the unit: they agree at each node, if they do below a unit and at each step.
use Rattle.std.specs.Prelude.{ℕ, zero, suc, ◌≤◌, ◌<◌, ◌≡◌, refl, Bool, true, false, cond}
use Rattle.std.proofs.Common.{sym, ◌∙◌, subst, ⊎_elim, true≢false, eq-or-lt_of_le, arith}
use mathlib.Core.List.{List, foldr}
use Rattle.base_walk.proofs.AboveLaws.{fold_up}
use Rattle.table_records.specs.Table.{parent_of, count, ancestors}
use Rattle.table_records.specs.Facts.{Tree}
use Rattle.ecma_trees.specs.Unit.{home_of, in_unit}

-- R j h r s: of the node j in the unit h, what it is handed, and what the walk up from it gives
module _ {A C : Type 0} (ns : List ℕ) (t : Tree ns) (unit : ℕ → Bool) (root : unit 0 ≡ true) (start : A) (f : ℕ → A → A) (g : ℕ → C → C) (e : C)
    (R : ℕ → ℕ → A → C → Type 0)
    (first : (j : ℕ) → 0 < j → j < count ns → unit (parent_of ns j) ≡ true → R j (parent_of ns j) start (g (parent_of ns j) (foldr g e (ancestors ns (parent_of ns j)))))
    (step : (j : ℕ) → 0 < j → j < count ns → unit (parent_of ns j) ≡ false → (h : ℕ) (r : A) (s : C) → R (parent_of ns j) h r s → R j h (f (parent_of ns j) r) (g (parent_of ns j) s))
  where
    inner : (i : ℕ) → unit i ≡ false → 0 < i
    inner i x = ⊎_elim (λ (q : 0 ≡ i). absurd (true≢false (sym root ∙ subst (λ y. unit y ≡ false) (sym q) x))) (λ (q : 0 < i). q) (eq-or-lt_of_le (omega arith))

    agree_by : (k j : ℕ) → j ≤ k → 0 < j → j < count ns → R j (home_of ns unit j) (foldr (in_unit unit start f) start (ancestors ns j)) (foldr g e (ancestors ns j))
    agree_by zero j l z h = absurd (omega arith)
    agree_by (suc k) j l z h =
        let p = t.falls j z h in
        rw (
          fold_up (λ a r. cond (unit a) a r) 0 (parent_of ns) (count ns) t.falls j z h,
          fold_up (in_unit unit start f) start (parent_of ns) (count ns) t.falls j z h,
          fold_up g e (parent_of ns) (count ns) t.falls j z h,
        )
        (by (unit (parent_of ns j)) refl (λ x. agree_by k (parent_of ns j) (omega arith) (inner (parent_of ns j) x) (omega arith)))
      where
        by : (b : Bool) → unit (parent_of ns j) ≡ b
            → (unit (parent_of ns j) ≡ false → R (parent_of ns j) (home_of ns unit (parent_of ns j)) (foldr (in_unit unit start f) start (ancestors ns (parent_of ns j))) (foldr g e (ancestors ns (parent_of ns j))))
            → R j (cond b (parent_of ns j) (home_of ns unit (parent_of ns j))) (cond b start (f (parent_of ns j) (foldr (in_unit unit start f) start (ancestors ns (parent_of ns j))))) (g (parent_of ns j) (foldr g e (ancestors ns (parent_of ns j))))
        by true x ih = first j z h x
        by false x ih = step j z h x _ _ _ (ih x)

    pub units_agree : (j : ℕ) → 0 < j → j < count ns → R j (home_of ns unit j) (foldr (in_unit unit start f) start (ancestors ns j)) (foldr g e (ancestors ns j))
    units_agree j = agree_by j j (omega arith)
