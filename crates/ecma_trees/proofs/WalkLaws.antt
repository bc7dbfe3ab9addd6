-- A walk down the tree of a table says what the table's nodes say, each by the fold over its ancestors.
use Rattle.std.specs.Prelude.{ℕ, zero, suc, ◌+◌, ◌-◌, ◌≤◌, ◌<◌, ◌≡◌, refl, ◌↔◌, Bool, true, false, ◌||◌}
use Rattle.std.proofs.Common.{sym, ◌∙◌, ap, subst, ⊎_elim, true≢false, eq-or-lt_of_le, arith}
use mathlib.Core.List.{List, [], ◌∷◌, ◌++◌, append_assoc, foldr}
use Rattle.base_common.specs.Upto.{range, upto}
use Rattle.base_walk.proofs.AboveLaws.{fold_up, fold_root}
use Rattle.table_records.specs.Table.{parent_of, count, ancestors}
use Rattle.table_records.specs.Facts.{Tree}
use Rattle.ecma_trees.specs.Rose.{Rose, Roses, node, rnil, rcons, idx, marks, marks_all, tree_of}
use Rattle.ecma_trees.proofs.RoseLaws.{tree_marks, parts_placed, Placed, PlacedAll, Under}
use Rattle.ecma_trees.specs.Walk.{each, walk, walk_all, some, Says, only}

pub each_append : {B : Type 0} (f : ℕ → List B) (a b : List ℕ) → each f (a ++ b) ≡ each f a ++ each f b
each_append f [] b = refl
each_append f (j ∷ a) b = ap (λ l. f j ++ l) (each_append f a b) ∙ sym (append_assoc (f j) (each f a) (each f b))

-- att: what each node is handed, by its parent.
module _ {A B : Type 0} (visit : ℕ → A → List B) (down : ℕ → ℕ → A → A) where
  module _ (ns : List ℕ) (att : ℕ → A) (law : (j : ℕ) → 0 < j → j < count ns → att j ≡ down (parent_of ns j) j (att (parent_of ns j))) where
    handed : (i j : ℕ) → Under ns i j → down i j (att i) ≡ att j
    handed i j u = sym (law j u.pos u.fits ∙ ap (λ x. down x j (att x)) u.up)

    mutual
      unfolding walk marks

      pub walk_is : (t : Rose) → Placed ns t → walk visit down t (att (idx t)) ≡ each (λ j. visit j (att j)) (marks t)
      walk_is (node i ks) p = ap (λ l. visit i (att i) ++ l) (walk_all_is ks i (λ j. down i j (att i)) (handed i) p)

      walk_all_is : (ts : Roses) (i : ℕ) (g : ℕ → A) → ((j : ℕ) → Under ns i j → g j ≡ att j) → PlacedAll ns i ts → walk_all visit down ts g ≡ each (λ j. visit j (att j)) (marks_all ts)
      walk_all_is rnil i g h p = refl
      walk_all_is (rcons t ts) i g h p =
          rw (h (idx t) p.0) (ap (λ l. l ++ walk_all visit down ts g) (walk_is t p.1) ∙ ap (λ l. each (λ j. visit j (att j)) (marks t) ++ l) (walk_all_is ts i g h p.2))
          ∙ sym (each_append (λ j. visit j (att j)) (marks t) (marks_all ts))

    -- The walk of a table's tree says what the table's nodes say, one after the other.
    pub table_is : Tree ns → walk visit down (tree_of ns) (att 0) ≡ each (λ j. visit j (att j)) (upto 0 (count ns))
    table_is w = walk_is (tree_of ns) (parts_placed ns 0 w.some) ∙ ap (each (λ j. visit j (att j))) (tree_marks ns w)

-- What is handed down is the fold over the ancestors.
pub fold_is : {A B : Type 0} (visit : ℕ → A → List B) (f : ℕ → A → A) (d : A) (ns : List ℕ) → Tree ns
    → walk visit (λ i j a. f i a) (tree_of ns) d ≡ each (λ j. visit j (foldr f d (ancestors ns j))) (upto 0 (count ns))
fold_is visit f d ns w =
    ap (walk visit (λ i j a. f i a) (tree_of ns)) (sym (fold_root f d (parent_of ns)))
    ∙ table_is visit (λ i j a. f i a) ns (λ j. foldr f d (ancestors ns j)) (fold_up f d (parent_of ns) (count ns) w.falls) w

-- Two folds over the ancestors agree, if they do at the start and at each step.
module _ {A C : Type 0} (R : A → C → Type 0) (f : ℕ → A → A) (d : A) (g : ℕ → C → C) (e : C) (ns : List ℕ) (w : Tree ns)
    (first : R d e) (step : (a : ℕ) → a < count ns → (r : A) (s : C) → R r s → R (f a r) (g a s))
  where
    agree : (k j : ℕ) → j ≤ k → j < count ns → R (foldr f d (ancestors ns j)) (foldr g e (ancestors ns j))
    agree zero zero l h = rw (fold_root f d (parent_of ns), fold_root g e (parent_of ns)) first
    agree zero (suc j) l h = absurd (omega arith)
    agree (suc k) zero l h = rw (fold_root f d (parent_of ns), fold_root g e (parent_of ns)) first
    agree (suc k) (suc j) l h =
        let p = w.falls (suc j) (omega arith) h in
        rw (fold_up f d (parent_of ns) (count ns) w.falls (suc j) (omega arith) h, fold_up g e (parent_of ns) (count ns) w.falls (suc j) (omega arith) h)
        (step (parent_of ns (suc j)) (omega arith) _ _ (agree k (parent_of ns (suc j)) (omega arith) (omega arith)))

    pub folds_agree : (j : ℕ) → j < count ns → R (foldr f d (ancestors ns j)) (foldr g e (ancestors ns j))
    folds_agree j h = agree j j (omega arith) h

-- Two ways to say something agree over numbers below n, if they do at each.
pub each_same : {B : Type 0} (f g : ℕ → List B) (i n : ℕ) → ((j : ℕ) → i ≤ j → j < n → f j ≡ g j) → each f (upto i n) ≡ each g (upto i n)
unfolding upto range
each_same f g i n h = go i (n - i) (λ j p q. h j p (omega arith))
  where
    go : (i k : ℕ) → ((j : ℕ) → i ≤ j → j < i + k → f j ≡ g j) → each f (range i k) ≡ each g (range i k)
    go i zero h = refl
    go i (suc k) h = rw (h i (omega arith) (omega arith), go (suc i) k (λ j p q. h j (omega arith) (omega arith)))

pub some_append : {B : Type 0} (a b : List B) → some (a ++ b) ≡ (some a || some b)
some_append [] b = refl
some_append (x ∷ a) b = refl

pub some_each : {B : Type 0} (f : ℕ → List B) (i n : ℕ) → (some (each f (upto i n)) ≡ true) ↔ Says f i n
unfolding upto range
some_each {B} f i n = (
  (λ e. let s = found i (n - i) e in record { at = s.0; low = s.1; high = (let a = s.1 in let b = s.2 in omega arith); does = s.3 }),
  λ s. (let a = s.low in let b = s.high in meets i (n - i) s.at a (omega arith) s.does),
)
  where
    here : (a b : List B) → some a ≡ true → some (a ++ b) ≡ true
    here [] b e = absurd (true≢false (sym e))
    here (x ∷ a) b e = refl

    there : (a b : List B) → some b ≡ true → some (a ++ b) ≡ true
    there [] b e = e
    there (x ∷ a) b e = refl

    found : (i k : ℕ) → some (each f (range i k)) ≡ true → (j : ℕ) × (i ≤ j) × (j < i + k) × (some (f j) ≡ true)
    found i zero e = absurd (true≢false (sym e))
    found i (suc k) e = by (some (f i)) refl (found (suc i) k)
      where
        by : (b : Bool) → some (f i) ≡ b → (some (each f (range (suc i) k)) ≡ true → (j : ℕ) × (suc i ≤ j) × (j < suc i + k) × (some (f j) ≡ true)) → (j : ℕ) × (i ≤ j) × (j < i + suc k) × (some (f j) ≡ true)
        by true h t = (i, omega arith, omega arith, h)
        by false h t =
            let r = t (sym (some_append (f i) (each f (range (suc i) k)) ∙ rw h) ∙ e) in
            let a = r.1 in
            let b = r.2 in
            (r.0, omega arith, omega arith, r.3)

    meets : (i k j : ℕ) → i ≤ j → j < i + k → some (f j) ≡ true → some (each f (range i k)) ≡ true
    meets i zero j p q e = absurd (omega arith)
    meets i (suc k) j p q e =
        ⊎_elim (λ z. here (f i) (each f (range (suc i) k)) (subst (λ (x : ℕ). some (f x) ≡ true) (sym z) e))
        (λ l. there (f i) (each f (range (suc i) k)) (meets (suc i) k j l (omega arith) e)) (eq-or-lt_of_le p)

-- Something is said by one or by the other.
pub or_each : {B : Type 0} (f g : ℕ → List B) (l : List ℕ) → some (each (λ j. f j ++ g j) l) ≡ (some (each f l) || some (each g l))
or_each f g [] = refl
or_each f g (j ∷ l) =
    some_append (f j ++ g j) (each (λ j. f j ++ g j) l)
    ∙ rw (or_each f g l, some_append (f j) (g j), some_append (f j) (each f l), some_append (g j) (each g l)) (go (some (f j)) (some (g j)) (some (each f l)) (some (each g l)))
  where
    go : (a b c d : Bool) → ((a || b) || (c || d)) ≡ ((a || c) || (b || d))
    go true b c d = refl
    go false true true d = refl
    go false true false d = refl
    go false false c d = refl

pub some_only : (b : Bool) (n : ℕ) → some (only b n) ≡ b
some_only true n = refl
some_only false n = refl
