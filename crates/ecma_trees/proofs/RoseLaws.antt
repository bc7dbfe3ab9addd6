-- The tree of a table has the table's nodes, each under its parent.
use Rattle.std.specs.Prelude.{ℕ, zero, suc, ◌+◌, ◌-◌, ◌≤◌, ◌<◌, ◌≡◌, Bool, true, false, cond, eqb}
use Rattle.std.proofs.Math.Path.{refl, ap}
use Rattle.std.proofs.Common.{sym, ◌∙◌, subst, ⊎_elim, eqb-true, add-one, arith}
use mathlib.Core.List.{List, [], ◌∷◌, ◌++◌, append_assoc, append-nil, foldr, foldr-append}
use Rattle.std.proofs.lemmas.Bool.{eqb-false}
use Rattle.base_common.specs.Upto.{range, upto}
use Rattle.base_common.proofs.UptoLaws.{upto_cons}
use Rattle.base_walk.specs.On.{on}
use Rattle.base_walk.proofs.OnLaws.{on_cases, on_le}
use Rattle.table_records.specs.Table.{parent_of, count}
use Rattle.table_records.specs.Facts.{Tree}
use Rattle.ecma_trees.specs.Rose.{Rose, Roses, node, rnil, rcons, idx, kids, others, forest, parts_of, rest_of, tree_of, marks, marks_all, fold_parts}

split_marks : (ns : List ℕ) (i : ℕ) (ts : Roses) → marks_all (kids ns i ts) ++ marks_all (others ns i ts) ≡ marks_all ts
unfolding kids others marks
split_marks ns i rnil = refl
split_marks ns i (rcons t ts) = go (eqb (parent_of ns (idx t)) i) (split_marks ns i ts)
  where
    go : (b : Bool) → marks_all (kids ns i ts) ++ marks_all (others ns i ts) ≡ marks_all ts
        → marks_all (cond b (rcons t (kids ns i ts)) rnil) ++ marks_all (cond b (others ns i ts) (rcons t ts)) ≡ marks t ++ marks_all ts
    go true h = append_assoc (marks t) (marks_all (kids ns i ts)) (marks_all (others ns i ts)) ∙ ap (λ l. marks t ++ l) h
    go false h = refl

forest_marks : (ns : List ℕ) (i k : ℕ) → marks_all (forest ns i k) ≡ range i k
unfolding forest marks range
forest_marks ns i zero = refl
forest_marks ns i (suc k) = ap (λ l. i ∷ l) (split_marks ns i (forest ns (suc i) k) ∙ forest_marks ns (suc i) k)

-- j is a node of the table whose parent is i
pub record Under (ns : List ℕ) (i j : ℕ) : Type 0 where
  pub up : parent_of ns j ≡ i
  pub pos : 0 < j
  pub fits : j < count ns

-- Each part of a node is a node of the table whose parent it is.
abbrev mutual
  pub Placed : List ℕ → Rose → Type 0
  Placed ns (node i ks) = PlacedAll ns i ks

  pub PlacedAll : List ℕ → ℕ → Roses → Type 0
  PlacedAll ns i rnil = Unit {0}
  PlacedAll ns i (rcons t ts) = Under ns i (idx t) × Placed ns t × PlacedAll ns i ts

-- The same of trees behind b, whose parents are any.
abbrev Inside : List ℕ → ℕ → Roses → Type 0
Inside ns b rnil = Unit {0}
Inside ns b (rcons t ts) = (b < idx t) × (idx t < count ns) × Placed ns t × Inside ns b ts

kids_placed : (ns : List ℕ) (b i : ℕ) (ts : Roses) → Inside ns b ts → PlacedAll ns i (kids ns i ts)
unfolding kids
kids_placed ns b i rnil h = tt
kids_placed ns b i (rcons t ts) h = go (eqb (parent_of ns (idx t)) i) refl (kids_placed ns b i ts h.3)
  where
    go : (x : Bool) → eqb (parent_of ns (idx t)) i ≡ x → PlacedAll ns i (kids ns i ts) → PlacedAll ns i (cond x (rcons t (kids ns i ts)) rnil)
    go true e k = (record { up = eqb-true _ _ e; pos = omega arith; fits = h.1 }, h.2, k)
    go false e k = tt

others_inside : (ns : List ℕ) (b i : ℕ) (ts : Roses) → Inside ns b ts → Inside ns b (others ns i ts)
unfolding others
others_inside ns b i rnil h = tt
others_inside ns b i (rcons t ts) h = go (eqb (parent_of ns (idx t)) i) (others_inside ns b i ts h.3)
  where
    go : (x : Bool) → Inside ns b (others ns i ts) → Inside ns b (cond x (others ns i ts) (rcons t ts))
    go true k = k
    go false k = h

forest_inside : (ns : List ℕ) (b i k : ℕ) → b < i → i + k ≤ count ns → Inside ns b (forest ns i k)
unfolding forest
forest_inside ns b i zero h l = tt
forest_inside ns b i (suc k) h l =
    let r = forest_inside ns b (suc i) k (omega arith) (omega arith) in
    (h, omega arith, kids_placed ns b i (forest ns (suc i) k) r, others_inside ns b i (forest ns (suc i) k) r)

pub parts_placed : (ns : List ℕ) (u : ℕ) → u < count ns → PlacedAll ns u (parts_of ns u)
unfolding parts_of
parts_placed ns u h = kids_placed ns u u (forest ns (suc u) (count ns - suc u)) (forest_inside ns u (suc u) (count ns - suc u) (omega arith) (omega arith))

-- All that is behind a node: what is below it, and then the rest.
pub parts_marks : (ns : List ℕ) (u : ℕ) → marks_all (parts_of ns u) ++ marks_all (rest_of ns u) ≡ upto (u + 1) (count ns)
unfolding parts_of rest_of upto
parts_marks ns u = rw add-one (split_marks ns u (forest ns (suc u) (count ns - suc u)) ∙ forest_marks ns (suc u) (count ns - suc u))

-- The trees hang on the chain above b, one behind the other.
abbrev Hung : List ℕ → ℕ → Roses → Type 0
Hung ns b rnil = Unit {0}
Hung ns b (rcons t ts) = (on (parent_of ns) (parent_of ns (idx t)) b ≡ true) × Hung ns (parent_of ns (idx t)) ts

on_parent : (ns : List ℕ) → Tree ns → (a b : ℕ) → b < count ns → on (parent_of ns) a b ≡ true → (a ≡ b → ⊥) → on (parent_of ns) a (parent_of ns b) ≡ true
on_parent ns w a b h e n = ⊎_elim (λ q. absurd (n q)) (λ r. r.1) (on_cases (parent_of ns) (count ns) w.falls a b h e)

others_hung : (ns : List ℕ) → Tree ns → (b : ℕ) (ts : Roses) → b < count ns → Hung ns b ts → Hung ns (parent_of ns b) (others ns b ts)
unfolding others
others_hung ns w b rnil c h = tt
others_hung ns w b (rcons t ts) c h = go (eqb (parent_of ns (idx t)) b) refl (others_hung ns w b ts c)
  where
    go : (x : Bool) → eqb (parent_of ns (idx t)) b ≡ x → (Hung ns b ts → Hung ns (parent_of ns b) (others ns b ts))
        → Hung ns (parent_of ns b) (cond x (others ns b ts) (rcons t ts))
    go true e k = k (subst (λ y. Hung ns y ts) (eqb-true _ _ e) h.1)
    go false e k = (on_parent ns w (parent_of ns (idx t)) b c h.0 (eqb-false _ _ e), h.1)

forest_hung : (ns : List ℕ) → Tree ns → (i k : ℕ) → suc i + k ≤ count ns → Hung ns i (forest ns (suc i) k)
unfolding forest
forest_hung ns w i zero l = tt
forest_hung ns w i (suc k) l =
    let e : suc i - 1 ≡ i = omega arith in
    (subst (λ x. on (parent_of ns) (parent_of ns (suc i)) x ≡ true) e (w.order (suc i) (omega arith) (omega arith)), others_hung ns w (suc i) (forest ns (suc (suc i)) k) (omega arith) (forest_hung ns w (suc i) k (omega arith)))

-- Trees behind u whose parents are before it.
abbrev pub Low : List ℕ → ℕ → Roses → Type 0
Low ns u rnil = Unit {0}
Low ns u (rcons t ts) = (parent_of ns (idx t) < u) × (u < idx t) × (idx t < count ns) × Placed ns t × Low ns u ts

on_less : (ns : List ℕ) → Tree ns → (a b : ℕ) → b < count ns → on (parent_of ns) a b ≡ true → a ≤ b
on_less ns w a b h e = on_le (parent_of ns) (count ns) w.falls a b h e

hung_low : (ns : List ℕ) → Tree ns → (u b : ℕ) (ts : Roses) → b < u → b < count ns → Hung ns b ts → Inside ns u ts → Low ns u ts
hung_low ns w u b rnil l c h k = tt
hung_low ns w u b (rcons t ts) l c h k =
    let e = on_less ns w (parent_of ns (idx t)) b c h.0 in
    (omega arith, k.0, k.1, k.2, hung_low ns w u (parent_of ns (idx t)) ts (omega arith) (omega arith) h.1 k.3)

others_low : (ns : List ℕ) → Tree ns → (u : ℕ) (ts : Roses) → u < count ns → Hung ns u ts → Inside ns u ts → Low ns u (others ns u ts)
unfolding others
others_low ns w u rnil c h k = tt
others_low ns w u (rcons t ts) c h k = go (eqb (parent_of ns (idx t)) u) refl (others_low ns w u ts c)
  where
    go : (x : Bool) → eqb (parent_of ns (idx t)) u ≡ x → (Hung ns u ts → Inside ns u ts → Low ns u (others ns u ts)) → Low ns u (cond x (others ns u ts) (rcons t ts))
    go true e r = r (subst (λ y. Hung ns y ts) (eqb-true _ _ e) h.1) k.3
    go false e r =
        let l = on_less ns w (parent_of ns (idx t)) u c h.0 in
        let n = eqb-false (parent_of ns (idx t)) u e in
        (omega arith, k.0, k.1, k.2, hung_low ns w u (parent_of ns (idx t)) ts (omega arith) (omega arith) h.1 k.3)

pub rest_low : (ns : List ℕ) → Tree ns → (u : ℕ) → u < count ns → Low ns u (rest_of ns u)
unfolding rest_of
rest_low ns w u h =
    others_low ns w u (forest ns (suc u) (count ns - suc u)) h
    (forest_hung ns w u (count ns - suc u) (omega arith)) (forest_inside ns u (suc u) (count ns - suc u) (omega arith) (omega arith))

nothing_low : (ns : List ℕ) (ts : Roses) → Low ns 0 ts → marks_all ts ≡ []
unfolding marks
nothing_low ns rnil p = refl
nothing_low ns (rcons t ts) p = absurd (omega arith)

-- In preorder, the tree has the table's nodes, each once and in their order.
pub tree_marks : (ns : List ℕ) → Tree ns → marks (tree_of ns) ≡ upto 0 (count ns)
unfolding marks
tree_marks ns w =
    sym (upto_cons 0 (count ns) w.some
    ∙ ap (λ l. 0 ∷ l) (sym (parts_marks ns 0) ∙ rw (nothing_low ns (rest_of ns 0) (rest_low ns w 0 w.some)) (append-nil _)))

-- Each node's parts are those that the table gives it.
abbrev mutual
  pub Whole : List ℕ → Rose → Type 0
  Whole ns (node i ks) = (ks ≡ parts_of ns i) × WholeAll ns ks

  pub WholeAll : List ℕ → Roses → Type 0
  WholeAll ns rnil = Unit {0}
  WholeAll ns (rcons t ts) = Whole ns t × WholeAll ns ts

kids_whole : (ns : List ℕ) (i : ℕ) (ts : Roses) → WholeAll ns ts → WholeAll ns (kids ns i ts)
unfolding kids
kids_whole ns i rnil h = tt
kids_whole ns i (rcons t ts) h = go (eqb (parent_of ns (idx t)) i) (kids_whole ns i ts h.1)
  where
    go : (x : Bool) → WholeAll ns (kids ns i ts) → WholeAll ns (cond x (rcons t (kids ns i ts)) rnil)
    go true k = (h.0, k)
    go false k = tt

others_whole : (ns : List ℕ) (i : ℕ) (ts : Roses) → WholeAll ns ts → WholeAll ns (others ns i ts)
unfolding others
others_whole ns i rnil h = tt
others_whole ns i (rcons t ts) h = go (eqb (parent_of ns (idx t)) i) (others_whole ns i ts h.1)
  where
    go : (x : Bool) → WholeAll ns (others ns i ts) → WholeAll ns (cond x (others ns i ts) (rcons t ts))
    go true k = k
    go false k = h

forest_whole : (ns : List ℕ) (i k : ℕ) → i + k ≡ count ns → WholeAll ns (forest ns i k)
unfolding forest parts_of
forest_whole ns i zero e = tt
forest_whole ns i (suc k) e =
    let r = forest_whole ns (suc i) k (omega arith) in
    let q : k ≡ count ns - suc i = omega arith in
    ((ap (λ m. kids ns i (forest ns (suc i) m)) q, kids_whole ns i (forest ns (suc i) k) r), others_whole ns i (forest ns (suc i) k) r)

pub parts_whole : (ns : List ℕ) (u : ℕ) → u < count ns → WholeAll ns (parts_of ns u)
unfolding parts_of
parts_whole ns u h = kids_whole ns u (forest ns (suc u) (count ns - suc u)) (forest_whole ns (suc u) (count ns - suc u) (omega arith))

-- A fold over the parts of a node is the fold over all nodes behind it that passes over those with another parent.
module _ {R : Type 0} (f : ℕ → R → R) (d : R) (ns : List ℕ) (w : Tree ns) (n : ℕ) (pass : (j : ℕ) (r : R) → (parent_of ns j ≡ n → ⊥) → f j r ≡ r) where
  mutual
    unfolding marks

    pass_tree : (t : Rose) → Placed ns t → n < idx t → (r : R) → foldr f r (marks t) ≡ f (idx t) r
    pass_tree (node i ks) p l r = ap (f i) (pass_all ks i p l r)

    pass_all : (ts : Roses) (i : ℕ) → PlacedAll ns i ts → n < i → (r : R) → foldr f r (marks_all ts) ≡ r
    pass_all rnil i p l r = refl
    pass_all (rcons t ts) i p l r =
        let z = w.falls (idx t) p.0.pos p.0.fits in
        let y = p.0.up in
        foldr-append f r (marks t) (marks_all ts)
        ∙ pass_tree t p.1 (omega arith) (foldr f r (marks_all ts))
        ∙ pass (idx t) (foldr f r (marks_all ts)) (omega arith)
        ∙ pass_all ts i p.2 l r

  pass_low : (ts : Roses) → Low ns n ts → foldr f d (marks_all ts) ≡ d
  unfolding marks
  pass_low rnil p = refl
  pass_low (rcons t ts) p =
      foldr-append f d (marks t) (marks_all ts) ∙ pass_tree t p.3 p.1 (foldr f d (marks_all ts)) ∙ pass (idx t) (foldr f d (marks_all ts)) (omega arith) ∙ pass_low ts p.4

  pass_parts : (ts : Roses) → PlacedAll ns n ts → foldr f d (marks_all ts) ≡ fold_parts f d ts
  unfolding marks
  pass_parts rnil p = refl
  pass_parts (rcons t ts) p =
      let z = w.falls (idx t) p.0.pos p.0.fits in
      let y = p.0.up in
      foldr-append f d (marks t) (marks_all ts) ∙ pass_tree t p.1 (omega arith) (foldr f d (marks_all ts)) ∙ ap (f (idx t)) (pass_parts ts p.2)

  pub fold_parts_is : n < count ns → foldr f d (upto (n + 1) (count ns)) ≡ fold_parts f d (parts_of ns n)
  fold_parts_is h =
      ap (foldr f d) (sym (parts_marks ns n))
      ∙ foldr-append f d (marks_all (parts_of ns n)) (marks_all (rest_of ns n))
      ∙ rw (pass_low (rest_of ns n) (rest_low ns w n h)) (pass_parts (parts_of ns n) (parts_placed ns n h))
