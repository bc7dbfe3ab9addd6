-- IsLabelledFunction, node by node: it is true of a Statement just where a label of a function has its way up, label by label, to that Statement.
use Rattle.table_records.specs.declared.NodeId.{NodeId}
use Rattle.std.specs.Prelude.{ℕ, suc, ◌+◌, ◌≤◌, ◌<◌, ◌≡◌, Bool, not, ◌&&◌, ◌||◌, ◌⊎◌, eqb, length, Option, Some, None}
use Rattle.std.proofs.Math.Path.{refl, ap, sym}
use Rattle.std.proofs.Common.{◌∙◌, eq-or-lt_of_le, arith, eq-eqb, ne_eqb, eqb-true}
use mathlib.Core.List.{List, [], ◌∷◌, foldr}
use Rattle.std.proofs.Math.Bool.{true, false, cond}
use Rattle.std.proofs.Math.Logic.{inl, inr, ⊎_elim}
use Rattle.std.proofs.lemmas.Bool.{eqb-false}
use Rattle.base_common.specs.Upto.{upto}
use Rattle.base_common.specs.Tests.{within}
use Rattle.base_common.proofs.Bools.{in_range_lem, range_of}
use Rattle.table_records.specs.Table.{kind_of, parent_of, role_of, count}
use Rattle.table_records.specs.Facts.{Tree}
use Rattle.table_records.specs.Roles as role
use Rattle.table_children.specs.Children.{keep, how_many, is_child, first_node, held_of}
use Rattle.table_children.proofs.ChildrenLaws.{child_other, tally, tally_all}
use Rattle.refusal_fields.specs.Fields.{Listed}
use Rattle.refusal_standing.specs.Standing.{is_statement}
use Rattle.refusal_input.specs.WellFormed.{Shaped}
use Rattle.ecma_trees.specs.Rose.{Rose, Roses, node, rnil, rcons, idx, parts_of, fold_parts}
use Rattle.ecma_trees.proofs.RoseLaws.{Under, Placed, PlacedAll, Whole, WholeAll, parts_placed, parts_whole, fold_parts_is}
use Rattle.ecma_base.specs.Contains.{contains, contains_any, contains_in}
use Rattle.ecma_statements.specs.Functions.{is_function, ends_in_statement, is_labelled_function, labelled_item, labelled_among, labels_function, label_edge}

one : (a : ℕ) → within a 3 3 ≡ eqb a 3
one a = go (eqb a 3) refl (within a 3 3) refl
  where
    go : (x : Bool) → eqb a 3 ≡ x → (y : Bool) → within a 3 3 ≡ y → y ≡ x
    go true x true y = refl
    go true x false y = let q = eqb-true a 3 x in sym y ∙ in_range_lem a 3 3 (omega arith) (omega arith)
    go false x true y = let r = range_of a 3 3 y in let r0 = r.0 in let r1 = r.1 in absurd (eqb-false a 3 x (omega arith))
    go false x false y = refl

length_keep : (q : ℕ → Bool) (l : List ℕ) → length (keep q l) ≡ foldr (λ k r. cond (q k) (suc r) r) 0 l
unfolding keep
length_keep q [] = refl
length_keep q (x ∷ l) = go (q x) (length_keep q l)
  where
    go : (b : Bool) → length (keep q l) ≡ foldr (λ k r. cond (q k) (suc r) r) 0 l → length (cond b (x ∷ keep q l) (keep q l)) ≡ cond b (suc (foldr (λ k r. cond (q k) (suc r) r) 0 l)) (foldr (λ k r. cond (q k) (suc r) r) 0 l)
    go true h = ap suc h
    go false h = h

module _ (ns : List ℕ) where
  -- the first part with role 3, and how many there are
  abbrev held_in : Roses → Option NodeId
  held_in rnil = None
  held_in (rcons x xs) = cond (eqb (role_of ns (idx x)) role.Held) (Some (record { 0 = idx x })) (held_in xs)

  abbrev held_count : Roses → ℕ
  held_count rnil = 0
  held_count (rcons x xs) = cond (eqb (role_of ns (idx x)) role.Held) (suc (held_count xs)) (held_count xs)

  -- some tree of these is that of a labelled function
  abbrev among : Roses → Bool
  among rnil = false
  among (rcons x xs) = is_labelled_function ns x || among xs

  module _ (t : Tree ns) (v : Listed ns) (w : Shaped ns) where
    fit : (n j : ℕ) → Under ns n j → is_child ns n 0 55 3 3 j ≡ eqb (role_of ns j) 3
    unfolding is_child
    fit n j u = rw (eq-eqb (parent_of ns j) n u.up, in_range_lem (kind_of ns j) 0 55 (omega arith) (v.kind j u.fits)) (one (role_of ns j))

    held_is : (n : ℕ) → n < count ns → held_of ns n ≡ held_in (parts_of ns n)
    unfolding first_node
    held_is n h =
        fold_parts_is (λ k r. cond (is_child ns n 0 55 3 3 k) (Some (record { 0 = k })) r) None ns t n (λ j r m. rw (child_other ns n 0 55 3 3 j m)) h
        ∙ go (parts_of ns n) (parts_placed ns n h)
      where
        go : (ks : Roses) → PlacedAll ns n ks → fold_parts (λ k r. cond (is_child ns n 0 55 3 3 k) (Some (record { 0 = k })) r) None ks ≡ held_in ks
        go rnil p = refl
        go (rcons x xs) p = rw (fit n (idx x) p.0, go xs p.2)

    count_is : (n : ℕ) → n < count ns → how_many ns n 0 55 3 3 ≡ held_count (parts_of ns n)
    unfolding tally
    count_is n h =
        sym (tally_all ns n 0 55 3 3)
        ∙ length_keep (is_child ns n 0 55 3 3) (upto (n + 1) (count ns))
        ∙ fold_parts_is (λ k r. cond (is_child ns n 0 55 3 3 k) (suc r) r) 0 ns t n (λ j r m. rw (child_other ns n 0 55 3 3 j m)) h
        ∙ go (parts_of ns n) (parts_placed ns n h)
      where
        go : (ks : Roses) → PlacedAll ns n ks → fold_parts (λ k r. cond (is_child ns n 0 55 3 3 k) (suc r) r) 0 ks ≡ held_count ks
        go rnil p = refl
        go (rcons x xs) p = rw (fit n (idx x) p.0, go xs p.2)

    -- a Labeled has role 3, or 4 under an If
    labeled_role : (j : ℕ) → 0 < j → j < count ns → kind_of ns j ≡ 6 → (kind_of ns (parent_of ns j) ≡ 16 → ⊥) → (role_of ns j ≡ 3) ⊎ ((kind_of ns (parent_of ns j) ≡ 12) × (role_of ns j ≡ 4))
    unfolding is_statement
    labeled_role j z h q n =
        let s = w.placed.stands j h (ap is_statement q) in
        let s0 = s.0 in
        let s1 = s.1 in
        ⊎_elim (λ (e : 3 ≡ role_of ns j). inl (sym e))
        (λ (e : 3 < role_of ns j). ⊎_elim (λ x. absurd (n x)) (λ x. inr x) (w.placed.alternate j z h (omega arith) s1))
        (eq-or-lt_of_le s0)

    not_labeled : (n j : ℕ) → kind_of ns n ≡ 6 → Under ns n j → eqb (role_of ns j) 3 ≡ false → eqb (kind_of ns j) 6 ≡ false
    not_labeled n j q u e = go (eqb (kind_of ns j) 6) refl
      where
        up : kind_of ns (parent_of ns j) ≡ 6
        up = ap (λ (x : ℕ). kind_of ns x) u.up ∙ q

        go : (b : Bool) → eqb (kind_of ns j) 6 ≡ b → b ≡ false
        go true x =
            ⊎_elim (λ (y : role_of ns j ≡ 3). absurd (eqb-false (role_of ns j) 3 e y)) (λ y. let y0 = y.0 in let z = up in absurd (omega arith))
            (labeled_role j u.pos u.fits (eqb-true (kind_of ns j) 6 x) (λ y. let z = up in omega arith))
        go false x = refl

    is_not : (x : Rose) → eqb (kind_of ns (idx x)) 6 ≡ false → is_labelled_function ns x ≡ false
    unfolding is_labelled_function
    is_not (node j ks) e = rw e

    -- no part with role 3: none is the tree of a labelled function
    none_held : (n : ℕ) → kind_of ns n ≡ 6 → (ks : Roses) → PlacedAll ns n ks → held_count ks ≡ 0 → among ks ≡ false
    none_held n q rnil p e = refl
    none_held n q (rcons x xs) p e = go (eqb (role_of ns (idx x)) 3) refl e (none_held n q xs p.2)
      where
        go : (b : Bool) → eqb (role_of ns (idx x)) 3 ≡ b → cond b (suc (held_count xs)) (held_count xs) ≡ 0 → (held_count xs ≡ 0 → among xs ≡ false) → (is_labelled_function ns x || among xs) ≡ false
        go true y e r = absurd (omega arith)
        go false y e r = rw (is_not x (not_labeled n (idx x) q p.0 y)) (r e)

    item : (n : ℕ) → kind_of ns n ≡ 6 → (ks : Roses) → PlacedAll ns n ks → held_count ks ≤ 1 → labelled_item ns ks ≡ (is_function ns (held_in ks) || among ks)
    unfolding is_labelled_function
    item n q rnil p e = refl
    item n q (rcons x xs) p e = go (eqb (role_of ns (idx x)) 3) refl e (item n q xs p.2)
      where
        alone : (a b c : Bool) → c ≡ false → (a || b) ≡ (a || (b || c))
        alone true b c e = refl
        alone false true c e = refl
        alone false false c e = sym e

        go : (b : Bool) → eqb (role_of ns (idx x)) 3 ≡ b → cond b (suc (held_count xs)) (held_count xs) ≤ 1 → (held_count xs ≤ 1 → labelled_item ns xs ≡ (is_function ns (held_in xs) || among xs))
            → cond b (eqb (kind_of ns (idx x)) 1 || is_labelled_function ns x) (labelled_item ns xs) ≡ (is_function ns (cond b (Some (record { 0 = idx x })) (held_in xs)) || (is_labelled_function ns x || among xs))
        go true y e r = alone (eqb (kind_of ns (idx x)) 1) (is_labelled_function ns x) (among xs) (none_held n q xs p.2 (omega arith))
        go false y e r = rw (is_not x (not_labeled n (idx x) q p.0 y)) (r e)

    -- an operation that goes into no part finds nothing
    none_into : (sought : ℕ → Bool) (into : ℕ → ℕ → Bool) (ks : Roses) (b : ℕ → Bool) → ((j : ℕ) → b j ≡ false) → contains_any sought into ks b ≡ false
    unfolding contains
    none_into sought into rnil b e = refl
    none_into sought into (rcons x xs) b e = rw (e (idx x), none_into sought into xs b e)

    -- IsLabelledFunction is the operation that seeks a label of a function and goes down through labels
    abbrev through : ℕ → ℕ → Bool
    through i j = not (label_edge ns i j)

    at_label : (n : ℕ) (ks : Roses) → PlacedAll ns n ks → ks ≡ parts_of ns n → n < count ns
        → (eqb (kind_of ns n) 6 ≡ true → contains_any (labels_function ns) through ks (through n) ≡ among ks)
        → (labels_function ns n || contains_any (labels_function ns) through ks (through n)) ≡ (eqb (kind_of ns n) 6 && labelled_item ns ks)
    at_label n ks p e h r = go (eqb (kind_of ns n) 6) refl
      where
        go : (b : Bool) → eqb (kind_of ns n) 6 ≡ b → (labels_function ns n || contains_any (labels_function ns) through ks (through n)) ≡ (eqb (kind_of ns n) 6 && labelled_item ns ks)
        go true x =
            let q = eqb-true (kind_of ns n) 6 x in
            let c : held_count ks ≡ 1 = ap held_count e ∙ sym (count_is n h) ∙ w.counted.body n h (omega arith) (omega arith) in
            let m : held_of ns n ≡ held_in ks = held_is n h ∙ ap held_in (sym e) in
            ap (λ b. labels_function ns n || b) (r x) ∙ rw (x, m) (sym (item n q ks p (omega arith)))
        go false x = ap (λ b. labels_function ns n || b) (none_into (labels_function ns) through ks (through n) (λ j. rw x)) ∙ rw x

    mutual
      unfolding contains is_labelled_function

      goes_down : (x : Rose) → Placed ns x → Whole ns x → idx x < count ns → contains (labels_function ns) through x ≡ is_labelled_function ns x
      goes_down (node n ks) p u h = at_label n ks p u.0 h (λ e. goes_down_all ks n (through n) (λ j. rw e) p u.1)

      goes_down_all : (ks : Roses) (n : ℕ) (b : ℕ → Bool) → ((j : ℕ) → b j ≡ true) → PlacedAll ns n ks → WholeAll ns ks → contains_any (labels_function ns) through ks b ≡ among ks
      goes_down_all rnil n b e p u = refl
      goes_down_all (rcons x xs) n b e p u = rw (e (idx x), goes_down x p.1 u.0 p.0.fits, goes_down_all xs n b e p.2 u.1)

    -- a Statement that is a Labeled has role 3 or 4
    statement_role : (n : ℕ) → ends_in_statement ns n ≡ true → (ks : Roses) → PlacedAll ns n ks → labelled_among ns ks ≡ among ks
    unfolding is_labelled_function labelled_among
    statement_role n q rnil p = refl
    statement_role n q (rcons (node j js) xs) p = rw (statement_role n q xs p.2) (ap (λ b. b || among xs) (go (eqb (kind_of ns j) 6) refl))
      where
        up : ends_in_statement ns (parent_of ns j) ≡ true
        up = ap (λ (x : ℕ). ends_in_statement ns x) p.0.up ∙ q

        go : (b : Bool) → eqb (kind_of ns j) 6 ≡ b → (within (role_of ns j) 3 4 && (b && labelled_item ns js)) ≡ (b && labelled_item ns js)
        go true x =
            let r = range_of (kind_of ns (parent_of ns j)) 7 13 up in
            let r1 = r.1 in
            rw (⊎_elim (λ (y : role_of ns j ≡ 3). in_range_lem (role_of ns j) 3 4 (omega arith) (omega arith)) (λ y. let y1 = y.1 in in_range_lem (role_of ns j) 3 4 (omega arith) (omega arith))
            (labeled_role j p.0.pos p.0.fits (eqb-true (kind_of ns j) 6 x) (λ y. omega arith)))
        go false x = by (within (role_of ns j) 3 4)
          where
            by : (b : Bool) → (b && false) ≡ false
            by true = refl
            by false = refl

    -- of the Statements of u
    pub statements_of : (u : ℕ) → u < count ns → ends_in_statement ns u ≡ true → labelled_among ns (parts_of ns u) ≡ contains_in ns (labels_function ns) (label_edge ns) u
    statements_of u h q =
        statement_role u q (parts_of ns u) (parts_placed ns u h)
        ∙ sym (goes_down_all (parts_of ns u) u (label_edge ns u) (λ j. rw (ne_eqb (kind_of ns u) 6 (λ y. let r = range_of (kind_of ns u) 7 13 q in let r0 = r.0 in omega arith))) (parts_placed ns u h) (parts_whole ns u h))
