-- Where statements stand in well-formed tables, and what that gives to an operation that goes through statements.
use Rattle.table_records.specs.declared.NodeId.{NodeId}
use Rattle.std.specs.Prelude.{ℕ, zero, suc, ◌+◌, ◌-◌, ◌≤◌, ◌<◌, ◌≡◌, ◌⊎◌, Bool, true, false, cond, ◌&&◌, ◌||◌, List, [], eqb, leb, Some, None, Option}
use Rattle.std.proofs.Math.Path.{refl}
use Rattle.std.proofs.Common.{sym, ◌∙◌, ⊎_elim, true≢false, eqb-true, eq-eqb, ne_eqb, leb-true, leb-false, le-leb, eq-or-lt_of_le, arith}
use Rattle.std.proofs.lemmas.Bool.{eqb-false, lt-leb}
use Rattle.base_common.specs.Tests.{within}
use Rattle.base_common.proofs.Bools.{either, in_range_lem, range_of}
use Rattle.table_records.specs.Table.{kind_of, parent_of, role_of, count}
use Rattle.table_records.specs.Facts.{Tree}
use Rattle.table_children.specs.Children.{is_child, first_node, next_child, how_many, label_of, held_of}
use Rattle.table_children.proofs.ChildrenLaws.{tally, tally_all, tally_turn, node_on, node_stop}
use Rattle.refusal_standing.specs.Standing.{is_statement, is_holder}
use Rattle.refusal_input.specs.WellFormed.{Shaped}
use Rattle.ecma_trees.specs.Rose.{Roses, rnil, rcons, idx, fold_parts, parts_of}
use Rattle.ecma_trees.proofs.RoseLaws.{fold_parts_is, parts_placed, PlacedAll}
use Rattle.ecma_trees.specs.Walk.{only}
use Rattle.ecma_trees.proofs.Rule.{Going}
use Rattle.ecma_labels.specs.Labels.{label_in, is_unit, holds}

-- a kind from 4 to 19 but 4, 15 and 17
statement_kind : (k : ℕ) → 4 ≤ k → k ≤ 19 → (k ≡ 4 → ⊥) → (k ≡ 15 → ⊥) → (k ≡ 17 → ⊥) → is_statement k ≡ true
unfolding is_statement
statement_kind k l h a b c = go (leb k 14) refl (eqb k 16) refl
  where
    go : (x : Bool) → leb k 14 ≡ x → (y : Bool) → eqb k 16 ≡ y → (within k 5 14 || (eqb k 16 || within k 18 22)) ≡ true
    go true p y q = let m = leb-true k 14 p in rw (in_range_lem k 5 14 (omega arith) m)
    go false p true q = rw (eqb-true k 16 q)
    go false p false q =
        let m = leb-false k 14 p in
        let n = eqb-false k 16 q in
        rw (lt-leb k 14 m, le-leb 5 k (omega arith), q, in_range_lem k 18 22 (omega arith) (omega arith))

holder_kind : (k : ℕ) → is_holder k ≡ true → k ≤ 17
unfolding is_holder
holder_kind k e =
    ⊎_elim (λ (z : eqb k 0 ≡ true). let q = eqb-true k 0 z in omega arith)
    (λ (z : (within k 3 13 || within k 15 17) ≡ true).
    ⊎_elim (λ (y : within k 3 13 ≡ true). let q = (range_of k 3 13 y).1 in omega arith) (λ (y : within k 15 17 ≡ true). (range_of k 15 17 y).1) (either (within k 3 13) (within k 15 17) z))
    (either (eqb k 0) (within k 3 13 || within k 15 17) e)

-- of exactly one child that fits, the first that is found is it
module _ (ns : List ℕ) (p lo hi a b j : ℕ) (l : j < count ns) (e : is_child ns p lo hi a b j ≡ true) where
  tally_here : (i : ℕ) → i ≡ j → 1 ≤ tally ns p lo hi a b i
  tally_here i z =
      let u = tally_turn ns p lo hi a b i (omega arith) in
      let v : ◌≡◌ {A = ℕ} (cond (is_child ns p lo hi a b i) 1 0) 1 = rw (z, e) in
      omega arith

  tallied : (f i : ℕ) → j ≤ i + f → i ≤ j → 1 ≤ tally ns p lo hi a b i
  tallied zero i h q = tally_here i (omega arith)
  tallied (suc f) i h q =
      ⊎_elim (λ (z : i ≡ j). tally_here i z)
      (λ (z : i < j). let u = tally_turn ns p lo hi a b i (omega arith) in let v = tallied f (i + 1) (omega arith) (omega arith) in omega arith) (eq-or-lt_of_le q)

  first_here : (i : ℕ) → i ≡ j → next_child ns p lo hi a b i ≡ Some (record { 0 = j })
  first_here i z = rw z (node_stop (is_child ns p lo hi a b) j (count ns) l e)

  first_is : (f i : ℕ) → j ≤ i + f → i ≤ j → tally ns p lo hi a b i ≡ 1 → next_child ns p lo hi a b i ≡ Some (record { 0 = j })
  first_is zero i h q o = first_here i (omega arith)
  first_is (suc f) i h q o =
      ⊎_elim (λ (z : i ≡ j). first_here i z)
      (λ (z : i < j). go z (is_child ns p lo hi a b i) refl (λ o. first_is f (i + 1) (omega arith) (omega arith) o)) (eq-or-lt_of_le q)
    where
      go : i < j → (x : Bool) → is_child ns p lo hi a b i ≡ x → (tally ns p lo hi a b (i + 1) ≡ 1 → next_child ns p lo hi a b (i + 1) ≡ Some (record { 0 = j })) → next_child ns p lo hi a b i ≡ Some (record { 0 = j })
      go z true x r =
          let u = tally_turn ns p lo hi a b i (omega arith) in
          let v : ◌≡◌ {A = ℕ} (cond (is_child ns p lo hi a b i) 1 0) 1 = rw x in
          let y = tallied j (i + 1) (omega arith) (omega arith) in
          absurd (omega arith)
      go z false x r =
          let u = tally_turn ns p lo hi a b i (omega arith) in
          let v : ◌≡◌ {A = ℕ} (cond (is_child ns p lo hi a b i) 1 0) 0 = rw x in
          node_on (is_child ns p lo hi a b) i (count ns) (omega arith) x ∙ r (omega arith)

  pub first_of_one : p < j → how_many ns p lo hi a b ≡ 1 → next_child ns p lo hi a b (p + 1) ≡ Some (record { 0 = j })
  first_of_one q o = first_is j (p + 1) (omega arith) (omega arith) (tally_all ns p lo hi a b ∙ o)

module _ (ns : List ℕ) (t : Tree ns) (w : Shaped ns) where
  -- a statement, a list or a clause stands in one of these or in a unit
  pub stands : (j : ℕ) → j < count ns → 4 ≤ kind_of ns j → kind_of ns j ≤ 19 → kind_of ns (parent_of ns j) ≤ 17
  stands j h l m = go (eqb (kind_of ns j) 4) refl (eqb (kind_of ns j) 15) refl (eqb (kind_of ns j) 17) refl
    where
      go : (x : Bool) → eqb (kind_of ns j) 4 ≡ x → (y : Bool) → eqb (kind_of ns j) 15 ≡ y → (z : Bool) → eqb (kind_of ns j) 17 ≡ z → kind_of ns (parent_of ns j) ≤ 17
      go true p y q z r = let u = (w.placed.function_body j h (eqb-true (kind_of ns j) 4 p)).1 in omega arith
      go false p true q z r = let u = (w.placed.switch_case j h (eqb-true (kind_of ns j) 15 q)).0 in omega arith
      go false p false q true r = let u = (w.placed.clause j h (eqb-true (kind_of ns j) 17 r)).0 in omega arith
      go false p false q false r =
          holder_kind (kind_of ns (parent_of ns j))
          (w.placed.stands j h (statement_kind (kind_of ns j) l m (eqb-false (kind_of ns j) 4 p) (eqb-false (kind_of ns j) 15 q) (eqb-false (kind_of ns j) 17 r))).2

  -- what a Labeled holds is the statement under it
  module _ (j : ℕ) (z : 0 < j) (h : j < count ns) (e : kind_of ns (parent_of ns j) ≡ 6) (l : 4 ≤ kind_of ns j) (m : kind_of ns j ≤ 19) where
    held_role : role_of ns j ≡ 3
    held_role =
        let s = statement_kind (kind_of ns j) l m
        (λ q. let u = (w.placed.function_body j h q).1 in omega arith)
        (λ q. let u = (w.placed.switch_case j h q).0 in omega arith)
        (λ q. let u = (w.placed.clause j h q).0 in omega arith) in
        let r = w.placed.stands j h s in
        let lo = r.0 in
        let hi = r.1 in
        ⊎_elim (λ (q : 3 ≡ role_of ns j). sym q)
        (λ (q : 3 < role_of ns j).
        ⊎_elim (λ u. absurd (omega arith)) (λ u. let v = u.0 in absurd (omega arith)) (w.placed.alternate j z h q hi))
        (eq-or-lt_of_le lo)

    pub held_is : held_of ns (parent_of ns j) ≡ Some (record { 0 = j })
    unfolding is_child
    held_is =
        let p = t.falls j z h in
        let r = held_role in
        first_of_one ns (parent_of ns j) 0 55 3 3 j h
        (rw (eq-eqb (parent_of ns j) (parent_of ns j) refl, in_range_lem (kind_of ns j) 0 55 (omega arith) (omega arith), r)) p
        (w.counted.body (parent_of ns j) (omega arith) (omega arith) (omega arith))

-- a holder of statements is no unit
pub shut_unit : (ns : List ℕ) (i : ℕ) → holds (kind_of ns i) ≡ true → is_unit ns i ≡ false
shut_unit ns i h =
    let l = (range_of (kind_of ns i) 4 17 h).0 in
    rw (lt-leb (kind_of ns i) 3 (omega arith)) (and_false (leb 0 (kind_of ns i)))
  where
    and_false : (b : Bool) → (b && false) ≡ false
    and_false true = refl
    and_false false = refl

-- a kind that is no unit's
pub not_unit : (k : ℕ) → within k 0 3 ≡ false → 4 ≤ k
not_unit k e = go (leb k 3) refl
  where
    go : (a : Bool) → leb k 3 ≡ a → 4 ≤ k
    go true p = absurd (true≢false (sym (in_range_lem k 0 3 (omega arith) (leb-true k 3 p)) ∙ e))
    go false p = let l = leb-false k 3 p in omega arith

-- a kind that is neither a unit's nor one that holds statements is above 17
kind_above : (k : ℕ) → within k 0 3 ≡ false → holds k ≡ false → 17 < k
kind_above k e h = go (leb k 17) refl
  where
    go : (a : Bool) → leb k 17 ≡ a → 17 < k
    go false p = leb-false k 17 p
    go true p = absurd (true≢false (sym (in_range_lem k 4 17 (not_unit k e) (leb-true k 17 p)) ∙ h))

-- below what is neither a unit nor holds statements there is nothing that does, and no break, continue or label
pub quiet_kind : (ns : List ℕ) → Tree ns → Shaped ns → (j : ℕ) → j < count ns → is_unit ns (parent_of ns j) ≡ false → holds (kind_of ns (parent_of ns j)) ≡ false
    → (4 ≤ kind_of ns j → kind_of ns j ≤ 19 → ⊥)
quiet_kind ns t w j h e d p q =
    let l = kind_above (kind_of ns (parent_of ns j)) e d in
    let m = stands ns t w j h p q in
    omega arith

quiet_holds : (k : ℕ) → (4 ≤ k → k ≤ 19 → ⊥) → holds k ≡ false
quiet_holds k n = go (holds k) refl
  where
    go : (a : Bool) → holds k ≡ a → holds k ≡ false
    go true p =
        let l = (range_of k 4 17 p).0 in
        let m = (range_of k 4 17 p).1 in
        absurd (n l (omega arith))
    go false p = p

quiet_is : (k c : ℕ) → (4 ≤ k → k ≤ 19 → ⊥) → 4 ≤ c → c ≤ 19 → eqb k c ≡ false
quiet_is k c n l m = ne_eqb k c (λ e. n (omega arith) (omega arith))

-- An operation that goes through statements and speaks of nodes of one kind c, of those of statements, breaks and continues.
pub through_statements : {A : Type 0} (ns : List ℕ) → Tree ns → Shaped ns → (c : ℕ) → 4 ≤ c → c ≤ 19 → (x : ℕ → A → Bool)
    → Going ns (is_unit ns) (λ j. holds (kind_of ns j)) (λ j. (a : A) → only (eqb (kind_of ns j) c && x j a) j ≡ [])
through_statements ns t w c l m x = record {
  tree = t;
  root = rw t.root;
  shut = shut_unit ns;
  quiet = λ j z h e d. let q = quiet_kind ns t w j h e d in (quiet_holds (kind_of ns j) q, λ a. rw (quiet_is (kind_of ns j) c q l m));
}

-- The label among the parts of a node in the tree is the one that the table's search finds.
one_kind : (a b : ℕ) → within a b b ≡ eqb a b
one_kind a b = go (eqb a b) refl
  where
    other : (x : Bool) → within a b b ≡ x → eqb a b ≡ false → x ≡ false
    other true p q = let r = range_of a b b p in let lo = r.0 in let hi = r.1 in let n = eqb-false a b q in absurd (omega arith)
    other false p q = refl

    go : (x : Bool) → eqb a b ≡ x → within a b b ≡ x
    go true q = let z = eqb-true a b q in in_range_lem a b b (omega arith) (omega arith)
    go false q = other (within a b b) refl q

pub label_in_is : (ns : List ℕ) → Tree ns → (n : ℕ) → n < count ns → label_in ns (parts_of ns n) ≡ label_of ns n
unfolding label_in first_node is_child
label_in_is ns w n h =
    under (parts_of ns n) (parts_placed ns n h)
    ∙ sym (fold_parts_is {R = Option NodeId} (λ k r. cond (is_child ns n 33 33 6 6 k) (Some (record { 0 = k })) r) None ns w n (λ j r e. rw (ne_eqb (parent_of ns j) n e)) h)
  where
    under : (ts : Roses) → PlacedAll ns n ts
        → fold_parts {R = Option NodeId} (λ k r. cond (eqb (kind_of ns k) 33 && eqb (role_of ns k) 6) (Some (record { 0 = k })) r) None ts
        ≡ fold_parts {R = Option NodeId} (λ k r. cond (is_child ns n 33 33 6 6 k) (Some (record { 0 = k })) r) None ts
    under rnil p = refl
    under (rcons t ts) p = rw (eq-eqb (parent_of ns (idx t)) n p.0.up, one_kind (kind_of ns (idx t)) 33, one_kind (role_of ns (idx t)) 6, under ts p.2)
