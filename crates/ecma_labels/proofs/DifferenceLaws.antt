-- The changed rules beside the standard's: how the codes add up to them, and where both agree.
use Rattle.table_records.specs.declared.NodeId.{NodeId}
use Prim.Native.Nat.{ℕ, zero, suc, ◌+◌, ◌≤◌, ◌<◌}
use Rattle.std.specs.Prelude.{◌≡◌, Bool, ◌&&◌, ◌||◌, ◌⊎◌, Option, Some, None}
use Rattle.std.proofs.Math.Path.{refl, sym, ap, subst}
use Rattle.std.proofs.Common.{◌∙◌, true≢false, eq-or-lt_of_le, arith}
use Rattle.std.proofs.Math.Bool.{true, false, cond, not}
use mathlib.Core.List.{List, [], ◌++◌}
use Rattle.std.proofs.Math.Logic.{⊎_elim}
use Rattle.std.proofs.Math.Dec.{eqb}
use borrow.Author.Tests.{eqb-true, eq-eqb}
use Rattle.base_common.specs.Tests.{within}
use Rattle.base_common.proofs.UptoLaws.{and_left_lem}
use Rattle.base_common.proofs.Bools.{in_range_lem}
use Rattle.base_walk.proofs.AboveLaws.{fold_up}
use Rattle.table_records.specs.Table.{kind_of, parent_of, count}
use Rattle.table_records.specs.Facts.{Tree}
use Rattle.table_names.specs.Name.{same, name_of, has}
use Rattle.table_names.proofs.NameLaws.{same_eq}
use Rattle.table_children.specs.Children.{label_of}
use Rattle.refusal_input.specs.WellFormed.{Shaped}
use Rattle.check_dispatch.specs.Findings.{findings_at}
use Rattle.ecma_dispatch.specs.NodesOf.{raised}
use Rattle.ecma_trees.specs.Rose.{parts_of}
use Rattle.ecma_trees.specs.Walk.{some, only}
use Rattle.ecma_trees.proofs.WalkLaws.{folds_agree, some_each}
use Rattle.ecma_trees.specs.Unit.{home_of, in_unit}
use Rattle.ecma_trees.proofs.UnitLaws.{home_before}
use Rattle.ecma_labels.specs.Labels.{is_iteration, is_unit, unlabelled, contains, lacks, adding, any_duplicate_labels}
use Rattle.ecma_labels.specs.Breaches.{label_at, labels_down, label_set_at, sets_down, sets_at, loop_down, in_loop, duplicate_label_at, undefined_break_at, undefined_continue_at, continue_not_nested_at}
use Rattle.ecma_labels.specs.Changed.{without, hiding, nearest_down, nearest_at, undefined_nearest_at, plain_continue_not_nested_at, no_label_at, no_loop_at, in_program}
use Rattle.ecma_labels.proofs.ShapeLaws.{label_in_is}
use Rattle.ecma_labels.specs.Findings.{in_unit_of}
use Rattle.ecma_labels.proofs.BreachLaws.{duplicate_some}
use Rattle.ecma_labels.proofs.ContinueLaws.{is_clear, went_is, no_clear, without_self, without_other, has_append}
use Rattle.ecma_labels.proofs.CodeLaws.{later, neither, clear_at, code19, code20, code22}

module _ (ns names : List ℕ) (t : Tree ns) where
  -- 8.3.2 AND THE CHANGED 8.3.3: a break or continue that breaks them has one finding, 19, 20 or 22
  module _ (w : Shaped ns) where
    -- where the label set lacks a label, so does the iteration set
    fewer : (n l : ℕ) → n < count ns → kind_of ns n ≡ 19 → has (label_set_at ns names n) (name_of ns names l) ≡ false → has (nearest_at ns names n).0 (name_of ns names l) ≡ false
    fewer n l h k e =
        let q = (went_is ns names t n l n (later ns names t n 18 k) h).0 e in
        sym (clear_at ns names t w n l h k) ∙ ap (λ r. is_clear r) q ∙ no_clear ns names t n l (kind_of ns (home_of ns (is_unit ns) n))

    module _ (source_type : ℕ) (ss source : List ℕ) where
      of_break : (j : ℕ) (s p : Bool) → only (s && p) j ++ (only (s && not p) j ++ []) ≡ only (s || false) j
      of_break j true true = refl
      of_break j true false = refl
      of_break j false p = refl

      of_continue : (j : ℕ) (x i p : Bool) → (x ≡ false → i ≡ false) → only (not x && p) j ++ (only (not x && not p) j ++ only (not i && x) j) ≡ only (not i) j
      of_continue j true true p e = refl
      of_continue j true false p e = refl
      of_continue j false true p e = absurd (true≢false (e refl))
      of_continue j false false true e = refl
      of_continue j false false false e = refl

      pub targets : (j : ℕ) → j < count ns
          → raised 19 (findings_at source_type ns ss source names j) ++ (raised 20 (findings_at source_type ns ss source names j) ++ raised 22 (findings_at source_type ns ss source names j))
          ≡ only (undefined_break_at ns names j || undefined_nearest_at ns names j) j
      unfolding no_label_at no_loop_at undefined_break_at undefined_nearest_at
      targets j h =
          rw (code19 ns names t source_type ss source j h, code20 ns names t source_type ss source j h, code22 ns names t source_type ss source w j h, label_in_is ns t j h)
          (go (eqb (kind_of ns j) 18) refl (eqb (kind_of ns j) 19) refl (label_of ns j))
        where
          go : (b : Bool) → eqb (kind_of ns j) 18 ≡ b → (c : Bool) → eqb (kind_of ns j) 19 ≡ c → (L : Option NodeId)
              → only ((within (kind_of ns j) 18 19 && lacks ns names (label_set_at ns names j) L) && in_program ns names j) j
              ++ (only ((within (kind_of ns j) 18 19 && lacks ns names (label_set_at ns names j) L) && not (in_program ns names j)) j
              ++ only ((c && lacks ns names (nearest_at ns names j).0 L) && contains ns names (label_set_at ns names j) L) j)
              ≡ only ((b && lacks ns names (label_set_at ns names j) L) || (c && lacks ns names (nearest_at ns names j).0 L)) j
          go true q true r L = let k = eqb-true (kind_of ns j) 18 q in let m = eqb-true (kind_of ns j) 19 r in absurd (omega arith)
          go true q false r L =
              let k = eqb-true (kind_of ns j) 18 q in
              rw (in_range_lem (kind_of ns j) 18 19 (omega arith) (omega arith)) (of_break j (lacks ns names (label_set_at ns names j) L) (in_program ns names j))
          go false q true r (Some l) =
              let k = eqb-true (kind_of ns j) 19 r in
              rw (in_range_lem (kind_of ns j) 18 19 (omega arith) (omega arith))
              (of_continue j (has (label_set_at ns names j) (name_of ns names l.0)) (has (nearest_at ns names j).0 (name_of ns names l.0)) (in_program ns names j) (fewer j l.0 h k))
          go false q true r None =
              let k = eqb-true (kind_of ns j) 19 r in
              rw (in_range_lem (kind_of ns j) 18 19 (omega arith) (omega arith)) refl
          go false q false r L = rw (neither (kind_of ns j) q r) refl

  -- the sets of 8.3.3, by the tests of a node
  abbrev sets_by : Bool → Bool → Bool → Option NodeId → List (List ℕ) × List (List ℕ) → List (List ℕ) × List (List ℕ)
  sets_by p b v L s = cond p ([], []) (cond b (s.0, adding ns names s.1 L) (cond v (s.0 ++ s.1, []) (s.0, [])))

  abbrev near_by : Bool → Bool → Option NodeId → List (List ℕ) × List (List ℕ) → List (List ℕ) × List (List ℕ)
  near_by b v L s = cond b (hiding ns names s.0 L, adding ns names s.1 L) (cond v (s.0 ++ s.1, []) (s.0, []))

  -- 14.8.1: A LABELLED CONTINUE THAT IS NOT NESTED IN A LOOP BREAKS 8.3.3 TOO
  not_in : (p b v nested : Bool) (L : Option NodeId) (s : List (List ℕ) × List (List ℕ)) → (b ≡ true → v ≡ false) → (nested ≡ false → s.0 ≡ [])
      → cond p false (cond v true nested) ≡ false → (sets_by p b v L s).0 ≡ []
  not_in true b v nested L s k e q = refl
  not_in false true true nested L s k e q = absurd (true≢false (k refl))
  not_in false true false nested L s k e q = e q
  not_in false false true nested L s k e q = absurd (true≢false q)
  not_in false false false nested L s k e q = e q

  out_of_loops : (j : ℕ) → j < count ns → in_loop ns names j ≡ false → (sets_at ns names j).0 ≡ []
  unfolding in_loop sets_at
  out_of_loops =
      folds_agree (λ s nested. nested ≡ false → s.0 ≡ []) (in_unit (is_unit ns) ([], []) (sets_down ns names)) ([], []) (in_unit (is_unit ns) false (loop_down ns names)) false ns t (λ q. refl)
      (λ a h s nested e q. not_in (is_unit ns a) (eqb (kind_of ns a) 6) (is_iteration (kind_of ns a)) nested (label_at ns names a) s (λ x. rw (eqb-true (kind_of ns a) 6 x)) e q)

  -- so with 8.3.3 beside it the rule for `continue ;` alone is the rule for both forms
  pub not_nested : (j : ℕ) → j < count ns → (continue_not_nested_at ns names j || undefined_continue_at ns names j) ≡ (plain_continue_not_nested_at ns names j || undefined_continue_at ns names j)
  unfolding continue_not_nested_at plain_continue_not_nested_at undefined_continue_at
  not_nested j h = go (eqb (kind_of ns j) 19) (label_at ns names j) (in_loop ns names j) refl
    where
      go : (c : Bool) (L : Option NodeId) (b : Bool) → in_loop ns names j ≡ b
          → ((c && not b) || (c && lacks ns names (sets_at ns names j).0 L)) ≡ ((c && (unlabelled L && not b)) || (c && lacks ns names (sets_at ns names j).0 L))
      go false L b q = refl
      go true None b q = refl
      go true (Some l) true q = refl
      go true (Some l) false q = rw (out_of_loops j h q)

  -- the two rules agree at a continue without a label
  pub plain_same : (j : ℕ) → unlabelled (label_at ns names j) ≡ true → continue_not_nested_at ns names j ≡ plain_continue_not_nested_at ns names j
  unfolding continue_not_nested_at plain_continue_not_nested_at
  plain_same j e = rw e

  -- 8.3.3: WHERE NO LABEL OF THE UNIT STANDS WITHIN ITSELF, THE NEAREST LABEL IS THE ONLY ONE
  -- the sets of 8.3.3 hold no more than the label set of 8.3.1
  smaller : (y : List ℕ) (p b v : Bool) (L : Option NodeId) (s : List (List ℕ) × List (List ℕ)) (S : List (List ℕ)) → (has S y ≡ false → (has s.0 y ≡ false) × (has s.1 y ≡ false))
      → has (cond p [] (cond b (adding ns names S L) S)) y ≡ false → (has (sets_by p b v L s).0 y ≡ false) × (has (sets_by p b v L s).1 y ≡ false)
  smaller y true b v L s S e h = (refl, refl)
  smaller y false true v (Some m) s S e h = go (same (name_of ns names m.0) y) h
    where
      go : (x : Bool) → (x || has S y) ≡ false → (has s.0 y ≡ false) × ((x || has s.1 y) ≡ false)
      go true z = absurd (true≢false z)
      go false z = e z
  smaller y false true v None s S e h = e h
  smaller y false false true L s S e h = (has_append s.0 s.1 y ∙ rw ((e h).0, (e h).1), refl)
  smaller y false false false L s S e h = ((e h).0, refl)

  sets_small : (y : List ℕ) (j : ℕ) → j < count ns → has (label_set_at ns names j) y ≡ false → (has (sets_at ns names j).0 y ≡ false) × (has (sets_at ns names j).1 y ≡ false)
  unfolding label_set_at sets_at
  sets_small y =
      folds_agree (λ s S. has S y ≡ false → (has s.0 y ≡ false) × (has s.1 y ≡ false)) (in_unit (is_unit ns) ([], []) (sets_down ns names)) ([], [])
      (in_unit (is_unit ns) [] (labels_down ns names)) [] ns t (λ q. (refl, refl))
      (λ a h s S e. smaller y (is_unit ns a) (eqb (kind_of ns a) 6) (is_iteration (kind_of ns a)) (label_at ns names a) s S e)

  module _ (u : ℕ) (once : (a : ℕ) → a < count ns → home_of ns (is_unit ns) a ≡ u → duplicate_label_at ns names a ≡ false) where
    same_step : (y : List ℕ) (b v : Bool) (L : Option NodeId) (s r : List (List ℕ) × List (List ℕ)) → (b ≡ true → contains ns names s.0 L ≡ false)
        → (has s.0 y ≡ has r.0 y) × (has s.1 y ≡ has r.1 y)
        → (has (sets_by false b v L s).0 y ≡ has (near_by b v L r).0 y) × (has (sets_by false b v L s).1 y ≡ has (near_by b v L r).1 y)
    same_step y true v (Some m) s r o e = (go (same (name_of ns names m.0) y) refl, ap (λ x. same (name_of ns names m.0) y || x) e.1)
      where
        go : (x : Bool) → same (name_of ns names m.0) y ≡ x → has s.0 y ≡ has (without r.0 (name_of ns names m.0)) y
        go true z =
            let q : name_of ns names m.0 ≡ y = same_eq (name_of ns names m.0) y z in
            ap (has s.0) (sym q) ∙ o refl ∙ sym (ap (has (without r.0 (name_of ns names m.0))) (sym q) ∙ without_self r.0 (name_of ns names m.0))
        go false z = e.0 ∙ sym (without_other r.0 (name_of ns names m.0) y z)
    same_step y true v None s r o e = e
    same_step y false true L s r o e = (has_append s.0 s.1 y ∙ rw (e.0, e.1) (sym (has_append r.0 r.1 y)), refl)
    same_step y false false L s r o e = (e.0, refl)

    -- no label of the unit is in the iteration set where it stands
    once_at : (a : ℕ) → a < count ns → home_of ns (is_unit ns) a ≡ u → eqb (kind_of ns a) 6 ≡ true → contains ns names (sets_at ns names a).0 (label_at ns names a) ≡ false
    unfolding duplicate_label_at
    once_at a h e k = go (label_at ns names a) (sym (rw k) ∙ once a h e)
      where
        go : (L : Option NodeId) → contains ns names (label_set_at ns names a) L ≡ false → contains ns names (sets_at ns names a).0 L ≡ false
        go (Some m) q = (sets_small (name_of ns names m.0) a h q).0
        go None q = refl

    same_by : (k j : ℕ) → j ≤ k → 0 < j → j < count ns → home_of ns (is_unit ns) j ≡ u → (y : List ℕ)
        → (has (sets_at ns names j).0 y ≡ has (nearest_at ns names j).0 y) × (has (sets_at ns names j).1 y ≡ has (nearest_at ns names j).1 y)
    unfolding sets_at nearest_at
    same_by zero j l z h e y = absurd (omega arith)
    same_by (suc k) j l z h e y =
        let p = t.falls j z h in
        let home : home_of ns (is_unit ns) j ≡ cond (is_unit ns (parent_of ns j)) (parent_of ns j) (home_of ns (is_unit ns) (parent_of ns j))
        = fold_up (λ a r. cond (is_unit ns a) a r) 0 (parent_of ns) (count ns) t.falls j z h in
        rw (
          fold_up (in_unit (is_unit ns) ([], []) (sets_down ns names)) ([], []) (parent_of ns) (count ns) t.falls j z h,
          fold_up (in_unit (is_unit ns) ([], []) (nearest_down ns names)) ([], []) (parent_of ns) (count ns) t.falls j z h,
        )
        (by (is_unit ns (parent_of ns j)) refl
        (λ x. once_at (parent_of ns j) (omega arith) (sym (home ∙ rw x) ∙ e))
        (λ x. same_by k (parent_of ns j) (omega arith) (inner (parent_of ns j) x) (omega arith) (sym (home ∙ rw x) ∙ e) y))
      where
        inner : (i : ℕ) → is_unit ns i ≡ false → 0 < i
        inner i x = ⊎_elim (λ (q : 0 ≡ i). absurd (true≢false (sym (rw t.root) ∙ subst (λ a. is_unit ns a ≡ false) (sym q) x))) (λ (q : 0 < i). q) (eq-or-lt_of_le (omega arith))

        by : (b : Bool) → is_unit ns (parent_of ns j) ≡ b
            → (is_unit ns (parent_of ns j) ≡ false → eqb (kind_of ns (parent_of ns j)) 6 ≡ true → contains ns names (sets_at ns names (parent_of ns j)).0 (label_at ns names (parent_of ns j)) ≡ false)
            → (is_unit ns (parent_of ns j) ≡ false → (has (sets_at ns names (parent_of ns j)).0 y ≡ has (nearest_at ns names (parent_of ns j)).0 y) × (has (sets_at ns names (parent_of ns j)).1 y ≡ has (nearest_at ns names (parent_of ns j)).1 y))
            → (has (cond b ([], []) (sets_down ns names (parent_of ns j) (sets_at ns names (parent_of ns j)))).0 y ≡ has (cond b ([], []) (nearest_down ns names (parent_of ns j) (nearest_at ns names (parent_of ns j)))).0 y)
            × (has (cond b ([], []) (sets_down ns names (parent_of ns j) (sets_at ns names (parent_of ns j)))).1 y ≡ has (cond b ([], []) (nearest_down ns names (parent_of ns j) (nearest_at ns names (parent_of ns j)))).1 y)
        by true x o ih = (refl, refl)
        by false x o ih =
            same_step y (eqb (kind_of ns (parent_of ns j)) 6) (is_iteration (kind_of ns (parent_of ns j))) (label_at ns names (parent_of ns j)) (sets_at ns names (parent_of ns j)) (nearest_at ns names (parent_of ns j)) (o x) (ih x)

    pub nearest_same : (j : ℕ) → j < count ns → home_of ns (is_unit ns) j ≡ u → undefined_continue_at ns names j ≡ undefined_nearest_at ns names j
    unfolding undefined_continue_at undefined_nearest_at
    nearest_same j h e = go (eqb (kind_of ns j) 19) refl (label_at ns names j)
      where
        go : (b : Bool) → eqb (kind_of ns j) 19 ≡ b → (L : Option NodeId) → (b && lacks ns names (sets_at ns names j).0 L) ≡ (b && lacks ns names (nearest_at ns names j).0 L)
        go false q L = refl
        go true q (Some l) = ap not (same_by j j (omega arith) (later ns names t j 18 (eqb-true (kind_of ns j) 19 q)) h e (name_of ns names l.0)).0
        go true q None = refl

  -- what 8.3.1 says of a unit, at each of its nodes
  module _ (w : Shaped ns) where
    pub once_if : (u : ℕ) → u < count ns → is_unit ns u ≡ true → any_duplicate_labels ns names (parts_of ns u) [] ≡ false
        → (a : ℕ) → a < count ns → home_of ns (is_unit ns) a ≡ u → duplicate_label_at ns names a ≡ false
    unfolding duplicate_label_at
    once_if u c x e a h g = go (duplicate_label_at ns names a) refl
      where
        go : (b : Bool) → duplicate_label_at ns names a ≡ b → b ≡ false
        go false q = refl
        go true q =
            let k : eqb (kind_of ns a) 6 ≡ true = and_left_lem (eqb (kind_of ns a) 6) (contains ns names (label_set_at ns names a) (label_at ns names a)) q in
            let z = home_before ns (is_unit ns) t a (later ns names t a 5 (eqb-true (kind_of ns a) 6 k)) h in
            let s : some (in_unit_of ns (duplicate_label_at ns names) u a) ≡ true = rw (eq-eqb (home_of ns (is_unit ns) a) u g, q) in
            sym ((some_each (in_unit_of ns (duplicate_label_at ns names) u) (u + 1) (count ns)).1 (record { at = a; low = omega arith; high = h; does = s }))
            ∙ sym (duplicate_some ns names t w u c x) ∙ e

    -- In a unit in which 8.3.1 finds nothing, the standard's 8.3.3 and the changed one are broken at the same nodes.
    pub off_duplicates : (u : ℕ) → u < count ns → is_unit ns u ≡ true → any_duplicate_labels ns names (parts_of ns u) [] ≡ false
        → (j : ℕ) → j < count ns → home_of ns (is_unit ns) j ≡ u → undefined_continue_at ns names j ≡ undefined_nearest_at ns names j
    off_duplicates u c x e = nearest_same u (once_if u c x e)
