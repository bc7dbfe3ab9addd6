-- What the checks of a break and of a label raise, by what is handed down to the statement.
use Rattle.check_diagnostics.specs.declared.Finding.{Finding}
use Rattle.table_records.specs.declared.NodeId.{NodeId}
use Prim.Native.Nat.{ℕ, zero, suc, ◌≤◌, ◌<◌}
use Rattle.std.specs.Prelude.{◌≡◌, Bool, ◌&&◌, ◌||◌, Option, Some, None}
use Rattle.std.proofs.Math.Path.{refl}
use Rattle.std.proofs.Math.Bool.{true, false, cond, not}
use mathlib.Core.List.{List, [], foldr}
use Rattle.std.proofs.Math.Dec.{eqb}
use borrow.Author.Tests.{eqb-true, eqb-false, lt-leb, le-leb}
use native.Mathlib.Omega.{arith}
use Rattle.base_common.specs.Tests.{within}
use Rattle.base_common.proofs.Bools.{in_range_lem, range_of}
use Rattle.base_walk.proofs.AboveLaws.{fold_root}
use Rattle.table_records.specs.Table.{kind_of, parent_of, count, ancestors}
use Rattle.table_records.specs.Facts.{Tree}
use Rattle.table_names.specs.Name.{same, name_of, has}
use Rattle.table_children.specs.Children.{label_of, when_found}
use Rattle.check_diagnostics.specs.Finding.{listed, error_at, error_between}
use Rattle.check_jumps.specs.Jumps.{walk_up, same_label, no_label, plain_break_at, labelled_break_at, labeled_at, check_break_statement, check_labeled_statement}
use Rattle.ecma_dispatch.specs.WithCode.{with_code}
use Rattle.ecma_dispatch.specs.NodesOf.{nodes_of}
use Rattle.ecma_trees.specs.Walk.{only}
use Rattle.ecma_trees.specs.Unit.{home_of}
use Rattle.ecma_labels.specs.Labels.{is_iteration, is_unit, unlabelled, contains, lacks, adding}
use Rattle.ecma_labels.specs.Breaches.{label_at, labels_down, label_set_at, breakable_down, in_breakable}
use Rattle.ecma_labels.specs.Changed.{in_program}
use Rattle.ecma_labels.proofs.ShapeLaws.{label_in_is, not_unit}
use Rattle.ecma_labels.proofs.AgreeLaws.{units_agree}

module _ (ns names : List ℕ) (t : Tree ns) where
  pub root_unit : is_unit ns 0 ≡ true
  root_unit = rw t.root

  -- a Labeled with the label that is sought, by the label that it has
  unfoldable pub same_by : Bool → Option NodeId → ℕ → Option NodeId
  same_by b L l = cond b (when_found L (λ m. cond (same (name_of ns names m) (name_of ns names l)) (Some (record { 0 = m })) None) None) None

  -- BREAK WITHOUT A LABEL
  module _ (n : ℕ) where
    plain_step : (b s : Bool) (r : Option Finding) → r ≡ cond s None (error_at ns 18 n n 0) → cond b None r ≡ cond (cond b true s) None (error_at ns 18 n n 0)
    plain_step true s r e = refl
    plain_step false s r e = e

    pub plain_break_is : (j : ℕ) → 0 < j → j < count ns → walk_up ns (plain_break_at ns n) j ≡ cond (in_breakable ns names j) None (error_at ns 18 n n 0)
    unfolding walk_up plain_break_at in_breakable
    plain_break_is =
        units_agree ns t (is_unit ns) root_unit false (breakable_down ns names) (plain_break_at ns n) None (λ j h s r. r ≡ cond s None (error_at ns 18 n n 0))
        (λ j z h x. rw x)
        (λ j z h x u s r e. rw x (plain_step (is_iteration (kind_of ns (parent_of ns j)) || eqb (kind_of ns (parent_of ns j)) 14) s r e))

  -- BREAK WITH A LABEL
  module _ (n l : ℕ) where
    label_step : (b : Bool) (L : Option NodeId) (S : List (List ℕ)) (E r : Option Finding) → r ≡ cond (has S (name_of ns names l)) None E
        → when_found (same_by b L l) (λ m. None) r ≡ cond (has (cond b (adding ns names S L) S) (name_of ns names l)) None E
    unfolding same_by
    label_step true (Some m) S E r e = go (same (name_of ns names m.0) (name_of ns names l))
      where
        go : (x : Bool) → when_found (cond x (Some (record { 0 = m.0 })) None) (λ m. None) r ≡ cond (x || has S (name_of ns names l)) None E
        go true = refl
        go false = e
    label_step true None S E r e = e
    label_step false L S E r e = e

    pub labelled_break_is : (j : ℕ) → 0 < j → j < count ns
        → walk_up ns (labelled_break_at ns names n l) j ≡ cond (has (label_set_at ns names j) (name_of ns names l)) None (no_label ns n l (kind_of ns (home_of ns (is_unit ns) j)))
    unfolding walk_up labelled_break_at label_set_at same_label same_by
    labelled_break_is =
        units_agree ns t (is_unit ns) root_unit [] (labels_down ns names) (labelled_break_at ns names n l) None
        (λ j h S r. r ≡ cond (has S (name_of ns names l)) None (no_label ns n l (kind_of ns h)))
        (λ j z h x. rw x)
        (λ j z h x u S r e.
        let p = t.falls j z h in
        rw (x, label_in_is ns t (parent_of ns j) (omega arith)) (label_step (eqb (kind_of ns (parent_of ns j)) 6) (label_of ns (parent_of ns j)) S (no_label ns n l (kind_of ns u)) r e))

  -- what a break raises
  abbrev pub break_by : ℕ → Option NodeId → List (List ℕ) → Bool → Bool → Option Finding
  break_by n L S p b = when_found L (λ l. cond (has S (name_of ns names l)) None (cond p (error_at ns 19 n l 0) (error_at ns 20 n l 0))) (cond b None (error_at ns 18 n n 0))

  pub break_is : (n : ℕ) → 0 < n → n < count ns → check_break_statement ns names n ≡ break_by n (label_at ns names n) (label_set_at ns names n) (in_program ns names n) (in_breakable ns names n)
  unfolding no_label
  break_is n z h = rw (label_in_is ns t n h) (go (label_of ns n))
    where
      go : (L : Option NodeId)
          → when_found L (λ l. walk_up ns (labelled_break_at ns names n l) n) (walk_up ns (plain_break_at ns n) n)
          ≡ break_by n L (label_set_at ns names n) (in_program ns names n) (in_breakable ns names n)
      go (Some l) = labelled_break_is n l.0 n z h
      go None = plain_break_is n n z h

  -- with each code
  module _ (n : ℕ) where
    pub break18 : (L : Option NodeId) (S : List (List ℕ)) (p b : Bool) → nodes_of (with_code 18 (listed (break_by n L S p b))) ≡ only (unlabelled L && not b) n
    unfolding nodes_of with_code
    break18 (Some l) S p b = go (has S (name_of ns names l.0)) p
      where
        go : (x p : Bool) → nodes_of (with_code 18 (listed (cond x None (cond p (error_at ns 19 n l.0 0) (error_at ns 20 n l.0 0))))) ≡ []
        go true p = refl
        go false true = refl
        go false false = refl
    break18 None S p true = refl
    break18 None S p false = refl

    pub break19 : (L : Option NodeId) (S : List (List ℕ)) (p b : Bool) → nodes_of (with_code 19 (listed (break_by n L S p b))) ≡ only (lacks ns names S L && p) n
    unfolding nodes_of with_code
    break19 (Some l) S p b = go (has S (name_of ns names l.0)) p
      where
        go : (x p : Bool) → nodes_of (with_code 19 (listed (cond x None (cond p (error_at ns 19 n l.0 0) (error_at ns 20 n l.0 0))))) ≡ only (not x && p) n
        go true p = refl
        go false true = refl
        go false false = refl
    break19 None S p true = refl
    break19 None S p false = refl

    pub break20 : (L : Option NodeId) (S : List (List ℕ)) (p b : Bool) → nodes_of (with_code 20 (listed (break_by n L S p b))) ≡ only (lacks ns names S L && not p) n
    unfolding nodes_of with_code
    break20 (Some l) S p b = go (has S (name_of ns names l.0)) p
      where
        go : (x p : Bool) → nodes_of (with_code 20 (listed (cond x None (cond p (error_at ns 19 n l.0 0) (error_at ns 20 n l.0 0))))) ≡ only (not x && not p) n
        go true p = refl
        go false true = refl
        go false false = refl
    break20 None S p true = refl
    break20 None S p false = refl

  -- A LABEL TWICE
  module _ (n l : ℕ) where
    twice_step : (b : Bool) (L : Option NodeId) (S : List (List ℕ)) (r : Option Finding) → nodes_of (listed r) ≡ only (has S (name_of ns names l)) n
        → nodes_of (listed (when_found (same_by b L l) (λ m. error_between ns 23 n m l) r)) ≡ only (has (cond b (adding ns names S L) S) (name_of ns names l)) n
    unfolding same_by nodes_of
    twice_step true (Some m) S r e = go (same (name_of ns names m.0) (name_of ns names l))
      where
        go : (x : Bool) → nodes_of (listed (when_found (cond x (Some (record { 0 = m.0 })) None) (λ m. error_between ns 23 n m l) r)) ≡ only (x || has S (name_of ns names l)) n
        go true = refl
        go false = e
    twice_step true None S r e = e
    twice_step false L S r e = e

    -- below a unit: a boundary, or the program, above which there is nothing
    twice_first : (p : ℕ) → p < count ns → is_unit ns p ≡ true → nodes_of (listed (labeled_at ns names n l p (foldr (labeled_at ns names n l) None (ancestors ns p)))) ≡ []
    unfolding labeled_at same_label nodes_of
    twice_first p h x = go (eqb p 0) refl
      where
        go : (b : Bool) → eqb p 0 ≡ b → nodes_of (listed (labeled_at ns names n l p (foldr (labeled_at ns names n l) None (ancestors ns p)))) ≡ []
        go true q = rw (eqb-true p 0 q, t.root, fold_root (labeled_at ns names n l) None (parent_of ns))
        go false q =
            let z = eqb-false p 0 q in
            let k = t.inner p (omega arith) h in
            let y = (range_of (kind_of ns p) 0 3 x).1 in
            let w : within (kind_of ns p) 1 3 ≡ true = in_range_lem (kind_of ns p) 1 3 (positive (kind_of ns p) k) y in
            rw w
          where
            positive : (i : ℕ) → (i ≡ 0 → ⊥) → 1 ≤ i
            positive zero k = absurd (k refl)
            positive (suc i) k = omega arith

    pub twice_is : (j : ℕ) → 0 < j → j < count ns → nodes_of (listed (walk_up ns (labeled_at ns names n l) j)) ≡ only (has (label_set_at ns names j) (name_of ns names l)) n
    unfolding walk_up label_set_at labeled_at same_label same_by
    twice_is =
        units_agree ns t (is_unit ns) root_unit [] (labels_down ns names) (labeled_at ns names n l) None (λ j h S r. nodes_of (listed r) ≡ only (has S (name_of ns names l)) n)
        (λ j z h x. let p = t.falls j z h in twice_first (parent_of ns j) (omega arith) x)
        (λ j z h x u S r e.
        let p = t.falls j z h in
        let k = not_unit (kind_of ns (parent_of ns j)) x in
        let w : within (kind_of ns (parent_of ns j)) 1 3 ≡ false = outside (kind_of ns (parent_of ns j)) k in
        rw (w, label_in_is ns t (parent_of ns j) (omega arith)) (twice_step (eqb (kind_of ns (parent_of ns j)) 6) (label_of ns (parent_of ns j)) S r e))
      where
        outside : (i : ℕ) → 4 ≤ i → within i 1 3 ≡ false
        outside i h = rw (lt-leb i 3 (omega arith), le-leb 1 i (omega arith))

  pub label_is : (n : ℕ) → 0 < n → n < count ns → nodes_of (listed (check_labeled_statement ns names n)) ≡ only (contains ns names (label_set_at ns names n) (label_at ns names n)) n
  unfolding nodes_of
  label_is n z h = rw (label_in_is ns t n h) (go (label_of ns n))
    where
      go : (L : Option NodeId) → nodes_of (listed (when_found L (λ l. walk_up ns (labeled_at ns names n l) n) None)) ≡ only (contains ns names (label_set_at ns names n) L) n
      go (Some l) = twice_is n l.0 n z h
      go None = refl
