-- What the check of a continue raises, by what is handed down to the statement.
use Rattle.check_diagnostics.specs.declared.Finding.{Finding}
use Rattle.table_records.specs.declared.NodeId.{NodeId}
use Rattle.std.specs.Prelude.{ℕ, ◌+◌, ◌≤◌, ◌<◌, ◌≡◌, Bool, ◌&&◌, ◌||◌, ◌⊎◌, eqb, Option, Some, None}
use Rattle.std.proofs.Math.Path.{refl, ap}
use Rattle.std.proofs.Common.{sym, ◌∙◌, true≢false, eqb-true, arith}
use Rattle.std.proofs.Math.Bool.{true, false, cond}
use mathlib.Core.List.{List, [], ◌∷◌, ◌++◌}
use Rattle.std.proofs.Math.Logic.{inl, inr}
use Rattle.std.proofs.lemmas.Bool.{eqb-false}
use Rattle.table_records.specs.Table.{kind_of, parent_of, count}
use Rattle.table_records.specs.Facts.{Tree}
use Rattle.table_names.specs.Name.{same, name_of, has}
use Rattle.table_names.proofs.NameLaws.{same_eq}
use Rattle.table_children.specs.Children.{label_of, when_found}
use Rattle.refusal_input.specs.WellFormed.{Shaped}
use Rattle.check_diagnostics.specs.Finding.{error_at, error_between}
use Rattle.check_jumps.specs.Jumps.{walk_up, same_label, no_label, labeled_item, continue_to, plain_continue_at, labelled_continue_at}
use Rattle.check_jumps.proofs.JumpsLaws.{item_here, item_down}
use Rattle.ecma_trees.specs.Unit.{home_of}
use Rattle.ecma_labels.specs.Labels.{is_iteration, is_unit, adding}
use Rattle.ecma_labels.specs.Breaches.{labels_down, label_set_at, loop_down, in_loop}
use Rattle.ecma_labels.specs.Changed.{without, hiding, nearest_down, nearest_at}
use Rattle.ecma_labels.proofs.ShapeLaws.{label_in_is, not_unit, stands, held_is}
use Rattle.ecma_labels.proofs.AgreeLaws.{units_agree}
use Rattle.ecma_labels.proofs.BreakLaws.{root_unit, same_by}

-- sets of labels
pub has_append : (S T : List (List ℕ)) (x : List ℕ) → has (S ++ T) x ≡ (has S x || has T x)
has_append [] T x = refl
has_append (y ∷ S) T x = rw (has_append S T x) (go (same y x))
  where
    go : (b : Bool) → (b || (has S x || has T x)) ≡ ((b || has S x) || has T x)
    go true = refl
    go false = refl

pub without_self : (S : List (List ℕ)) (x : List ℕ) → has (without S x) x ≡ false
unfolding without
without_self [] x = refl
without_self (y ∷ S) x = go (same y x) refl (without_self S x)
  where
    go : (b : Bool) → same y x ≡ b → has (without S x) x ≡ false → has (cond b (without S x) (y ∷ without S x)) x ≡ false
    go true e h = h
    go false e h = rw (e, h)

pub without_other : (S : List (List ℕ)) (x y : List ℕ) → same x y ≡ false → has (without S x) y ≡ has S y
unfolding without
without_other [] x y n = refl
without_other (z ∷ S) x y n = go (same z x) refl (without_other S x y n)
  where
    go : (b : Bool) → same z x ≡ b → has (without S x) y ≡ has S y → has (cond b (without S x) (z ∷ without S x)) y ≡ (same z y || has S y)
    go true e h = h ∙ ap (λ b. b || has S y) (sym (ap (λ u. same u y) (same_eq z x e) ∙ n))
    go false e h = ap (λ b. same z y || b) h

or_false : (b : Bool) → (b || false) ≡ b
or_false true = refl
or_false false = refl

and_false : (b : Bool) → (b && false) ≡ false
and_false true = refl
and_false false = refl

and_true : (b : Bool) → (b && true) ≡ b
and_true true = refl
and_true false = refl

abbrev pub is_clear : Option Finding → Bool
is_clear (Some f) = false
is_clear None = true

-- a statement is, or labels, an iteration statement
abbrev pub loopy : List ℕ → ℕ → Bool
loopy ns j = is_iteration (kind_of ns (labeled_item ns j))

module _ (ns names : List ℕ) (t : Tree ns) where
  -- CONTINUE WITHOUT A LABEL
  module _ (n : ℕ) where
    plain_step : (b s : Bool) (r : Option Finding) → r ≡ cond s None (error_at ns 21 n n 0) → cond b None r ≡ cond (cond b true s) None (error_at ns 21 n n 0)
    plain_step true s r e = refl
    plain_step false s r e = e

    pub plain_continue_is : (j : ℕ) → 0 < j → j < count ns → walk_up ns (plain_continue_at ns n) j ≡ cond (in_loop ns names j) None (error_at ns 21 n n 0)
    unfolding walk_up plain_continue_at in_loop
    plain_continue_is =
        units_agree ns t (is_unit ns) (root_unit ns names t) false (loop_down ns names) (plain_continue_at ns n) None (λ j h s r. r ≡ cond s None (error_at ns 21 n n 0))
        (λ j z h x. rw x)
        (λ j z h x u s r e. rw x (plain_step (is_iteration (kind_of ns (parent_of ns j))) s r e))

  -- what is handed down, by the tests
  abbrev nearest_by : Bool → Bool → Option NodeId → List (List ℕ) × List (List ℕ) → List (List ℕ) × List (List ℕ)
  nearest_by b v L s = cond b (hiding ns names s.0 L, adding ns names s.1 L) (cond v (s.0 ++ s.1, []) (s.0, []))

  -- CONTINUE WITH A LABEL
  module _ (n l : ℕ) where
    -- no label, or one: then nothing is raised, or 22
    abbrev pub Went : ℕ → List (List ℕ) → Option Finding → Type 0
    Went h S r =
        (has S (name_of ns names l) ≡ false → r ≡ no_label ns n l (kind_of ns h))
        × (has S (name_of ns names l) ≡ true → (r ≡ None) ⊎ ((m : ℕ) × (r ≡ error_between ns 22 n m l)))

    went_step : (a h : ℕ) (b : Bool) (L : Option NodeId) (S : List (List ℕ)) (r : Option Finding) → Went h S r → Went h (cond b (adding ns names S L) S) (when_found (same_by ns names t b L l) (λ m. continue_to ns n l a m) r)
    unfolding same_by continue_to
    went_step a h true (Some m) S r e = go (same (name_of ns names m.0) (name_of ns names l))
      where
        to : (b : Bool) → (cond b None (error_between ns 22 n m.0 l) ≡ None) ⊎ ((k : ℕ) × (cond b None (error_between ns 22 n m.0 l) ≡ error_between ns 22 n k l))
        to true = inl refl
        to false = inr (m.0, refl)

        go : (x : Bool)
            → ((x || has S (name_of ns names l)) ≡ false → when_found (cond x (Some (record { 0 = m.0 })) None) (λ m. continue_to ns n l a m) r ≡ no_label ns n l (kind_of ns h))
            × ((x || has S (name_of ns names l)) ≡ true → (when_found (cond x (Some (record { 0 = m.0 })) None) (λ m. continue_to ns n l a m) r ≡ None)
            ⊎ ((k : ℕ) × (when_found (cond x (Some (record { 0 = m.0 })) None) (λ m. continue_to ns n l a m) r ≡ error_between ns 22 n k l)))
        go true = ((λ q. absurd (true≢false q)), λ q. to (loopy ns a))
        go false = e
    went_step a h true None S r e = e
    went_step a h false L S r e = e

    pub went_is : (j : ℕ) → 0 < j → j < count ns → Went (home_of ns (is_unit ns) j) (label_set_at ns names j) (walk_up ns (labelled_continue_at ns names n l) j)
    unfolding walk_up labelled_continue_at label_set_at same_label same_by
    went_is =
        units_agree ns t (is_unit ns) (root_unit ns names t) [] (labels_down ns names) (labelled_continue_at ns names n l) None (λ j h S r. Went h S r)
        (λ j z h x. rw x ((λ q. refl), λ q. absurd (true≢false (sym q))))
        (λ j z h x u S r e.
        let p = t.falls j z h in
        rw (x, label_in_is ns t (parent_of ns j) (omega arith)) (went_step (parent_of ns j) u (eqb (kind_of ns (parent_of ns j)) 6) (label_of ns (parent_of ns j)) S r e))

    pub no_clear : (kind : ℕ) → is_clear (no_label ns n l kind) ≡ false
    unfolding no_label
    no_clear kind = go (eqb kind 0)
      where
        go : (b : Bool) → is_clear (cond b (error_at ns 19 n l 0) (error_at ns 20 n l 0)) ≡ false
        go true = refl
        go false = refl

    -- one step up: hj, the node is or labels a loop; what is above it is a Labeled (b), a loop (v) or neither
    clear_step : (a : ℕ) (b v hj : Bool) (L : Option NodeId) (s : List (List ℕ) × List (List ℕ)) (r : Option Finding) → (b ≡ true → loopy ns a ≡ hj)
        → is_clear r ≡ (has s.0 (name_of ns names l) || (has s.1 (name_of ns names l) && cond b hj v))
        → is_clear (when_found (same_by ns names t b L l) (λ m. continue_to ns n l a m) r)
        ≡ (has (nearest_by b v L s).0 (name_of ns names l) || (has (nearest_by b v L s).1 (name_of ns names l) && hj))
    unfolding same_by continue_to
    clear_step a true v hj (Some m) s r q e = go (same (name_of ns names m.0) (name_of ns names l)) refl
      where
        to : (b : Bool) → is_clear (cond b None (error_between ns 22 n m.0 l)) ≡ b
        to true = refl
        to false = refl

        go : (x : Bool) → same (name_of ns names m.0) (name_of ns names l) ≡ x
            → is_clear (when_found (cond x (Some (record { 0 = m.0 })) None) (λ m. continue_to ns n l a m) r)
            ≡ (has (without s.0 (name_of ns names m.0)) (name_of ns names l) || ((x || has s.1 (name_of ns names l)) && hj))
        go true z =
            let g : has (without s.0 (name_of ns names m.0)) (name_of ns names l) ≡ false
            = ap (λ y. has (without s.0 y) (name_of ns names l)) (same_eq (name_of ns names m.0) (name_of ns names l) z) ∙ without_self s.0 (name_of ns names l) in
            rw (g, q refl) (to hj)
        go false z = e ∙ ap (λ b. b || (has s.1 (name_of ns names l) && hj)) (sym (without_other s.0 (name_of ns names m.0) (name_of ns names l) z))
    clear_step a true v hj None s r q e = e
    clear_step a false true hj L s r q e =
        e ∙ rw (and_true (has s.1 (name_of ns names l)), has_append s.0 s.1 (name_of ns names l), or_false (has s.0 (name_of ns names l) || has s.1 (name_of ns names l)))
    clear_step a false false hj L s r q e = e ∙ rw (and_false (has s.1 (name_of ns names l)))

    module _ (w : Shaped ns) where
      -- what is above a statement, as to loops
      above : (j : ℕ) → 0 < j → j < count ns → 4 ≤ kind_of ns j → kind_of ns j ≤ 19
          → loopy ns (parent_of ns j) ≡ cond (eqb (kind_of ns (parent_of ns j)) 6) (loopy ns j) (is_iteration (kind_of ns (parent_of ns j)))
      above j z h p q = go (eqb (kind_of ns (parent_of ns j)) 6) refl
        where
          go : (b : Bool) → eqb (kind_of ns (parent_of ns j)) 6 ≡ b → loopy ns (parent_of ns j) ≡ cond b (loopy ns j) (is_iteration (kind_of ns (parent_of ns j)))
          go true x =
              let f = t.falls j z h in
              let k = eqb-true (kind_of ns (parent_of ns j)) 6 x in
              ap (λ i. is_iteration (kind_of ns i)) (item_down ns (parent_of ns j) (omega arith) j k (held_is ns t w j z h k p q))
          go false x =
              let f = t.falls j z h in
              ap (λ i. is_iteration (kind_of ns i)) (item_here ns (parent_of ns j) (omega arith) (eqb-false (kind_of ns (parent_of ns j)) 6 x))

      abbrev pub Cleared : ℕ → List (List ℕ) × List (List ℕ) → Option Finding → Type 0
      Cleared j s r = 4 ≤ kind_of ns j → kind_of ns j ≤ 19 → is_clear r ≡ (has s.0 (name_of ns names l) || (has s.1 (name_of ns names l) && loopy ns j))

      pub clear_is : (j : ℕ) → 0 < j → j < count ns → Cleared j (nearest_at ns names j) (walk_up ns (labelled_continue_at ns names n l) j)
      unfolding walk_up labelled_continue_at nearest_at same_label same_by
      clear_is =
          units_agree ns t (is_unit ns) (root_unit ns names t) ([], []) (nearest_down ns names) (labelled_continue_at ns names n l) None (λ j h s r. Cleared j s r)
          (λ j z h x p q. rw x (no_clear (kind_of ns (parent_of ns j))))
          (λ j z h x u s r e p q.
          let f = t.falls j z h in
          let k = not_unit (kind_of ns (parent_of ns j)) x in
          let m = stands ns t w j h p q in
          rw (x, label_in_is ns t (parent_of ns j) (omega arith))
          (clear_step (parent_of ns j) (eqb (kind_of ns (parent_of ns j)) 6) (is_iteration (kind_of ns (parent_of ns j))) (loopy ns j) (label_of ns (parent_of ns j)) s r
          (λ y. above j z h p q ∙ rw y)
          (e k (omega arith) ∙ ap (λ b. has s.0 (name_of ns names l) || (has s.1 (name_of ns names l) && b)) (above j z h p q))))
