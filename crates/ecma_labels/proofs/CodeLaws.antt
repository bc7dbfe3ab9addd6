-- THE FINDINGS 18 TO 23 OF A NODE: each code is raised at exactly the nodes where its rule is broken, once.
use Rattle.check_diagnostics.specs.declared.Finding.{Finding}
use Rattle.table_records.specs.declared.NodeId.{NodeId}
use Rattle.std.specs.Prelude.{ℕ, suc, ◌<◌, ◌≡◌, Bool, cond, ◌&&◌, ◌||◌, ◌⊎◌, Option, Some, None}
use Rattle.std.proofs.Math.Path.{refl, ap}
use Rattle.std.proofs.Common.{sym, ◌∙◌, subst, eq-or-lt_of_le, arith}
use Rattle.std.proofs.Math.Bool.{true, false, not}
use mathlib.Core.List.{List, []}
use Rattle.std.proofs.Math.Logic.{⊎_elim}
use Rattle.std.proofs.Math.Dec.{eqb}
use borrow.Author.Tests.{eqb-true, eqb-false}
use Rattle.base_common.specs.Tests.{within}
use Rattle.base_common.proofs.Bools.{in_range_lem, range_of}
use Rattle.table_records.specs.Table.{kind_of, count}
use Rattle.table_records.specs.Facts.{Tree}
use Rattle.table_names.specs.Name.{name_of, has}
use Rattle.table_children.specs.Children.{label_of, when_found}
use Rattle.refusal_input.specs.WellFormed.{Shaped}
use Rattle.check_diagnostics.specs.Finding.{listed, error_at, error_between}
use Rattle.check_jumps.specs.Jumps.{walk_up, no_label, plain_continue_at, labelled_continue_at, check_continue_statement, check_break_statement, check_labeled_statement}
use Rattle.check_jumps.proofs.JumpsLaws.{item_here}
use Rattle.check_dispatch.specs.Findings.{findings_at}
use Rattle.ecma_dispatch.specs.WithCode.{with_code}
use Rattle.ecma_dispatch.specs.NodesOf.{nodes_of, raised}
use Rattle.ecma_dispatch.proofs.NodesOfLaws.{nodes_nil}
use Rattle.ecma_dispatch.proofs.DispatchLaws.{at_code}
use Rattle.ecma_trees.specs.Walk.{only}
use Rattle.ecma_trees.specs.Unit.{home_of}
use Rattle.ecma_labels.specs.Labels.{is_iteration, is_unit, unlabelled, contains, lacks}
use Rattle.ecma_labels.specs.Breaches.{label_at, label_set_at, in_loop, in_breakable, duplicate_label_at, break_not_nested_at}
use Rattle.ecma_labels.specs.Changed.{nearest_at, undefined_nearest_at, plain_continue_not_nested_at, no_label_at, no_loop_at, in_program}
use Rattle.ecma_labels.proofs.ShapeLaws.{label_in_is}
use Rattle.ecma_labels.proofs.BreakLaws.{break_is, break18, break19, break20, label_is}
use Rattle.ecma_labels.proofs.ContinueLaws.{is_clear, loopy, plain_continue_is, went_is, clear_is}

or_false : (b : Bool) → (b || false) ≡ b
or_false true = refl
or_false false = refl

and_false : (b : Bool) → (b && false) ≡ false
and_false true = refl
and_false false = refl

-- A CONTINUE WITH A LABEL: r is what the walk gives; x, the label set has the label; i, the iteration set has it
module _ (ns : List ℕ) (n l kind : ℕ) where
  abbrev pub Known : Bool → Option Finding → Type 0
  Known x r = (x ≡ false → r ≡ no_label ns n l kind) × (x ≡ true → (r ≡ None) ⊎ ((m : ℕ) × (r ≡ error_between ns 22 n m l)))

  none19 : raised 19 (listed (no_label ns n l kind)) ≡ only (eqb kind 0) n
  unfolding no_label nodes_of with_code
  none19 = go (eqb kind 0)
    where
      go : (b : Bool) → nodes_of (with_code 19 (listed (cond b (error_at ns 19 n l 0) (error_at ns 20 n l 0)))) ≡ only b n
      go true = refl
      go false = refl

  none20 : raised 20 (listed (no_label ns n l kind)) ≡ only (not (eqb kind 0)) n
  unfolding no_label nodes_of with_code
  none20 = go (eqb kind 0)
    where
      go : (b : Bool) → nodes_of (with_code 20 (listed (cond b (error_at ns 19 n l 0) (error_at ns 20 n l 0)))) ≡ only (not b) n
      go true = refl
      go false = refl

  none21 : raised 21 (listed (no_label ns n l kind)) ≡ []
  unfolding no_label nodes_of with_code
  none21 = go (eqb kind 0)
    where
      go : (b : Bool) → nodes_of (with_code 21 (listed (cond b (error_at ns 19 n l 0) (error_at ns 20 n l 0)))) ≡ []
      go true = refl
      go false = refl

  none22 : raised 22 (listed (no_label ns n l kind)) ≡ []
  unfolding no_label nodes_of with_code
  none22 = go (eqb kind 0)
    where
      go : (b : Bool) → nodes_of (with_code 22 (listed (cond b (error_at ns 19 n l 0) (error_at ns 20 n l 0)))) ≡ []
      go true = refl
      go false = refl

  labelled19 : (x : Bool) (r : Option Finding) → Known x r → raised 19 (listed r) ≡ only (not x && eqb kind 0) n
  unfolding nodes_of with_code
  labelled19 false r e = ap (λ r. raised 19 (listed r)) (e.0 refl) ∙ none19
  labelled19 true r e =
      ⊎_elim (λ q. ap (λ r. raised 19 (listed r)) q) (λ q. ap (λ r. raised 19 (listed r)) q.1) (e.1 refl)

  labelled20 : (x : Bool) (r : Option Finding) → Known x r → raised 20 (listed r) ≡ only (not x && not (eqb kind 0)) n
  unfolding nodes_of with_code
  labelled20 false r e = ap (λ r. raised 20 (listed r)) (e.0 refl) ∙ none20
  labelled20 true r e =
      ⊎_elim (λ q. ap (λ r. raised 20 (listed r)) q) (λ q. ap (λ r. raised 20 (listed r)) q.1) (e.1 refl)

  labelled21 : (x : Bool) (r : Option Finding) → Known x r → raised 21 (listed r) ≡ []
  unfolding nodes_of with_code
  labelled21 false r e = ap (λ r. raised 21 (listed r)) (e.0 refl) ∙ none21
  labelled21 true r e =
      ⊎_elim (λ q. ap (λ r. raised 21 (listed r)) q) (λ q. ap (λ r. raised 21 (listed r)) q.1) (e.1 refl)

  labelled22 : (x i : Bool) (r : Option Finding) → Known x r → is_clear r ≡ i → raised 22 (listed r) ≡ only (not i && x) n
  unfolding nodes_of with_code
  labelled22 false i r e c = ap (λ r. raised 22 (listed r)) (e.0 refl) ∙ none22 ∙ ap (λ b. only b n) (sym (and_false (not i)))
  labelled22 true i r e c =
      ⊎_elim (λ q. ap (λ r. raised 22 (listed r)) q ∙ ap (λ b. only (not b && true) n) (sym (ap is_clear q) ∙ c))
      (λ q. ap (λ r. raised 22 (listed r)) q.1 ∙ ap (λ b. only (not b && true) n) (sym (ap is_clear q.1) ∙ c)) (e.1 refl)

-- kinds that are neither
pub neither : (k : ℕ) → eqb k 18 ≡ false → eqb k 19 ≡ false → within k 18 19 ≡ false
neither k p q = go (within k 18 19) refl
  where
    go : (b : Bool) → within k 18 19 ≡ b → b ≡ false
    go true w =
        let r = range_of k 18 19 w in
        let lo = r.0 in
        let hi = r.1 in
        let a = eqb-false k 18 p in
        let b = eqb-false k 19 q in
        absurd (omega arith)
    go false w = refl

module _ (ns names : List ℕ) (t : Tree ns) where
  -- a node of another kind than the program's is not the first
  pub later : (n c : ℕ) → kind_of ns n ≡ suc c → 0 < n
  later n c e = ⊎_elim (λ (q : 0 ≡ n). let k : kind_of ns n ≡ 0 = subst (λ x. kind_of ns x ≡ 0) q t.root in absurd (omega arith)) (λ (q : 0 < n). q) (eq-or-lt_of_le (omega arith))

  -- A CONTINUE
  continue19 : (n : ℕ) → 0 < n → n < count ns → raised 19 (listed (check_continue_statement ns names n)) ≡ only (lacks ns names (label_set_at ns names n) (label_at ns names n) && in_program ns names n) n
  unfolding nodes_of with_code
  continue19 n z h = rw (label_in_is ns t n h) (go (label_of ns n))
    where
      plain : (b : Bool) → nodes_of (with_code 19 (listed (cond b None (error_at ns 21 n n 0)))) ≡ []
      plain true = refl
      plain false = refl

      go : (L : Option NodeId) → nodes_of (with_code 19 (listed (when_found L (λ l. walk_up ns (labelled_continue_at ns names n l) n) (walk_up ns (plain_continue_at ns n) n)))) ≡ only (lacks ns names (label_set_at ns names n) L && in_program ns names n) n
      go (Some l) = labelled19 ns n l.0 (kind_of ns (home_of ns (is_unit ns) n)) (has (label_set_at ns names n) (name_of ns names l.0)) (walk_up ns (labelled_continue_at ns names n l.0) n) (went_is ns names t n l.0 n z h)
      go None = ap (λ r. raised 19 (listed r)) (plain_continue_is ns names t n n z h) ∙ plain (in_loop ns names n)

  continue20 : (n : ℕ) → 0 < n → n < count ns → raised 20 (listed (check_continue_statement ns names n)) ≡ only (lacks ns names (label_set_at ns names n) (label_at ns names n) && not (in_program ns names n)) n
  unfolding nodes_of with_code
  continue20 n z h = rw (label_in_is ns t n h) (go (label_of ns n))
    where
      plain : (b : Bool) → nodes_of (with_code 20 (listed (cond b None (error_at ns 21 n n 0)))) ≡ []
      plain true = refl
      plain false = refl

      go : (L : Option NodeId) → nodes_of (with_code 20 (listed (when_found L (λ l. walk_up ns (labelled_continue_at ns names n l) n) (walk_up ns (plain_continue_at ns n) n)))) ≡ only (lacks ns names (label_set_at ns names n) L && not (in_program ns names n)) n
      go (Some l) = labelled20 ns n l.0 (kind_of ns (home_of ns (is_unit ns) n)) (has (label_set_at ns names n) (name_of ns names l.0)) (walk_up ns (labelled_continue_at ns names n l.0) n) (went_is ns names t n l.0 n z h)
      go None = ap (λ r. raised 20 (listed r)) (plain_continue_is ns names t n n z h) ∙ plain (in_loop ns names n)

  continue21 : (n : ℕ) → 0 < n → n < count ns → raised 21 (listed (check_continue_statement ns names n)) ≡ only (unlabelled (label_at ns names n) && not (in_loop ns names n)) n
  unfolding nodes_of with_code
  continue21 n z h = rw (label_in_is ns t n h) (go (label_of ns n))
    where
      plain : (b : Bool) → nodes_of (with_code 21 (listed (cond b None (error_at ns 21 n n 0)))) ≡ only (not b) n
      plain true = refl
      plain false = refl

      go : (L : Option NodeId) → nodes_of (with_code 21 (listed (when_found L (λ l. walk_up ns (labelled_continue_at ns names n l) n) (walk_up ns (plain_continue_at ns n) n)))) ≡ only (unlabelled L && not (in_loop ns names n)) n
      go (Some l) = labelled21 ns n l.0 (kind_of ns (home_of ns (is_unit ns) n)) (has (label_set_at ns names n) (name_of ns names l.0)) (walk_up ns (labelled_continue_at ns names n l.0) n) (went_is ns names t n l.0 n z h)
      go None = ap (λ r. raised 21 (listed r)) (plain_continue_is ns names t n n z h) ∙ plain (in_loop ns names n)

  module _ (w : Shaped ns) where
    -- nothing is raised at a labelled continue just where its label is in the iteration set
    pub clear_at : (n l : ℕ) → n < count ns → kind_of ns n ≡ 19 → is_clear (walk_up ns (labelled_continue_at ns names n l) n) ≡ has (nearest_at ns names n).0 (name_of ns names l)
    clear_at n l h k =
        let e : loopy ns n ≡ false = ap (λ i. is_iteration (kind_of ns i)) (item_here ns n h (λ q. omega arith)) ∙ rw k in
        clear_is ns names t n l w n (later n 18 k) h (omega arith) (omega arith)
        ∙ rw (e, and_false (has (nearest_at ns names n).1 (name_of ns names l)), or_false (has (nearest_at ns names n).0 (name_of ns names l)))

    continue22 : (n : ℕ) → n < count ns → kind_of ns n ≡ 19
        → raised 22 (listed (check_continue_statement ns names n)) ≡ only (lacks ns names (nearest_at ns names n).0 (label_at ns names n) && contains ns names (label_set_at ns names n) (label_at ns names n)) n
    unfolding nodes_of with_code
    continue22 n h k = rw (label_in_is ns t n h) (go (label_of ns n))
      where
        plain : (b : Bool) → nodes_of (with_code 22 (listed (cond b None (error_at ns 21 n n 0)))) ≡ []
        plain true = refl
        plain false = refl

        go : (L : Option NodeId)
            → nodes_of (with_code 22 (listed (when_found L (λ l. walk_up ns (labelled_continue_at ns names n l) n) (walk_up ns (plain_continue_at ns n) n))))
            ≡ only (lacks ns names (nearest_at ns names n).0 L && contains ns names (label_set_at ns names n) L) n
        go (Some l) =
            labelled22 ns n l.0 (kind_of ns (home_of ns (is_unit ns) n)) (has (label_set_at ns names n) (name_of ns names l.0)) (has (nearest_at ns names n).0 (name_of ns names l.0))
            (walk_up ns (labelled_continue_at ns names n l.0) n) (went_is ns names t n l.0 n (later n 18 k) h) (clear_at n l.0 h k)
        go None = ap (λ r. raised 22 (listed r)) (plain_continue_is ns names t n n (later n 18 k) h) ∙ plain (in_loop ns names n)

  -- THE FINDINGS OF A NODE
  module _ (source_type : ℕ) (ss source : List ℕ) where
    -- 18: 14.9.1
    pub code18 : (j : ℕ) → j < count ns → raised 18 (findings_at source_type ns ss source names j) ≡ only (break_not_nested_at ns names j) j
    unfolding break_not_nested_at
    code18 j h = ap nodes_of (at_code 18 source_type ns ss source names j) ∙ go (eqb (kind_of ns j) 18) refl
      where
        go : (b : Bool) → eqb (kind_of ns j) 18 ≡ b → nodes_of (cond b (with_code 18 (listed (check_break_statement ns names j))) []) ≡ only (b && (unlabelled (label_at ns names j) && not (in_breakable ns names j))) j
        go true q =
            ap (λ r. raised 18 (listed r)) (break_is ns names t j (later j 17 (eqb-true (kind_of ns j) 18 q)) h)
            ∙ break18 ns names t j (label_at ns names j) (label_set_at ns names j) (in_program ns names j) (in_breakable ns names j)
        go false q = nodes_nil

    -- 19: no label of the name around it in the program; 20: none in its function, arrow or static block
    pub code19 : (j : ℕ) → j < count ns → raised 19 (findings_at source_type ns ss source names j) ≡ only (no_label_at ns names j && in_program ns names j) j
    unfolding no_label_at
    code19 j h = ap nodes_of (at_code 19 source_type ns ss source names j) ∙ go (eqb (kind_of ns j) 18) refl (eqb (kind_of ns j) 19) refl
      where
        go : (b : Bool) → eqb (kind_of ns j) 18 ≡ b → (c : Bool) → eqb (kind_of ns j) 19 ≡ c
            → nodes_of (cond b (with_code 19 (listed (check_break_statement ns names j))) (cond c (with_code 19 (listed (check_continue_statement ns names j))) []))
            ≡ only ((within (kind_of ns j) 18 19 && lacks ns names (label_set_at ns names j) (label_at ns names j)) && in_program ns names j) j
        go true q c r =
            let k = eqb-true (kind_of ns j) 18 q in
            rw (in_range_lem (kind_of ns j) 18 19 (omega arith) (omega arith))
            (ap (λ r. raised 19 (listed r)) (break_is ns names t j (later j 17 k) h)
            ∙ break19 ns names t j (label_at ns names j) (label_set_at ns names j) (in_program ns names j) (in_breakable ns names j))
        go false q true r =
            let k = eqb-true (kind_of ns j) 19 r in
            rw (in_range_lem (kind_of ns j) 18 19 (omega arith) (omega arith)) (continue19 j (later j 18 k) h)
        go false q false r = rw (neither (kind_of ns j) q r) nodes_nil

    pub code20 : (j : ℕ) → j < count ns → raised 20 (findings_at source_type ns ss source names j) ≡ only (no_label_at ns names j && not (in_program ns names j)) j
    unfolding no_label_at
    code20 j h = ap nodes_of (at_code 20 source_type ns ss source names j) ∙ go (eqb (kind_of ns j) 18) refl (eqb (kind_of ns j) 19) refl
      where
        go : (b : Bool) → eqb (kind_of ns j) 18 ≡ b → (c : Bool) → eqb (kind_of ns j) 19 ≡ c
            → nodes_of (cond b (with_code 20 (listed (check_break_statement ns names j))) (cond c (with_code 20 (listed (check_continue_statement ns names j))) []))
            ≡ only ((within (kind_of ns j) 18 19 && lacks ns names (label_set_at ns names j) (label_at ns names j)) && not (in_program ns names j)) j
        go true q c r =
            let k = eqb-true (kind_of ns j) 18 q in
            rw (in_range_lem (kind_of ns j) 18 19 (omega arith) (omega arith))
            (ap (λ r. raised 20 (listed r)) (break_is ns names t j (later j 17 k) h)
            ∙ break20 ns names t j (label_at ns names j) (label_set_at ns names j) (in_program ns names j) (in_breakable ns names j))
        go false q true r =
            let k = eqb-true (kind_of ns j) 19 r in
            rw (in_range_lem (kind_of ns j) 18 19 (omega arith) (omega arith)) (continue20 j (later j 18 k) h)
        go false q false r = rw (neither (kind_of ns j) q r) nodes_nil

    -- 21: 14.8.1, of `continue ;`
    pub code21 : (j : ℕ) → j < count ns → raised 21 (findings_at source_type ns ss source names j) ≡ only (plain_continue_not_nested_at ns names j) j
    unfolding plain_continue_not_nested_at
    code21 j h = ap nodes_of (at_code 21 source_type ns ss source names j) ∙ go (eqb (kind_of ns j) 19) refl
      where
        go : (b : Bool) → eqb (kind_of ns j) 19 ≡ b → nodes_of (cond b (with_code 21 (listed (check_continue_statement ns names j))) []) ≡ only (b && (unlabelled (label_at ns names j) && not (in_loop ns names j))) j
        go true q = continue21 j (later j 18 (eqb-true (kind_of ns j) 19 q)) h
        go false q = nodes_nil

    -- 22: a label of the name, but on no loop
    pub code22 : Shaped ns → (j : ℕ) → j < count ns → raised 22 (findings_at source_type ns ss source names j) ≡ only (no_loop_at ns names j) j
    unfolding no_loop_at undefined_nearest_at
    code22 w j h = ap nodes_of (at_code 22 source_type ns ss source names j) ∙ go (eqb (kind_of ns j) 19) refl
      where
        go : (b : Bool) → eqb (kind_of ns j) 19 ≡ b
            → nodes_of (cond b (with_code 22 (listed (check_continue_statement ns names j))) [])
            ≡ only ((b && lacks ns names (nearest_at ns names j).0 (label_at ns names j)) && contains ns names (label_set_at ns names j) (label_at ns names j)) j
        go true q = continue22 w j h (eqb-true (kind_of ns j) 19 q)
        go false q = nodes_nil

    -- 23: 8.3.1
    pub code23 : (j : ℕ) → j < count ns → raised 23 (findings_at source_type ns ss source names j) ≡ only (duplicate_label_at ns names j) j
    unfolding duplicate_label_at
    code23 j h = ap nodes_of (at_code 23 source_type ns ss source names j) ∙ go (eqb (kind_of ns j) 6) refl
      where
        go : (b : Bool) → eqb (kind_of ns j) 6 ≡ b → nodes_of (cond b (listed (check_labeled_statement ns names j)) []) ≡ only (b && contains ns names (label_set_at ns names j) (label_at ns names j)) j
        go true q = label_is ns names t j (later j 5 (eqb-true (kind_of ns j) 6 q)) h
        go false q = nodes_nil
