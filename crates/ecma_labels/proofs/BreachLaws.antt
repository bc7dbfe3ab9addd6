-- The operations of the standard, of a unit and of the program, and the nodes at which the rules are broken.
use Rattle.std.specs.Prelude.{ℕ, ◌+◌, ◌-◌, ◌<◌, ◌≡◌, refl, ◌↔◌, Bool, false, cond, ◌&&◌, ◌||◌, List, [], ◌++◌}
use Rattle.std.proofs.Common.{sym, ap, true≢false, eqb-true, arith}
use Rattle.std.proofs.Math.Bool.{true, not}
use Rattle.std.proofs.Math.Dec.{eqb}
use Rattle.base_common.specs.Upto.{upto}
use Rattle.base_common.proofs.Bools.{in_range_lem, range_of}
use Rattle.table_records.specs.Table.{kind_of, count}
use Rattle.table_records.specs.Facts.{Tree}
use Rattle.refusal_input.specs.WellFormed.{Shaped}
use Rattle.ecma_trees.specs.Rose.{Roses, node, parts_of, tree_of}
use Rattle.ecma_trees.specs.Walk.{each, some, Says, only}
use Rattle.ecma_trees.specs.Unit.{lists, broken}
use Rattle.ecma_trees.proofs.Rule.{Rule, rule_list, rule_unit, rule_program, rule_some}
use Rattle.ecma_labels.specs.Labels.{is_iteration, holds, is_unit, label_in, unlabelled, contains, lacks, adding, contains_duplicate_labels, any_duplicate_labels, contains_undefined_break_target, any_undefined_break_target, contains_undefined_continue_target, any_undefined_continue_target, contains_continue_not_nested, any_continue_not_nested, contains_break_not_nested, any_break_not_nested}
use Rattle.ecma_labels.specs.Findings.{in_unit_of}
use Rattle.ecma_labels.specs.Breaches.{label_at, labels_down, label_set_at, sets_down, sets_at, loop_down, in_loop, breakable_down, in_breakable, duplicate_label_at, undefined_break_at, undefined_continue_at, continue_not_nested_at, break_not_nested_at}
use Rattle.ecma_labels.specs.Changed.{hiding, contains_undefined_nearest, any_undefined_nearest, nearest_down, nearest_at, undefined_nearest_at}
use Rattle.ecma_labels.proofs.ShapeLaws.{through_statements}

-- An operation by tests of a node: p, it is of the kind that may be wrong; q, v, it changes what is handed down; r, it is gone through.
by_tests : {A : Type 0} (n : ℕ) (g : A → Bool) (s s' : A) (p q r x : Bool) → (p ≡ true → r ≡ false) → (q ≡ true → r ≡ true)
    → cond p x (cond q (g s') (cond r (g s) false)) ≡ (some (only (p && x) n) || (r && g (cond q s' s)))
by_tests n g s s' true q true x u v = absurd (true≢false (u refl))
by_tests n g s s' true q false true u v = refl
by_tests n g s s' true q false false u v = refl
by_tests n g s s' false true true x u v = refl
by_tests n g s s' false true false x u v = absurd (true≢false (sym (v refl)))
by_tests n g s s' false false true x u v = refl
by_tests n g s s' false false false x u v = refl

by_four : {A : Type 0} (n : ℕ) (g : A → Bool) (s s' s'' : A) (p q v r x : Bool) → (p ≡ true → r ≡ false) → (q ≡ true → r ≡ true) → (v ≡ true → r ≡ true)
    → cond p x (cond q (g s'') (cond v (g s') (cond r (g s) false))) ≡ (some (only (p && x) n) || (r && g (cond q s'' (cond v s' s))))
by_four n g s s' s'' true q v true x e f h = absurd (true≢false (e refl))
by_four n g s s' s'' true q v false true e f h = refl
by_four n g s s' s'' true q v false false e f h = refl
by_four n g s s' s'' false true v true x e f h = refl
by_four n g s s' s'' false true v false x e f h = absurd (true≢false (sym (f refl)))
by_four n g s s' s'' false false true true x e f h = refl
by_four n g s s' s'' false false true false x e f h = absurd (true≢false (sym (h refl)))
by_four n g s s' s'' false false false true x e f h = refl
by_four n g s s' s'' false false false false x e f h = refl

-- the kind that may be wrong is gone through too
by_both : {A : Type 0} (n : ℕ) (g : A → Bool) (s s' : A) (q r y : Bool) → (q ≡ true → r ≡ true)
    → cond q (y || g s') (cond r (g s) false) ≡ (some (only (q && y) n) || (r && g (cond q s' s)))
by_both n g s s' true true true v = refl
by_both n g s s' true true false v = refl
by_both n g s s' true false y v = absurd (true≢false (sym (v refl)))
by_both n g s s' false true y v = refl
by_both n g s s' false false y v = refl

-- loops and switches hold statements
loop_holds : (k : ℕ) → is_iteration k ≡ true → holds k ≡ true
loop_holds k p =
    let r = range_of k 7 11 p in
    let lo = r.0 in
    let hi = r.1 in
    in_range_lem k 4 17 (omega arith) (omega arith)

breakable_holds : (k : ℕ) → (is_iteration k || eqb k 14) ≡ true → holds k ≡ true
breakable_holds k e = go (is_iteration k) refl (eqb k 14) refl e
  where
    go : (a : Bool) → is_iteration k ≡ a → (b : Bool) → eqb k 14 ≡ b → (a || b) ≡ true → holds k ≡ true
    go true p b q z = loop_holds k p
    go false p true q z = rw (eqb-true k 14 q)
    go false p false q z = absurd (true≢false (sym z))

module _ (ns names : List ℕ) (t : Tree ns) (w : Shaped ns) where
  -- 8.3.1
  abbrev duplicate_says : ℕ → List (List ℕ) → List ℕ
  duplicate_says n s = only (eqb (kind_of ns n) 6 && contains ns names s (label_at ns names n)) n

  duplicate_clause : (n : ℕ) (ks : Roses) (s : List (List ℕ)) → n < count ns → ks ≡ parts_of ns n
      → contains_duplicate_labels ns names (node n ks) s ≡ (some (duplicate_says n s) || (holds (kind_of ns n) && any_duplicate_labels ns names ks (labels_down ns names n s)))
  unfolding contains_duplicate_labels
  duplicate_clause n ks s c e =
      rw (ap (label_in ns) e)
      (by_both n (any_duplicate_labels ns names ks) s (adding ns names s (label_at ns names n)) (eqb (kind_of ns n) 6) (holds (kind_of ns n)) (contains ns names s (label_at ns names n)) (λ x. rw (eqb-true (kind_of ns n) 6 x)))

  duplicate_rule : Rule (List (List ℕ)) ns (is_unit ns) (λ j. holds (kind_of ns j))
  unfolding contains_duplicate_labels label_set_at duplicate_label_at
  duplicate_rule = record {
    op = contains_duplicate_labels ns names;
    op_all = any_duplicate_labels ns names;
    start = [];
    visit = duplicate_says;
    down = labels_down ns names;
    bad = λ j. only (duplicate_label_at ns names j) j;
    nil = λ a. refl;
    cons = λ t ts a. refl;
    clause = duplicate_clause;
    going = through_statements ns t w 6 (omega arith) (omega arith) (λ n s. contains ns names s (label_at ns names n));
    here = λ j c. refl;
  }

  pub duplicate_list : (u : ℕ) → u < count ns → is_unit ns u ≡ true → lists duplicate_says (λ j. holds (kind_of ns j)) (labels_down ns names) (parts_of ns u) [] ≡ each (in_unit_of ns (duplicate_label_at ns names) u) (upto (u + 1) (count ns))
  unfolding duplicate_rule
  duplicate_list = rule_list duplicate_rule

  pub duplicate_unit : (u : ℕ) → u < count ns → is_unit ns u ≡ true → (any_duplicate_labels ns names (parts_of ns u) [] ≡ true) ↔ Says (in_unit_of ns (duplicate_label_at ns names) u) (u + 1) (count ns)
  unfolding duplicate_rule
  duplicate_unit = rule_unit duplicate_rule

  pub duplicate_program : (broken (is_unit ns) (λ ks. any_duplicate_labels ns names ks []) (tree_of ns) ≡ true) ↔ Says (λ j. only (duplicate_label_at ns names j) j) 1 (count ns)
  unfolding duplicate_rule
  duplicate_program = rule_program duplicate_rule

  pub duplicate_some : (u : ℕ) → u < count ns → is_unit ns u ≡ true → any_duplicate_labels ns names (parts_of ns u) [] ≡ some (each (in_unit_of ns (duplicate_label_at ns names) u) (upto (u + 1) (count ns)))
  unfolding duplicate_rule
  duplicate_some = rule_some duplicate_rule

  -- 8.3.2
  abbrev undefined_break_says : ℕ → List (List ℕ) → List ℕ
  undefined_break_says n s = only (eqb (kind_of ns n) 18 && lacks ns names s (label_at ns names n)) n

  undefined_break_clause : (n : ℕ) (ks : Roses) (s : List (List ℕ)) → n < count ns → ks ≡ parts_of ns n
      → contains_undefined_break_target ns names (node n ks) s ≡ (some (undefined_break_says n s) || (holds (kind_of ns n) && any_undefined_break_target ns names ks (labels_down ns names n s)))
  unfolding contains_undefined_break_target
  undefined_break_clause n ks s c e =
      rw (ap (label_in ns) e)
      (by_tests n (any_undefined_break_target ns names ks) s (adding ns names s (label_at ns names n)) (eqb (kind_of ns n) 18) (eqb (kind_of ns n) 6) (holds (kind_of ns n)) (lacks ns names s (label_at ns names n))
      (λ x. rw (eqb-true (kind_of ns n) 18 x)) (λ x. rw (eqb-true (kind_of ns n) 6 x)))

  undefined_break_rule : Rule (List (List ℕ)) ns (is_unit ns) (λ j. holds (kind_of ns j))
  unfolding contains_undefined_break_target label_set_at undefined_break_at
  undefined_break_rule = record {
    op = contains_undefined_break_target ns names;
    op_all = any_undefined_break_target ns names;
    start = [];
    visit = undefined_break_says;
    down = labels_down ns names;
    bad = λ j. only (undefined_break_at ns names j) j;
    nil = λ a. refl;
    cons = λ t ts a. refl;
    clause = undefined_break_clause;
    going = through_statements ns t w 18 (omega arith) (omega arith) (λ n s. lacks ns names s (label_at ns names n));
    here = λ j c. refl;
  }

  pub undefined_break_list : (u : ℕ) → u < count ns → is_unit ns u ≡ true → lists undefined_break_says (λ j. holds (kind_of ns j)) (labels_down ns names) (parts_of ns u) [] ≡ each (in_unit_of ns (undefined_break_at ns names) u) (upto (u + 1) (count ns))
  unfolding undefined_break_rule
  undefined_break_list = rule_list undefined_break_rule

  pub undefined_break_unit : (u : ℕ) → u < count ns → is_unit ns u ≡ true → (any_undefined_break_target ns names (parts_of ns u) [] ≡ true) ↔ Says (in_unit_of ns (undefined_break_at ns names) u) (u + 1) (count ns)
  unfolding undefined_break_rule
  undefined_break_unit = rule_unit undefined_break_rule

  pub undefined_break_program : (broken (is_unit ns) (λ ks. any_undefined_break_target ns names ks []) (tree_of ns) ≡ true) ↔ Says (λ j. only (undefined_break_at ns names j) j) 1 (count ns)
  unfolding undefined_break_rule
  undefined_break_program = rule_program undefined_break_rule

  pub undefined_break_some : (u : ℕ) → u < count ns → is_unit ns u ≡ true → any_undefined_break_target ns names (parts_of ns u) [] ≡ some (each (in_unit_of ns (undefined_break_at ns names) u) (upto (u + 1) (count ns)))
  unfolding undefined_break_rule
  undefined_break_some = rule_some undefined_break_rule

  -- 8.3.3
  abbrev undefined_continue_says : ℕ → List (List ℕ) × List (List ℕ) → List ℕ
  undefined_continue_says n s = only (eqb (kind_of ns n) 19 && lacks ns names s.0 (label_at ns names n)) n

  undefined_continue_clause : (n : ℕ) (ks : Roses) (s : List (List ℕ) × List (List ℕ)) → n < count ns → ks ≡ parts_of ns n
      → contains_undefined_continue_target ns names (node n ks) s ≡ (some (undefined_continue_says n s) || (holds (kind_of ns n) && any_undefined_continue_target ns names ks (sets_down ns names n s)))
  unfolding contains_undefined_continue_target
  undefined_continue_clause n ks s c e =
      rw (ap (label_in ns) e)
      (by_four n (any_undefined_continue_target ns names ks) (s.0, []) (s.0 ++ s.1, []) (s.0, adding ns names s.1 (label_at ns names n))
      (eqb (kind_of ns n) 19) (eqb (kind_of ns n) 6) (is_iteration (kind_of ns n)) (holds (kind_of ns n)) (lacks ns names s.0 (label_at ns names n))
      (λ x. rw (eqb-true (kind_of ns n) 19 x)) (λ x. rw (eqb-true (kind_of ns n) 6 x)) (loop_holds (kind_of ns n)))

  undefined_continue_rule : Rule (List (List ℕ) × List (List ℕ)) ns (is_unit ns) (λ j. holds (kind_of ns j))
  unfolding contains_undefined_continue_target sets_at undefined_continue_at
  undefined_continue_rule = record {
    op = contains_undefined_continue_target ns names;
    op_all = any_undefined_continue_target ns names;
    start = ([], []);
    visit = undefined_continue_says;
    down = sets_down ns names;
    bad = λ j. only (undefined_continue_at ns names j) j;
    nil = λ a. refl;
    cons = λ t ts a. refl;
    clause = undefined_continue_clause;
    going = through_statements ns t w 19 (omega arith) (omega arith) (λ n s. lacks ns names s.0 (label_at ns names n));
    here = λ j c. refl;
  }

  pub undefined_continue_list : (u : ℕ) → u < count ns → is_unit ns u ≡ true → lists undefined_continue_says (λ j. holds (kind_of ns j)) (sets_down ns names) (parts_of ns u) ([], []) ≡ each (in_unit_of ns (undefined_continue_at ns names) u) (upto (u + 1) (count ns))
  unfolding undefined_continue_rule
  undefined_continue_list = rule_list undefined_continue_rule

  pub undefined_continue_unit : (u : ℕ) → u < count ns → is_unit ns u ≡ true → (any_undefined_continue_target ns names (parts_of ns u) ([], []) ≡ true) ↔ Says (in_unit_of ns (undefined_continue_at ns names) u) (u + 1) (count ns)
  unfolding undefined_continue_rule
  undefined_continue_unit = rule_unit undefined_continue_rule

  pub undefined_continue_program : (broken (is_unit ns) (λ ks. any_undefined_continue_target ns names ks ([], [])) (tree_of ns) ≡ true) ↔ Says (λ j. only (undefined_continue_at ns names j) j) 1 (count ns)
  unfolding undefined_continue_rule
  undefined_continue_program = rule_program undefined_continue_rule

  pub undefined_continue_some : (u : ℕ) → u < count ns → is_unit ns u ≡ true → any_undefined_continue_target ns names (parts_of ns u) ([], []) ≡ some (each (in_unit_of ns (undefined_continue_at ns names) u) (upto (u + 1) (count ns)))
  unfolding undefined_continue_rule
  undefined_continue_some = rule_some undefined_continue_rule

  -- 8.3.3, changed
  abbrev undefined_nearest_says : ℕ → List (List ℕ) × List (List ℕ) → List ℕ
  undefined_nearest_says n s = only (eqb (kind_of ns n) 19 && lacks ns names s.0 (label_at ns names n)) n

  undefined_nearest_clause : (n : ℕ) (ks : Roses) (s : List (List ℕ) × List (List ℕ)) → n < count ns → ks ≡ parts_of ns n
      → contains_undefined_nearest ns names (node n ks) s ≡ (some (undefined_nearest_says n s) || (holds (kind_of ns n) && any_undefined_nearest ns names ks (nearest_down ns names n s)))
  unfolding contains_undefined_nearest
  undefined_nearest_clause n ks s c e =
      rw (ap (label_in ns) e)
      (by_four n (any_undefined_nearest ns names ks) (s.0, []) (s.0 ++ s.1, []) (hiding ns names s.0 (label_at ns names n), adding ns names s.1 (label_at ns names n))
      (eqb (kind_of ns n) 19) (eqb (kind_of ns n) 6) (is_iteration (kind_of ns n)) (holds (kind_of ns n)) (lacks ns names s.0 (label_at ns names n))
      (λ x. rw (eqb-true (kind_of ns n) 19 x)) (λ x. rw (eqb-true (kind_of ns n) 6 x)) (loop_holds (kind_of ns n)))

  undefined_nearest_rule : Rule (List (List ℕ) × List (List ℕ)) ns (is_unit ns) (λ j. holds (kind_of ns j))
  unfolding contains_undefined_nearest nearest_at undefined_nearest_at
  undefined_nearest_rule = record {
    op = contains_undefined_nearest ns names;
    op_all = any_undefined_nearest ns names;
    start = ([], []);
    visit = undefined_nearest_says;
    down = nearest_down ns names;
    bad = λ j. only (undefined_nearest_at ns names j) j;
    nil = λ a. refl;
    cons = λ t ts a. refl;
    clause = undefined_nearest_clause;
    going = through_statements ns t w 19 (omega arith) (omega arith) (λ n s. lacks ns names s.0 (label_at ns names n));
    here = λ j c. refl;
  }

  pub undefined_nearest_list : (u : ℕ) → u < count ns → is_unit ns u ≡ true → lists undefined_nearest_says (λ j. holds (kind_of ns j)) (nearest_down ns names) (parts_of ns u) ([], []) ≡ each (in_unit_of ns (undefined_nearest_at ns names) u) (upto (u + 1) (count ns))
  unfolding undefined_nearest_rule
  undefined_nearest_list = rule_list undefined_nearest_rule

  pub undefined_nearest_unit : (u : ℕ) → u < count ns → is_unit ns u ≡ true → (any_undefined_nearest ns names (parts_of ns u) ([], []) ≡ true) ↔ Says (in_unit_of ns (undefined_nearest_at ns names) u) (u + 1) (count ns)
  unfolding undefined_nearest_rule
  undefined_nearest_unit = rule_unit undefined_nearest_rule

  pub undefined_nearest_program : (broken (is_unit ns) (λ ks. any_undefined_nearest ns names ks ([], [])) (tree_of ns) ≡ true) ↔ Says (λ j. only (undefined_nearest_at ns names j) j) 1 (count ns)
  unfolding undefined_nearest_rule
  undefined_nearest_program = rule_program undefined_nearest_rule

  pub undefined_nearest_some : (u : ℕ) → u < count ns → is_unit ns u ≡ true → any_undefined_nearest ns names (parts_of ns u) ([], []) ≡ some (each (in_unit_of ns (undefined_nearest_at ns names) u) (upto (u + 1) (count ns)))
  unfolding undefined_nearest_rule
  undefined_nearest_some = rule_some undefined_nearest_rule

  -- 14.8.1
  abbrev continue_nested_says : ℕ → Bool → List ℕ
  continue_nested_says n s = only (eqb (kind_of ns n) 19 && not s) n

  continue_nested_clause : (n : ℕ) (ks : Roses) (s : Bool) → n < count ns → ks ≡ parts_of ns n
      → contains_continue_not_nested ns names (node n ks) s ≡ (some (continue_nested_says n s) || (holds (kind_of ns n) && any_continue_not_nested ns names ks (loop_down ns names n s)))
  unfolding contains_continue_not_nested
  continue_nested_clause n ks s c e =
      by_tests n (any_continue_not_nested ns names ks) s true (eqb (kind_of ns n) 19) (is_iteration (kind_of ns n)) (holds (kind_of ns n)) (not s)
      (λ x. rw (eqb-true (kind_of ns n) 19 x)) (loop_holds (kind_of ns n))

  continue_nested_rule : Rule (Bool) ns (is_unit ns) (λ j. holds (kind_of ns j))
  unfolding contains_continue_not_nested in_loop continue_not_nested_at
  continue_nested_rule = record {
    op = contains_continue_not_nested ns names;
    op_all = any_continue_not_nested ns names;
    start = false;
    visit = continue_nested_says;
    down = loop_down ns names;
    bad = λ j. only (continue_not_nested_at ns names j) j;
    nil = λ a. refl;
    cons = λ t ts a. refl;
    clause = continue_nested_clause;
    going = through_statements ns t w 19 (omega arith) (omega arith) (λ n s. not s);
    here = λ j c. refl;
  }

  pub continue_nested_list : (u : ℕ) → u < count ns → is_unit ns u ≡ true → lists continue_nested_says (λ j. holds (kind_of ns j)) (loop_down ns names) (parts_of ns u) false ≡ each (in_unit_of ns (continue_not_nested_at ns names) u) (upto (u + 1) (count ns))
  unfolding continue_nested_rule
  continue_nested_list = rule_list continue_nested_rule

  pub continue_nested_unit : (u : ℕ) → u < count ns → is_unit ns u ≡ true → (any_continue_not_nested ns names (parts_of ns u) false ≡ true) ↔ Says (in_unit_of ns (continue_not_nested_at ns names) u) (u + 1) (count ns)
  unfolding continue_nested_rule
  continue_nested_unit = rule_unit continue_nested_rule

  pub continue_nested_program : (broken (is_unit ns) (λ ks. any_continue_not_nested ns names ks false) (tree_of ns) ≡ true) ↔ Says (λ j. only (continue_not_nested_at ns names j) j) 1 (count ns)
  unfolding continue_nested_rule
  continue_nested_program = rule_program continue_nested_rule

  pub continue_nested_some : (u : ℕ) → u < count ns → is_unit ns u ≡ true → any_continue_not_nested ns names (parts_of ns u) false ≡ some (each (in_unit_of ns (continue_not_nested_at ns names) u) (upto (u + 1) (count ns)))
  unfolding continue_nested_rule
  continue_nested_some = rule_some continue_nested_rule

  -- 14.9.1
  abbrev break_nested_says : ℕ → Bool → List ℕ
  break_nested_says n s = only (eqb (kind_of ns n) 18 && (unlabelled (label_at ns names n) && not s)) n

  break_nested_clause : (n : ℕ) (ks : Roses) (s : Bool) → n < count ns → ks ≡ parts_of ns n
      → contains_break_not_nested ns names (node n ks) s ≡ (some (break_nested_says n s) || (holds (kind_of ns n) && any_break_not_nested ns names ks (breakable_down ns names n s)))
  unfolding contains_break_not_nested
  break_nested_clause n ks s c e =
      rw (ap (label_in ns) e)
      (by_tests n (any_break_not_nested ns names ks) s true (eqb (kind_of ns n) 18) (is_iteration (kind_of ns n) || eqb (kind_of ns n) 14) (holds (kind_of ns n)) (unlabelled (label_at ns names n) && not s)
      (λ x. rw (eqb-true (kind_of ns n) 18 x)) (breakable_holds (kind_of ns n)))

  break_nested_rule : Rule (Bool) ns (is_unit ns) (λ j. holds (kind_of ns j))
  unfolding contains_break_not_nested in_breakable break_not_nested_at
  break_nested_rule = record {
    op = contains_break_not_nested ns names;
    op_all = any_break_not_nested ns names;
    start = false;
    visit = break_nested_says;
    down = breakable_down ns names;
    bad = λ j. only (break_not_nested_at ns names j) j;
    nil = λ a. refl;
    cons = λ t ts a. refl;
    clause = break_nested_clause;
    going = through_statements ns t w 18 (omega arith) (omega arith) (λ n s. (unlabelled (label_at ns names n) && not s));
    here = λ j c. refl;
  }

  pub break_nested_list : (u : ℕ) → u < count ns → is_unit ns u ≡ true → lists break_nested_says (λ j. holds (kind_of ns j)) (breakable_down ns names) (parts_of ns u) false ≡ each (in_unit_of ns (break_not_nested_at ns names) u) (upto (u + 1) (count ns))
  unfolding break_nested_rule
  break_nested_list = rule_list break_nested_rule

  pub break_nested_unit : (u : ℕ) → u < count ns → is_unit ns u ≡ true → (any_break_not_nested ns names (parts_of ns u) false ≡ true) ↔ Says (in_unit_of ns (break_not_nested_at ns names) u) (u + 1) (count ns)
  unfolding break_nested_rule
  break_nested_unit = rule_unit break_nested_rule

  pub break_nested_program : (broken (is_unit ns) (λ ks. any_break_not_nested ns names ks false) (tree_of ns) ≡ true) ↔ Says (λ j. only (break_not_nested_at ns names j) j) 1 (count ns)
  unfolding break_nested_rule
  break_nested_program = rule_program break_nested_rule

  pub break_nested_some : (u : ℕ) → u < count ns → is_unit ns u ≡ true → any_break_not_nested ns names (parts_of ns u) false ≡ some (each (in_unit_of ns (break_not_nested_at ns names) u) (upto (u + 1) (count ns)))
  unfolding break_nested_rule
  break_nested_some = rule_some break_nested_rule
