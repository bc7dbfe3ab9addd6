-- THE THEOREMS, of well-formed tables. Node by node: a finding of a code, or of some codes, is raised at the node exactly where the rule is broken there, and one only.
-- Then by unit, as the standard states its rules, and of the program.
use Prim.Native.Nat.{ℕ, zero, suc, ◌+◌, ◌-◌, ◌≤◌, ◌<◌}
use Rattle.std.specs.Prelude.{◌≡◌, Bool, cond, not, ◌&&◌, ◌||◌, ◌↔◌}
use Rattle.std.proofs.Math.Path.{refl, ap}
use Rattle.std.proofs.Common.{sym, subst, ◌∙◌, ⊎_elim, eq-or-lt_of_le, eqb-true, arith}
use Rattle.std.proofs.Math.Bool.{true, false}
use mathlib.Core.List.{List, [], ◌∷◌, ◌++◌, flat_map, append-nil}
use Rattle.std.proofs.Math.Dec.{eqb}
use Rattle.base_common.specs.Upto.{range, upto}
use Rattle.table_records.specs.Table.{kind_of, count}
use Rattle.table_records.specs.Kinds as k
use Rattle.table_ancestry.proofs.AncestryLaws.{ancestors_root}
use Rattle.table_children.specs.Children.{keep}
use Rattle.refusal_input.specs.WellFormed.{WellFormed}
use Rattle.check_diagnostics.specs.declared.Finding.{Finding}
use Rattle.check_dispatch.specs.Findings.{findings_at, findings_of}
use Rattle.ecma_dispatch.specs.WithCode.{with_code}
use Rattle.ecma_dispatch.specs.NodesOf.{nodes_of, raised}
use Rattle.ecma_dispatch.proofs.NodesOfLaws.{nodes_append}
use Rattle.ecma_trees.specs.Rose.{parts_of}
use Rattle.ecma_trees.specs.Walk.{each, some, Says, only}
use Rattle.ecma_trees.proofs.WalkLaws.{some_append, some_each, some_only}
use Rattle.ecma_trees.specs.Unit.{home_of}
use Rattle.ecma_trees.proofs.UnitLaws.{home_before, home_edge}
use Rattle.ecma_labels.specs.Labels.{is_unit, label_rule, label_errors, unlabelled, any_duplicate_labels, any_undefined_break_target, any_undefined_continue_target, any_continue_not_nested, any_break_not_nested}
use Rattle.ecma_labels.specs.Breaches.{label_at, in_loop, duplicate_label_at, undefined_break_at, undefined_continue_at, continue_not_nested_at, break_not_nested_at}
use Rattle.ecma_labels.specs.Changed.{any_undefined_nearest, undefined_nearest_at, plain_continue_not_nested_at, no_label_at, no_loop_at, in_program, LabelsOnce, ContinuePlain}
use Rattle.ecma_labels.specs.Findings.{of_unit, with_codes, label_findings, break_findings, continue_findings, in_unit_of}
use Rattle.ecma_labels.proofs.BreachLaws.{undefined_continue_some, undefined_nearest_some, duplicate_unit, undefined_break_unit, undefined_continue_unit, undefined_nearest_unit, continue_nested_unit, break_nested_unit}
use Rattle.ecma_labels.proofs.CodeLaws.{code18, code19, code20, code21, code22, code23}
use Rattle.ecma_labels.proofs.WholeLaws.{all18, all19, all20, all21, all22, all23}
use Rattle.ecma_labels.proofs.DifferenceLaws.{targets, not_nested, plain_same, off_duplicates}
use Rattle.ecma_labels.proofs.EarlyLaws.{broken_at, same_unit, unit_is, some_findings, errors_iff}

-- findings that are raised where a test holds, in a unit
module _ (ns : List ℕ) (g : ℕ → List Finding) (test : ℕ → Bool) (u : ℕ) (h : (j : ℕ) → j < count ns → nodes_of (g j) ≡ only (test j) j) where
  some_nodes : (fs : List Finding) → some fs ≡ some (nodes_of fs)
  unfolding nodes_of
  some_nodes [] = refl
  some_nodes (f ∷ fs) = refl

  alike : (j : ℕ) → j < count ns → some (in_unit_of ns test u j) ≡ some (of_unit ns g u j)
  alike j l = go (eqb (home_of ns (is_unit ns) j) u)
    where
      go : (b : Bool) → some (cond b (only (test j) j) []) ≡ some (cond b (g j) [])
      go true = sym (some_nodes (g j) ∙ ap some (h j l))
      go false = refl

  unit_says : Says (in_unit_of ns test u) (u + 1) (count ns) ↔ Says (of_unit ns g u) (u + 1) (count ns)
  unit_says = (
    (λ s. record { at = s.at; low = s.low; high = s.high; does = sym (alike s.at s.high) ∙ s.does }),
    λ s. record { at = s.at; low = s.low; high = s.high; does = alike s.at s.high ∙ s.does },
  )

-- what some number says, where both say something at the same numbers
some_same : {A B : Type 0} (f : ℕ → List A) (g : ℕ → List B) (i n : ℕ) → ((j : ℕ) → i ≤ j → j < n → some (f j) ≡ some (g j)) → some (each f (upto i n)) ≡ some (each g (upto i n))
unfolding upto range
some_same f g i n h = go i (n - i) (λ j p q. h j p (omega arith))
  where
    go : (i k : ℕ) → ((j : ℕ) → i ≤ j → j < i + k → some (f j) ≡ some (g j)) → some (each f (range i k)) ≡ some (each g (range i k))
    go i zero h = refl
    go i (suc k) h =
        some_append (f i) (each f (range (suc i) k))
        ∙ rw (h i (omega arith) (omega arith), go (suc i) k (λ j p q. h j (omega arith) (omega arith))) (sym (some_append (g i) (each g (range (suc i) k))))

both : {A B C : Type 0} → A ↔ B → B ↔ C → A ↔ C
both p q = ((λ a. q.0 (p.0 a)), λ c. p.1 (q.1 c))

module _ (source_type : ℕ) (ns ss source names : List ℕ) (w : WellFormed source_type ns ss source names) where
  -- 8.3.1: 23
  pub duplicate_labels : (j : ℕ) → j < count ns → raised 23 (findings_at source_type ns ss source names j) ≡ only (duplicate_label_at ns names j) j
  duplicate_labels = code23 ns names w.input.tree source_type ss source

  -- 14.9.1: 18
  pub breaks_not_nested : (j : ℕ) → j < count ns → raised 18 (findings_at source_type ns ss source names j) ≡ only (break_not_nested_at ns names j) j
  breaks_not_nested = code18 ns names w.input.tree source_type ss source

  -- 14.8.1, changed, of `continue ;`: 21
  pub continues_not_nested : (j : ℕ) → j < count ns → raised 21 (findings_at source_type ns ss source names j) ≡ only (plain_continue_not_nested_at ns names j) j
  continues_not_nested = code21 ns names w.input.tree source_type ss source

  -- 8.3.2 and 8.3.3, changed: 19, 20 and 22 together, at every node
  pub parts : (j : ℕ) → j < count ns
      → nodes_of (with_codes source_type ns ss source names (19 ∷ 20 ∷ 22 ∷ []) j) ≡ only (undefined_break_at ns names j || undefined_nearest_at ns names j) j
  unfolding flat_map
  parts j h =
      nodes_append (W 19) (W 20 ++ (W 22 ++ []))
      ∙ ap (λ l. nodes_of (W 19) ++ l) (nodes_append (W 20) (W 22 ++ []) ∙ ap (λ l. nodes_of (W 20) ++ nodes_of l) (append-nil (W 22)))
      ∙ targets ns names w.input.tree w.shaped source_type ss source j h
    where
      W : ℕ → List Finding
      W c = with_code c (findings_at source_type ns ss source names j)

  -- 8.3.2: 19 or 20
  pub undefined_breaks : (j : ℕ) → j < count ns → nodes_of (break_findings source_type ns ss source names j) ≡ only (undefined_break_at ns names j) j
  unfolding flat_map undefined_break_at undefined_nearest_at no_loop_at nodes_of
  undefined_breaks j h = go (eqb (kind_of ns j) 18) refl
    where
      W : ℕ → List Finding
      W c = with_code c (findings_at source_type ns ss source names j)

      none : eqb (kind_of ns j) 18 ≡ true → undefined_nearest_at ns names j ≡ false
      none q = rw (eqb-true (kind_of ns j) 18 q)

      go : (b : Bool) → eqb (kind_of ns j) 18 ≡ b → nodes_of (cond b (W 19 ++ (W 20 ++ [])) []) ≡ only (undefined_break_at ns names j) j
      go true q =
          let e : nodes_of (W 22) ≡ [] = code22 ns names w.input.tree source_type ss source w.shaped j h ∙ rw (none q) in
          nodes_append (W 19) (W 20 ++ [])
          ∙ ap (λ l. nodes_of (W 19) ++ l) (nodes_append (W 20) [] ∙ ap (λ l. nodes_of (W 20) ++ l) (sym e))
          ∙ targets ns names w.input.tree w.shaped source_type ss source j h
          ∙ rw (none q) (ap (λ b. only b j) (or_false (undefined_break_at ns names j)))
        where
          or_false : (b : Bool) → (b || false) ≡ b
          or_false true = refl
          or_false false = refl
      go false q = rw q

  -- 8.3.3, changed, the nearest label decides: 19, 20 or 22
  pub undefined_continues : (j : ℕ) → j < count ns → nodes_of (continue_findings source_type ns ss source names j) ≡ only (undefined_nearest_at ns names j) j
  unfolding undefined_break_at undefined_nearest_at nodes_of
  undefined_continues j h = go (eqb (kind_of ns j) 19) refl
    where
      none : eqb (kind_of ns j) 19 ≡ true → undefined_break_at ns names j ≡ false
      none q = rw (eqb-true (kind_of ns j) 19 q)

      go : (b : Bool) → eqb (kind_of ns j) 19 ≡ b → nodes_of (cond b (with_codes source_type ns ss source names (19 ∷ 20 ∷ 22 ∷ []) j) []) ≡ only (undefined_nearest_at ns names j) j
      go true q = parts j h ∙ rw (none q)
      go false q = rw q

  -- which code: 19 in the program and 20 elsewhere where no statement around it has the label, 22 where one has
  pub undefined_labels19 : (j : ℕ) → j < count ns → raised 19 (findings_at source_type ns ss source names j) ≡ only (no_label_at ns names j && in_program ns names j) j
  undefined_labels19 = code19 ns names w.input.tree source_type ss source

  pub undefined_labels20 : (j : ℕ) → j < count ns → raised 20 (findings_at source_type ns ss source names j) ≡ only (no_label_at ns names j && not (in_program ns names j)) j
  undefined_labels20 = code20 ns names w.input.tree source_type ss source

  pub no_loops22 : (j : ℕ) → j < count ns → raised 22 (findings_at source_type ns ss source names j) ≡ only (no_loop_at ns names j) j
  no_loops22 = code22 ns names w.input.tree source_type ss source w.shaped

  -- THE STANDARD'S RULES AND THE CHANGED ONES. 14.8.1 and its changed form differ at a continue with a label only, and there 8.3.3 is broken too.
  pub agree_plain : (j : ℕ) → unlabelled (label_at ns names j) ≡ true → continue_not_nested_at ns names j ≡ plain_continue_not_nested_at ns names j
  agree_plain = plain_same ns names w.input.tree

  pub agree_nested : (j : ℕ) → j < count ns → (continue_not_nested_at ns names j || undefined_continue_at ns names j) ≡ (plain_continue_not_nested_at ns names j || undefined_continue_at ns names j)
  agree_nested = not_nested ns names w.input.tree

  -- 8.3.3 and its changed form agree in a unit in which no label stands within itself
  pub agree_nearest : (u : ℕ) → u < count ns → is_unit ns u ≡ true → any_duplicate_labels ns names (parts_of ns u) [] ≡ false
      → (j : ℕ) → j < count ns → home_of ns (is_unit ns) j ≡ u → undefined_continue_at ns names j ≡ undefined_nearest_at ns names j
  agree_nearest = off_duplicates ns names w.input.tree w.shaped

  -- THE STANDARD'S OWN RULES at every node, on the conditions: 14.8.1 ..
  pub continues_plain : (j : ℕ) → j < count ns → ContinuePlain ns names j → raised 21 (findings_at source_type ns ss source names j) ≡ only (continue_not_nested_at ns names j) j
  unfolding continue_not_nested_at plain_continue_not_nested_at
  continues_plain j h q = continues_not_nested j h ∙ ap (λ b. only b j) (go (eqb (kind_of ns j) k.Continue) refl)
    where
      go : (b : Bool) → eqb (kind_of ns j) k.Continue ≡ b → plain_continue_not_nested_at ns names j ≡ continue_not_nested_at ns names j
      go true e = nested (in_loop ns names j) refl
        where
          off : (b : Bool) → (b && false) ≡ false
          off true = refl
          off false = refl

          nested : (b : Bool) → in_loop ns names j ≡ b → plain_continue_not_nested_at ns names j ≡ continue_not_nested_at ns names j
          nested true x = rw (e, x) (off (unlabelled (label_at ns names j)))
          nested false x = sym (agree_plain j (q (eqb-true (kind_of ns j) k.Continue e) x))
      go false e = rw e

  -- .. and 8.3.2 with 8.3.3: one finding, 19, 20 or 22, where one of them is broken
  pub undefined_targets : (j : ℕ) → j < count ns → (kind_of ns j ≡ k.Continue → LabelsOnce ns names (home_of ns (is_unit ns) j))
      → nodes_of (with_codes source_type ns ss source names (19 ∷ 20 ∷ 22 ∷ []) j) ≡ only (undefined_break_at ns names j || undefined_continue_at ns names j) j
  unfolding undefined_continue_at undefined_nearest_at
  undefined_targets j h q = parts j h ∙ ap (λ b. only (undefined_break_at ns names j || b) j) (go (eqb (kind_of ns j) k.Continue) refl)
    where
      unit : is_unit ns 0 ≡ true
      unit = rw w.input.tree.root

      below : home_of ns (is_unit ns) j < count ns
      below =
          ⊎_elim (λ (e : 0 ≡ j). subst (λ (x : ℕ). home_of ns (is_unit ns) x < count ns) e (let r : home_of ns (is_unit ns) 0 ≡ 0 = ancestors_root (λ a r. cond (is_unit ns a) a r) 0 ns in let c = w.input.tree.some in omega arith))
          (λ (z : 0 < j). let b = home_before ns (is_unit ns) w.input.tree j z h in omega arith) (eq-or-lt_of_le (omega arith))

      go : (b : Bool) → eqb (kind_of ns j) k.Continue ≡ b → undefined_nearest_at ns names j ≡ undefined_continue_at ns names j
      go true e = sym (agree_nearest (home_of ns (is_unit ns) j) below (home_edge ns (is_unit ns) unit j) (q (eqb-true (kind_of ns j) k.Continue e)) j h refl)
      go false e = rw e

  -- BY UNIT: the operation is true of the unit u just where some node of the unit has a finding
  module _ (u : ℕ) (c : u < count ns) (x : is_unit ns u ≡ true) where
    pub duplicate_labels_unit : (any_duplicate_labels ns names (parts_of ns u) [] ≡ true) ↔ Says (of_unit ns (λ j. with_code 23 (findings_at source_type ns ss source names j)) u) (u + 1) (count ns)
    duplicate_labels_unit = both (duplicate_unit ns names w.input.tree w.shaped u c x) (unit_says ns (λ j. with_code 23 (findings_at source_type ns ss source names j)) (duplicate_label_at ns names) u duplicate_labels)

    pub undefined_breaks_unit : (any_undefined_break_target ns names (parts_of ns u) [] ≡ true) ↔ Says (of_unit ns (break_findings source_type ns ss source names) u) (u + 1) (count ns)
    undefined_breaks_unit = both (undefined_break_unit ns names w.input.tree w.shaped u c x) (unit_says ns (break_findings source_type ns ss source names) (undefined_break_at ns names) u undefined_breaks)

    pub undefined_continues_unit : (any_undefined_nearest ns names (parts_of ns u) ([], []) ≡ true) ↔ Says (of_unit ns (continue_findings source_type ns ss source names) u) (u + 1) (count ns)
    undefined_continues_unit = both (undefined_nearest_unit ns names w.input.tree w.shaped u c x) (unit_says ns (continue_findings source_type ns ss source names) (undefined_nearest_at ns names) u undefined_continues)

    pub breaks_not_nested_unit : (any_break_not_nested ns names (parts_of ns u) false ≡ true) ↔ Says (of_unit ns (λ j. with_code 18 (findings_at source_type ns ss source names j)) u) (u + 1) (count ns)
    breaks_not_nested_unit = both (break_nested_unit ns names w.input.tree w.shaped u c x) (unit_says ns (λ j. with_code 18 (findings_at source_type ns ss source names j)) (break_not_nested_at ns names) u breaks_not_nested)

    -- the standard's own 8.3.3, in a unit in which 8.3.1 finds nothing
    pub undefined_continues_once : any_duplicate_labels ns names (parts_of ns u) [] ≡ false
        → (any_undefined_continue_target ns names (parts_of ns u) ([], []) ≡ true) ↔ Says (of_unit ns (continue_findings source_type ns ss source names) u) (u + 1) (count ns)
    undefined_continues_once e =
        both (rw (same_rule) (undefined_nearest_unit ns names w.input.tree w.shaped u c x)) (unit_says ns (continue_findings source_type ns ss source names) (undefined_nearest_at ns names) u undefined_continues)
      where
        same_rule : any_undefined_continue_target ns names (parts_of ns u) ([], []) ≡ any_undefined_nearest ns names (parts_of ns u) ([], [])
        same_rule =
            undefined_continue_some ns names w.input.tree w.shaped u c x
            ∙ ap some (same_unit ns (undefined_continue_at ns names) (undefined_nearest_at ns names) u (agree_nearest u c x e))
            ∙ sym (undefined_nearest_some ns names w.input.tree w.shaped u c x)

    -- all the rules of the unit: the standard has an error of it just where some node of it has a finding 18 to 23
    pub label_rule_unit : (label_rule ns names (parts_of ns u) ≡ true) ↔ Says (of_unit ns (label_findings source_type ns ss source names) u) (u + 1) (count ns)
    label_rule_unit = rw (unit_is ns names w.input.tree w.shaped u c x ∙ same_some) (some_each (of_unit ns (label_findings source_type ns ss source names) u) (u + 1) (count ns))
      where
        same_some : some (each (in_unit_of ns (broken_at ns names) u) (upto (u + 1) (count ns))) ≡ some (each (of_unit ns (label_findings source_type ns ss source names) u) (upto (u + 1) (count ns)))
        same_some = some_same (in_unit_of ns (broken_at ns names) u) (of_unit ns (label_findings source_type ns ss source names) u) (u + 1) (count ns) (λ j p q. go j q (eqb (home_of ns (is_unit ns) j) u))
          where
            go : (j : ℕ) → j < count ns → (b : Bool) → some (cond b (only (broken_at ns names j) j) []) ≡ some (cond b (label_findings source_type ns ss source names j) [])
            go j h true = some_only (broken_at ns names j) j ∙ sym (some_findings ns names w.input.tree w.shaped source_type ss source j h)
            go j h false = refl

    -- the standard's own 8.3.3 and 14.8.1, by the nodes that break them
    pub undefined_continues_standard : (any_undefined_continue_target ns names (parts_of ns u) ([], []) ≡ true) ↔ Says (in_unit_of ns (undefined_continue_at ns names) u) (u + 1) (count ns)
    undefined_continues_standard = undefined_continue_unit ns names w.input.tree w.shaped u c x

    pub continues_not_nested_standard : (any_continue_not_nested ns names (parts_of ns u) false ≡ true) ↔ Says (in_unit_of ns (continue_not_nested_at ns names) u) (u + 1) (count ns)
    continues_not_nested_standard = continue_nested_unit ns names w.input.tree w.shaped u c x

  -- THE PROGRAM has an early error by the standard's 8.3, 14.8.1 or 14.9.1 just where some node has a finding 18 to 23
  pub label_errors_are : (label_errors ns names ≡ true) ↔ Says (label_findings source_type ns ss source names) 0 (count ns)
  label_errors_are = errors_iff ns names w.input.tree w.shaped source_type ss source

  -- the nodes with each code, in order
  pub all18_are : raised 18 (findings_of source_type ns ss source names) ≡ keep (break_not_nested_at ns names) (upto 0 (count ns))
  all18_are = all18 ns names w.input.tree source_type ss source

  pub all19_are : raised 19 (findings_of source_type ns ss source names) ≡ keep (λ j. no_label_at ns names j && in_program ns names j) (upto 0 (count ns))
  all19_are = all19 ns names w.input.tree source_type ss source

  pub all20_are : raised 20 (findings_of source_type ns ss source names) ≡ keep (λ j. no_label_at ns names j && not (in_program ns names j)) (upto 0 (count ns))
  all20_are = all20 ns names w.input.tree source_type ss source

  pub all21_are : raised 21 (findings_of source_type ns ss source names) ≡ keep (plain_continue_not_nested_at ns names) (upto 0 (count ns))
  all21_are = all21 ns names w.input.tree source_type ss source

  pub all22_are : raised 22 (findings_of source_type ns ss source names) ≡ keep (no_loop_at ns names) (upto 0 (count ns))
  all22_are = all22 ns names w.input.tree source_type ss source w.shaped

  pub all23_are : raised 23 (findings_of source_type ns ss source names) ≡ keep (duplicate_label_at ns names) (upto 0 (count ns))
  all23_are = all23 ns names w.input.tree source_type ss source
