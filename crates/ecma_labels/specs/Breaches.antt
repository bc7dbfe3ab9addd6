-- Where the rules are broken: what the operations hand down to a node, from its unit on, and what their clause for the node says by it. BreachLaws ties these to
-- the operations.
use Rattle.table_records.specs.declared.NodeId.{NodeId}
use Rattle.std.specs.Prelude.{ℕ, Bool, true, false, cond, not, ◌&&◌, ◌||◌, eqb, Option}
use mathlib.Core.List.{List, [], ◌++◌, foldr}
use Rattle.table_records.specs.Table.{kind_of, ancestors}
use Rattle.table_records.specs.Kinds as k
use Rattle.ecma_trees.specs.Rose.{parts_of}
use Rattle.ecma_trees.specs.Unit.{in_unit}
use Rattle.ecma_labels.specs.Labels.{is_iteration, label_in, unlabelled, contains, lacks, adding, is_unit}

module _ (ns names : List ℕ) where
  abbrev pub label_at : ℕ → Option NodeId
  label_at j = label_in ns (parts_of ns j)

  -- the labelSet of 8.3.1 and 8.3.2
  abbrev pub labels_down : ℕ → List (List ℕ) → List (List ℕ)
  labels_down n labelSet = cond (eqb (kind_of ns n) k.Labeled) (adding ns names labelSet (label_at n)) labelSet

  unfoldable pub label_set_at : ℕ → List (List ℕ)
  label_set_at j = foldr (in_unit (is_unit ns) [] labels_down) [] (ancestors ns j)

  -- the iterationSet and the labelSet of 8.3.3
  abbrev pub sets_down : ℕ → List (List ℕ) × List (List ℕ) → List (List ℕ) × List (List ℕ)
  sets_down n sets =
      cond (eqb (kind_of ns n) k.Labeled) (sets.0, adding ns names sets.1 (label_at n))
      (cond (is_iteration (kind_of ns n)) (sets.0 ++ sets.1, [])
      (sets.0, []))

  unfoldable pub sets_at : ℕ → List (List ℕ) × List (List ℕ)
  sets_at j = foldr (in_unit (is_unit ns) ([], []) sets_down) ([], []) (ancestors ns j)

  -- nested within an IterationStatement
  abbrev pub loop_down : ℕ → Bool → Bool
  loop_down n nested = cond (is_iteration (kind_of ns n)) true nested

  unfoldable pub in_loop : ℕ → Bool
  in_loop j = foldr (in_unit (is_unit ns) false loop_down) false (ancestors ns j)

  -- nested within an IterationStatement or a SwitchStatement
  abbrev pub breakable_down : ℕ → Bool → Bool
  breakable_down n nested = cond (is_iteration (kind_of ns n) || eqb (kind_of ns n) k.Switch) true nested

  unfoldable pub in_breakable : ℕ → Bool
  in_breakable j = foldr (in_unit (is_unit ns) false breakable_down) false (ancestors ns j)

  -- 8.3.1 is broken at the LabelledStatement j
  unfoldable pub duplicate_label_at : ℕ → Bool
  duplicate_label_at j = eqb (kind_of ns j) k.Labeled && contains ns names (label_set_at j) (label_at j)

  -- 8.3.2 at the BreakStatement j
  unfoldable pub undefined_break_at : ℕ → Bool
  undefined_break_at j = eqb (kind_of ns j) k.Break && lacks ns names (label_set_at j) (label_at j)

  -- 8.3.3 at the ContinueStatement j
  unfoldable pub undefined_continue_at : ℕ → Bool
  undefined_continue_at j = eqb (kind_of ns j) k.Continue && lacks ns names (sets_at j).0 (label_at j)

  -- 14.8.1 at the ContinueStatement j
  unfoldable pub continue_not_nested_at : ℕ → Bool
  continue_not_nested_at j = eqb (kind_of ns j) k.Continue && not (in_loop j)

  -- 14.9.1 at the BreakStatement j
  unfoldable pub break_not_nested_at : ℕ → Bool
  break_not_nested_at j = eqb (kind_of ns j) k.Break && (unlabelled (label_at j) && not (in_breakable j))
