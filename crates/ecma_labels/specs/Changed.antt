-- The rules as the Rust has them, where they differ from the standard's.
use Rattle.table_records.specs.declared.NodeId.{NodeId}
use Rattle.std.specs.Prelude.{ℕ, ◌≡◌, Bool, true, false, cond, not, ◌&&◌, ◌||◌, eqb, Option, Some, None}
use mathlib.Core.List.{List, [], ◌∷◌, ◌++◌, foldr}
use Rattle.base_common.specs.Tests.{within}
use Rattle.table_records.specs.Table.{kind_of, ancestors}
use Rattle.table_records.specs.Kinds as k
use Rattle.table_names.specs.Name.{same, name_of}
use Rattle.ecma_trees.specs.Rose.{Rose, Roses, node, rnil, rcons, parts_of}
use Rattle.ecma_trees.specs.Unit.{in_unit, home_of}
use Rattle.ecma_labels.specs.Labels.{is_iteration, holds, label_in, unlabelled, contains, lacks, adding, is_unit, any_duplicate_labels}
use Rattle.ecma_labels.specs.Breaches.{label_at, label_set_at, in_loop}

-- a List of Strings without one
unfoldable pub without : List (List ℕ) → List ℕ → List (List ℕ)
without [] label = []
without (x ∷ labels) label = cond (same x label) (without labels label) (x ∷ without labels label)

module _ (ns names : List ℕ) where
  abbrev pub hiding : List (List ℕ) → Option NodeId → List (List ℕ)
  hiding iterationSet (Some m) = without iterationSet (name_of ns names m.0)
  hiding iterationSet None = iterationSet

  -- 8.3.3, CHANGED: THE NEAREST LABEL DECIDES. At a LabelledStatement its label leaves the iterationSet, so that a `continue` in it does not see a loop further out
  -- that has the same label. Where no label stands within itself (8.3.1) this is the standard's rule.
  unfoldable mutual
    pub contains_undefined_nearest : Rose → List (List ℕ) × List (List ℕ) → Bool
    contains_undefined_nearest (node n ks) sets =
        cond (eqb (kind_of ns n) k.Continue) (lacks ns names sets.0 (label_in ns ks))
        (cond (eqb (kind_of ns n) k.Labeled) (any_undefined_nearest ks (hiding sets.0 (label_in ns ks), adding ns names sets.1 (label_in ns ks)))
        (cond (is_iteration (kind_of ns n)) (any_undefined_nearest ks (sets.0 ++ sets.1, []))
        (cond (holds (kind_of ns n)) (any_undefined_nearest ks (sets.0, []))
        false)))

    pub any_undefined_nearest : Roses → List (List ℕ) × List (List ℕ) → Bool
    any_undefined_nearest rnil sets = false
    any_undefined_nearest (rcons t ts) sets = contains_undefined_nearest t sets || any_undefined_nearest ts sets

  abbrev pub nearest_down : ℕ → List (List ℕ) × List (List ℕ) → List (List ℕ) × List (List ℕ)
  nearest_down n sets =
      cond (eqb (kind_of ns n) k.Labeled) (hiding sets.0 (label_at ns names n), adding ns names sets.1 (label_at ns names n))
      (cond (is_iteration (kind_of ns n)) (sets.0 ++ sets.1, [])
      (sets.0, []))

  unfoldable pub nearest_at : ℕ → List (List ℕ) × List (List ℕ)
  nearest_at j = foldr (in_unit (is_unit ns) ([], []) nearest_down) ([], []) (ancestors ns j)

  unfoldable pub undefined_nearest_at : ℕ → Bool
  undefined_nearest_at j = eqb (kind_of ns j) k.Continue && lacks ns names (nearest_at j).0 (label_at ns names j)

  -- 14.8.1, CHANGED: OF `continue ;` ONLY. A `continue` with a label that is in no IterationStatement breaks 8.3.3 too, and has that finding alone.
  unfoldable pub plain_continue_not_nested_at : ℕ → Bool
  plain_continue_not_nested_at j = eqb (kind_of ns j) k.Continue && (unlabelled (label_at ns names j) && not (in_loop ns names j))

  -- THE CODES of 8.3.2 and 8.3.3. No statement around the break or continue j, in its unit, has its label: 19 in the program, 20 in a function, an arrow or a static
  -- block (whether or not there is such a label outside of that).
  unfoldable pub no_label_at : ℕ → Bool
  no_label_at j = within (kind_of ns j) k.Break k.Continue && lacks ns names (label_set_at ns names j) (label_at ns names j)

  abbrev pub in_program : ℕ → Bool
  in_program j = eqb (kind_of ns (home_of ns (is_unit ns) j)) k.Program

  -- a statement around the continue j has its label, but the nearest one labels no IterationStatement: 22
  unfoldable pub no_loop_at : ℕ → Bool
  no_loop_at j = undefined_nearest_at j && contains ns names (label_set_at ns names j) (label_at ns names j)

  -- CONDITION on which 8.3.3 is the standard's: in the unit u no label stands within itself (8.3.1)
  abbrev pub LabelsOnce : ℕ → Type 0
  LabelsOnce u = any_duplicate_labels ns names (parts_of ns u) [] ≡ false

  -- CONDITION on which 14.8.1 is the standard's: a continue that is in no loop has no label
  abbrev pub ContinuePlain : ℕ → Type 0
  ContinuePlain j = kind_of ns j ≡ k.Continue → in_loop ns names j ≡ false → unlabelled (label_at ns names j) ≡ true
