-- The findings of a node that are about labels, break and continue.
use Rattle.std.specs.Prelude.{ℕ, Bool, cond, eqb}
use mathlib.Core.List.{List, [], ◌∷◌, flat_map}
use Rattle.table_records.specs.Table.{kind_of}
use Rattle.table_records.specs.Kinds as k
use Rattle.check_diagnostics.specs.declared.Finding.{Finding}
use Rattle.check_dispatch.specs.Findings.{findings_at}
use Rattle.ecma_dispatch.specs.WithCode.{with_code}
use Rattle.ecma_trees.specs.Walk.{only}
use Rattle.ecma_trees.specs.Unit.{home_of}
use Rattle.ecma_labels.specs.Labels.{is_unit}

module _ (source_type : ℕ) (ns ss source names : List ℕ) where
  -- with some codes
  abbrev pub with_codes : List ℕ → ℕ → List Finding
  with_codes codes j = flat_map (λ c. with_code c (findings_at source_type ns ss source names j)) codes

  -- 18 to 23
  abbrev pub label_findings : ℕ → List Finding
  label_findings j = with_codes (18 ∷ 19 ∷ 20 ∷ 21 ∷ 22 ∷ 23 ∷ []) j

  -- of a break: 19, 20
  abbrev pub break_findings : ℕ → List Finding
  break_findings j = cond (eqb (kind_of ns j) k.Break) (with_codes (19 ∷ 20 ∷ []) j) []

  -- of a continue: 19, 20, 22
  abbrev pub continue_findings : ℕ → List Finding
  continue_findings j = cond (eqb (kind_of ns j) k.Continue) (with_codes (19 ∷ 20 ∷ 22 ∷ []) j) []

-- findings at the nodes of the unit u
abbrev pub of_unit : List ℕ → (ℕ → List Finding) → ℕ → ℕ → List Finding
of_unit ns findings u j = cond (eqb (home_of ns (is_unit ns) j) u) (findings j) []

-- the node j, where a test holds, in the unit u
abbrev pub in_unit_of : List ℕ → (ℕ → Bool) → ℕ → ℕ → List ℕ
in_unit_of ns test u j = cond (eqb (home_of ns (is_unit ns) j) u) (only (test j) j) []
