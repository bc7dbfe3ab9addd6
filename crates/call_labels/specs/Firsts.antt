-- The first label of each different name, as the functions keep them: for each its node.
use Rattle.std.specs.Prelude.{ℕ, ◌+◌, ◌*◌, ◌≤◌, ◌<◌, ◌≡◌, List, map, true, false, length, get_or, Some, None, Result, Ok, Err, ⊤}
use Rattle.base_common.specs.Upto.{upto}
use Rattle.refusal_verdict.specs.First.{first}
use Rattle.table_records.specs.declared.NodeId.{NodeId}
use Rattle.table_records.specs.Table.{count}
use Rattle.table_names.specs.Name.{name_of}
use Rattle.call_labels.specs.Short.{most}
use Rattle.call_labels.specs.Order.{seen_before, label_names}
use Rattle.call_labels.specs.Unfit.{unfit_at}
use Rattle.call_labels.specs.Written.{most_bytes}
use Rattle.call_labels.specs.declared.Kept.{Kept}

-- the names of the nodes kept from place k on
unfoldable pub kept_from : List ℕ → List ℕ → List ℕ → ℕ → ℕ → List (List ℕ)
kept_from ns names kept size k = map (λ j. name_of ns names (get_or kept j 0)) (upto k size)

-- the first `size` entries are nodes, of which none is the 700th
pub record AreNodes (ns kept : List ℕ) (size : ℕ) : Type 0 where
  pub few : size ≤ most
  pub room : most ≤ length kept
  pub inside : (k : ℕ) → k < size → get_or kept k 0 < count ns

-- and these are their names
pub record Firsts (ns names kept : List ℕ) (size : ℕ) (seen : List (List ℕ)) : Type 0 where
  pub nodes : AreNodes ns kept size
  pub named : kept_from ns names kept size 0 ≡ seen

-- what a node comes to: 19, or the first labels up to it
abbrev pub Entered : List ℕ → List ℕ → ℕ → Kept → Result ⊤ NodeId → Type 0
Entered ns names i kept (Err n) = (n.0 ≡ i) × (unfit_at ns names i ≡ true)
Entered ns names i kept (Ok u) = (unfit_at ns names i ≡ false) × Firsts ns names kept.nodes kept.size (seen_before ns names (i + 1))

-- what all nodes come to
abbrev pub Listed : List ℕ → List ℕ → Result Kept NodeId → Type 0
Listed ns names (Err n) = first (unfit_at ns names) 0 (count ns) ≡ Some n.0
Listed ns names (Ok kept) = (first (unfit_at ns names) 0 (count ns) ≡ None) × Firsts ns names kept.nodes kept.size (label_names ns names)

-- what is known of tables whose labels are kept: the invariant of `Labels`, beside that of the `NamedNodes` in it
pub record LabelsKept (ns names : List ℕ) (kept : Kept) : Type 0 where
  pub whole : length ns ≡ count ns * 10
  pub small : length names ≤ most_bytes
  pub firsts : Firsts ns names kept.nodes kept.size (label_names ns names)
