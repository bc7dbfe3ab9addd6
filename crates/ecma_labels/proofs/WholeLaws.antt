-- THE FINDINGS 18 TO 23 OF THE WHOLE TREE: the nodes with each code, in order.
use Rattle.std.specs.Prelude.{ℕ, ◌≡◌, ◌&&◌}
use Rattle.std.proofs.Math.Path.{refl}
use Rattle.std.proofs.Math.Bool.{not}
use mathlib.Core.List.{List}
use Rattle.base_common.specs.Upto.{upto}
use Rattle.table_records.specs.Table.{count}
use Rattle.table_records.specs.Facts.{Tree}
use Rattle.table_children.specs.Children.{keep}
use Rattle.refusal_input.specs.WellFormed.{Shaped}
use Rattle.check_dispatch.specs.Findings.{findings_of}
use Rattle.ecma_dispatch.specs.NodesOf.{raised}
use Rattle.ecma_dispatch.proofs.NodesOfLaws.{nodes_whole}
use Rattle.ecma_labels.specs.Breaches.{duplicate_label_at, break_not_nested_at}
use Rattle.ecma_labels.specs.Changed.{plain_continue_not_nested_at, no_label_at, no_loop_at, in_program}
use Rattle.ecma_labels.proofs.CodeLaws.{code18, code19, code20, code21, code22, code23}

module _ (ns names : List ℕ) (t : Tree ns) (source_type : ℕ) (ss source : List ℕ) where
  pub all18 : raised 18 (findings_of source_type ns ss source names) ≡ keep (break_not_nested_at ns names) (upto 0 (count ns))
  all18 = nodes_whole source_type ns ss source names 18 (break_not_nested_at ns names) refl (code18 ns names t source_type ss source)

  pub all19 : raised 19 (findings_of source_type ns ss source names) ≡ keep (λ j. no_label_at ns names j && in_program ns names j) (upto 0 (count ns))
  all19 = nodes_whole source_type ns ss source names 19 (λ j. no_label_at ns names j && in_program ns names j) refl (code19 ns names t source_type ss source)

  pub all20 : raised 20 (findings_of source_type ns ss source names) ≡ keep (λ j. no_label_at ns names j && not (in_program ns names j)) (upto 0 (count ns))
  all20 = nodes_whole source_type ns ss source names 20 (λ j. no_label_at ns names j && not (in_program ns names j)) refl (code20 ns names t source_type ss source)

  pub all21 : raised 21 (findings_of source_type ns ss source names) ≡ keep (plain_continue_not_nested_at ns names) (upto 0 (count ns))
  all21 = nodes_whole source_type ns ss source names 21 (plain_continue_not_nested_at ns names) refl (code21 ns names t source_type ss source)

  pub all22 : Shaped ns → raised 22 (findings_of source_type ns ss source names) ≡ keep (no_loop_at ns names) (upto 0 (count ns))
  all22 w = nodes_whole source_type ns ss source names 22 (no_loop_at ns names) refl (code22 ns names t source_type ss source w)

  pub all23 : raised 23 (findings_of source_type ns ss source names) ≡ keep (duplicate_label_at ns names) (upto 0 (count ns))
  all23 = nodes_whole source_type ns ss source names 23 (duplicate_label_at ns names) refl (code23 ns names t source_type ss source)
