-- What the renaming call writes, where 19 and 20 don't apply, is the rule with its labels renamed: so every call answers and writes for it what it did.
use Rattle.std.specs.Prelude.{ℕ, ◌+◌, ◌*◌, ◌≤◌, ◌<◌, ◌≡◌, true, false, None}
use Rattle.std.proofs.Math.Path.{refl, ap}
use Rattle.std.proofs.Common.{sym, ◌∙◌, arith}
use mathlib.Core.List.{List, ◌++◌, flat_map}
use Rattle.std.proofs.Math.ListN.{length, length-append}
use Rattle.base_common.specs.Upto.{upto}
use Rattle.base_common.proofs.Bools.{or_first, or_second}
use Rattle.table_records.specs.Table.{count, name_start_of, name_len_of}
use Rattle.table_records.specs.Facts.{Named}
use Rattle.table_names.specs.Name.{name_of, name_is}
use Rattle.table_names.specs.Words as word
use Rattle.check_identifiers.specs.Identifiers.{is_strict_word}
use Rattle.check_dispatch.specs.Rule.{Rule}
use Rattle.refusal_verdict.specs.First.{first}
use Rattle.refusal_verdict.specs.Verdict.{Passed}
use Rattle.refusal_input.proofs.InputLaws.{input_well_formed}
use Rattle.code_tree.specs.Labels.{is_label}
use Rattle.call_labels.specs.Reserved.{is_reserved}
use Rattle.call_labels.specs.Short.{most}
use Rattle.call_labels.specs.Order.{label_names, new_name}
use Rattle.call_labels.proofs.OrderLaws.{label_known, new_once, new_free}
use Rattle.call_labels.specs.Unfit.{unfit_at}
use Rattle.call_labels.proofs.UnfitLaws.{renamable}
use Rattle.call_labels.specs.Written.{new_name_of, names_to, nodes_renamed, names_renamed}
use Rattle.call_labels.proofs.WrittenLaws.{label_new, other_new, piece, records_length}
use Rattle.call_labels.proofs.TwiceLaws.{written_count, written_at, written_label, written_name}
use Rattle.table_renamed.specs.Renamed.{Renamed}
use Rattle.check_renamed.specs.Unreserved.{Unreserved}
use Rattle.refusal_renamed.proofs.KeptLaws.{kept}
use Rattle.call_renamed.specs.Same.{with_tables, refused_input, LabelsRenamed, Same}
use Rattle.call_renamed.proofs.Theorem.{labels_renamed}

unreserved : (ns names : List ℕ) → ((i : ℕ) → i < count ns → is_label ns i ≡ true → is_reserved (name_of ns names i) ≡ false) → Unreserved ns names
unfolding is_strict_word
unreserved ns names f =
    record {
      await = λ i h e. or_first (name_is ns names i word.await_word) (is_strict_word ns names i) (f i h e);
      strict = λ i h e. or_second (name_is ns names i word.await_word) (is_strict_word ns names i) (f i h e);
    }

module _ (ns names : List ℕ) where
  -- a name that was written lies within the bytes
  written_inside : Named (nodes_renamed ns names) (names_renamed ns names)
  unfolding names_renamed
  written_inside =
      record {
        inside = λ i h.
            let c = written_count ns names in
            let s : name_start_of (nodes_renamed ns names) i ≡ length (names_to ns names i) = written_at ns names i 8 (i * 10 + 8) (omega arith) (omega arith) refl in
            let l : name_len_of (nodes_renamed ns names) i ≡ length (new_name_of ns names i) = written_at ns names i 9 (i * 10 + 9) (omega arith) (omega arith) refl in
            let p : length (names_to ns names (count ns)) ≡ length (names_to ns names i ++ (new_name_of ns names i ++ flat_map (new_name_of ns names) (upto (i + 1) (count ns))))
            = ap length (piece (new_name_of ns names) i (count ns) (omega arith))
            in
            let q = length-append (names_to ns names i) (new_name_of ns names i ++ flat_map (new_name_of ns names) (upto (i + 1) (count ns))) in
            let r = length-append (new_name_of ns names i) (flat_map (new_name_of ns names) (upto (i + 1) (count ns))) in
            omega arith;
      }

  label_written : (i : ℕ) → i < count ns → is_label ns i ≡ true → name_of (nodes_renamed ns names) (names_renamed ns names) i ≡ new_name (label_names ns names) (name_of ns names i)
  label_written i h e = written_name ns names i h ∙ label_new ns names i e

  -- where there are at most 699 names
  module _ (few : length (label_names ns names) ≤ most) where
    written_renamed : length ns ≡ count ns * 10 → Renamed ns names (nodes_renamed ns names) (names_renamed ns names)
    written_renamed whole =
        record {
          size = let e = records_length ns names in omega arith;
          kind = λ i h. sym (written_at ns names i 0 (i * 10) h (omega arith) (omega arith));
          parent = λ i h. sym (written_at ns names i 1 (i * 10 + 1) h (omega arith) refl);
          role = λ i h. sym (written_at ns names i 2 (i * 10 + 2) h (omega arith) refl);
          start = λ i h. sym (written_at ns names i 3 (i * 10 + 3) h (omega arith) refl);
          end = λ i h. sym (written_at ns names i 4 (i * 10 + 4) h (omega arith) refl);
          scope = λ i h. sym (written_at ns names i 5 (i * 10 + 5) h (omega arith) refl);
          flags = λ i h. sym (written_at ns names i 6 (i * 10 + 6) h (omega arith) refl);
          extra = λ i h. sym (written_at ns names i 7 (i * 10 + 7) h (omega arith) refl);
          others = λ i h e. sym (written_name ns names i h ∙ other_new ns names i e);
          replaced = λ i j h g e f q. label_written i h e ∙ ap (new_name (label_names ns names)) q ∙ sym (label_written j g f);
          once = λ i j h g e f q.
              new_once (label_names ns names) few (name_of ns names i) (name_of ns names j) (label_known ns names i h e) (label_known ns names j g f)
              (sym (label_written i h e) ∙ q ∙ label_written j g f);
        }

    written_free : (i : ℕ) → i < count (nodes_renamed ns names) → is_label (nodes_renamed ns names) i ≡ true → is_reserved (name_of (nodes_renamed ns names) (names_renamed ns names) i) ≡ false
    written_free i h e =
        let c = written_count ns names in
        let l : i < count ns = omega arith in
        let f = sym (written_label ns names i l) ∙ e in
        ap is_reserved (label_written i l f) ∙ new_free (label_names ns names) few (name_of ns names i) (label_known ns names i l f)

module _ (x : Rule) (formed : refused_input x ≡ Passed) (fit : first (unfit_at x.nodes x.names) 0 (count x.nodes) ≡ None)
    (small : length (names_renamed x.nodes x.names) ≤ 1048576)
  where
    pub labels_written : LabelsRenamed x (nodes_renamed x.nodes x.names) (names_renamed x.nodes x.names)
    labels_written =
        let w = input_well_formed x.source_type x.nodes x.scopes x.source x.names formed in
        let m = renamable x.nodes x.names fit in
        let r = written_renamed x.nodes x.names m.few w.sizes.whole in
        record {
          renamed = r;
          formed = formed;
          stays =
              kept x.source_type x.nodes x.scopes x.source x.names (nodes_renamed x.nodes x.names) (names_renamed x.nodes x.names) formed
              (written_inside x.nodes x.names) small r;
          old = unreserved x.nodes x.names m.free;
          new = unreserved (nodes_renamed x.nodes x.names) (names_renamed x.nodes x.names) (written_free x.nodes x.names m.few);
        }

    pub same_written : Same x (with_tables x (nodes_renamed x.nodes x.names) (names_renamed x.nodes x.names))
    same_written = labels_renamed x (nodes_renamed x.nodes x.names) (names_renamed x.nodes x.names) labels_written
