-- What a call of `rename` comes to, as its functions meet it.
use Rattle.std.specs.Prelude.{ℕ, ◌≤◌, ◌<◌, ◌≡◌, refl, List, Bool, true, false, ◌&&◌, leb, length, Option, Some, None, Result, Ok, Err}
use Rattle.std.proofs.Math.Path.{ap}
use Rattle.std.proofs.Common.{subst, sym}
use borrow.Author.Tests.{le-leb, lt-leb}
use Rattle.table_records.specs.declared.NodeId.{NodeId}
use Rattle.table_records.specs.Table.{count}
use Rattle.refusal_verdict.specs.declared.Refused.{Refused}
use Rattle.refusal_verdict.specs.declared.Refused.TheVariants.{At, Short}
use Rattle.refusal_verdict.specs.Verdict.{Verdict, Passed}
use Rattle.refusal_verdict.specs.First.{first}
use Rattle.refusal_verdict.specs.declared.Refusal.TheVariants as refusal
use Rattle.refusal_input.specs.Input.{input_refusal}
use Rattle.refusal_input.proofs.InputLaws.{input_well_formed}
use Rattle.route_list.specs.Over.{over}
use Rattle.call_labels.specs.Unfit.{unfit_at}
use Rattle.call_labels.specs.Order.{label_names}
use Rattle.call_labels.specs.Firsts.{Firsts, LabelsKept, Listed}
use Rattle.call_labels.specs.declared.Kept.{Kept}
use Rattle.call_labels.specs.Written.{most_bytes, nodes_renamed, names_renamed}
use Rattle.call_rename.specs.Rename.{Renaming, written, labelled, renaming, after_unfit, after_input}
use Rattle.call_rename.specs.Sized.{Sized}

module _ (t : ℕ) (ns ss source names : List ℕ) where
  pub sized : input_refusal t ns ss source names ≡ Passed → Sized ns names
  sized e =
      let w = input_well_formed t ns ss source names e in
      record { tree = w.input.tree; within = w.input.named; whole = w.sizes.whole; small = w.sizes.name_bytes }

pub ready : (ns names : List ℕ) (kept : Kept) → Sized ns names → Firsts ns names kept.nodes kept.size (label_names ns names) → LabelsKept ns names kept
ready ns names kept w f = record { whole = w.whole; small = w.small; firsts = f }

-- by what the first labels came to
module _ (ns names : List ℕ) (r : Result Kept NodeId) where
  pub listed_unfit : (n : NodeId) → Listed ns names r → r ≡ Err n → first (unfit_at ns names) 0 (count ns) ≡ Some n.0
  listed_unfit n l q = let w : Listed ns names (Err n) = subst (Listed ns names) q l in w

  pub listed_few : (kept : Kept) → Listed ns names r → r ≡ Ok kept → (first (unfit_at ns names) 0 (count ns) ≡ None) × Firsts ns names kept.nodes kept.size (label_names ns names)
  listed_few kept l q = subst (Listed ns names) q l

and_none : (a : Bool) → (a && false) ≡ false
and_none true = refl
and_none false = refl

-- BY THE SLICES
module _ (ns names s t : List ℕ) where
  abbrev pub short : Renaming
  short = record { answer = Err (Short refusal.RenamedSlices (length (names_renamed ns names))); nodes = s; names = t }

  abbrev pub full : Renaming
  full = record { answer = Ok (length (names_renamed ns names)); nodes = over (nodes_renamed ns names) s; names = over (names_renamed ns names) t }

  pub short_nodes : length s < length (nodes_renamed ns names) → written ns names s t ≡ short
  unfolding written
  short_nodes h = rw (lt-leb (length (nodes_renamed ns names)) (length s) h)

  pub short_names_lem : length t < length (names_renamed ns names) → written ns names s t ≡ short
  unfolding written
  short_names_lem h = rw (lt-leb (length (names_renamed ns names)) (length t) h, and_none (leb (length (nodes_renamed ns names)) (length s)))

  pub long_names : most_bytes < length (names_renamed ns names) → written ns names s t ≡ short
  unfolding written
  long_names h =
      rw (lt-leb (length (names_renamed ns names)) most_bytes h, and_none (leb (length (names_renamed ns names)) (length t)), and_none (leb (length (nodes_renamed ns names)) (length s)))

  pub room : length (nodes_renamed ns names) ≤ length s → length (names_renamed ns names) ≤ length t → length (names_renamed ns names) ≤ most_bytes → written ns names s t ≡ full
  unfolding written
  room a b c =
      rw (le-leb (length (nodes_renamed ns names)) (length s) a, le-leb (length (names_renamed ns names)) (length t) b, le-leb (length (names_renamed ns names)) most_bytes c)

  -- BY 19
  pub labelled_unfit : (place : ℕ) → first (unfit_at ns names) 0 (count ns) ≡ Some place → labelled ns names s t ≡ record { answer = Err (At refusal.Label place); nodes = s; names = t }
  unfolding labelled
  labelled_unfit place e = ap (λ (p : Option ℕ). after_unfit p s t (written ns names s t)) e

  pub labelled_fit : first (unfit_at ns names) 0 (count ns) ≡ None → labelled ns names s t ≡ written ns names s t
  unfolding labelled
  labelled_fit e = ap (λ (p : Option ℕ). after_unfit p s t (written ns names s t)) e

-- BY THE REFUSALS OF THE INPUT
module _ (k : ℕ) (ns ss source names s t : List ℕ) where
  pub input_refused : (f : Refused) → Err f ≡ input_refusal k ns ss source names
      → renaming k ns ss source names s t ≡ record { answer = Err f; nodes = s; names = t }
  unfolding renaming
  input_refused f e = ap (λ (v : Verdict). after_input v s t (labelled ns names s t)) (sym e)

  pub input_passed : input_refusal k ns ss source names ≡ Passed → renaming k ns ss source names s t ≡ labelled ns names s t
  unfolding renaming
  input_passed e = ap (λ (v : Verdict). after_input v s t (labelled ns names s t)) e
