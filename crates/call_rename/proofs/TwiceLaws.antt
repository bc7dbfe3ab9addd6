-- What success of the call says, and document 02, request 12/13: "Renaming twice gives the bytes of renaming once."
use Rattle.std.specs.Prelude.{ℕ, ◌≤◌, ◌≡◌, refl, List, Bool, false, cond, ◌&&◌, length, Option, Some, None, Ok, Err}
use Rattle.std.proofs.Common.{◌∙◌, arith}
use Rattle.std.proofs.Math.Bool.{true}
use borrow.Author.Tests.{leb-true}
use Rattle.std.proofs.Math.Dec.{leb}
use Rattle.base_common.proofs.UptoLaws.{and_right_lem}
use Rattle.table_records.specs.Table.{count}
use Rattle.refusal_verdict.specs.Verdict.{Verdict, Passed}
use Rattle.refusal_verdict.specs.First.{first}
use Rattle.refusal_input.specs.Input.{input_refusal}
use Rattle.route_list.specs.Over.{over}
use Rattle.call_labels.specs.Unfit.{unfit_at}
use Rattle.call_labels.proofs.UnfitLaws.{renamable}
use Rattle.call_labels.specs.Written.{most_bytes, nodes_renamed, names_renamed}
use Rattle.call_labels.proofs.TwiceLaws.{twice_nodes, twice_names, twice_fit}
use Rattle.call_rename.specs.Rename.{fits, written, labelled, renaming, after_unfit, after_input}
use Rattle.call_rename.proofs.RenameLaws.{short, full, room, labelled_fit, input_passed}

-- nothing was refused
pub record Done (t : ℕ) (ns ss source names s u : List ℕ) (n : ℕ) : Type 0 where
  pub passed : input_refusal t ns ss source names ≡ Passed
  pub fit : first (unfit_at ns names) 0 (count ns) ≡ None
  pub bytes : n ≡ length (names_renamed ns names)
  pub small : length (names_renamed ns names) ≤ most_bytes
  pub left : renaming t ns ss source names s u ≡ record { answer = Ok n; nodes = over (nodes_renamed ns names) s; names = over (names_renamed ns names) u }

module _ (t : ℕ) (ns ss source names s u : List ℕ) (n : ℕ) where
  by_parts : (v : Verdict) (p : Option ℕ) (b : Bool) → (after_input v s u (after_unfit p s u (cond b (full ns names s u) (short ns names s u)))).answer ≡ Ok n
      → (v ≡ Passed) × (p ≡ None) × (b ≡ true) × (n ≡ length (names_renamed ns names))
  by_parts (Err f) p b e = let z : ◌≡◌ {A = ℕ} 0 1 = cc in absurd (omega arith)
  by_parts (Ok v) (Some q) b e = let z : ◌≡◌ {A = ℕ} 0 1 = cc in absurd (omega arith)
  by_parts (Ok v) None true e = (refl, refl, refl, cc)
  by_parts (Ok v) None false e = let z : ◌≡◌ {A = ℕ} 0 1 = cc in absurd (omega arith)

  pub done : (renaming t ns ss source names s u).answer ≡ Ok n → Done t ns ss source names s u n
  unfolding renaming labelled written
  done e =
      let w = by_parts (input_refusal t ns ss source names) (first (unfit_at ns names) 0 (count ns)) (fits ns names (length s) (length u)) e in
      let a : (leb (length (names_renamed ns names)) (length u) && leb (length (names_renamed ns names)) most_bytes) ≡ true = and_right_lem (leb (length (nodes_renamed ns names)) (length s)) _ w.2 in
      record {
        passed = w.0;
        fit = w.1;
        bytes = w.3;
        small = leb-true (length (names_renamed ns names)) most_bytes (and_right_lem (leb (length (names_renamed ns names)) (length u)) _ a);
        left = rw (w.0, w.1, w.2, w.3);
      }

  -- the second call, where what the first wrote is well-formed
  pub twice : (renaming t ns ss source names s u).answer ≡ Ok n → input_refusal t (nodes_renamed ns names) ss source (names_renamed ns names) ≡ Passed
      → (a b : List ℕ) → length (nodes_renamed ns names) ≤ length a → length (names_renamed ns names) ≤ length b
      → renaming t (nodes_renamed ns names) ss source (names_renamed ns names) a b ≡ record { answer = Ok n; nodes = over (nodes_renamed ns names) a; names = over (names_renamed ns names) b }
  twice e p a b h g =
      let d = done e in
      let few = (renamable ns names d.fit).few in
      let ms = nodes_renamed ns names in
      let mnames = names_renamed ns names in
      let x = twice_nodes ns names few in
      let y = twice_names ns names few in
      let l = d.small in
      input_passed t ms ss source mnames a b p ∙ labelled_fit ms mnames a b (twice_fit ns names d.fit)
      ∙ room ms mnames a b (rw x h) (rw y g) (rw y l) ∙ rw (x, y, d.bytes)
