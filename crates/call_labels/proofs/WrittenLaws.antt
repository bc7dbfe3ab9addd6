-- Laws of what is written: a node's new name, and names and records one after the other.
use Rattle.std.specs.Prelude.{ℕ, zero, suc, ◌+◌, ◌*◌, ◌≤◌, ◌<◌, ◌≡◌, refl, Bool, true, false, cond, length, get_or}
use Rattle.std.proofs.Common.{ap, sym, ◌∙◌, ⊎_elim, eq-or-lt_of_le, arith, length-append, get_or-append-add}
use mathlib.Core.List.{List, [], ◌∷◌, ◌++◌, flat_map, append_assoc, append-nil}
use Rattle.std.proofs.Math.ListN.{get_or-append}
use Rattle.base_common.specs.Upto.{upto}
use Rattle.check_diagnostics.proofs.Gather.{flat_turn, flat_end}
use Rattle.table_records.specs.Table.{count}
use Rattle.table_names.specs.Name.{name_of}
use Rattle.code_tree.specs.Labels.{is_label}
use Rattle.call_labels.specs.Short.{short_name}
use Rattle.call_labels.specs.Order.{label_names, place_in, new_name}
use Rattle.call_labels.proofs.OrderLaws.{Known, label_known, place_below}
use Rattle.call_labels.specs.Written.{new_name_of, record_of, nodes_renamed}

-- A NODE'S NEW NAME
new_none : (b : Bool) (seen : List (List ℕ)) (x : List ℕ) → length x ≡ 0 → cond b (new_name seen x) x ≡ []
new_none true seen [] e = refl
new_none false seen [] e = refl
new_none b seen (c ∷ cs) e = absurd (omega arith)

new_some : (seen : List (List ℕ)) (x : List ℕ) → (length x ≡ 0 → ⊥) → new_name seen x ≡ short_name (place_in seen x)
new_some seen [] n = absurd (n refl)
new_some seen (c ∷ cs) n = refl

known_below : (seen : List (List ℕ)) (x : List ℕ) → (length x ≡ 0 → ⊥) → Known seen x → place_in seen x < length seen
known_below seen [] n k = absurd (n refl)
known_below seen (c ∷ cs) n k = place_below seen (c ∷ cs) k

module _ (ns names : List ℕ) (i : ℕ) where
  pub nameless_new : length (name_of ns names i) ≡ 0 → new_name_of ns names i ≡ []
  unfolding new_name_of
  nameless_new e = new_none (is_label ns i) (label_names ns names) (name_of ns names i) e

  pub other_new : is_label ns i ≡ false → new_name_of ns names i ≡ name_of ns names i
  unfolding new_name_of
  other_new e = rw e

  pub label_new : is_label ns i ≡ true → new_name_of ns names i ≡ new_name (label_names ns names) (name_of ns names i)
  unfolding new_name_of
  label_new e = rw e

  pub short_new : is_label ns i ≡ true → (length (name_of ns names i) ≡ 0 → ⊥) → new_name_of ns names i ≡ short_name (place_in (label_names ns names) (name_of ns names i))
  short_new e n = label_new e ∙ new_some (label_names ns names) (name_of ns names i) n

  pub label_below : i < count ns → is_label ns i ≡ true → (length (name_of ns names i) ≡ 0 → ⊥) → place_in (label_names ns names) (name_of ns names i) < length (label_names ns names)
  label_below h e n = known_below (label_names ns names) (name_of ns names i) n (label_known ns names i h e)

-- PIECES ONE AFTER THE OTHER
module _ (f : ℕ → List ℕ) where
  split : (g lo i n : ℕ) → i ≤ lo + g → lo ≤ i → i ≤ n → flat_map f (upto lo n) ≡ flat_map f (upto lo i) ++ flat_map f (upto i n)
  split zero lo i n hg h l = let e : lo ≡ i = omega arith in rw (e, flat_end f i i (omega arith))
  split (suc g) lo i n hg h l =
      ⊎_elim (λ (e : lo ≡ i). rw (e, flat_end f i i (omega arith)))
      (λ (e : lo < i).
      flat_turn f lo n (omega arith) ∙ ap (λ r. f lo ++ r) (split g (lo + 1) i n (omega arith) (omega arith) l) ∙ sym (append_assoc (f lo) _ _)
      ∙ ap (λ r. r ++ flat_map f (upto i n)) (sym (flat_turn f lo i e))) (eq-or-lt_of_le h)

  -- a list of pieces, at piece i
  pub piece : (i n : ℕ) → i < n → flat_map f (upto 0 n) ≡ flat_map f (upto 0 i) ++ (f i ++ flat_map f (upto (i + 1) n))
  piece i n h = split i 0 i n (omega arith) (omega arith) (omega arith) ∙ ap (λ r. flat_map f (upto 0 i) ++ r) (flat_turn f i n h)

  pub next_length : (i : ℕ) → length (flat_map f (upto 0 (i + 1))) ≡ length (flat_map f (upto 0 i)) + length (f i)
  next_length i =
      ap length (piece i (i + 1) (omega arith)) ∙ length-append (flat_map f (upto 0 i)) _
      ∙ rw (flat_end f (i + 1) (i + 1) (omega arith), append-nil (f i))

  -- pieces of ten
  module _ (ten : (i : ℕ) → length (f i) ≡ 10) where
    tens_by : (k lo n : ℕ) → lo + k ≡ n → length (flat_map f (upto lo n)) ≡ k * 10
    tens_by zero lo n e = rw (flat_end f lo n (omega arith))
    tens_by (suc k) lo n e =
        let r = tens_by k (lo + 1) n (omega arith) in
        let t = ten lo in
        ap length (flat_turn f lo n (omega arith)) ∙ length-append (f lo) _ ∙ omega arith

    pub tens : (n : ℕ) → length (flat_map f (upto 0 n)) ≡ n * 10
    tens n = tens_by n 0 n (omega arith)

    pub in_piece : (i n c q : ℕ) → i < n → c < 10 → q ≡ i * 10 + c → get_or (flat_map f (upto 0 n)) q 0 ≡ get_or (f i) c 0
    in_piece i n c q h g e =
        let t = tens i in
        let s = ten i in
        let p : q ≡ length (flat_map f (upto 0 i)) + c = omega arith in
        ap (λ l. get_or l q 0) (piece i n h) ∙ ap (λ z. get_or (flat_map f (upto 0 i) ++ (f i ++ flat_map f (upto (i + 1) n))) z 0) p
        ∙ get_or-append-add (flat_map f (upto 0 i)) (f i ++ flat_map f (upto (i + 1) n)) c 0 ∙ get_or-append (f i) _ 0 c (omega arith)

pub records_length : (ns names : List ℕ) → length (nodes_renamed ns names) ≡ count ns * 10
unfolding nodes_renamed
records_length ns names = tens (record_of ns names) (λ j. refl) (count ns)
