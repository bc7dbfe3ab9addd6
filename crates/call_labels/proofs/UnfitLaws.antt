-- What a node does to the names seen and to 19; where 19 applies nowhere there are at most 699 names, none of them reserved.
use Prim.Native.Nat.{ℕ, zero, suc, ◌+◌, ◌≤◌, ◌<◌}
use Rattle.std.specs.Prelude.{◌≡◌, List, [], ◌∷◌, ◌++◌, Bool, cond, not, ◌&&◌, ◌||◌, None}
use Rattle.std.proofs.Math.Path.{refl}
use Rattle.std.proofs.Common.{◌∙◌, length-append}
use Rattle.std.proofs.Math.Bool.{true, false}
use native.Mathlib.Omega.{arith}
use borrow.Author.Tests.{leb-true, leb-false, le-leb}
use Rattle.std.proofs.Math.Dec.{leb}
use Rattle.std.proofs.Math.ListN.{length}
use Rattle.base_common.proofs.UptoLaws.{upto_nil}
use Rattle.base_common.proofs.Bools.{or_first, or_second}
use Rattle.refusal_verdict.specs.First.{first}
use Rattle.refusal_verdict.proofs.FirstLaws.{first_none}
use Rattle.table_records.specs.Table.{count}
use Rattle.table_names.specs.Name.{name_of, has}
use Rattle.code_tree.specs.Labels.{is_label}
use Rattle.call_labels.specs.Reserved.{is_reserved}
use Rattle.call_labels.specs.Short.{most}
use Rattle.call_labels.specs.Order.{add, seeing, seen_before, label_names, place_in}
use Rattle.call_labels.proofs.OrderLaws.{place_has, place_none, see_next}
use Rattle.call_labels.specs.Unfit.{is_new, unfit_at}

-- 19 does not apply to the node, and the names seen are these
abbrev pub Fit : List ℕ → List ℕ → ℕ → List (List ℕ) → Type 0
Fit ns names i seen = (unfit_at ns names i ≡ false) × (seen_before ns names (i + 1) ≡ seen)

new_known : (seen : List (List ℕ)) (x : List ℕ) (m : Bool) → has seen x ≡ true → ((is_new seen x && m) ≡ false) × (add seen x ≡ seen)
new_known seen [] m e = (refl, refl)
new_known seen (b ∷ bs) m e = (rw e, rw e)

new_nameless : (seen : List (List ℕ)) (x : List ℕ) (m : Bool) → length x ≡ 0 → ((is_new seen x && m) ≡ false) × (add seen x ≡ seen)
new_nameless seen [] m e = (refl, refl)
new_nameless seen (b ∷ bs) m e = absurd (omega arith)

new_last : (seen : List (List ℕ)) (x : List ℕ) → (length x ≡ 0 → ⊥) → has seen x ≡ false → (is_new seen x ≡ true) × (add seen x ≡ seen ++ x ∷ [])
new_last seen [] n e = absurd (n refl)
new_last seen (b ∷ bs) n e = (rw e, rw e)

module _ (ns names : List ℕ) (i : ℕ) where
  abbrev seen : List (List ℕ)
  seen = seen_before ns names i

  abbrev x : List ℕ
  x = name_of ns names i

  pub other_fit : is_label ns i ≡ false → Fit ns names i seen
  unfolding unfit_at
  other_fit e = (rw e, see_next ns names i ∙ rw e)

  pub reserved_unfit : is_label ns i ≡ true → is_reserved x ≡ true → unfit_at ns names i ≡ true
  unfolding unfit_at
  reserved_unfit e q = rw (e, q)

  module _ (e : is_label ns i ≡ true) (q : is_reserved x ≡ false) where
    same_seen : ((is_new seen x && leb most (length seen)) ≡ false) × (add seen x ≡ seen) → Fit ns names i seen
    unfolding unfit_at
    same_seen w = (rw (e, q) w.0, see_next ns names i ∙ rw e w.1)

    pub nameless_fit : length x ≡ 0 → Fit ns names i seen
    nameless_fit z = same_seen (new_nameless seen x (leb most (length seen)) z)

    pub known_fit : place_in seen x < length seen → Fit ns names i seen
    known_fit h = same_seen (new_known seen x (leb most (length seen)) (place_has seen x h))

    module _ (n : length x ≡ 0 → ⊥) (h : length seen ≤ place_in seen x) where
      pub many_unfit : most ≤ length seen → unfit_at ns names i ≡ true
      unfolding unfit_at
      many_unfit m = let w = new_last seen x n (place_none seen x h) in rw (e, q, w.0, le-leb most (length seen) m)

      pub new_fit : length seen < most → Fit ns names i (seen ++ x ∷ [])
      unfolding unfit_at
      new_fit m = let w = new_last seen x n (place_none seen x h) in (rw (e, q, w.0) (lt_leb m), see_next ns names i ∙ rw e w.1)
        where
          lt_leb : length seen < most → leb most (length seen) ≡ false
          lt_leb g = go (leb most (length seen)) refl
            where
              go : (b : Bool) → leb most (length seen) ≡ b → b ≡ false
              go true f = absurd (omega (arith, leb-true most (length seen) f))
              go false f = refl

-- 19 applies nowhere
pub record Renamable (ns names : List ℕ) : Type 0 where
  pub few : length (label_names ns names) ≤ most
  pub free : (i : ℕ) → i < count ns → is_label ns i ≡ true → is_reserved (name_of ns names i) ≡ false

grows : (seen : List (List ℕ)) (name : List ℕ) → length seen ≤ most → (is_new seen name && leb most (length seen)) ≡ false → length (add seen name) ≤ most
grows seen [] h e = h
grows seen (b ∷ bs) h e = go (has seen (b ∷ bs)) e
  where
    go : (c : Bool) → (not c && leb most (length seen)) ≡ false → length (cond c seen (seen ++ (b ∷ bs) ∷ [])) ≤ most
    go true q = h
    go false q = let l = leb-false most (length seen) q in let s = length-append seen ((b ∷ bs) ∷ []) in omega arith

module _ (ns names : List ℕ) (e : first (unfit_at ns names) 0 (count ns) ≡ None) where
  pub fit : (i : ℕ) → i < count ns → is_label ns i ≡ true
      → (is_reserved (name_of ns names i) || (is_new (seen_before ns names i) (name_of ns names i) && leb most (length (seen_before ns names i)))) ≡ false
  unfolding unfit_at
  fit i h l = let r = first_none (unfit_at ns names) (count ns) 0 e i (omega arith) h in rw l at r

  few_before : (i : ℕ) → i ≤ count ns → length (seen_before ns names i) ≤ most
  unfolding seeing
  few_before zero h = rw (upto_nil 0 0 (omega arith)) (omega arith)
  few_before (suc i) h = let s : suc i ≡ i + 1 = omega arith in rw (s, see_next ns names i) (go (is_label ns i) refl (few_before i (omega arith)))
    where
      go : (b : Bool) → is_label ns i ≡ b → length (seen_before ns names i) ≤ most → length (cond b (add (seen_before ns names i) (name_of ns names i)) (seen_before ns names i)) ≤ most
      go true l r = grows (seen_before ns names i) (name_of ns names i) r (or_second (is_reserved (name_of ns names i)) _ (fit i (omega arith) l))
      go false l r = r

  pub renamable : Renamable ns names
  renamable = record { few = few_before (count ns) (omega arith); free = λ i h l. or_first (is_reserved (name_of ns names i)) _ (fit i h l) }
