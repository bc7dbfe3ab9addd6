-- Every label's name is seen, and different names of at most 699 get different new ones.
use Prim.Native.Nat.{ℕ, zero, suc, ◌+◌, ◌≤◌, ◌<◌}
use Rattle.std.specs.Prelude.{◌≡◌, Bool, cond, ◌||◌, length}
use Rattle.std.proofs.Math.Path.{refl}
use Rattle.std.proofs.Common.{sym, ◌∙◌, ⊎_elim, eq-or-lt_of_le, arith}
use mathlib.Core.List.{List, [], ◌∷◌, ◌++◌}
use Rattle.std.proofs.Math.Bool.{true, false}
use Rattle.base_common.specs.Upto.{upto}
use Rattle.base_common.proofs.UptoLaws.{upto_cons, upto_snoc}
use Rattle.base_common.proofs.Bools.{never}
use Rattle.table_records.specs.Table.{count}
use Rattle.table_names.specs.Name.{same, name_of, has}
use Rattle.table_names.proofs.NameLaws.{same_self, same_eq}
use Rattle.code_tree.specs.Labels.{is_label}
use Rattle.call_labels.specs.Reserved.{is_reserved}
use Rattle.call_labels.specs.Short.{most}
use Rattle.call_labels.proofs.ShortLaws.{short_once, short_free, short_some}
use Rattle.call_labels.specs.Order.{add, seeing, seen_before, label_names, place_in, new_name}

-- no name, or one of those
abbrev pub Known : List (List ℕ) → List ℕ → Type 0
Known seen [] = Unit {0}
Known seen (b ∷ bs) = has seen (b ∷ bs) ≡ true

-- EVERY LABEL'S NAME IS SEEN
has_more : (l m : List (List ℕ)) (x : List ℕ) → has l x ≡ true → has (l ++ m) x ≡ true
has_more [] m x e = never (sym e)
has_more (y ∷ l) m x e = go (same y x) e (has_more l m x)
  where
    go : (b : Bool) → (b || has l x) ≡ true → (has l x ≡ true → has (l ++ m) x ≡ true) → (b || has (l ++ m) x) ≡ true
    go true q r = refl
    go false q r = r q

has_last : (l : List (List ℕ)) (x : List ℕ) → has (l ++ x ∷ []) x ≡ true
has_last [] x = rw (same_self x)
has_last (y ∷ l) x = rw (has_last l x) (go (same y x))
  where
    go : (b : Bool) → (b || true) ≡ true
    go true = refl
    go false = refl

known_more : (seen : List (List ℕ)) (y x : List ℕ) → Known seen x → Known (add seen y) x
known_more seen y [] k = tt
known_more seen [] (b ∷ bs) k = k
known_more seen (c ∷ cs) (b ∷ bs) k = go (has seen (c ∷ cs))
  where
    go : (z : Bool) → has (cond z seen (seen ++ (c ∷ cs) ∷ [])) (b ∷ bs) ≡ true
    go true = k
    go false = has_more seen ((c ∷ cs) ∷ []) (b ∷ bs) k

known_new : (seen : List (List ℕ)) (x : List ℕ) → Known (add seen x) x
known_new seen [] = tt
known_new seen (b ∷ bs) = go (has seen (b ∷ bs)) refl
  where
    go : (z : Bool) → has seen (b ∷ bs) ≡ z → has (cond z seen (seen ++ (b ∷ bs) ∷ [])) (b ∷ bs) ≡ true
    go true e = e
    go false e = has_last seen (b ∷ bs)

module _ (ns names : List ℕ) where
  keeps : (l : List ℕ) (seen : List (List ℕ)) (x : List ℕ) → Known seen x → Known (seeing ns names seen l) x
  unfolding seeing
  keeps [] seen x k = k
  keeps (i ∷ l) seen x k = keeps l (cond (is_label ns i) (add seen (name_of ns names i)) seen) x (go (is_label ns i))
    where
      go : (b : Bool) → Known (cond b (add seen (name_of ns names i)) seen) x
      go true = known_more seen (name_of ns names i) x k
      go false = k

  sees : (f i j n : ℕ) (seen : List (List ℕ)) → n ≤ i + f → i ≤ j → j < n → is_label ns j ≡ true → Known (seeing ns names seen (upto i n)) (name_of ns names j)
  unfolding seeing
  sees zero i j n seen hf h l e = absurd (omega arith)
  sees (suc f) i j n seen hf h l e =
      rw (upto_cons i n (omega arith))
      (⊎_elim (λ (u : i ≡ j). rw u (keeps (upto (j + 1) n) (cond (is_label ns j) (add seen (name_of ns names j)) seen) (name_of ns names j) (rw e (known_new seen (name_of ns names j)))))
      (λ (u : i < j). sees f (i + 1) j n _ (omega arith) (omega arith) l e) (eq-or-lt_of_le h))

  pub label_known : (j : ℕ) → j < count ns → is_label ns j ≡ true → Known (label_names ns names) (name_of ns names j)
  label_known j l e = sees (count ns) 0 j (count ns) [] (omega arith) (omega arith) l e

-- ONE TO ONE, where there are at most 699
pub place_below : (l : List (List ℕ)) (x : List ℕ) → has l x ≡ true → place_in l x < length l
unfolding place_in
place_below [] x e = never (sym e)
place_below (y ∷ l) x e = go (same y x) e (place_below l x)
  where
    go : (b : Bool) → (b || has l x) ≡ true → (has l x ≡ true → place_in l x < length l) → cond b 0 (suc (place_in l x)) < suc (length l)
    go true q r = omega arith
    go false q r = let h = r q in omega arith

place_once : (l : List (List ℕ)) (x y : List ℕ) → has l x ≡ true → has l y ≡ true → place_in l x ≡ place_in l y → x ≡ y
unfolding place_in
place_once [] x y e f p = never (sym e)
place_once (z ∷ l) x y e f p = go (same z x) (same z y) refl refl e f p (place_once l x y)
  where
    go : (b c : Bool) → same z x ≡ b → same z y ≡ c → (b || has l x) ≡ true → (c || has l y) ≡ true → cond b 0 (suc (place_in l x)) ≡ cond c 0 (suc (place_in l y))
        → (has l x ≡ true → has l y ≡ true → place_in l x ≡ place_in l y → x ≡ y) → x ≡ y
    go true true s t e f p r = sym (same_eq z x s) ∙ same_eq z y t
    go true false s t e f p r = absurd (omega arith)
    go false true s t e f p r = absurd (omega arith)
    go false false s t e f p r = r e f (omega arith)

module _ (seen : List (List ℕ)) (few : length seen ≤ most) where
  pub new_once : (x y : List ℕ) → Known seen x → Known seen y → new_name seen x ≡ new_name seen y → x ≡ y
  new_once [] [] p q e = refl
  new_once [] (b ∷ bs) p q e = absurd (short_some _ e)
  new_once (c ∷ cs) [] p q e = absurd (short_some _ (sym e))
  new_once (c ∷ cs) (b ∷ bs) p q e =
      let u = place_below seen (c ∷ cs) p in
      let v = place_below seen (b ∷ bs) q in
      place_once seen (c ∷ cs) (b ∷ bs) p q (short_once _ _ (omega arith) (omega arith) e)

  pub new_free : (x : List ℕ) → Known seen x → is_reserved (new_name seen x) ≡ false
  unfolding same
  new_free [] p = refl
  new_free (b ∷ bs) p = let u = place_below seen (b ∷ bs) p in short_free _ (omega arith)

-- a place below the length is a name's that is there
pub place_has : (l : List (List ℕ)) (x : List ℕ) → place_in l x < length l → has l x ≡ true
unfolding place_in
place_has [] x h = absurd (omega arith)
place_has (y ∷ l) x h = go (same y x) h (place_has l x)
  where
    go : (b : Bool) → cond b 0 (suc (place_in l x)) < suc (length l) → (place_in l x < length l → has l x ≡ true) → (b || has l x) ≡ true
    go true q r = refl
    go false q r = r (omega arith)

pub place_none : (l : List (List ℕ)) (x : List ℕ) → length l ≤ place_in l x → has l x ≡ false
place_none l x h = go (has l x) refl
  where
    go : (b : Bool) → has l x ≡ b → b ≡ false
    go true e = let w = place_below l x e in absurd (omega arith)
    go false e = refl

-- one node more
see_more : (ns names l m : List ℕ) (seen : List (List ℕ)) → seeing ns names seen (l ++ m) ≡ seeing ns names (seeing ns names seen l) m
unfolding seeing
see_more ns names [] m seen = refl
see_more ns names (i ∷ l) m seen = see_more ns names l m _

pub see_next : (ns names : List ℕ) (i : ℕ) → seen_before ns names (i + 1) ≡ cond (is_label ns i) (add (seen_before ns names i) (name_of ns names i)) (seen_before ns names i)
unfolding seeing
see_next ns names i = rw (upto_snoc 0 i (omega arith), see_more ns names (upto 0 i) (i ∷ []) [])
