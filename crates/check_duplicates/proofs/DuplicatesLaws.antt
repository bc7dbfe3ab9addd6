-- Laws of duplicate elements: each of the two places of a name as a fold over the earlier nodes, and the findings as scans meet them.
use Rattle.std.specs.Prelude.{ℕ, zero, suc, ◌+◌, ◌-◌, ◌≤◌, ◌<◌, Bool, not, ◌&&◌, ltb, Some, None, is_some}
use Rattle.std.proofs.Math.Path.{◌≡◌, refl, ap, sym}
use Rattle.std.proofs.Common.{◌∙◌, ⊎_elim, arith}
use mathlib.Core.List.{List, [], ◌∷◌, ◌++◌, foldl, flat_map}
use Rattle.std.proofs.Math.Bool.{true, false, cond, xor}
use mathlib.Core.Bool.{beq}
use borrow.Author.Tests.{ltb-true, lt-ltb, le-ltb}
use Rattle.std.proofs.Math.Dec.{eqb}
use Rattle.base_common.specs.Upto.{upto}
use Rattle.base_common.proofs.UptoLaws.{upto_nil, upto_cons, and_left_lem}
use Rattle.base_walk.proofs.PreorderLaws.{lt_or_ge}
use Rattle.table_records.specs.Table.{count, parent_of}
use Rattle.table_records.specs.Facts.{Tree}
use Rattle.table_records.specs.declared.ElementId.{ElementId}
use Rattle.table_names.specs.Name.{same}
use Rattle.table_children.specs.Children.{keep}
use Rattle.check_diagnostics.specs.declared.Finding.{Finding}
use Rattle.check_diagnostics.specs.Finding.{listed}
use Rattle.check_class_table.specs.Classes.{classes_of, is_class_body}
use Rattle.check_class_table.specs.Elements.{element_name, is_definition, is_private, is_setter, is_keyed, enters, elements, is_definition_in, is_named, is_compared_element}
use Rattle.check_class_table.proofs.ElementsLaws.{elements_scan, compared_scan, compared_out}
use Rattle.check_diagnostics.proofs.Gather.{flat_turn, flat_end, flat_none, flat_keep, flat_same_lem, listed_cond}
use Rattle.check_duplicates.specs.declared.Place.{Place}
use Rattle.check_duplicates.specs.Duplicates.{nowhere, here, number_or, there, number, step, last_of, side_of, is_earlier, previous_on, previous_of, clashes, redeclaration, duplicate_by, duplicate_at, duplicates_in, duplicate_elements}
use Rattle.check_duplicates.specs.Scans.{raised_at, class_at}

pub side_two : (ns : List ℕ) (e : ℕ) → side_of ns e ≤ 1
unfolding side_of
side_two ns e = go (is_private ns e && is_setter ns e)
  where
    go : (b : Bool) → cond b 1 0 ≤ 1
    go true = omega arith
    go false = omega arith

-- two tests differ
pub differ : (a b : Bool) → not (beq a b) ≡ xor a b
unfolding xor
differ true true = refl
differ true false = refl
differ false true = refl
differ false false = refl

-- .. by the first of them
pub differ_true : (b : Bool) → not b ≡ xor true b
unfolding xor
differ_true true = refl
differ_true false = refl

pub differ_false : (b : Bool) → b ≡ xor false b
unfolding xor
differ_false true = refl
differ_false false = refl

-- what is last passes the test
last_by_lem : (q : ℕ → Bool) (l : List ℕ) (p : Place) → (there p ≡ true → q (number p) ≡ true) → there (foldl (step q) p l) ≡ true → q (number (foldl (step q) p l)) ≡ true
last_by_lem q [] p h e = h e
last_by_lem q (d ∷ l) p h e = last_by_lem q l (step q p d) (go (q d) refl) e
  where
    go : (b : Bool) → q d ≡ b → there (cond b (here d) p) ≡ true → q (number (cond b (here d) p)) ≡ true
    go true x z = x
    go false x z = h z

-- the last of those that are kept
pub last_keep : (q r : ℕ → Bool) (l : List ℕ) (p : Place) → foldl (step q) p (keep r l) ≡ foldl (step (λ d. r d && q d)) p l
unfolding keep
last_keep q r [] p = refl
last_keep q r (d ∷ l) p = go (r d) (λ (x : Place). last_keep q r l x)
  where
    go : (b : Bool) → ((x : Place) → foldl (step q) x (keep r l) ≡ foldl (step (λ d. r d && q d)) x l)
        → foldl (step q) p (cond b (d ∷ keep r l) (keep r l)) ≡ foldl (step (λ d. r d && q d)) (cond (b && q d) (here d) p) l
    go true h = h (step q p d)
    go false h = h p

-- nodes from e on that do not pass may be left out
last_cut : (q r : ℕ → Bool) (e n : ℕ) → e ≤ n → ((d : ℕ) → d < e → q d ≡ r d) → ((d : ℕ) → e ≤ d → q d ≡ false)
    → (g i : ℕ) (p : Place) → n ≤ i + g → foldl (step q) p (upto i n) ≡ foldl (step r) p (upto i e)
last_cut q r e n h x y zero i p hg = rw (upto_nil i n (omega arith), upto_nil i e (omega arith))
last_cut q r e n h x y (suc g) i p hg =
    ⊎_elim (λ (l : i < e). rw (upto_cons i n (omega arith), upto_cons i e l)
    (last_cut q r e n h x y g (i + 1) (step q p i) (omega arith) ∙ ap (λ (b : Bool). foldl (step r) (cond b (here i) p) (upto (i + 1) e)) (x i l)))
    (λ (l : e ≤ i).
    ⊎_elim (λ (m : i < n). rw (upto_cons i n m)
    (ap (λ (b : Bool). foldl (step q) (cond b (here i) p) (upto (i + 1) n)) (y i l) ∙ last_cut q r e n h x y g (i + 1) p (omega arith) ∙ rw (upto_nil (i + 1) e (omega arith), upto_nil i e l)))
    (λ (m : n ≤ i). rw (upto_nil i n m, upto_nil i e l)) (lt_or_ge i n)) (lt_or_ge i e)

-- the tests of an earlier element, in the order that costs least
regroup : (p d n k s o : Bool) → (((p && d) && n) && (true && ((k && s) && o))) ≡ (((p && (k && d)) && (s && n)) && o)
regroup false d n k s o = refl
regroup true false n true s o = refl
regroup true false n false s o = refl
regroup true true false true true o = refl
regroup true true false true false o = refl
regroup true true false false s o = refl
regroup true true true true true o = refl
regroup true true true true false o = refl
regroup true true true false s o = refl

shut : (p d : Bool) → (p && (false && d)) ≡ false
shut true d = refl
shut false d = refl

module _ (t : ℕ) (ns names : List ℕ) (c e : ℕ) (h : e ≤ count ns) where
  abbrev pub key : ℕ → Bool
  key d = is_named t ns names c (is_private ns e) (element_name ns names e) d

  pub side_scan : (s : ℕ) → previous_on t ns names c e s ≡ foldl (step (λ d. key d && eqb (side_of ns d) s)) nowhere (upto (c + 1) e)
  unfolding previous_on last_of is_named is_definition_in
  side_scan s =
      ap (foldl (step (is_earlier ns names e s)) nowhere) (elements_scan t ns c)
      ∙ last_keep (is_earlier ns names e s) (λ d. (eqb (parent_of ns d) c && is_definition ns d) && enters t ns d) (upto (c + 1) (count ns)) nowhere
      ∙ last_cut (λ d. ((eqb (parent_of ns d) c && is_definition ns d) && enters t ns d) && is_earlier ns names e s d) (λ d. key d && eqb (side_of ns d) s) e (count ns) h
      (λ d l. rw (lt-ltb d e l) (regroup (eqb (parent_of ns d) c) (is_definition ns d) (enters t ns d) (is_keyed ns (is_private ns e) d) (same (element_name ns names d) (element_name ns names e)) (eqb (side_of ns d) s)))
      (λ d l. rw (le-ltb d e l) (shut ((eqb (parent_of ns d) c && is_definition ns d) && enters t ns d) ((is_keyed ns (is_private ns e) d && same (element_name ns names d) (element_name ns names e)) && eqb (side_of ns d) s)))
      (count ns) (c + 1) nowhere (omega arith)

  pub on_before : (s : ℕ) → there (previous_on t ns names c e s) ≡ true → number (previous_on t ns names c e s) < e
  unfolding previous_on last_of
  on_before s x = ltb-true _ e (and_left_lem (ltb (number (last_of (is_earlier ns names e s) (elements t ns c))) e) _ (last_by_lem (is_earlier ns names e s) (elements t ns c) nowhere (λ z. let z : ◌≡◌ {A = ℕ} 0 1 = cc in absurd (omega arith)) x))

module _ (t : ℕ) (ns names : List ℕ) (c e : ℕ) where
  pub prev_before : e ≤ count ns → there (previous_of t ns names c e) ≡ true → number (previous_of t ns names c e) < e
  unfolding previous_of
  prev_before h = go (there (previous_on t ns names c e (side_of ns e))) refl
    where
      go : (b : Bool) → there (previous_on t ns names c e (side_of ns e)) ≡ b
          → there (cond b (previous_on t ns names c e (side_of ns e)) (previous_on t ns names c e (1 - side_of ns e))) ≡ true
          → number (cond b (previous_on t ns names c e (side_of ns e)) (previous_on t ns names c e (1 - side_of ns e))) < e
      go true x z = on_before t ns names c e h (side_of ns e) x
      go false x z = on_before t ns names c e h (1 - side_of ns e) z

  pub earlier : e ≤ count ns → (d : ElementId) → (previous_of t ns names c e).element ≡ Some d → d.0 < e
  earlier h d x = let l = prev_before h (ap is_some x) in let q = ap number_or x in omega (arith, l, q)

-- what an element raises, by the place to go by
module _ (t : ℕ) (ns : List ℕ) (e : ℕ) (p : Place) where
  pub by_hit : (d : ElementId) → p.element ≡ Some d → clashes ns d.0 e ≡ true → duplicate_by t ns e p ≡ redeclaration t ns d.0 e
  unfolding duplicate_by
  by_hit d x y = rw (x, y)

  pub by_fine : (d : ElementId) → p.element ≡ Some d → clashes ns d.0 e ≡ false → duplicate_by t ns e p ≡ None
  unfolding duplicate_by
  by_fine d x y = rw (x, y)

  pub by_none : p.element ≡ None → duplicate_by t ns e p ≡ None
  unfolding duplicate_by
  by_none x = rw x

unfoldable pub duplicates_from : ℕ → List ℕ → List ℕ → ℕ → ℕ → List Finding
duplicates_from t ns names c i = flat_map (λ e. listed (raised_at t ns names c e)) (upto i (count ns))

module _ (t : ℕ) (ns names : List ℕ) (c : ℕ) where
  pub from_start_lem : duplicates_from t ns names c (c + 1) ≡ duplicates_in t ns names c
  unfolding duplicates_from duplicates_in raised_at
  from_start_lem =
      flat_same_lem _ _ (λ e. listed_cond (is_compared_element t ns c e) (duplicate_at t ns names c e)) (upto (c + 1) (count ns))
      ∙ sym (flat_keep (λ e. listed (duplicate_at t ns names c e)) (is_compared_element t ns c) (upto (c + 1) (count ns)))
      ∙ ap (flat_map (λ e. listed (duplicate_at t ns names c e))) (sym (compared_scan t ns c))

  pub from_turn : (i : ℕ) → i < count ns → duplicates_from t ns names c i ≡ listed (raised_at t ns names c i) ++ duplicates_from t ns names c (i + 1)
  unfolding duplicates_from
  from_turn i h = flat_turn (λ e. listed (raised_at t ns names c e)) i (count ns) h

  pub from_end_lem : (i : ℕ) → count ns ≤ i → duplicates_from t ns names c i ≡ []
  unfolding duplicates_from
  from_end_lem i h = flat_end (λ e. listed (raised_at t ns names c e)) i (count ns) h

  raised_none : (j : ℕ) → is_compared_element t ns c j ≡ false → listed (raised_at t ns names c j) ≡ []
  unfolding raised_at
  raised_none j e = rw e

  pub from_out : Tree ns → (i : ℕ) → c < i → i < count ns → parent_of ns i < c → duplicates_from t ns names c i ≡ []
  unfolding duplicates_from
  from_out w i h l u = flat_none (λ e. listed (raised_at t ns names c e)) i (count ns) (λ j x y. raised_none j (compared_out t ns w c i j h u x y))

unfoldable pub classes_from : ℕ → List ℕ → List ℕ → ℕ → List Finding
classes_from t ns names i = flat_map (class_at t ns names) (upto i (count ns))

module _ (t : ℕ) (ns names : List ℕ) where
  pub all_start : classes_from t ns names 0 ≡ duplicate_elements t ns names
  unfolding classes_from duplicate_elements class_at classes_of
  all_start = sym (flat_keep (duplicates_in t ns names) (is_class_body ns) (upto 0 (count ns)))

  -- the findings of a node that is a class body, and of another
  pub class_here : (i : ℕ) → is_class_body ns i ≡ true → class_at t ns names i ≡ duplicates_in t ns names i
  unfolding class_at
  class_here i e = rw e

  pub class_other : (i : ℕ) → is_class_body ns i ≡ false → class_at t ns names i ≡ []
  unfolding class_at
  class_other i e = rw e

  pub all_turn : (i : ℕ) → i < count ns → classes_from t ns names i ≡ class_at t ns names i ++ classes_from t ns names (i + 1)
  unfolding classes_from
  all_turn i h = flat_turn (class_at t ns names) i (count ns) h

  pub all_end : (i : ℕ) → count ns ≤ i → classes_from t ns names i ≡ []
  unfolding classes_from
  all_end i h = flat_end (class_at t ns names) i (count ns) h
