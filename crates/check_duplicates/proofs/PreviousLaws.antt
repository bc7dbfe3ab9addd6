-- Laws of the search for the two places of a key, from the last earlier element on.
use Rattle.std.specs.Prelude.{ℕ, zero, suc, ◌+◌, ◌-◌, ◌≤◌, ◌<◌, Bool, not, ◌&&◌, set, length, get_or, Option, Some, None}
use Rattle.std.proofs.Math.Path.{◌≡◌, refl, ap, sym}
use Rattle.std.proofs.Common.{◌∙◌, ◌⊎◌, inl, inr, ⊎_elim, eq-eqb, arith}
use Rattle.std.proofs.lemmas.List.{length-set, get_or-set_same, get_or-set_other}
use Rattle.std.proofs.lemmas.Bool.Decides.{eqb_tells}
use mathlib.Core.List.{List, [], ◌∷◌, ◌++◌, foldl}
use Rattle.std.proofs.Math.Bool.{true, false, cond}
use Rattle.std.proofs.Math.Dec.{eqb}
use Rattle.base_common.specs.Upto.{upto}
use Rattle.base_common.proofs.UptoLaws.{upto_nil, upto_snoc, and_left_lem, and_right_lem}
use Rattle.base_walk.proofs.PreorderLaws.{lt_or_ge}
use Rattle.table_records.specs.Table.{count, parent_of}
use Rattle.table_records.specs.declared.ElementId.{ElementId}
use Rattle.table_names.proofs.NameLaws.{same_self}
use Rattle.check_class_table.specs.Elements.{element_name, is_private, is_definition, is_compared, enters, is_definition_in, is_named, is_compared_definition, is_compared_element}
use Rattle.check_duplicates.specs.declared.Place.{Place}
use Rattle.check_duplicates.specs.Duplicates.{nowhere, here, there, step, side_of, previous_on, or_else, previous_of}
use Rattle.check_duplicates.specs.Scans.{seen, prev_of}
use Rattle.check_duplicates.proofs.DuplicatesLaws.{side_two, side_scan}

foldl_snoc : {A B : Type 0} (f : B → A → B) (b : B) (l : List A) (x : A) → foldl f b (l ++ x ∷ []) ≡ f (foldl f b l) x
foldl_snoc f b [] x = refl
foldl_snoc f b (y ∷ l) x = foldl_snoc f (f b y) l x

or_nowhere : (p : Place) → or_else p nowhere ≡ p
or_nowhere p = go p.element
  where
    go : (o : Option ElementId) → or_else (record { element = o }) nowhere ≡ record { element = o }
    go (Some x) = refl
    go None = refl

-- the last that passes a test, as the end moves on
module _ (q : ℕ → Bool) (lo : ℕ) where
  abbrev pub last_to : ℕ → Place
  last_to n = foldl (step q) nowhere (upto lo n)

  pub last_none : (n : ℕ) → n ≤ lo → last_to n ≡ nowhere
  last_none n h = ap (foldl (step q) nowhere) (upto_nil lo n h)

  pub last_turn : (n : ℕ) → lo ≤ n → last_to (n + 1) ≡ step q (last_to n) n
  last_turn n h = ap (foldl (step q) nowhere) (upto_snoc lo n h) ∙ foldl_snoc (step q) nowhere (upto lo n) n

  pub last_miss : (n : ℕ) → q n ≡ false → last_to (n + 1) ≡ last_to n
  last_miss n e =
      ⊎_elim (λ (l : n < lo). last_none (n + 1) (omega arith) ∙ sym (last_none n (omega arith)))
      (λ (l : lo ≤ n). last_turn n l ∙ ap (λ (b : Bool). cond b (here n) (last_to n)) e) (lt_or_ge n lo)

module _ (t : ℕ) (ns names : List ℕ) (c : ℕ) (private : Bool) (name : List ℕ) where
  -- an element of this key on a side
  abbrev on_side : ℕ → ℕ → Bool
  on_side s d = is_named t ns names c private name d && eqb (side_of ns d) s

  -- the last element of this key on a side below n
  unfoldable pub last_on : ℕ → ℕ → Place
  last_on s n = last_to (on_side s) (c + 1) n

  -- What is left below n, where `ps` holds what was met from n on: together they give the two places below e.
  pub record Left (ps : List Place) (n e : ℕ) : Type 0 where
    pub two : length ps ≡ 2
    pub left : (s : ℕ) → s ≤ 1 → or_else (get_or ps s nowhere) (last_on s n) ≡ last_on s e

  pub on_miss : (s d : ℕ) → is_named t ns names c private name d ≡ false → last_on s (d + 1) ≡ last_on s d
  unfolding last_on
  on_miss s d e = last_miss (on_side s) (c + 1) d (rw e)

  pub left_start : (e : ℕ) → Left (nowhere ∷ nowhere ∷ []) e e
  left_start e = record { two = refl; left = go }
    where
      go : (s : ℕ) → s ≤ 1 → or_else (get_or (nowhere ∷ nowhere ∷ []) s nowhere) (last_on s e) ≡ last_on s e
      go zero h = refl
      go (suc zero) h = refl
      go (suc (suc s)) h = absurd (omega arith)

  -- the search has gone down to where nothing is left
  left_none : (ps : List Place) (n e : ℕ) → Left ps n e → n ≤ c + 1 → (s : ℕ) → s ≤ 1 → get_or ps s nowhere ≡ last_on s e
  unfolding last_on
  left_none ps n e w l s h = sym (or_nowhere (get_or ps s nowhere)) ∙ ap (or_else (get_or ps s nowhere)) (sym (last_none (on_side s) (c + 1) n l)) ∙ w.left s h

  -- .. or a place is filled
  left_filled : (ps : List Place) (n e : ℕ) → Left ps n e → (s : ℕ) → s ≤ 1 → there (get_or ps s nowhere) ≡ true → get_or ps s nowhere ≡ last_on s e
  left_filled ps n e w s h x = ap (λ (b : Bool). cond b (get_or ps s nowhere) (last_on s n)) (sym x) ∙ w.left s h

  -- one step down
  turn : (ps : List Place) (d : ℕ) → length ps ≡ 2 → c + 1 ≤ d → (s : ℕ) → s ≤ 1 → or_else (get_or (seen t ns names c private name ps d) s nowhere) (last_on s d) ≡ or_else (get_or ps s nowhere) (last_on s (d + 1))
  unfolding last_on seen
  turn ps d l h s x = rw (last_turn (on_side s) (c + 1) d h) (go (is_named t ns names c private name d) (there (get_or ps (side_of ns d) nowhere)) refl (eqb_tells (side_of ns d) s))
    where
      go : (a b : Bool) → there (get_or ps (side_of ns d) nowhere) ≡ b → ((eqb (side_of ns d) s ≡ true) × (side_of ns d ≡ s)) ⊎ ((eqb (side_of ns d) s ≡ false) × (side_of ns d ≡ s → ⊥))
          → or_else (get_or (cond (a && not b) (set ps (side_of ns d) (here d)) ps) s nowhere) (last_to (on_side s) (c + 1) d) ≡ or_else (get_or ps s nowhere) (cond (a && eqb (side_of ns d) s) (here d) (last_to (on_side s) (c + 1) d))
      go false b q z = refl
      go true true q (inl z) = let p : there (get_or ps s nowhere) ≡ true = sym (ap (λ (x : ℕ). there (get_or ps x nowhere)) z.1) ∙ q in rw p refl
      go true true q (inr z) = rw z.0 refl
      go true false q (inl z) = let p : there (get_or ps s nowhere) ≡ false = sym (ap (λ (x : ℕ). there (get_or ps x nowhere)) z.1) ∙ q in rw (z.1, get_or-set_same ps s (here d) nowhere (omega arith), p, eq-eqb s s refl) refl
      go true false q (inr z) = rw (z.0, get_or-set_other ps (side_of ns d) s (here d) nowhere (λ y. z.1 (sym y))) refl

  seen_two : (ps : List Place) (d : ℕ) → length ps ≡ 2 → length (seen t ns names c private name ps d) ≡ 2
  unfolding seen
  seen_two ps d l = go (is_named t ns names c private name d && not (there (get_or ps (side_of ns d) nowhere)))
    where
      go : (b : Bool) → length (cond b (set ps (side_of ns d) (here d)) ps) ≡ 2
      go true = length-set ps (side_of ns d) (here d) ∙ l
      go false = l

  pub left_move : (ps : List Place) (m n e : ℕ) → ((s : ℕ) → last_on s n ≡ last_on s m) → Left ps m e → Left ps n e
  left_move ps m n e h w = record { two = w.two; left = λ s x. ap (or_else (get_or ps s nowhere)) (h s) ∙ w.left s x }

  pub left_turn : (ps : List Place) (at d e : ℕ) → at ≡ d + 1 → c + 1 ≤ d → Left ps at e → Left (seen t ns names c private name ps d) d e
  left_turn ps at d e z l w =
      record {
        two = seen_two ps d w.two;
        left = λ s h. turn ps d w.two l s h ∙ ap (λ (x : ℕ). or_else (get_or ps s nowhere) (last_on s x)) (sym z) ∙ w.left s h;
      }

-- what the places are read as, where the search ends
module _ (t : ℕ) (ns names : List ℕ) (c e : ℕ) (h : e ≤ count ns) where
  abbrev left_by : List Place → ℕ → Type 0
  left_by ps n = Left t ns names c (is_private ns e) (element_name ns names e) ps n e

  on_end : (s : ℕ) → last_on t ns names c (is_private ns e) (element_name ns names e) s e ≡ previous_on t ns names c e s
  unfolding last_on
  on_end s = sym (side_scan t ns names c e h s)

  pub all_seen : (ps : List Place) (n : ℕ) → left_by ps n → n ≤ c + 1 → prev_of ps (side_of ns e) ≡ previous_of t ns names c e
  unfolding previous_of
  all_seen ps n w l =
      let s = side_two ns e in
      let a = left_none t ns names c (is_private ns e) (element_name ns names e) ps n e w l (side_of ns e) s ∙ on_end (side_of ns e) in
      let b = left_none t ns names c (is_private ns e) (element_name ns names e) ps n e w l (1 - side_of ns e) (omega arith) ∙ on_end (1 - side_of ns e) in
      rw (a, b) refl

  pub own_seen : (ps : List Place) (n : ℕ) → left_by ps n → there (get_or ps (side_of ns e) nowhere) ≡ true → prev_of ps (side_of ns e) ≡ previous_of t ns names c e
  unfolding previous_of
  own_seen ps n w x =
      let s = side_two ns e in
      let a = left_filled t ns names c (is_private ns e) (element_name ns names e) ps n e w (side_of ns e) s x ∙ on_end (side_of ns e) in
      let y = sym (ap there a) ∙ x in
      rw (x, y) a

-- a compared element of class c has its own key
pub compared_named : (t : ℕ) (ns names : List ℕ) (c e : ℕ) → is_compared_element t ns c e ≡ true → is_named t ns names c (is_private ns e) (element_name ns names e) e ≡ true
unfolding is_compared_element is_compared_definition is_named is_definition_in
compared_named t ns names c e h =
    let a = and_left_lem (eqb (parent_of ns e) c && (is_compared t ns e && is_definition ns e)) (enters t ns e) h in
    let b = and_right_lem (eqb (parent_of ns e) c && (is_compared t ns e && is_definition ns e)) (enters t ns e) h in
    let p = and_left_lem (eqb (parent_of ns e) c) (is_compared t ns e && is_definition ns e) a in
    let d = and_right_lem (is_compared t ns e) (is_definition ns e) (and_right_lem (eqb (parent_of ns e) c) (is_compared t ns e && is_definition ns e) a) in
    rw (p, d, b, same_self (element_name ns names e)) (go (is_private ns e))
  where
    go : (x : Bool) → ((true && (cond x x (not x) && true)) && (true && true)) ≡ true
    go true = refl
    go false = refl
