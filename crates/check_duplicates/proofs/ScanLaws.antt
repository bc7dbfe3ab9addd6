-- The two places of a name as a scan of the earlier nodes fills them, from the first to the last: the theory of the search before there was an index. Today's search, from the last to the first, is PreviousLaws'.
use Rattle.std.specs.Prelude.{ℕ, zero, suc, ◌+◌, ◌-◌, ◌≤◌, ◌<◌, Bool, ◌&&◌, set}
use Rattle.std.proofs.Math.Path.{◌≡◌, refl, ap}
use Rattle.std.proofs.Common.{◌∙◌, ⊎_elim, arith}
use mathlib.Core.List.{List, [], ◌∷◌, foldl}
use Rattle.std.proofs.Math.Bool.{true, false, cond}
use Rattle.std.proofs.Math.Dec.{eqb}
use Rattle.base_common.specs.Upto.{upto}
use Rattle.base_common.proofs.UptoLaws.{upto_nil, upto_cons}
use Rattle.base_walk.proofs.PreorderLaws.{lt_or_ge}
use Rattle.table_records.specs.Table.{count}
use Rattle.check_class_table.specs.Elements.{element_name, is_private, is_setter, is_named}
use Rattle.check_duplicates.specs.declared.Place.{Place}
use Rattle.check_duplicates.specs.Duplicates.{nowhere, here, step, side_of, previous_on, or_else, previous_of}
use Rattle.check_duplicates.specs.Scans.{prev_of}
use Rattle.check_duplicates.proofs.DuplicatesLaws.{key, side_scan}

-- the two places after node d, which is one of the nodes before an element with this key: a later element takes the place of an earlier one
unfoldable pub see : ℕ → List ℕ → List ℕ → ℕ → Bool → List ℕ → List Place → ℕ → List Place
see t ns names c private name ps d = cond (is_named t ns names c private name d) (set ps (side_of ns d) (here d)) ps

-- .. after the nodes from i up to e
unfoldable pub scan : ℕ → List ℕ → List ℕ → ℕ → Bool → List ℕ → ℕ → List Place → ℕ → List Place
scan t ns names c private name e ps i = foldl (see t ns names c private name) ps (upto i e)

module _ (t : ℕ) (ns names : List ℕ) (c : ℕ) (private : Bool) (name : List ℕ) (e : ℕ) (ps : List Place) (i : ℕ) where
  -- one node more
  pub scan_turn : i < e → scan t ns names c private name e ps i ≡ scan t ns names c private name e (see t ns names c private name ps i) (i + 1)
  unfolding scan
  scan_turn h = ap (foldl (see t ns names c private name) ps) (upto_cons i e h)

  -- .. and none
  pub scan_end : e ≤ i → scan t ns names c private name e ps i ≡ ps
  unfolding scan
  scan_end h = ap (foldl (see t ns names c private name) ps) (upto_nil i e h)

-- two places filled by one scan are the two that a scan for each side gives
module _ (t st : ℕ → Bool) (e : ℕ) where
  abbrev side : ℕ → ℕ
  side d = cond (st d) 1 0

  abbrev sees : List Place → ℕ → List Place
  sees ps d = cond (t d) (set ps (side d) (here d)) ps

  abbrev on_side : ℕ → ℕ → Bool
  on_side s d = t d && eqb (side d) s

  two : (g i : ℕ) (a b : Place) → e ≤ i + g → foldl sees (a ∷ b ∷ []) (upto i e) ≡ foldl (step (on_side 0)) a (upto i e) ∷ foldl (step (on_side 1)) b (upto i e) ∷ []
  two zero i a b hg = rw (upto_nil i e (omega arith))
  two (suc g) i a b hg =
      ⊎_elim (λ (l : i < e). rw (upto_cons i e l) (go (t i) (st i) (λ (a b : Place). two g (i + 1) a b (omega arith))))
      (λ (l : e ≤ i). rw (upto_nil i e l)) (lt_or_ge i e)
    where
      go : (x y : Bool)
          → ((a b : Place) → foldl sees (a ∷ b ∷ []) (upto (i + 1) e) ≡ foldl (step (on_side 0)) a (upto (i + 1) e) ∷ foldl (step (on_side 1)) b (upto (i + 1) e) ∷ [])
          → foldl sees (cond x (set (a ∷ b ∷ []) (cond y 1 0) (here i)) (a ∷ b ∷ [])) (upto (i + 1) e)
          ≡ foldl (step (on_side 0)) (cond (x && eqb (cond y 1 0) 0) (here i) a) (upto (i + 1) e) ∷ foldl (step (on_side 1)) (cond (x && eqb (cond y 1 0) 1) (here i) b) (upto (i + 1) e) ∷ []
      go true true r = r a (here i)
      go true false r = r (here i) b
      go false y r = r a b

module _ (t : ℕ) (ns names : List ℕ) (c e : ℕ) (h : e ≤ count ns) where
  -- THE TWO PLACES OF THE NAME OF e
  pub scan_places : scan t ns names c (is_private ns e) (element_name ns names e) e (nowhere ∷ nowhere ∷ []) (c + 1) ≡ previous_on t ns names c e 0 ∷ previous_on t ns names c e 1 ∷ []
  unfolding scan see side_of
  scan_places = two (key t ns names c e h) (λ d. is_private ns d && is_setter ns d) e e (c + 1) nowhere nowhere (omega arith) ∙ rw (side_scan t ns names c e h 0, side_scan t ns names c e h 1)

module _ (t : ℕ) (ns names : List ℕ) (c e : ℕ) where
  -- the place to go by, of these two, is the previous element of e
  pub prev_two : prev_of (previous_on t ns names c e 0 ∷ previous_on t ns names c e 1 ∷ []) (side_of ns e) ≡ previous_of t ns names c e
  unfolding previous_of side_of
  prev_two = go (is_private ns e && is_setter ns e)
    where
      go : (b : Bool) → prev_of (previous_on t ns names c e 0 ∷ previous_on t ns names c e 1 ∷ []) (cond b 1 0) ≡ or_else (previous_on t ns names c e (cond b 1 0)) (previous_on t ns names c e (1 - cond b 1 0))
      go true = refl
      go false = refl
