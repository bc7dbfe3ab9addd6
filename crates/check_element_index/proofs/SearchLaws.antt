-- Laws of searches down a chain: what is left out has another key.
use Rattle.std.specs.Prelude.{ℕ, ◌+◌, ◌≤◌, ◌<◌, ◌≡◌, refl, List, [], ◌∷◌, ◌++◌, Bool, true, false, ◌||◌, length, get_or}
use Rattle.std.proofs.Common.{ap, ◌∙◌, ⊎_elim, true≢false, arith}
use Rattle.std.proofs.Math.Path.{sym}
use Rattle.base_common.specs.Upto.{upto, any}
use Rattle.base_common.proofs.UptoLaws.{upto_nil, upto_snoc}
use Rattle.base_walk.proofs.PreorderLaws.{lt_or_ge}
use Rattle.table_records.specs.Table.{count}
use Rattle.check_class_table.specs.Elements.{has_private, is_named}
use Rattle.check_class_table.proofs.ElementsLaws.{has_private_from, has_start}
use Rattle.check_element_index.specs.Index.{hash, bucket, is_element, in_bucket, last_below, entry_in, Buckets, Known, has_key}
use Rattle.check_element_index.proofs.IndexLaws.{skip, last_last, last_le, last_here, named_in, key_named, chain_start, chain_element, chain_step}

-- a test of some number from lo on, as the end moves on
module _ (q : ℕ → Bool) where
  any_snoc : (l : List ℕ) (n : ℕ) → any q (l ++ n ∷ []) ≡ (any q l || q n)
  any_snoc [] n = go (q n)
    where
      go : (b : Bool) → (b || false) ≡ b
      go true = refl
      go false = refl
  any_snoc (i ∷ l) n = go (q i) (any_snoc l n)
    where
      go : (b : Bool) → any q (l ++ n ∷ []) ≡ (any q l || q n) → (b || any q (l ++ n ∷ [])) ≡ ((b || any q l) || q n)
      go true h = refl
      go false h = h

  module _ (lo : ℕ) where
    pub any_none : (n : ℕ) → n ≤ lo → any q (upto lo n) ≡ false
    any_none n h = ap (any q) (upto_nil lo n h)

    pub any_hit : (n : ℕ) → lo ≤ n → q n ≡ true → any q (upto lo (n + 1)) ≡ true
    any_hit n h e = ap (any q) (upto_snoc lo n h) ∙ any_snoc (upto lo n) n ∙ go (any q (upto lo n)) (q n) e
      where
        go : (a b : Bool) → b ≡ true → (a || b) ≡ true
        go true b e = refl
        go false b e = e

    pub any_miss : (n : ℕ) → q n ≡ false → any q (upto lo (n + 1)) ≡ any q (upto lo n)
    any_miss n e =
        ⊎_elim (λ (l : n < lo). ap (any q) (upto_nil lo (n + 1) (omega arith)) ∙ sym (any_none n (omega arith)))
        (λ (l : lo ≤ n). ap (any q) (upto_snoc lo n l) ∙ any_snoc (upto lo n) n ∙ go (any q (upto lo n)) (q n) e) (lt_or_ge n lo)
      where
        go : (a b : Bool) → b ≡ false → (a || b) ≡ a
        go true b e = refl
        go false b e = e

-- an element in the bucket of a key in class c
abbrev pub of_key : ℕ → List ℕ → List ℕ → ℕ → ℕ → Bool → List ℕ → ℕ → Bool
of_key t ns names size c private name = in_bucket t ns names size (bucket size c private (hash name))

-- the chain of a key in class c
module _ (s : Buckets) (w : Known s) (c : ℕ) (private : Bool) (name : List ℕ) where
  abbrev own : ℕ
  own = bucket (length s.last) c private (hash name)

  abbrev keyed : ℕ → Bool
  keyed = of_key s.source_type s.nodes s.names (length s.last) c private name

  abbrev named : ℕ → Bool
  named = is_named s.source_type s.nodes s.names c private name

  -- an element of this key is in the chain
  pub named_chained : (d : ℕ) → named d ≡ true → last_below keyed (d + 1) ≡ d + 1
  named_chained d e = last_here keyed d (named_in _ _ _ _ c private name d e)

  -- outside of the bucket there is none of this key
  pub not_named : (n : ℕ) → keyed n ≡ false → named n ≡ false
  not_named n e = go (named n) refl
    where
      go : (b : Bool) → named n ≡ b → b ≡ false
      go true q = absurd (true≢false (sym (named_in _ _ _ _ c private name n q) ∙ e))
      go false q = refl

  module _ (l : own < length s.last) where
    start : get_or s.last own 0 ≡ last_below keyed (count s.nodes)
    start = chain_start _ _ _ _ _ _ w.indexed own l

    pub start_bound : get_or s.last own 0 ≤ count s.nodes
    start_bound = rw start (last_le keyed (count s.nodes))

    pub start_chained : last_below keyed (get_or s.last own 0) ≡ get_or s.last own 0
    start_chained = rw start (last_last keyed (count s.nodes))

    -- what changes only at elements of this key is at the chain's start as at the table's end
    pub start_same : {A : Type 0} (f : ℕ → A) → ((n : ℕ) → named n ≡ false → f (n + 1) ≡ f n) → f (get_or s.last own 0) ≡ f (count s.nodes)
    start_same f h = ap f start ∙ sym (skip keyed f (λ n e. h n (not_named n e)) (count s.nodes))

  -- one step down, from element d
  module _ (at d : ℕ) (z : at ≡ d + 1) (l : at ≤ count s.nodes) (e : last_below keyed at ≡ at) where
    here : last_below keyed (d + 1) ≡ d + 1
    here = sym (ap (last_below keyed) z) ∙ e ∙ z

    step : (entry_in s.entries d).earlier ≡ last_below keyed d
    step = chain_step _ _ _ _ _ _ w.indexed own d (omega arith) here

    pub step_element : is_element s.source_type s.nodes d ≡ true
    step_element = chain_element _ _ _ _ _ _ w.indexed own d here

    pub step_key : has_key s.nodes s.names c private name d ≡ named d
    step_key = key_named _ _ _ c private name d step_element

    pub step_bound : (entry_in s.entries d).earlier ≤ d
    step_bound = rw step (last_le keyed d)

    pub step_chained : last_below keyed ((entry_in s.entries d).earlier) ≡ (entry_in s.entries d).earlier
    step_chained = rw step (last_last keyed d)

    -- .. and as below d
    pub step_same : {A : Type 0} (f : ℕ → A) → ((n : ℕ) → named n ≡ false → f (n + 1) ≡ f n) → f ((entry_in s.entries d).earlier) ≡ f d
    step_same f h = ap f step ∙ sym (skip keyed f (λ n x. h n (not_named n x)) d)

-- the search for a private element of a name, where it stands
module _ (t : ℕ) (ns names : List ℕ) (c : ℕ) (name : List ℕ) where
  unfoldable pub has_private_to : ℕ → Bool
  has_private_to n = any (is_named t ns names c true name) (upto (c + 1) n)

  pub to_end : has_private_to (count ns) ≡ has_private t ns names c name
  unfolding has_private_to has_private_from
  to_end = has_start t ns names c name

  pub to_none : (n : ℕ) → n ≤ c + 1 → has_private_to n ≡ false
  unfolding has_private_to
  to_none n h = any_none (is_named t ns names c true name) (c + 1) n h

  pub to_hit : (at d : ℕ) → at ≡ d + 1 → c + 1 ≤ d → is_named t ns names c true name d ≡ true → has_private_to at ≡ true
  unfolding has_private_to
  to_hit at d z l e = ap has_private_to z ∙ any_hit (is_named t ns names c true name) (c + 1) d l e

  pub to_miss : (d : ℕ) → is_named t ns names c true name d ≡ false → has_private_to (d + 1) ≡ has_private_to d
  unfolding has_private_to
  to_miss d e = any_miss (is_named t ns names c true name) (c + 1) d e
