-- A check that goes over nodes and raises findings as it goes: its list is a flat_map, and the slice takes it piece by piece.
use Prim.Native.Nat.{ℕ, zero, suc, ◌+◌, ◌*◌, ◌≤◌, ◌<◌}
use Rattle.std.proofs.Math.Path.{◌≡◌, refl, ap, sym}
use Rattle.std.proofs.Common.{◌∙◌, arith, length-append}
use mathlib.Core.List.{List, [], ◌∷◌, ◌++◌, flat_map}
use Rattle.table_records.specs.declared.NodeId.{NodeId}
use Rattle.std.specs.Prelude.{Bool, length, Some, None, Option}
use Rattle.std.proofs.Math.Bool.{true, false, cond}
use Rattle.std.proofs.Math.Logic.{⊎_elim}
use Rattle.base_common.specs.Upto.{upto}
use Rattle.base_common.proofs.UptoLaws.{upto_nil, upto_cons}
use Rattle.base_walk.proofs.PreorderLaws.{lt_or_ge}
use Rattle.table_children.specs.Children.{keep, first_node}
use Rattle.table_children.proofs.ChildrenLaws.{node_on, node_stop, node_end, number}
use Rattle.check_diagnostics.specs.declared.Finding.{Finding}
use Rattle.check_diagnostics.specs.declared.Findings.{Findings}
use Rattle.check_diagnostics.specs.Finding.{listed, sink}
use Rattle.check_diagnostics.specs.Raises.{Adds}
use Rattle.check_diagnostics.proofs.FindingLaws.{sink_append, sink_nil}

-- the findings of the nodes from i up to n
module _ {A : Type 0} (f : ℕ → List A) where
  pub flat_turn : (i n : ℕ) → i < n → flat_map f (upto i n) ≡ f i ++ flat_map f (upto (i + 1) n)
  unfolding flat_map
  flat_turn i n h = ap (flat_map f) (upto_cons i n h)

  pub flat_end : (i n : ℕ) → n ≤ i → flat_map f (upto i n) ≡ []
  unfolding flat_map
  flat_end i n h = ap (flat_map f) (upto_nil i n h)

  flat_none_by : (n g i : ℕ) → n ≤ i + g → ((j : ℕ) → i ≤ j → j < n → f j ≡ []) → flat_map f (upto i n) ≡ []
  flat_none_by n zero i hg e = flat_end i n (omega arith)
  flat_none_by n (suc g) i hg e =
      ⊎_elim (λ (h : i < n). flat_turn i n h ∙ rw (e i (omega arith) h) (flat_none_by n g (i + 1) (omega arith) (λ j x y. e j (omega arith) y)))
      (λ (h : n ≤ i). flat_end i n h) (lt_or_ge i n)

  -- where no node raises anything
  pub flat_none : (i n : ℕ) → ((j : ℕ) → i ≤ j → j < n → f j ≡ []) → flat_map f (upto i n) ≡ []
  flat_none i n e = flat_none_by n n i (omega arith) e

  -- those of the nodes that pass a test
  pub flat_keep : (q : ℕ → Bool) (l : List ℕ) → flat_map f (keep q l) ≡ flat_map (λ k. cond (q k) (f k) []) l
  unfolding flat_map keep
  flat_keep q [] = refl
  flat_keep q (k ∷ l) = go (q k) (flat_keep q l)
    where
      go : (b : Bool) → flat_map f (keep q l) ≡ flat_map (λ k. cond (q k) (f k) []) l → flat_map f (cond b (k ∷ keep q l) (keep q l)) ≡ cond b (f k) [] ++ flat_map (λ k. cond (q k) (f k) []) l
      go true h = rw h
      go false h = h

pub flat_same_lem : {A : Type 0} (f g : ℕ → List A) → ((k : ℕ) → f k ≡ g k) → (l : List ℕ) → flat_map f l ≡ flat_map g l
unfolding flat_map
flat_same_lem f g h [] = refl
flat_same_lem f g h (k ∷ l) = rw (h k, flat_same_lem f g h l)

-- a check raises at most one finding, and none where it is not made
pub listed_one : (r : Option Finding) → length (listed r) ≤ 1
listed_one (Some f) = omega arith
listed_one None = omega arith

pub listed_cond : (b : Bool) (r : Option Finding) → listed (cond b r None) ≡ cond b (listed r) []
listed_cond true r = refl
listed_cond false r = refl

-- one piece of the list is written: what is left to write is the rest
module _ (s s' : List ℕ) (w w' : ℕ) (all piece rest : List Finding) (e : all ≡ piece ++ rest) where
  pub piece_place : w' ≡ w + 7 * length piece → w' + 7 * length rest ≡ w + 7 * length all
  piece_place q = let l : length all ≡ length piece + length rest = ap length e ∙ length-append piece rest in omega arith

  pub piece_sink : w' ≡ w + 7 * length piece → s' ≡ sink s w piece → sink s' w' rest ≡ sink s w all
  piece_sink q x = rw (e, sink_append s w piece rest, x, q)

-- A check on its way: what is left to raise behind what was raised gives what all of it gives.
pub record Left (before now : Findings) (all rest : List Finding) : Type 0 where
  pub same_slice : now.slice.ghost_name ≡ before.slice.ghost_name
  pub place : now.raised + 7 * length rest ≡ before.raised + 7 * length all
  pub slice : sink now.slice.now now.raised rest ≡ sink before.slice.now before.raised all

pub left_start : (a : Findings) (all rest : List Finding) → rest ≡ all → Left a a all rest
left_start a all rest e = record { same_slice = refl; place = ap (λ (l : List Finding). a.raised + 7 * length l) e; slice = ap (sink a.slice.now a.raised) e }

pub left_turn : (a b d : Findings) (all rest piece behind : List Finding) → Left a b all rest → rest ≡ piece ++ behind → Adds b d piece → Left a d all behind
left_turn a b d all rest piece behind x e y =
    let p = y.raises.place in
    record {
      same_slice = y.same_slice ∙ x.same_slice;
      place = piece_place b.slice.now d.slice.now b.raised d.raised rest piece behind e p ∙ x.place;
      slice = piece_sink b.slice.now d.slice.now b.raised d.raised rest piece behind e p y.raises.slice ∙ x.slice;
    }

pub left_end : (a b : Findings) (all rest : List Finding) → Left a b all rest → rest ≡ [] → Adds a b all
left_end a b all rest x e =
    let p = x.place in
    let l : length rest ≡ 0 = ap (λ (k : List Finding). length k) e in
    record {
      same_slice = x.same_slice;
      raises = record { place = omega arith; slice = sym (sink_nil b.slice.now b.raised) ∙ ap (sink b.slice.now b.raised) (sym e) ∙ x.slice };
    }

-- what is kept of the nodes from i up to n begins with the first that passes
module _ (q : ℕ → Bool) (n : ℕ) where
  kept_by_lem : (g i a : ℕ) → n ≤ i + g → first_node q i n ≡ Some (record { 0 = a }) → keep q (upto i n) ≡ a ∷ keep q (upto (a + 1) n)
  unfolding keep
  kept_by_lem zero i a hg e = let s : ◌≡◌ {A = Option NodeId} (Some (record { 0 = a })) None = sym e ∙ node_end q i n (omega arith) in let z : ◌≡◌ {A = ℕ} 0 1 = cc in absurd (omega arith)
  kept_by_lem (suc g) i a hg e =
      ⊎_elim (λ (h : i < n). go h (q i) refl (λ x. kept_by_lem g (i + 1) a (omega arith) (sym (node_on q i n h x) ∙ e)))
      (λ (h : n ≤ i). let s : ◌≡◌ {A = Option NodeId} (Some (record { 0 = a })) None = sym e ∙ node_end q i n h in let z : ◌≡◌ {A = ℕ} 0 1 = cc in absurd (omega arith)) (lt_or_ge i n)
    where
      go : i < n → (b : Bool) → q i ≡ b → (q i ≡ false → keep q (upto (i + 1) n) ≡ a ∷ keep q (upto (a + 1) n)) → keep q (upto i n) ≡ a ∷ keep q (upto (a + 1) n)
      go h true x r =
          let s : ◌≡◌ {A = Option NodeId} (Some (record { 0 = i })) (Some (record { 0 = a })) = sym (node_stop q i n h x) ∙ e in
          let u : i ≡ a = ap number s in
          rw (upto_cons i n h, x, u)
      go h false x r = rw (upto_cons i n h, x) (r x)

  pub kept_first_lem : (i a : ℕ) → first_node q i n ≡ Some (record { 0 = a }) → keep q (upto i n) ≡ a ∷ keep q (upto (a + 1) n)
  kept_first_lem i a e = kept_by_lem n i a (omega arith) e

  kept_none_by : (g i : ℕ) → n ≤ i + g → first_node q i n ≡ None → keep q (upto i n) ≡ []
  unfolding keep
  kept_none_by zero i hg e = rw (upto_nil i n (omega arith))
  kept_none_by (suc g) i hg e =
      ⊎_elim (λ (h : i < n). go h (q i) refl (λ x. kept_none_by g (i + 1) (omega arith) (sym (node_on q i n h x) ∙ e)))
      (λ (h : n ≤ i). rw (upto_nil i n h)) (lt_or_ge i n)
    where
      go : i < n → (b : Bool) → q i ≡ b → (q i ≡ false → keep q (upto (i + 1) n) ≡ []) → keep q (upto i n) ≡ []
      go h true x r = let s : ◌≡◌ {A = Option NodeId} (Some (record { 0 = i })) None = sym (node_stop q i n h x) ∙ e in let z : ◌≡◌ {A = ℕ} 0 1 = cc in absurd (omega arith)
      go h false x r = rw (upto_cons i n h, x) (r x)

  pub kept_none : (i : ℕ) → first_node q i n ≡ None → keep q (upto i n) ≡ []
  kept_none i e = kept_none_by n i (omega arith) e

  from_by : (g i a : ℕ) → n ≤ i + g → first_node q i n ≡ Some (record { 0 = a }) → i ≤ a
  from_by zero i a hg e = let s : ◌≡◌ {A = Option NodeId} (Some (record { 0 = a })) None = sym e ∙ node_end q i n (omega arith) in let z : ◌≡◌ {A = ℕ} 0 1 = cc in absurd (omega arith)
  from_by (suc g) i a hg e =
      ⊎_elim (λ (h : i < n). go h (q i) refl (λ x. from_by g (i + 1) a (omega arith) (sym (node_on q i n h x) ∙ e)))
      (λ (h : n ≤ i). let s : ◌≡◌ {A = Option NodeId} (Some (record { 0 = a })) None = sym e ∙ node_end q i n h in let z : ◌≡◌ {A = ℕ} 0 1 = cc in absurd (omega arith)) (lt_or_ge i n)
    where
      go : i < n → (b : Bool) → q i ≡ b → (q i ≡ false → i + 1 ≤ a) → i ≤ a
      go h true x r =
          let s : ◌≡◌ {A = Option NodeId} (Some (record { 0 = i })) (Some (record { 0 = a })) = sym (node_stop q i n h x) ∙ e in
          let u : i ≡ a = ap number s in
          omega arith
      go h false x r = let l = r x in omega arith

  -- what is found is not before where the search begins
  pub found_from : (i a : ℕ) → first_node q i n ≡ Some (record { 0 = a }) → i ≤ a
  found_from i a e = from_by n i a (omega arith) e
