-- Laws of walks over a slice whose kept instructions are marked: the numbers that are kept before a place, and the split.
use Prim.Native.Nat.{ℕ, ◌+◌, ◌≤◌, ◌<◌, min}
use Rattle.std.specs.Prelude.{◌≡◌, ◌≢◌, ◌⊎◌, Bool, ltb}
use Rattle.std.proofs.Math.Path.{refl, sym, ap}
use Rattle.std.proofs.Common.{◌∙◌, subst, inl, inr, lt-ltb, le-ltb}
use Rattle.std.proofs.Math.Bool.{true, false}
use mathlib.Core.List.{List}
use Rattle.std.proofs.Math.ListN.{length, get_or}
use native.Mathlib.Omega.{arith}
use Rattle.std.proofs.Math.Decide.{dec_lt}
use Rattle.route_completion.specs.Sem.{pick, elem}
use Rattle.code_valid.specs.Instrs.{len, parse, find}
use Rattle.code_valid.specs.Valid.{Valid}
use Rattle.code_valid.specs.declared.Instruction.{Instruction}
use Rattle.code_valid.specs.Walk.{Turn}
use Rattle.code_shorten.specs.Short.{moved, close_up, shorter}
use Rattle.code_shorten.specs.Longer.{flat_length, never_longer}
use Rattle.code_shorten.specs.Sound.{Begin, len_pos}
pub use Rattle.code_shorten.proofs.PlaceLaws.{len_most}
use Rattle.code_pass.specs.Stages.{sent_on, kept_places, new_place, kept_to, mark, Marked, Split}
use Rattle.code_mark.specs.Read.{standing_in}
use Rattle.code_mark.proofs.ReadLaws.{marked_standing, standing_fits}
use Rattle.code_pass.proofs.KeptLaws.{kept_low, kept_mono, kept_next, kept_total, kept_less, place_is, sent_sound, sent_total, sent_len, sent_begin}
use Rattle.code_mark.proofs.PlaceLaws.{sound, place_in, first_low, next_begin, no_overlap}

-- Kept or not, by its number.
pub kept_mark : (x : ℕ) (b : Bool) (n : ℕ) → x < mark → pick (ltb (x + pick b mark 0) mark) 0 n ≡ pick b n 0
kept_mark x true n h = ap (λ c. pick c 0 n) (le-ltb (x + mark) mark (omega arith))
kept_mark x false n h = ap (λ c. pick c 0 n) (lt-ltb (x + 0) mark (omega arith))

module _ (C : List ℕ) (v : Valid C) where
  abbrev S : List ℕ
  S = kept_places C

  -- One instruction more, as far as x.
  pub kept_more : (o x : ℕ) → Begin (parse C) o → o < x → x ≤ o + len (find (parse C) 0 o) → kept_to C x ≡ kept_to C o + pick (elem o S) (len (find (parse C) 0 o)) 0
  kept_more o x b l m = go (elem o S) refl
    where
      size : len (find (sent_on C) 0 o) ≡ len (find (parse C) 0 o)
      size = sent_len C v o

      all : kept_to C (o + len (find (sent_on C) 0 o)) ≡ kept_to C o + pick (elem o S) (len (find (sent_on C) 0 o)) 0
      all = kept_next S (sent_on C) 0 o (sent_sound C v).some (sent_begin C v o b)

      least : kept_to C o ≤ kept_to C x
      least = kept_mono S (sent_on C) 0 o x (omega arith)

      most : kept_to C x ≤ kept_to C (o + len (find (sent_on C) 0 o))
      most = kept_mono S (sent_on C) 0 x (o + len (find (sent_on C) 0 o)) (omega (arith, size))

      go : (c : Bool) → elem o S ≡ c → kept_to C x ≡ kept_to C o + pick c (len (find (parse C) 0 o)) 0
      go true e = omega (arith, kept_less C v o x e l, most, all, ap (λ c. pick c (len (find (sent_on C) 0 o)) 0) e, size)
      go false e = omega (arith, least, most, all, ap (λ c. pick c (len (find (sent_on C) 0 o)) 0) e)

  -- At the beginning of an instruction, its new place.
  pub kept_new : (o : ℕ) → Begin (parse C) o → kept_to C o ≡ new_place C o
  kept_new o b = sym (place_is C v o (sent_begin C v o b))

  pub kept_none : kept_to C 0 ≡ 0
  kept_none = kept_low S (sent_on C) 0 0 (omega arith)

  -- Behind the end there is no more.
  pub kept_end : (o : ℕ) → length C ≤ o → kept_to C o ≡ length (shorter C)
  unfolding shorter close_up
  kept_end o h =
      kept_total S (moved S (sent_on C) 0 0) (sent_on C) 0 o (sent_sound C v).some (omega (arith, sent_total C v)) ∙ sym (flat_length (close_up S (sent_on C)))

-- A walk goes no further than the end.
pub turn_within : (f : List ℕ) (p : ℕ) (i : Instruction) (q : ℕ) → Turn (standing_in f) p i q → q ≤ length f
turn_within f p i q t = let h = standing_fits f p t.some in let n = t.next in let e = t.size in omega arith

-- A count of what is kept before a place, which has come to p.
pub record Kept (C : List ℕ) (place p kept : ℕ) : Type 0 where
  pub at : Begin (parse C) p ⊎ (p ≡ length C)
  pub value : kept ≡ kept_to C (min p place)

module _ (C : List ℕ) (v : Valid C) (f : List ℕ) (m : Marked C f) where
  begins : (p : ℕ) → Begin (parse C) p ⊎ (p ≡ length C) → p < length f → Begin (parse C) p
  begins p (inl b) l = b
  begins p (inr e) l = absurd (omega (arith, m.same))

  -- A walk over the slice: there the instructions stand that begin in the code.
  pub walk_some : (p : ℕ) → Begin (parse C) p ⊎ (p ≡ length C) → p < length f → len (standing_in f p) ≢ 0
  walk_some p a l z =
      let b : Begin (parse C) p = begins p a l in
      omega (arith, len_pos (find (parse C) 0 p) b, ap len (marked_standing C v f m p b), z)

  pub walk_next : (p : ℕ) → Begin (parse C) p ⊎ (p ≡ length C) → p < length f → Begin (parse C) (p + len (standing_in f p)) ⊎ (p + len (standing_in f p) ≡ length C)
  walk_next p a l =
      let b : Begin (parse C) p = begins p a l in
      subst (λ i. Begin (parse C) (p + len i) ⊎ (p + len i ≡ length C)) (sym (marked_standing C v f m p b)) (next_begin C v p b)

  pub kept_start : (place : ℕ) → Kept C place 0 0
  kept_start place = record { at = inl (sound C v).start; value = sym (ap (kept_to C) (let z : min 0 place ≡ 0 = omega arith in z) ∙ kept_none C v) }

  pub kept_step : (place p kept : ℕ) → Kept C place p kept → p < place → p < length f
      → Kept C place (p + len (standing_in f p)) (kept + pick (ltb (get_or f p 0) mark) 0 (len (standing_in f p)))
  kept_step place p kept k h l =
      record { at = walk_next p k.at l; value = sum }
    where
      b : Begin (parse C) p
      b = begins p k.at l

      n : ℕ
      n = len (find (parse C) 0 p)

      size : len (standing_in f p) ≡ n
      size = ap len (marked_standing C v f m p b)

      more : pick (ltb (get_or f p 0) mark) 0 (len (standing_in f p)) ≡ pick (elem p (kept_places C)) n 0
      more =
          (λ j. pick (ltb (m.each p j) mark) 0 (size j))
          ∙ kept_mark (get_or C p 0) (elem p (kept_places C)) n (first_low C v p b)

      sum : kept + pick (ltb (get_or f p 0) mark) 0 (len (standing_in f p)) ≡ kept_to C (min (p + len (standing_in f p)) place)
      sum =
          let w : min p place ≡ p = omega arith in
          let x : kept ≡ kept_to C p = k.value ∙ ap (kept_to C) w in
          let some : 0 < n = len_pos (find (parse C) 0 p) b in
          (let z : kept + pick (ltb (get_or f p 0) mark) 0 (len (standing_in f p)) ≡ kept_to C p + pick (elem p (kept_places C)) n 0 = omega (arith, more) in z)
          ∙ sym (kept_more C v p (min (p + n) place) b (omega arith) (omega arith)) ∙ ap (λ t. kept_to C (min (p + t) place)) (sym size)

  -- The walk ends at the place, or at the end of the code.
  pub kept_stop : (place p kept : ℕ) → Kept C place p kept → (place ≤ p) ⊎ (length f ≤ p) → kept ≡ kept_to C place
  kept_stop place p kept k (inl h) = k.value ∙ ap (kept_to C) (let z : min p place ≡ place = omega arith in z)
  kept_stop place p kept k (inr h) = go (dec_lt p place)
    where
      go : Dec (p < place) → kept ≡ kept_to C place
      go (no a) = k.value ∙ ap (kept_to C) (let z : min p place ≡ place = omega arith in z)
      go (yes a) =
          k.value ∙ ap (kept_to C) (let z : min p place ≡ p = omega arith in z)
          ∙ kept_end C v p (omega (arith, m.same)) ∙ sym (kept_end C v place (omega (arith, m.same)))

  pub kept_cut : (place p kept : ℕ) → Kept C place p kept → len (standing_in f p) ≡ 0 → kept ≡ kept_to C place
  kept_cut place p kept k z = go (dec_lt p (length f))
    where
      go : Dec (p < length f) → kept ≡ kept_to C place
      go (yes l) = absurd (walk_some p k.at l z)
      go (no l) = kept_stop place p kept k (inr (omega arith))

  pub kept_turn : (p : ℕ) (i : Instruction) (q : ℕ) → Turn (standing_in f) p i q → (place kept : ℕ) → Kept C place p kept → p < place
      → Kept C place q (kept + pick (ltb (get_or f i.place 0) mark) 0 i.size)
  kept_turn p i q t place kept k h =
      let s = t.some in rw (t.next, t.place, t.size) (kept_step place p kept k h (omega (arith, standing_fits f p s, s)))

  pub kept_done : (place p end kept : ℕ) → Kept C place p kept → end ≡ place → (end ≤ p) ⊎ (len (standing_in f p) ≡ 0) → kept ≡ kept_to C place
  kept_done place p end kept k e (inl h) = kept_stop place p kept k (inl (omega arith))
  kept_done place p end kept k e (inr z) = kept_cut place p kept k z

  pub kept_length : kept_to C (length f) ≡ length (shorter C)
  kept_length = kept_end C v (length f) (omega (arith, m.same))

-- A search for the split, which has come to p.
pub record Splitting (C : List ℕ) (p : ℕ) : Type 0 where
  pub at : Begin (parse C) p ⊎ (p ≡ length C)
  pub near : p < length (shorter C) + 4
  pub first : (o : ℕ) → Begin (parse C) o → length (shorter C) ≤ o → p ≤ o

module _ (C : List ℕ) (v : Valid C) (f : List ℕ) (m : Marked C f) where
  pub splitting_first : Splitting C 0
  splitting_first = record { at = inl (sound C v).start; near = omega arith; first = λ o b h. omega arith }

  pub splitting_next : (p : ℕ) → Splitting C p → p < length (shorter C) → p < length f → Splitting C (p + len (standing_in f p))
  splitting_next p g h l =
      record {
        at = walk_next C v f m p g.at l;
        near = omega (arith, len_most (standing_in f p));
        first = λ o c k. subst (λ i. p + len i ≤ o) (sym (marked_standing C v f m p b)) (no_overlap C v p b o c (omega arith));
      }
    where
      b : Begin (parse C) p
      b = begins C v f m p g.at l

  pub splitting_in : (p : ℕ) → p < length (shorter C) → p < length f
  splitting_in p h = omega (arith, never_longer C, m.same)

  pub splitting_end : (p : ℕ) → Splitting C p → length (shorter C) ≤ p → Split C p
  splitting_end p g h = record { behind = h; near = g.near; begins = g.at; first = g.first }

  pub splitting_turn : (p : ℕ) (i : Instruction) (q : ℕ) → Turn (standing_in f) p i q → Splitting C p → i.place < length (shorter C) → Splitting C q
  splitting_turn p i q t g h =
      let e = t.place in
      let l : p < length (shorter C) = omega arith in
      rw (t.next, t.size) (splitting_next p g l (splitting_in p l))

  pub splitting_found : (p : ℕ) (i : Instruction) (q : ℕ) → Turn (standing_in f) p i q → Splitting C p → length (shorter C) ≤ i.place → Split C i.place
  splitting_found p i q t g h = let e = t.place in rw e (splitting_end p g (omega arith))

  -- The walk comes to the end of the code.
  pub splitting_done : (p end : ℕ) → Splitting C p → end ≡ length f → (end ≤ p) ⊎ (len (standing_in f p) ≡ 0) → Split C (length f)
  splitting_done p end g e s = subst (Split C) (last g.at) (splitting_end p g (omega (arith, never_longer C, m.same, last g.at)))
    where
      last : Begin (parse C) p ⊎ (p ≡ length C) → p ≡ length f
      last (inr q) = omega (arith, m.same)
      last (inl b) = absurd (go s)
        where
          h : p < length f
          h = omega (arith, place_in C v p b, m.same)

          go : (end ≤ p) ⊎ (len (standing_in f p) ≡ 0) → ⊥
          go (inl l) = omega (arith, h)
          go (inr z) = walk_some C v f m p (inl b) h z
