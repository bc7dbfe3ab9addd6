-- Laws of what is read of a slice that holds a valid code with some of its numbers raised.
use Prim.Native.Nat.{ℕ, suc, ◌+◌, ◌-◌, ◌*◌, ◌%◌, ◌≤◌, ◌<◌}
use Rattle.std.specs.Prelude.{◌≡◌, ◌≢◌, Bool, leb}
use Rattle.std.proofs.Math.Path.{refl, sym, ap}
use Rattle.std.proofs.Common.{◌∙◌, subst}
use Rattle.std.proofs.Math.Bool.{true, false}
use mathlib.Core.List.{List}
use Rattle.std.proofs.Math.ListN.{length, get_or}
use Rattle.std.proofs.Math.Nat.{add-mul-mod_self_left, mod-eq_of_lt}
use Rattle.std.proofs.lemmas.List.{get_or_past}
use borrow.Author.Tests.{le-leb, lt-leb, leb-true}
use native.Mathlib.Omega.{arith}
use Rattle.route_completion.specs.Sem.{pick, elem}
use Rattle.code_flat.specs.Machine.{Instr, NONE, decode, fetch}
use Rattle.code_valid.specs.Instrs.{len, parse, find}
use Rattle.code_valid.specs.Valid.{Valid}
use Rattle.code_shorten.specs.Sound.{Begin}
use Rattle.code_shorten.specs.Closes.{In}
use Rattle.code_shorten.proofs.PlaceLaws.{find_inside, decode_same}
use Rattle.code_pass.specs.Stages.{kept_places, mark, marked, Marked}
use Rattle.code_pass.proofs.KeptLaws.{kept_parse}
use Rattle.code_mark.specs.Read.{read_at, standing_in}
use Rattle.code_mark.proofs.PlaceLaws.{sound, fetch_is, first_low, fits}

-- What a number is raised by is taken off.
pub raised_plain : (x k : ℕ) → x < mark → (x + mark * k) % mark ≡ x
raised_plain x k h = add-mul-mod_self_left x mark k ∙ mod-eq_of_lt h

pub marked_plain : (x : ℕ) (b : Bool) → x < mark → (x + pick b mark 0) % mark ≡ x
marked_plain x true h = raised_plain x 1 h
marked_plain x false h = raised_plain x 0 h

-- The end does not cut it off.
pub standing_whole : (f : List ℕ) (o : ℕ) (i : Instr) → read_at f o ≡ i → o + len i ≤ length f → standing_in f o ≡ i
unfolding standing_in
standing_whole f o i e l = ap (λ j. pick (leb (o + len j) (length f)) j NONE) e ∙ ap (λ b. pick b i NONE) (le-leb (o + len i) (length f) l)

pub standing_fits : (f : List ℕ) (p : ℕ) → len (standing_in f p) ≢ 0 → p + len (standing_in f p) ≤ length f
unfolding standing_in
standing_fits f p = go (leb (p + len (read_at f p)) (length f)) refl
  where
    go : (b : Bool) → leb (p + len (read_at f p)) (length f) ≡ b → len (pick b (read_at f p) NONE) ≢ 0 → p + len (pick b (read_at f p) NONE) ≤ length f
    go true e n = leb-true (p + len (read_at f p)) (length f) e
    go false e n = absurd (n refl)

-- What a function finds: past the end nothing stands.
module _ (f : List ℕ) (p : ℕ) where
  past : length f ≤ p → read_at f p ≡ NONE
  unfolding read_at
  past h = ap (λ x. decode (x % mark) (get_or f (p + 1) 0) (get_or f (p + 2) 0) (get_or f (p + 3) 0)) (get_or_past f p 0 h)

  pub size_past : length f ≤ p → 0 ≡ len (standing_in f p)
  unfolding standing_in
  size_past h = sym (ap (λ i. len (pick (leb (p + len i) (length f)) i NONE)) (past h) ∙ go (leb (p + 0) (length f)))
    where
      go : (b : Bool) → len (pick b NONE NONE) ≡ 0
      go true = refl
      go false = refl

  module _ (w x : ℕ) (e : x ≡ get_or f p 0 % mark) (h : (a b c : ℕ) → w ≡ len (decode x a b c)) where
    size_is : w ≡ len (read_at f p)
    unfolding read_at
    size_is = h (get_or f (p + 1) 0) (get_or f (p + 2) 0) (get_or f (p + 3) 0) ∙ ap (λ y. len (decode y (get_or f (p + 1) 0) (get_or f (p + 2) 0) (get_or f (p + 3) 0))) e

    pub size_fits : p < length f → w ≤ length f - p → w ≡ len (standing_in f p)
    size_fits i l = size_is ∙ ap len (sym (standing_whole f p (read_at f p) refl (omega (arith, size_is))))

    pub size_cut : length f - p < w → 0 ≡ len (standing_in f p)
    unfolding standing_in
    size_cut l = ap (λ b. len (pick b (read_at f p) NONE)) (sym (lt-leb (p + len (read_at f p)) (length f) (omega (arith, size_is))))

module _ (C : List ℕ) (v : Valid C) (f : List ℕ) where
  -- The numbers at o are those of the code, but for what raises the first.
  pub read_is : (o : ℕ) → Begin (parse C) o → get_or f o 0 % mark ≡ get_or C o 0
      → ((j : ℕ) → 0 < j → j < len (find (parse C) 0 o) → get_or f (o + j) 0 ≡ get_or C (o + j) 0) → read_at f o ≡ find (parse C) 0 o
  unfolding read_at fetch
  read_is o b x k =
      let one : o + 1 ≡ suc o = omega arith in
      let two : o + 2 ≡ suc (suc o) = omega arith in
      let three : o + 3 ≡ suc (suc (suc o)) = omega arith in
      let i : fetch C o ≡ find (parse C) 0 o = fetch_is C v o b in
      ap (λ y. decode y (get_or f (o + 1) 0) (get_or f (o + 2) 0) (get_or f (o + 3) 0)) x
      ∙ decode_same (get_or C o 0) (get_or C (suc o) 0) (get_or C (suc (suc o)) 0) (get_or C (suc (suc (suc o))) 0) (get_or f (o + 1) 0) (get_or f (o + 2) 0) (get_or f (o + 3) 0)
      (λ m. k 1 (omega arith) (subst (λ i. 1 < len i) (fetch_is C v o b) m) ∙ ap (λ y. get_or C y 0) one)
      (λ m. k 2 (omega arith) (subst (λ i. 2 < len i) (fetch_is C v o b) m) ∙ ap (λ y. get_or C y 0) two)
      (λ m. k 3 (omega arith) (subst (λ i. 3 < len i) (fetch_is C v o b) m) ∙ ap (λ y. get_or C y 0) three)
      ∙ fetch_is C v o b

  -- From x on the code with the places of S marked.
  module _ (S : List ℕ) (begun : (x : ℕ) → In S x → Begin (parse C) x) (from : ℕ) (ink : (x : ℕ) → from ≤ x → get_or f x 0 ≡ get_or C x 0 + pick (elem x S) mark 0) where
    ink_first : (o : ℕ) → Begin (parse C) o → from ≤ o → get_or f o 0 % mark ≡ get_or C o 0
    ink_first o b l = ap (λ y. y % mark) (ink o l) ∙ marked_plain (get_or C o 0) (elem o S) (first_low C v o b)

    pub ink_rest : (o j : ℕ) → Begin (parse C) o → from ≤ o → 0 < j → j < len (find (parse C) 0 o) → get_or f (o + j) 0 ≡ get_or C (o + j) 0
    ink_rest o j b l h m = go (elem (o + j) S) refl
      where
        go : (c : Bool) → elem (o + j) S ≡ c → get_or f (o + j) 0 ≡ get_or C (o + j) 0
        go true e = absurd (find_inside (parse C) 0 o j (sound C v).some b h m (begun (o + j) e))
        go false e = ink (o + j) (omega arith) ∙ ap (λ x. get_or C (o + j) 0 + pick x mark 0) e ∙ (let z : get_or C (o + j) 0 + 0 ≡ get_or C (o + j) 0 = omega arith in z)

    pub ink_read : (o : ℕ) → Begin (parse C) o → from ≤ o → read_at f o ≡ find (parse C) 0 o
    ink_read o b l = read_is o b (ink_first o b l) (λ j h m. ink_rest o j b l h m)

    pub ink_standing : length f ≡ length C → (o : ℕ) → Begin (parse C) o → from ≤ o → standing_in f o ≡ find (parse C) 0 o
    ink_standing e o b l = standing_whole f o (find (parse C) 0 o) (ink_read o b l) (omega (arith, fits C v o b))

  -- Behind the split, in each state.
  module _ (split : ℕ) (behind : (x : ℕ) → split ≤ x → get_or f x 0 ≡ marked C x) where
    pub behind_read : (o : ℕ) → Begin (parse C) o → split ≤ o → read_at f o ≡ find (parse C) 0 o
    behind_read = ink_read (kept_places C) (kept_parse C v) split behind

    pub behind_standing : length f ≡ length C → (o : ℕ) → Begin (parse C) o → split ≤ o → standing_in f o ≡ find (parse C) 0 o
    behind_standing = ink_standing (kept_places C) (kept_parse C v) split behind

  -- In the first state.
  module _ (m : Marked C f) where
    pub marked_standing : (o : ℕ) → Begin (parse C) o → standing_in f o ≡ find (parse C) 0 o
    marked_standing o b = behind_standing 0 (λ x l. m.each x) m.same o b (omega arith)
