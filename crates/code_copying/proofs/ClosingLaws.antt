-- The pass by a copy, closed up into a second slice: where an instruction comes to stand, and its numbers there. Which operands name places, and what
-- is read off numbers that stand somewhere, stands in code_close (ClosingLaws.antt).
use Prim.Native.Nat.{ℕ, ◌+◌, ◌-◌, ◌≤◌, ◌<◌}
use Rattle.std.specs.Prelude.{◌≡◌, ◌≢◌, Bool, length, drop, ltb}
use Rattle.std.proofs.Math.Path.{refl, sym, ap, subst}
use Rattle.std.proofs.Common.{◌∙◌, inl, inr, length-append, length-drop, get_or-drop, get_or-append-add, ext_get_or, lt-ltb, le-ltb}
use Rattle.std.proofs.Math.Bool.{true, false}
use mathlib.Core.List.{List, [], ◌∷◌, ◌++◌}
use Rattle.std.proofs.Math.ListN.{get_or, get_or-append}
use native.Mathlib.Omega.{arith}
use Rattle.std.proofs.Math.Decide.{dec_lt}
use Rattle.route_completion.specs.Sem.{pick, elem}
use Rattle.code_flat.specs.Machine.{Instr, decode}
use Rattle.code_flat.specs.Machine.{is_none}
use Rattle.code_flat.proofs.Correct.{has_self}
use Rattle.code_flat.specs.Has.{Has}
use Rattle.code_valid.specs.Instrs.{len, words, flat, find, names}
use Rattle.code_shorten.specs.Short.{moved, relocate, kept, close_up}
use Rattle.code_shorten.specs.Longer.{total, flat_length, words_length, relocate_length}
use Rattle.code_shorten.specs.Reads.{find_has}
use Rattle.code_shorten.specs.Sound.{AreInstrs, Begin, All, Sound, len_pos, find_here, find_there, find_low, none_in}
use Rattle.code_shorten.specs.Closes.{In, moved_here, moved_there, kept_find, relocate_none}
use Rattle.code_shorten.specs.Marking.{raise}
use Rattle.code_put.specs.Put.{Put}
use Rattle.code_close.specs.Closing.{names_first, names_second, names_third}
use Rattle.code_close.proofs.ClosingLaws.{moved_words, named_first, named_second, named_third, has_at}
use Rattle.code_copying.specs.Marking.{plain, Inked}
use Rattle.code_copying.specs.Closing.{Moving, Closing}
use Rattle.code_copying.proofs.MarkingLaws.{first_low, mark_is, decoded, size_is}

add_pick : (b : Bool) (q x : ℕ) → q + pick b x 0 ≡ pick b (q + x) q
add_pick true q x = refl
add_pick false q x = omega arith

pub pick_most : (b : Bool) (x : ℕ) → pick b x 0 ≤ x
pick_most true x = omega arith
pick_most false x = omega arith

pick_true : (b : Bool) (x k : ℕ) → k < pick b x 0 → b ≡ true
pick_true true x k h = refl
pick_true false x k h = absurd (omega arith)

-- The walk.
module _ (is : List Instr) (S : List ℕ) where
  abbrev φ : ℕ → ℕ
  φ = moved S is 0 0

  pub moving_first : AreInstrs is → Moving is S 0 0
  unfolding close_up
  moving_first s =
      record {
        rest = is;
        some = s;
        stands = λ o h. refl;
        left = λ o h. refl;
        size = let z : total (kept φ S is 0) ≡ total (close_up S is) = refl in omega arith;
        ends = omega arith;
        low = omega arith;
      }

  kept_total : (i : Instr) (r : List Instr) (p : ℕ) → total (kept φ S (i ∷ r) p) ≡ pick (elem p S) (len i) 0 + total (kept φ S r (p + len i))
  unfolding kept total
  kept_total i r p = go (elem p S)
    where
      go : (b : Bool) → total (pick b (relocate φ i ∷ kept φ S r (p + len i)) (kept φ S r (p + len i))) ≡ pick b (len i) 0 + total (kept φ S r (p + len i))
      go true = omega (arith, relocate_length φ i)
      go false = omega arith

  module _ (p q : ℕ) (m : Moving is S p q) where
    pub moving_before : (o : ℕ) → p ≤ o → Begin is o → Begin is p
    moving_before o h b = go m.rest m.some m.stands
      where
        go : (r : List Instr) → AreInstrs r → ((x : ℕ) → p ≤ x → find r p x ≡ find is 0 x) → Begin is p
        go [] u st = absurd (none_in p o (ap is_none (st o h) ∙ b))
        go (i ∷ r) u st = ap is_none (sym (st p (omega arith)) ∙ find_here i r p) ∙ u.0

    pub moving_begin : p < total is → Begin is p
    unfolding total
    moving_begin l = go m.rest m.some m.stands m.ends
      where
        go : (r : List Instr) → AreInstrs r → ((x : ℕ) → p ≤ x → find r p x ≡ find is 0 x) → p + total r ≡ total is → Begin is p
        go [] u st e = absurd (omega arith)
        go (i ∷ r) u st e = ap is_none (sym (st p (omega arith)) ∙ find_here i r p) ∙ u.0

    pub moving_fits : Begin is p → p + len (find is 0 p) ≤ total is
    unfolding total
    moving_fits b = go m.rest m.stands m.ends
      where
        go : (r : List Instr) → ((x : ℕ) → p ≤ x → find r p x ≡ find is 0 x) → p + total r ≡ total is → p + len (find is 0 p) ≤ total is
        go [] st e = absurd (none_in p p (ap is_none (st p (omega arith)) ∙ b))
        go (i ∷ r) st e = let f : find is 0 p ≡ i = sym (st p (omega arith)) ∙ find_here i r p in omega (arith, ap len f)

    pub moving_up : (o : ℕ) → p < o → Begin is o → p + len (find is 0 p) ≤ o
    moving_up o l b = go m.rest m.stands
      where
        go : (r : List Instr) → ((x : ℕ) → p ≤ x → find r p x ≡ find is 0 x) → p + len (find is 0 p) ≤ o
        go [] st = absurd (none_in p o (ap is_none (st o (omega arith)) ∙ b))
        go (i ∷ r) st =
            let f : find is 0 p ≡ i = sym (st p (omega arith)) ∙ find_here i r p in
            let g : find r (p + len i) o ≡ find is 0 o = sym (find_there i r p o (λ e. omega arith)) ∙ st o (omega arith) in
            omega (arith, ap len f, find_low r (p + len i) o (ap is_none g ∙ b))

    pub moving_at : (o : ℕ) → p ≡ o → Begin is o → q ≡ moved S is 0 0 o
    moving_at o e b = go m.rest m.stands m.left
      where
        go : (r : List Instr) → ((x : ℕ) → p ≤ x → find r p x ≡ find is 0 x) → ((x : ℕ) → p ≤ x → moved S r p q x ≡ moved S is 0 0 x) → q ≡ moved S is 0 0 o
        go [] st lf = absurd (none_in p o (ap is_none (st o (omega arith)) ∙ b))
        go (i ∷ r) st lf = sym (moved_here S i r p q) ∙ lf p (omega arith) ∙ ap (moved S is 0 0) e

    pub moving_next : Begin is p → Moving is S (p + len (find is 0 p)) (q + pick (elem p S) (len (find is 0 p)) 0)
    unfolding total
    moving_next b = go m.rest m.some m.stands m.left m.size m.ends
      where
        go : (r : List Instr) → AreInstrs r → ((x : ℕ) → p ≤ x → find r p x ≡ find is 0 x) → ((x : ℕ) → p ≤ x → moved S r p q x ≡ moved S is 0 0 x)
            → q + total (kept φ S r p) ≡ total (close_up S is) → p + total r ≡ total is → Moving is S (p + len (find is 0 p)) (q + pick (elem p S) (len (find is 0 p)) 0)
        go [] u st lf sz en = absurd (none_in p p (ap is_none (st p (omega arith)) ∙ b))
        go (i ∷ r) u st lf sz en =
            subst (λ j. Moving is S (p + len j) (q + pick (elem p S) (len j) 0)) (sym (sym (st p (omega arith)) ∙ find_here i r p))
            (record {
              rest = r;
              some = u.1;
              stands = λ o h. sym (find_there i r p o (λ e. omega (arith, len_pos i u.0))) ∙ st o (omega arith);
              left =
                  λ o h.
                  ap (λ z. moved S r (p + len i) z o) (add_pick (elem p S) q (len i))
                  ∙ sym (moved_there S i r p q o (λ e. omega (arith, len_pos i u.0))) ∙ lf o (omega arith);
              size = omega (arith, kept_total i r p);
              ends = omega arith;
              low = omega (arith, m.low, pick_most (elem p S) (len i));
            })

    pub moving_end : total is ≤ p → q ≡ total (close_up S is)
    unfolding total kept
    moving_end l = go m.rest m.some m.size m.ends
      where
        go : (r : List Instr) → AreInstrs r → q + total (kept φ S r p) ≡ total (close_up S is) → p + total r ≡ total is → q ≡ total (close_up S is)
        go [] u sz en = omega arith
        go (i ∷ r) u sz en = absurd (omega (arith, len_pos i u.0))

-- What is read of numbers with marks.
module _ (is : List Instr) (s : Sound is) (S C : List ℕ) (k : Inked is S C) where
  abbrev F : List ℕ
  F = flat is

  module _ (p : ℕ) (b : Begin is p) where
    kept_is : (w : ℕ) → pick (ltb (get_or C p 0) raise) 0 w ≡ pick (elem p S) w 0
    kept_is w = go (elem p S) refl
      where
        go : (c : Bool) → elem p S ≡ c → pick (ltb (get_or C p 0) raise) 0 w ≡ pick c w 0
        go true e = let m : get_or C p 0 ≡ get_or F p 0 + 8 = mark_is is s p b S C k true e in ap (λ t. pick t 0 w) (le-ltb (get_or C p 0) raise (omega arith))
        go false e = let m : get_or C p 0 ≡ get_or F p 0 + 0 = mark_is is s p b S C k false e in ap (λ t. pick t 0 w) (lt-ltb (get_or C p 0) raise (omega (arith, first_low is s p b)))

    -- A turn of the walk, by the numbers that it reads: w is how many the instruction takes, n how many of them are kept.
    module _ (w n : ℕ) (size : (x y z : ℕ) → w ≡ len (decode (plain (get_or C p 0)) x y z)) (keeps : n ≡ pick (ltb (get_or C p 0) raise) 0 w) where
      pub turn_size : w ≡ len (find is 0 p)
      turn_size = size_is is s p b S C k w size

      pub turn_kept : n ≡ pick (elem p S) (len (find is 0 p)) 0
      turn_kept = keeps ∙ kept_is w ∙ ap (λ z. pick (elem p S) z 0) turn_size

      pub turn_some : w ≢ 0
      turn_some z = omega (arith, turn_size, len_pos (find is 0 p) b)

      pub turn : (q : ℕ) → Moving is S p q → Moving is S (p + w) (q + n)
      turn q m =
          subst (λ z. Moving is S (p + z) (q + n)) (sym turn_size)
          (subst (λ z. Moving is S (p + len (find is 0 p)) (q + z)) (sym turn_kept) (moving_next is S p q m b))

    -- The numbers that are written for it.
    pub put_moved : (f g : List ℕ) (q n x a c d : ℕ) → n ≤ len (find is 0 p) → x ≡ plain (get_or C p 0)
        → a ≡ pick (names_first (plain (get_or C p 0))) (moved S is 0 0 (get_or C (p + 1) 0)) (get_or C (p + 1) 0)
        → c ≡ pick (names_second (plain (get_or C p 0))) (moved S is 0 0 (get_or C (p + 2) 0)) (get_or C (p + 2) 0)
        → d ≡ pick (names_third (plain (get_or C p 0))) (moved S is 0 0 (get_or C (p + 3) 0)) (get_or C (p + 3) 0)
        → Put f q (x ∷ a ∷ c ∷ d ∷ []) n g → Put f q (words (relocate (moved S is 0 0) (find is 0 p))) n g
    put_moved f g q n x a c d l ex ea ec ed u =
        record {
          same = u.same;
          here =
              λ j h.
              u.here j h ∙ (λ t. get_or (ex t ∷ ea t ∷ ec t ∷ ed t ∷ []) j 0)
              ∙ moved_words (moved S is 0 0) (plain (get_or C p 0)) (get_or C (p + 1) 0) (get_or C (p + 2) 0) (get_or C (p + 3) 0) j (omega (arith, ap len (decoded is s p b S C k)))
              ∙ ap (λ i. get_or (words (relocate (moved S is 0 0) i)) j 0) (decoded is s p b S C k);
          elsewhere = u.elsewhere;
        }

    names_begin : All (Begin is) (names (decode (plain (get_or C p 0)) (get_or C (p + 1) 0) (get_or C (p + 2) 0) (get_or C (p + 3) 0)))
    names_begin = subst (λ i. All (Begin is) (names i)) (sym (decoded is s p b S C k)) (s.named p b)

    pub begin_first : names_first (plain (get_or C p 0)) ≡ true → Begin is (get_or C (p + 1) 0)
    begin_first e = named_first (Begin is) (plain (get_or C p 0)) (get_or C (p + 1) 0) (get_or C (p + 2) 0) (get_or C (p + 3) 0) names_begin e

    pub begin_second : names_second (plain (get_or C p 0)) ≡ true → Begin is (get_or C (p + 2) 0)
    begin_second e = named_second (Begin is) (plain (get_or C p 0)) (get_or C (p + 1) 0) (get_or C (p + 2) 0) (get_or C (p + 3) 0) names_begin e

    pub begin_third : names_third (plain (get_or C p 0)) ≡ true → Begin is (get_or C (p + 3) 0)
    begin_third e = named_third (Begin is) (plain (get_or C p 0)) (get_or C (p + 1) 0) (get_or C (p + 2) 0) (get_or C (p + 3) 0) names_begin e

-- Closing up.
module _ (is : List Instr) (s : Sound is) (S : List ℕ) where
  abbrev N : List ℕ
  N = flat (close_up S is)

  pub closing_first : (f : List ℕ) → Closing is S f f 0 0
  closing_first f = record { moving = moving_first is S s.some; done = λ x h. absurd (omega arith); behind = λ x h. refl }

  -- Its numbers stand in the new code where it comes to stand.
  stands_new : (p : ℕ) → Begin is p → In S p → Has N (moved S is 0 0 p) (words (relocate (moved S is 0 0) (find is 0 p)))
  unfolding close_up
  stands_new p b i =
      let f : find (close_up S is) 0 (moved S is 0 0 p) ≡ relocate (moved S is 0 0) (find is 0 p) = kept_find S (moved S is 0 0) is 0 0 p s.some b i in
      subst (λ j. Has N (moved S is 0 0 p) (words j)) f
      (find_has N (close_up S is) 0 (moved S is 0 0 p) (has_self N) (ap is_none f ∙ relocate_none (moved S is 0 0) (find is 0 p) ∙ b))

  pub closing_next : (f g g' : List ℕ) (p q w n : ℕ) → Closing is S f g p q → Begin is p → n ≡ pick (elem p S) (len (find is 0 p)) 0 → Moving is S (p + w) (q + n)
      → Put g q (words (relocate (moved S is 0 0) (find is 0 p))) n g' → Closing is S f g' (p + w) (q + n)
  closing_next f g g' p q w n c b e m u =
      record {
        moving = m;
        done = λ x h. new x h (dec_lt x q);
        behind = λ x h. u.elsewhere x (inr h) ∙ c.behind x (omega arith);
      }
    where
      new : (x : ℕ) → x < q + n → Dec (x < q) → get_or g' x 0 ≡ get_or N x 0
      new x h (yes l) = u.elsewhere x (inl l) ∙ c.done x l
      new x h (no l) =
          let r : q + (x - q) ≡ x = omega arith in
          let t : x - q < n = omega arith in
          let i : In S p = pick_true (elem p S) (len (find is 0 p)) (x - q) (subst (λ z. x - q < z) e t) in
          let at : q ≡ moved S is 0 0 p = moving_at is S p q c.moving p refl b in
          let v : x - q < length (words (relocate (moved S is 0 0) (find is 0 p)))
          = omega (arith, pick_most (elem p S) (len (find is 0 p)), relocate_length (moved S is 0 0) (find is 0 p), words_length (relocate (moved S is 0 0) (find is 0 p))) in
          subst (λ z. get_or g' z 0 ≡ get_or N z 0) r
          (u.here (x - q) t ∙ sym (has_at N q (words (relocate (moved S is 0 0) (find is 0 p))) (x - q) (subst (λ z. Has N z (words (relocate (moved S is 0 0) (find is 0 p)))) (sym at) (stands_new p b i)) v))

  pub closing_end : (f g : List ℕ) (p q : ℕ) → Closing is S f g p q → length g ≡ length f → length f ≡ total is → total is ≤ p → (q ≡ length N) × (g ≡ N ++ drop q f)
  closing_end f g p q c e t l = (size, ext_get_or 0 g (N ++ drop q f) same (λ x h. at x (dec_lt x q)))
    where
      size : q ≡ length N
      size = moving_end is S p q c.moving l ∙ sym (flat_length (close_up S is))

      fits : q ≤ length f
      fits = omega (arith, c.moving.low, c.moving.ends)

      same : length g ≡ length (N ++ drop q f)
      same = simp length-append (simp length-drop (omega (arith, size, fits)))

      at : (x : ℕ) → Dec (x < q) → get_or g x 0 ≡ get_or (N ++ drop q f) x 0
      at x (yes a) = c.done x a ∙ sym (get_or-append N (drop q f) 0 x (omega (arith, size)))
      at x (no a) =
          let z : length N + (x - q) ≡ x = omega (arith, size) in
          let y : q + (x - q) ≡ x = omega arith in
          c.behind x (omega arith) ∙ ap (λ j. get_or f j 0) (sym y) ∙ sym (get_or-drop q f (x - q) 0) ∙ sym (get_or-append-add N (drop q f) (x - q) 0) ∙ ap (λ j. get_or (N ++ drop q f) j 0) z
