-- Laws of the end of the pass.
use Prim.Native.Nat.{ℕ, zero, suc, ◌+◌, ◌-◌, ◌*◌, ◌%◌, ◌≤◌, ◌<◌}
use Rattle.std.specs.Prelude.{◌≡◌, ◌≢◌, ◌⊎◌, Bool, length, set, drop, ltb}
use Rattle.std.proofs.Math.Path.{refl, sym, ap, subst}
use Rattle.std.proofs.Common.{◌∙◌, inl, inr, true≢false, length-append, length-drop, get_or-drop, get_or-append-add, ext_get_or, ne_eqb, lt-ltb, le-ltb, get_or-set_same, get_or-set_other, length-set}
use Rattle.std.proofs.Math.Bool.{true, false}
use mathlib.Core.List.{List, [], ◌∷◌, ◌++◌}
use Rattle.std.proofs.Math.ListN.{get_or, get_or-append}
use native.Mathlib.Omega.{arith}
use Rattle.std.proofs.Math.Decide.{dec_lt}
use Rattle.route_completion.specs.Sem.{pick, elem}
use Rattle.code_flat.specs.Opcodes as op
use Rattle.code_flat.specs.Machine.{Instr, NONE, LIST, LEAVE, ASK, SELECT, OPEN, END, CASE, decode}
use Rattle.code_flat.specs.Machine.{is_none}
use Rattle.code_flat.proofs.Correct.{has_self}
use Rattle.code_flat.specs.Has.{Has}
use Rattle.code_valid.specs.Instrs.{len, words, flat, parse, find, names, runs_on}
use Rattle.code_valid.specs.Valid.{Valid}
use Rattle.code_valid.proofs.ReadingLaws.{decode_none}
use Rattle.code_shorten.specs.Short.{relocate, close_up, shorter}
use Rattle.code_shorten.specs.Longer.{total, flat_length, words_length, relocate_length}
use Rattle.code_shorten.specs.Reads.{find_has}
use Rattle.code_shorten.specs.Sound.{AreInstrs, Begin, All, Sound, dec_eq, len_pos}
use Rattle.code_shorten.specs.Closes.{In, Closed, relocate_none}
use Rattle.code_shorten.specs.Reaches.{reached_zero, reached_closed}
use Rattle.code_shorten.specs.Stands.{short_sound, old_of, new_find}
use Rattle.code_shorten.proofs.PlaceLaws.{find_inside, next_place}
use Rattle.code_put.specs.Put.{Put}
use Rattle.code_pass.specs.Stages.{cycle, sent_on, kept_places, new_place, kept_to, marked, Gathered, Split}
use Rattle.code_pass.proofs.KeptLaws.{At, Next, Covers, covers, begin_apart, begin_in, kept_low, kept_next, sent_sound, sent_total, sent_begin, kept_begin, place_is, kept_end, kept_most, at_next, begin_fits, kept_inside, kept_less, next_kept}
use Rattle.code_mark.specs.Read.{read_at, standing_in}
use Rattle.code_places.specs.Placing.{Tagged}
use Rattle.code_places.proofs.PlacingLaws.{first, first_low, first_is, raised_len}
use Rattle.code_close.specs.Closing.{names_first, names_second, names_third, placed, begun, Moves, Moved, Starts, Raised, Plain, Restored, Saved}

-- Which operands name places.
module _ (x : ℕ) where
  pub first_not : x ≢ op.Leave → x ≢ op.Open → x ≢ op.Case → false ≡ names_first x
  first_not a b c = rw (ne_eqb x op.Leave a, ne_eqb x op.Open b, ne_eqb x op.Case c) refl

  pub second_not : x ≢ op.Ask → x ≢ op.Select → x ≢ op.Case → false ≡ names_second x
  second_not a b c = rw (ne_eqb x op.Ask a, ne_eqb x op.Select b, ne_eqb x op.Case c) refl

  pub third_not : x ≢ op.Ask → x ≢ op.Select → false ≡ names_third x
  third_not a b = rw (ne_eqb x op.Ask a, ne_eqb x op.Select b) refl

-- The numbers of an instruction whose places are moved.
pub moved_words : (φ : ℕ → ℕ) (x a b c j : ℕ) → j < len (decode x a b c)
    → get_or (x ∷ pick (names_first x) (φ a) a ∷ pick (names_second x) (φ b) b ∷ pick (names_third x) (φ c) c ∷ []) j 0 ≡ get_or (words (relocate φ (decode x a b c))) j 0
moved_words φ zero a b c j h = absurd (omega arith)
moved_words φ (suc zero) a b c zero h = refl
moved_words φ (suc zero) a b c (suc zero) h = refl
moved_words φ (suc zero) a b c (suc (suc j)) h = absurd (omega arith)
moved_words φ (suc (suc zero)) a b c zero h = refl
moved_words φ (suc (suc zero)) a b c (suc zero) h = refl
moved_words φ (suc (suc zero)) a b c (suc (suc zero)) h = refl
moved_words φ (suc (suc zero)) a b c (suc (suc (suc j))) h = absurd (omega arith)
moved_words φ (suc (suc (suc zero))) a b c zero h = refl
moved_words φ (suc (suc (suc zero))) a b c (suc zero) h = refl
moved_words φ (suc (suc (suc zero))) a b c (suc (suc zero)) h = refl
moved_words φ (suc (suc (suc zero))) a b c (suc (suc (suc zero))) h = refl
moved_words φ (suc (suc (suc zero))) a b c (suc (suc (suc (suc j)))) h = absurd (omega arith)
moved_words φ (suc (suc (suc (suc zero)))) a b c zero h = refl
moved_words φ (suc (suc (suc (suc zero)))) a b c (suc zero) h = refl
moved_words φ (suc (suc (suc (suc zero)))) a b c (suc (suc zero)) h = refl
moved_words φ (suc (suc (suc (suc zero)))) a b c (suc (suc (suc zero))) h = refl
moved_words φ (suc (suc (suc (suc zero)))) a b c (suc (suc (suc (suc j)))) h = absurd (omega arith)
moved_words φ (suc (suc (suc (suc (suc zero))))) a b c zero h = refl
moved_words φ (suc (suc (suc (suc (suc zero))))) a b c (suc zero) h = refl
moved_words φ (suc (suc (suc (suc (suc zero))))) a b c (suc (suc j)) h = absurd (omega arith)
moved_words φ (suc (suc (suc (suc (suc (suc zero)))))) a b c zero h = refl
moved_words φ (suc (suc (suc (suc (suc (suc zero)))))) a b c (suc zero) h = refl
moved_words φ (suc (suc (suc (suc (suc (suc zero)))))) a b c (suc (suc j)) h = absurd (omega arith)
moved_words φ (suc (suc (suc (suc (suc (suc (suc zero))))))) a b c zero h = refl
moved_words φ (suc (suc (suc (suc (suc (suc (suc zero))))))) a b c (suc zero) h = refl
moved_words φ (suc (suc (suc (suc (suc (suc (suc zero))))))) a b c (suc (suc zero)) h = refl
moved_words φ (suc (suc (suc (suc (suc (suc (suc zero))))))) a b c (suc (suc (suc zero))) h = refl
moved_words φ (suc (suc (suc (suc (suc (suc (suc zero))))))) a b c (suc (suc (suc (suc j)))) h = absurd (omega arith)
moved_words φ (suc (suc (suc (suc (suc (suc (suc (suc k)))))))) a b c j h =
    absurd (omega (arith, ap len (decode_none (suc (suc (suc (suc (suc (suc (suc (suc k)))))))) a b c (omega arith))))

-- What holds for the places that an instruction names holds for its operands that name places.
module _ (P : ℕ → Type 0) where
  pub named_first : (x a b c : ℕ) → All P (names (decode x a b c)) → names_first x ≡ true → P a
  named_first zero a b c h e = absurd (true≢false (sym e))
  named_first (suc zero) a b c h e = absurd (true≢false (sym e))
  named_first (suc (suc zero)) a b c h e = h.0
  named_first (suc (suc (suc zero))) a b c h e = absurd (true≢false (sym e))
  named_first (suc (suc (suc (suc zero)))) a b c h e = absurd (true≢false (sym e))
  named_first (suc (suc (suc (suc (suc zero))))) a b c h e = h.0
  named_first (suc (suc (suc (suc (suc (suc zero)))))) a b c h e = absurd (true≢false (sym e))
  named_first (suc (suc (suc (suc (suc (suc (suc zero))))))) a b c h e = h.0
  named_first (suc (suc (suc (suc (suc (suc (suc (suc k)))))))) a b c h e =
      absurd (true≢false (sym e ∙ sym (first_not (suc (suc (suc (suc (suc (suc (suc (suc k)))))))) (λ z. omega arith) (λ z. omega arith) (λ z. omega arith))))

  pub named_second : (x a b c : ℕ) → All P (names (decode x a b c)) → names_second x ≡ true → P b
  named_second zero a b c h e = absurd (true≢false (sym e))
  named_second (suc zero) a b c h e = absurd (true≢false (sym e))
  named_second (suc (suc zero)) a b c h e = absurd (true≢false (sym e))
  named_second (suc (suc (suc zero))) a b c h e = h.0
  named_second (suc (suc (suc (suc zero)))) a b c h e = h.0
  named_second (suc (suc (suc (suc (suc zero))))) a b c h e = absurd (true≢false (sym e))
  named_second (suc (suc (suc (suc (suc (suc zero)))))) a b c h e = absurd (true≢false (sym e))
  named_second (suc (suc (suc (suc (suc (suc (suc zero))))))) a b c h e = h.1.0
  named_second (suc (suc (suc (suc (suc (suc (suc (suc k)))))))) a b c h e =
      absurd (true≢false (sym e ∙ sym (second_not (suc (suc (suc (suc (suc (suc (suc (suc k)))))))) (λ z. omega arith) (λ z. omega arith) (λ z. omega arith))))

  pub named_third : (x a b c : ℕ) → All P (names (decode x a b c)) → names_third x ≡ true → P c
  named_third zero a b c h e = absurd (true≢false (sym e))
  named_third (suc zero) a b c h e = absurd (true≢false (sym e))
  named_third (suc (suc zero)) a b c h e = absurd (true≢false (sym e))
  named_third (suc (suc (suc zero))) a b c h e = h.1.0
  named_third (suc (suc (suc (suc zero)))) a b c h e = h.1.0
  named_third (suc (suc (suc (suc (suc zero))))) a b c h e = absurd (true≢false (sym e))
  named_third (suc (suc (suc (suc (suc (suc zero)))))) a b c h e = absurd (true≢false (sym e))
  named_third (suc (suc (suc (suc (suc (suc (suc zero))))))) a b c h e = absurd (true≢false (sym e))
  named_third (suc (suc (suc (suc (suc (suc (suc (suc k)))))))) a b c h e =
      absurd (true≢false (sym e ∙ sym (third_not (suc (suc (suc (suc (suc (suc (suc (suc k)))))))) (λ z. omega arith) (λ z. omega arith))))

-- The instruction whose numbers stand at q, the first of which may be raised.
read_words : (f : List ℕ) (q : ℕ) (i : Instr) → is_none i ≡ false → get_or f q 0 % 8 ≡ first i
    → ((j : ℕ) → 0 < j → j < len i → get_or f (q + j) 0 ≡ get_or (words i) j 0) → read_at f q ≡ i
unfolding read_at
read_words f q NONE n e h = absurd (true≢false n)
read_words f q (LIST a) n e h = λ t. decode (e t) (h 1 (omega arith) (omega arith) t) (get_or f (q + 2) 0) (get_or f (q + 3) 0)
read_words f q (LEAVE u d) n e h = λ t. decode (e t) (h 1 (omega arith) (omega arith) t) (h 2 (omega arith) (omega arith) t) (get_or f (q + 3) 0)
read_words f q (ASK a y z) n e h = λ t. decode (e t) (h 1 (omega arith) (omega arith) t) (h 2 (omega arith) (omega arith) t) (h 3 (omega arith) (omega arith) t)
read_words f q (SELECT a c k) n e h = λ t. decode (e t) (h 1 (omega arith) (omega arith) t) (h 2 (omega arith) (omega arith) t) (h 3 (omega arith) (omega arith) t)
read_words f q (OPEN a) n e h = λ t. decode (e t) (h 1 (omega arith) (omega arith) t) (get_or f (q + 2) 0) (get_or f (q + 3) 0)
read_words f q (END a) n e h = λ t. decode (e t) (h 1 (omega arith) (omega arith) t) (get_or f (q + 2) 0) (get_or f (q + 3) 0)
read_words f q (CASE c u d) n e h = λ t. decode (e t) (h 1 (omega arith) (omega arith) t) (h 2 (omega arith) (omega arith) t) (h 3 (omega arith) (omega arith) t)

first_relocate : (φ : ℕ → ℕ) (i : Instr) → first (relocate φ i) ≡ first i
first_relocate φ NONE = refl
first_relocate φ (LIST n) = refl
first_relocate φ (LEAVE t d) = refl
first_relocate φ (ASK n y z) = refl
first_relocate φ (SELECT n c e) = refl
first_relocate φ (OPEN f) = refl
first_relocate φ (END e) = refl
first_relocate φ (CASE c t d) = refl

-- One instruction.
module _ (C : List ℕ) (v : Valid C) where
  abbrev is : List Instr
  is = sent_on C

  abbrev S : List ℕ
  S = kept_places C

  abbrev φ : ℕ → ℕ
  φ = new_place C

  names_in : (o : ℕ) → In S o → All (In S) (names (find is 0 o))
  names_in o i = go (runs_on (find is 0 o)) (reached_closed is (sent_sound C v) o (kept_begin C v o i) i)
    where
      go : (b : Bool) → All (In S) (pick b ((o + len (find is 0 o)) ∷ names (find is 0 o)) (names (find is 0 o))) → All (In S) (names (find is 0 o))
      go true h = h.1
      go false h = h

  module _ (f : List ℕ) (q o : ℕ) (i : In S o) (r : read_at f q ≡ find is 0 o) (x a b c : ℕ) (ex : x ≡ get_or f q 0 % 8) (ea : a ≡ get_or f (q + 1) 0) (eb : b ≡ get_or f (q + 2) 0) (ec : c ≡ get_or f (q + 3) 0) where
    decoded : decode x a b c ≡ find is 0 o
    unfolding read_at
    decoded = (λ t. decode (ex t) (ea t) (eb t) (ec t)) ∙ r

    kept_names : All (In S) (names (decode x a b c))
    kept_names = subst (λ j. All (In S) (names j)) (sym decoded) (names_in o i)

    pub first_in : names_first x ≡ true → In S a
    first_in h = named_first (In S) x a b c kept_names h

    pub second_in : names_second x ≡ true → In S b
    second_in h = named_second (In S) x a b c kept_names h

    pub third_in : names_third x ≡ true → In S c
    third_in h = named_third (In S) x a b c kept_names h

    pub moves : (g : List ℕ) (n w a' b' c' : ℕ) → n ≡ len (find is 0 o) → w ≡ get_or f q 0 → a' ≡ pick (names_first x) (φ a) a → b' ≡ pick (names_second x) (φ b) b
        → c' ≡ pick (names_third x) (φ c) c → Put f q (w ∷ a' ∷ b' ∷ c' ∷ []) n g → Moves C f g q o
    moves g n w a' b' c' en ew fa fb fc u =
        record {
          same = u.same;
          first = zeroth;
          rest = λ j k l. u.here j (omega (arith, en)) ∙ operand j k ∙ moved_words φ x a b c j (omega (arith, ap len decoded)) ∙ ap (λ y. get_or (words (relocate φ y)) j 0) decoded;
          elsewhere = λ y k. u.elsewhere y (away y k);
        }
      where
        zeroth : get_or g q 0 ≡ get_or f q 0
        zeroth =
            let z : q + 0 ≡ q = omega arith in
            ap (λ y. get_or g y 0) (sym z) ∙ u.here 0 (omega (arith, en, len_pos (find is 0 o) (kept_begin C v o i))) ∙ ew

        operand : (j : ℕ) → 0 < j → get_or (w ∷ a' ∷ b' ∷ c' ∷ []) j 0 ≡ get_or (x ∷ pick (names_first x) (φ a) a ∷ pick (names_second x) (φ b) b ∷ pick (names_third x) (φ c) c ∷ []) j 0
        operand zero k = absurd (omega arith)
        operand (suc j) k = λ t. get_or (fa t ∷ fb t ∷ fc t ∷ []) j 0

        away : (y : ℕ) → (y < q) ⊎ (q + len (find is 0 o) ≤ y) → (y < q) ⊎ (q + n ≤ y)
        away y (inl h) = inl h
        away y (inr h) = inr (omega (arith, en))

-- Targets are moved as far as q.
pub record Moving (C f : List ℕ) (split q : ℕ) : Type 0 where
  pub same : length f ≡ length C
  pub firsts : (o : ℕ) → In (kept_places C) o → get_or f (new_place C o) 0 ≡ begun C split o
  pub done : (o j : ℕ) → In (kept_places C) o → new_place C o < q → 0 < j → j < len (find (sent_on C) 0 o) → get_or f (new_place C o + j) 0 ≡ get_or (words (placed C o)) j 0
  pub todo : (o j : ℕ) → In (kept_places C) o → q ≤ new_place C o → 0 < j → j < len (find (sent_on C) 0 o)
      → get_or f (new_place C o + j) 0 ≡ get_or (words (find (sent_on C) 0 o)) j 0
  pub behind : (x : ℕ) → split ≤ x → get_or f x 0 ≡ marked C x
  pub from : ℕ
  pub at : At C from
  pub count : q ≡ kept_to C from

module _ (C : List ℕ) (v : Valid C) (split : ℕ) (cut : Split C split) where
  abbrev ts : List Instr
  ts = sent_on C

  abbrev K : List ℕ
  K = kept_places C

  all : kept_to C (length C) ≡ length (shorter C)
  all = kept_end C v

  pub moving_first : (f : List ℕ) → Gathered C f split (length C) → Moving C f split 0
  moving_first f g =
      record {
        same = g.fronted.same;
        firsts = λ o i. firsts o i (dec_lt o split);
        done = λ o j i h k l. absurd (omega arith);
        todo = λ o j i h k l. todo o j i k l (dec_lt o split);
        behind = g.fronted.behind;
        from = 0;
        at = inl (sent_sound C v).start;
        count = sym (kept_low (kept_places C) (sent_on C) 0 0 (omega arith));
      }
    where
      inside : (o : ℕ) → In K o → o < length C
      inside o i = omega (arith, begin_fits C v o (kept_begin C v o i), len_pos (find ts 0 o) (kept_begin C v o i))

      firsts : (o : ℕ) → In K o → Dec (o < split) → get_or f (new_place C o) 0 ≡ begun C split o
      firsts o i (yes l) =
          let z : new_place C o + 0 ≡ new_place C o = omega arith in
          ap (λ y. get_or f y 0) (sym z) ∙ g.fronted.front o 0 i l (len_pos (find ts 0 o) (kept_begin C v o i))
          ∙ ap (λ b. first (find ts 0 o) + pick b (8 * (o % cycle)) 0) (sym (lt-ltb o split l))
      firsts o i (no l) =
          let z : new_place C o + 0 ≡ new_place C o = omega arith in
          let y : first (find ts 0 o) ≡ first (find ts 0 o) + 0 = omega arith in
          ap (λ y. get_or f y 0) (sym z) ∙ g.back o 0 i (omega arith) (inside o i) (len_pos (find ts 0 o) (kept_begin C v o i))
          ∙ y ∙ ap (λ b. first (find ts 0 o) + pick b (8 * (o % cycle)) 0) (sym (le-ltb o split (omega arith)))

      todo : (o j : ℕ) → In K o → 0 < j → j < len (find ts 0 o) → Dec (o < split) → get_or f (new_place C o + j) 0 ≡ get_or (words (find ts 0 o)) j 0
      todo o j i k l (yes h) =
          let y : get_or (words (find ts 0 o)) j 0 + 0 ≡ get_or (words (find ts 0 o)) j 0 = omega arith in
          g.fronted.front o j i h l ∙ ap (λ b. get_or (words (find ts 0 o)) j 0 + pick b (8 * (o % cycle)) 0) (ne_eqb j 0 (λ z. omega arith)) ∙ y
      todo o j i k l (no h) = g.back o j i (omega arith) (inside o i) l

  module _ (f : List ℕ) (q : ℕ) (m : Moving C f split q) where
    pub moving_tagged : Tagged C f split
    moving_tagged =
        record {
          same = m.same;
          firsts = λ o i l. m.firsts o i ∙ ap (λ b. first (find ts 0 o) + pick b (8 * (o % cycle)) 0) (lt-ltb o split l);
          behind = m.behind;
        }

    module _ (h : q < length (shorter C)) where
      next : Next C m.from q
      next = next_kept C v (length C) m.from q (omega arith) m.at m.count (omega (arith, all))

      pub old : ℕ
      old = next.old

      pub old_in : In K old
      unfolding next old
      old_in = next.stays

      begins : Begin ts old
      begins = kept_begin C v old old_in

      here : q ≡ kept_to C old
      unfolding next old
      here = next.place

      new_here : q ≡ new_place C old
      new_here = here ∙ sym (place_is C v old begins)

      plain_first : get_or f q 0 % 8 ≡ first (find ts 0 old)
      plain_first = go (ltb old split) (ap (λ y. get_or f y 0) new_here ∙ m.firsts old old_in)
        where
          go : (b : Bool) → get_or f q 0 ≡ first (find ts 0 old) + pick b (8 * (old % cycle)) 0 → get_or f q 0 % 8 ≡ first (find ts 0 old)
          go true e = omega (arith, first_low (find ts 0 old))
          go false e = omega (arith, first_low (find ts 0 old))

      inside : q + len (find ts 0 old) ≤ length f
      inside = omega (arith, here, kept_inside C v old old_in, m.same)

      pub moving_size : len (standing_in f q) ≡ len (find ts 0 old)
      moving_size = raised_len f q (find ts 0 old) plain_first inside

      pub moving_some : len (standing_in f q) ≢ 0
      moving_some z = omega (arith, moving_size, len_pos (find ts 0 old) begins)

      pub moving_read : read_at f q ≡ find ts 0 old
      moving_read =
          read_words f q (find ts 0 old) begins plain_first
          (λ j k l. ap (λ y. get_or f (y + j) 0) new_here ∙ m.todo old j old_in (omega (arith, new_here)) k l)

      pub moving_next : (g : List ℕ) → Moves C f g q old → Moving C g split (q + len (standing_in f q))
      moving_next g u =
          record {
            same = u.same ∙ m.same;
            firsts = λ o i. firsts o i (dec_lt o old) (dec_lt old o);
            done = λ o j i a k l. done o j i a k l (dec_lt o old) (dec_lt old o);
            todo = λ o j i a k l. todo o j i a k l (dec_lt old o);
            behind = λ x l. u.elsewhere x (inr (omega (arith, end, cut.behind))) ∙ m.behind x l;
            from = old + len (find ts 0 old);
            at = at_next C v old begins;
            count = omega (arith, moving_size, here, kept_next K ts 0 old (sent_sound C v).some begins, kept_all);
          }
        where
          kept_all : pick (elem old K) (len (find ts 0 old)) 0 ≡ len (find ts 0 old)
          kept_all = ap (λ c. pick c (len (find ts 0 old)) 0) old_in

          end : q + len (find ts 0 old) ≤ length (shorter C)
          end = omega (arith, here, all, kept_less C v old (length C) old_in (omega (arith, begin_fits C v old begins, len_pos (find ts 0 old) begins)))

          before : (o : ℕ) → In K o → o < old → new_place C o + len (find ts 0 o) ≤ q
          before o i l = omega (arith, here, place_is C v o (kept_begin C v o i), kept_less C v o old i l)

          after : (o : ℕ) → In K o → old < o → q + len (find ts 0 old) ≤ new_place C o
          after o i l = omega (arith, here, place_is C v o (kept_begin C v o i), kept_less C v old o old_in l)

          firsts : (o : ℕ) → In K o → Dec (o < old) → Dec (old < o) → get_or g (new_place C o) 0 ≡ begun C split o
          firsts o i (yes l) d = u.elsewhere (new_place C o) (inl (omega (arith, before o i l, len_pos (find ts 0 o) (kept_begin C v o i)))) ∙ m.firsts o i
          firsts o i (no l) (yes d) = u.elsewhere (new_place C o) (inr (after o i d)) ∙ m.firsts o i
          firsts o i (no l) (no d) =
              let e : old ≡ o = omega arith in
              subst (λ x. get_or g (new_place C x) 0 ≡ begun C split x) e
              (ap (λ y. get_or g y 0) (sym new_here) ∙ u.first ∙ ap (λ y. get_or f y 0) new_here ∙ m.firsts old old_in)

          done : (o j : ℕ) → In K o → new_place C o < q + len (standing_in f q) → 0 < j → j < len (find ts 0 o) → Dec (o < old) → Dec (old < o)
              → get_or g (new_place C o + j) 0 ≡ get_or (words (placed C o)) j 0
          done o j i a k l (yes x) d =
              u.elsewhere (new_place C o + j) (inl (omega (arith, before o i x)))
              ∙ m.done o j i (omega (arith, before o i x, len_pos (find ts 0 o) (kept_begin C v o i))) k l
          done o j i a k l (no x) (yes d) = absurd (omega (arith, after o i d, moving_size))
          done o j i a k l (no x) (no d) =
              let e : old ≡ o = omega arith in
              ap (λ y. get_or g (y + j) 0) (sym (new_here ∙ ap (new_place C) e)) ∙ u.rest j k (subst (λ y. j < len (find ts 0 y)) (sym e) l) ∙ ap (λ y. get_or (words (placed C y)) j 0) e

          todo : (o j : ℕ) → In K o → q + len (standing_in f q) ≤ new_place C o → 0 < j → j < len (find ts 0 o) → Dec (old < o)
              → get_or g (new_place C o + j) 0 ≡ get_or (words (find ts 0 o)) j 0
          todo o j i a k l (yes d) = u.elsewhere (new_place C o + j) (inr (omega (arith, after o i d))) ∙ m.todo o j i (omega arith) k l
          todo o j i a k l (no d) = absurd (low (dec_lt o old))
            where
              low : Dec (o < old) → ⊥
              low (yes x) = omega (arith, before o i x, len_pos (find ts 0 o) (kept_begin C v o i), len_pos (find ts 0 old) begins, moving_size)
              low (no x) =
                  let e : new_place C o ≡ q = ap (new_place C) (let z : o ≡ old = omega arith in z) ∙ sym new_here in
                  omega (arith, moving_size, len_pos (find ts 0 old) begins)

    pub moving_end : length (shorter C) ≤ q → Moved C f split
    moving_end h =
        record {
          same = m.same;
          firsts = m.firsts;
          rest = λ o j i k l.
              let b : Begin ts o = kept_begin C v o i in
              m.done o j i (omega (arith, place_is C v o b, all, len_pos (find ts 0 o) b, kept_less C v o (length C) i (omega (arith, begin_fits C v o b, len_pos (find ts 0 o) b)))) k l;
          behind = m.behind;
        }

-- Numbers are plain as far as p.
pub record Plaining (is : List Instr) (f g : List ℕ) (from to p : ℕ) : Type 0 where
  pub at : Begin is p ⊎ (p ≡ to)
  pub low : from ≤ p
  pub same : length g ≡ length f
  pub done : (o : ℕ) → Begin is o → from ≤ o → o < p → get_or g o 0 ≡ get_or (words (find is 0 o)) 0 0
  pub rest : (x : ℕ) → (Begin is x → from ≤ x → p ≤ x) → get_or g x 0 ≡ get_or f x 0

module _ (is : List Instr) (s : AreInstrs is) (f : List ℕ) (from to : ℕ) (st : Starts is from to) (r : Raised is f from to) where
  pub plain_start : Plaining is f f from to from
  plain_start = record { at = st.start; low = omega arith; same = refl; done = λ o b l k. absurd (omega arith); rest = λ x h. refl }

  module _ (g : List ℕ) (p : ℕ) (h : Plaining is f g from to p) where
    module _ (l : p < to) where
      begins' : Begin is p
      begins' = go h.at
        where
          go : Begin is p ⊎ (p ≡ to) → Begin is p
          go (inl b) = b
          go (inr e) = absurd (omega arith)

      behind' : (Begin is (p + len (find is 0 p))) ⊎ (p + len (find is 0 p) ≡ to)
      behind' = go (next_place is 0 p s begins')
        where
          go : (is_none (find is 0 (p + len (find is 0 p))) ≡ false) ⊎ (p + len (find is 0 p) ≡ 0 + total is) → Begin is (p + len (find is 0 p)) ⊎ (p + len (find is 0 p) ≡ to)
          go (inl b) = inl b
          go (inr e) = inr (omega (arith, st.ends))

      fits' : p + len (find is 0 p) ≤ to
      fits' = go behind'
        where
          go : Begin is (p + len (find is 0 p)) ⊎ (p + len (find is 0 p) ≡ to) → p + len (find is 0 p) ≤ to
          go (inl b) = omega (arith, begin_in is 0 (p + len (find is 0 p)) b, st.ends)
          go (inr e) = omega arith

      raised : get_or g p 0 % 8 ≡ first (find is 0 p)
      raised = ap (λ y. y % 8) (h.rest p (λ b k. omega arith)) ∙ r.firsts p begins' h.low

      plain_len : len (standing_in g p) ≡ len (find is 0 p)
      plain_len = raised_len g p (find is 0 p) raised (omega (arith, fits', r.fits, h.same))

      pub plain_some : len (standing_in g p) ≢ 0
      plain_some z = omega (arith, plain_len, len_pos (find is 0 p) begins')

      pub plain_next : (w : ℕ) → w ≡ get_or g p 0 % 8 → p < length g → Plaining is f (set g p w) from to (p + len (standing_in g p))
      plain_next w e k =
          record {
            at = subst (λ y. Begin is (p + y) ⊎ (p + y ≡ to)) (sym plain_len) behind';
            low = omega (arith, h.low);
            same = length-set g p w ∙ h.same;
            done = λ o b a c. done o b a c (dec_eq o p);
            rest = λ x a. get_or-set_other g p x w 0 (λ q. absurd (omega (arith, plain_len, len_pos (find is 0 p) begins', subst (λ y. Begin is y → from ≤ y → p + len (standing_in g p) ≤ y) q a begins' h.low))) ∙ h.rest x (λ b c. omega (arith, a b c));
          }
        where
          done : (o : ℕ) → Begin is o → from ≤ o → o < p + len (standing_in g p) → Dec (o ≡ p) → get_or (set g p w) o 0 ≡ get_or (words (find is 0 o)) 0 0
          done o b a c (yes q) =
              subst (λ y. get_or (set g p w) y 0 ≡ get_or (words (find is 0 y)) 0 0) (sym q) (get_or-set_same g p w 0 k ∙ e ∙ raised)
          done o b a c (no q) = get_or-set_other g p o w 0 q ∙ h.done o b a (low (dec_lt p o))
            where
              low : Dec (p < o) → o < p
              low (yes x) = absurd (omega (arith, plain_len, begin_apart is 0 p o s begins' b x))
              low (no x) = omega arith

    pub plain_end : to ≤ p → Plain is f g from
    plain_end k =
        record {
          same = h.same;
          firsts = λ o b a. h.done o b a (low o b (dec_lt o p));
          others = λ x a. h.rest x (λ b c. absurd (a b c));
        }
      where
        low : (o : ℕ) → Begin is o → Dec (o < p) → o < p
        low o b (yes x) = x
        low o b (no x) = absurd (inside' (next_place is 0 o s b))
          where
            inside' : (is_none (find is 0 (o + len (find is 0 o))) ≡ false) ⊎ (o + len (find is 0 o) ≡ 0 + total is) → ⊥
            inside' (inl y) = omega (arith, begin_in is 0 (o + len (find is 0 o)) y, st.ends, len_pos (find is 0 o) b)
            inside' (inr y) = omega (arith, st.ends, len_pos (find is 0 o) b)

-- What stands somewhere, read number by number.
pub has_at : (D : List ℕ) (o : ℕ) (l : List ℕ) (i : ℕ) → Has D o l → i < length l → get_or D (o + i) 0 ≡ get_or l i 0
has_at D o [] i p q = absurd (omega arith)
has_at D o (x ∷ l) zero p q = ap (λ j. get_or D j 0) (let z : o + 0 ≡ o = omega arith in z) ∙ p.0
has_at D o (x ∷ l) (suc i) p q = ap (λ j. get_or D j 0) (let e : o + suc i ≡ suc o + i = omega arith in e) ∙ has_at D (suc o) l i p.1 (omega arith)

-- The whole end.
module _ (C : List ℕ) (v : Valid C) (split : ℕ) (cut : Split C split) where
  abbrev us : List Instr
  us = sent_on C

  abbrev M : List ℕ
  M = kept_places C

  abbrev N : List Instr
  N = close_up M us

  sound : Sound us
  sound = sent_sound C v

  zero_in : In M 0
  zero_in = reached_zero us sound

  shut : Closed us M
  shut = reached_closed us sound

  flat_is : flat N ≡ shorter C
  unfolding shorter
  flat_is = refl

  n_total : length (shorter C) ≡ total N
  n_total = ap length (sym flat_is) ∙ flat_length N

  pub n_some : AreInstrs N
  n_some = (short_sound us sound M zero_in shut).some

  pub n_starts : Starts N 0 (length (shorter C))
  n_starts = record { start = inl (short_sound us sound M zero_in shut).start; ends = n_total }

  n_find : (o : ℕ) → In M o → find N 0 (new_place C o) ≡ placed C o
  n_find o i = new_find us sound M zero_in shut o (kept_begin C v o i, i)

  n_begin : (o : ℕ) → In M o → Begin N (new_place C o)
  n_begin o i = ap is_none (n_find o i) ∙ relocate_none (new_place C) (find us 0 o) ∙ kept_begin C v o i

  n_low : (x : ℕ) → Begin N x → x < length (shorter C)
  n_low x b = go (next_place N 0 x n_some b)
    where
      go : (is_none (find N 0 (x + len (find N 0 x))) ≡ false) ⊎ (x + len (find N 0 x) ≡ 0 + total N) → x < length (shorter C)
      go (inl y) = omega (arith, begin_in N 0 (x + len (find N 0 x)) y, n_total, len_pos (find N 0 x) b)
      go (inr y) = omega (arith, n_total, len_pos (find N 0 x) b)

  short : length (shorter C) ≤ length C
  short = omega (arith, kept_end C v, kept_most C v)

  pub n_raised : (f : List ℕ) → Moved C f split → Raised N f 0 (length (shorter C))
  n_raised f m = record { fits = omega (arith, short, m.same); firsts = λ x b l. at x b (old_of us sound M zero_in shut x b) }
    where
      plain_of : (o : ℕ) (b : Bool) → (first (find us 0 o) + pick b (8 * (o % cycle)) 0) % 8 ≡ first (find us 0 o)
      plain_of o true = omega (arith, first_low (find us 0 o))
      plain_of o false = omega (arith, first_low (find us 0 o))

      at : (x : ℕ) → Begin N x → (o : ℕ) × (Begin us o × In M o) × (new_place C o ≡ x) → get_or f x 0 % 8 ≡ first (find N 0 x)
      at x b h =
          subst (λ y. get_or f y 0 % 8 ≡ first (find N 0 y)) h.2
          (ap (λ y. y % 8) (m.firsts h.0 h.1.1) ∙ plain_of h.0 (ltb h.0 split) ∙ sym (ap first (n_find h.0 h.1.1) ∙ first_relocate (new_place C) (find us 0 h.0)))

  pub t_some : AreInstrs us
  t_some = sound.some

  pub t_starts : Starts us split (length C)
  t_starts = record { start = go cut.begins; ends = sym (sent_total C v) }
    where
      go : Begin (parse C) split ⊎ (split ≡ length C) → Begin us split ⊎ (split ≡ length C)
      go (inl b) = inl (sent_begin C v split b)
      go (inr e) = inr e

  -- Behind the split the first walk changes nothing.
  kept_behind : (f g : List ℕ) → Moved C f split → Plain N f g 0 → (x : ℕ) → split ≤ x → get_or g x 0 ≡ marked C x
  kept_behind f g m p x l = p.others x (λ b k. omega (arith, n_low x b, cut.behind)) ∙ m.behind x l

  pub t_raised : (f g : List ℕ) → Moved C f split → Plain N f g 0 → Raised us g split (length C)
  t_raised f g m p = record { fits = omega (arith, p.same, m.same); firsts = λ o b l. ap (λ y. y % 8) (kept_behind f g m p o l) ∙ at o b (elem o M) }
    where
      at : (o : ℕ) → Begin us o → (c : Bool) → (get_or C o 0 + pick c 8 0) % 8 ≡ first (find us 0 o)
      at o b true = omega (arith, first_is C v o b, first_low (find us 0 o))
      at o b false = omega (arith, first_is C v o b, first_low (find us 0 o))

  module _ (f g h e saved : List ℕ) (m : Moved C f split) (p : Plain N f g 0) (q : Plain us g h split) (r : Restored h e (length (shorter C)) split saved) (s : Saved C (length (shorter C)) split saved) where
    same_length : length e ≡ length C
    same_length = r.same ∙ q.same ∙ p.same ∙ m.same

    in_front : (x : ℕ) → x < length (shorter C) → get_or e x 0 ≡ get_or g x 0
    in_front x l = r.outside x (inl l) ∙ q.others x (λ b k. omega (arith, cut.behind))

    -- The numbers of a kept instruction.
    number : (a j : ℕ) → In M a → j < len (find us 0 a) → get_or g (new_place C a + j) 0 ≡ get_or (words (placed C a)) j 0
    number a zero i l =
        let z : new_place C a + 0 ≡ new_place C a = omega arith in
        ap (λ y. get_or g y 0) z ∙ p.firsts (new_place C a) (n_begin a i) (omega arith) ∙ ap first (n_find a i)
    number a (suc j) i l =
        p.others (new_place C a + suc j) (λ b k. find_inside N 0 (new_place C a) (suc j) n_some (n_begin a i) (omega arith) (omega (arith, ap len (n_find a i), relocate_length (new_place C) (find us 0 a))) b)
        ∙ m.rest a (suc j) i (omega arith) l

    new_number : (a j : ℕ) → In M a → j < len (find us 0 a) → get_or (shorter C) (new_place C a + j) 0 ≡ get_or (words (placed C a)) j 0
    new_number a j i l =
        ap (λ D. get_or D (new_place C a + j) 0) (sym flat_is)
        ∙ has_at (flat N) (new_place C a) (words (placed C a)) j
        (subst (λ k. Has (flat N) (new_place C a) (words k)) (n_find a i) (find_has (flat N) N 0 (new_place C a) (has_self (flat N)) (n_begin a i)))
        (omega (arith, words_length (placed C a), relocate_length (new_place C) (find us 0 a)))

    front : (x : ℕ) → x < length (shorter C) → get_or e x 0 ≡ get_or (shorter C) x 0
    front x l = in_front x l ∙ at (covers M us 0 (length C) x sound.some (omega (arith, kept_end C v)))
      where
        at : Covers M us 0 (length C) x → get_or g x 0 ≡ get_or (shorter C) x 0
        at c =
            let j : ℕ = x - kept_to C c.old in
            let w : x - kept_to C c.old < len (find us 0 c.old) = omega (arith, c.from, c.until) in
            let z : new_place C c.old + (x - kept_to C c.old) ≡ x = omega (arith, place_is C v c.old c.begun, c.from) in
            subst (λ y. get_or g y 0 ≡ get_or (shorter C) y 0) z (number c.old (x - kept_to C c.old) c.stays w ∙ sym (new_number c.old (x - kept_to C c.old) c.stays w))

    back : (x : ℕ) → split ≤ x → get_or h x 0 ≡ get_or C x 0
    back x l = go (is_none (find us 0 x)) refl
      where
        go : (b : Bool) → is_none (find us 0 x) ≡ b → get_or h x 0 ≡ get_or C x 0
        go false b = q.firsts x b l ∙ sym (first_is C v x b)
        go true b = q.others x (λ c k. true≢false (sym b ∙ c)) ∙ kept_behind f g m p x l ∙ plain_one (elem x M) refl
          where
            plain_one : (c : Bool) → elem x M ≡ c → get_or C x 0 + pick (elem x M) 8 0 ≡ get_or C x 0
            plain_one true i = absurd (true≢false (sym b ∙ kept_begin C v x i))
            plain_one false i =
                let z : get_or C x 0 + 0 ≡ get_or C x 0 = omega arith in ap (λ c. get_or C x 0 + pick c 8 0) i ∙ z

    rest : (x : ℕ) → length (shorter C) ≤ x → x < length e → get_or e x 0 ≡ get_or C x 0
    rest x l k = go (dec_lt x split)
      where
        go : Dec (x < split) → get_or e x 0 ≡ get_or C x 0
        go (yes y) =
            let z : length (shorter C) + (x - length (shorter C)) ≡ x = omega arith in
            r.inside x l y (omega (arith, r.same)) ∙ s.each (x - length (shorter C)) (omega arith) ∙ ap (λ t. get_or C t 0) z
        go (no y) = r.outside x (inr (omega arith)) ∙ back x (omega arith)

    -- It is the shorter code, and the entries behind it are as they came.
    pub closed : e ≡ shorter C ++ drop (length (shorter C)) C
    closed = ext_get_or 0 e (shorter C ++ drop (length (shorter C)) C) same (λ x k. at x k (dec_lt x (length (shorter C))))
      where
        same : length e ≡ length (shorter C ++ drop (length (shorter C)) C)
        same = simp length-append (simp length-drop (omega (arith, same_length, short)))

        at : (x : ℕ) → x < length e → Dec (x < length (shorter C)) → get_or e x 0 ≡ get_or (shorter C ++ drop (length (shorter C)) C) x 0
        at x k (yes a) = front x a ∙ sym (get_or-append (shorter C) (drop (length (shorter C)) C) 0 x a)
        at x k (no a) =
            let z : length (shorter C) + (x - length (shorter C)) ≡ x = omega arith in
            rest x (omega arith) k ∙ ap (λ j. get_or C j 0) (sym z) ∙ sym (get_or-drop (length (shorter C)) C (x - length (shorter C)) 0)
            ∙ sym (get_or-append-add (shorter C) (drop (length (shorter C)) C) (x - length (shorter C)) 0) ∙ ap (λ j. get_or (shorter C ++ drop (length (shorter C)) C) j 0) z
