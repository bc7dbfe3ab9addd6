-- Laws of the searches that begin at the index.
use Prim.Native.Nat.{ℕ, suc, ◌+◌, ◌*◌, ◌/◌, ◌%◌, ◌≤◌, ◌<◌}
use Rattle.std.specs.Prelude.{◌≡◌, ◌≢◌, ◌⊎◌, Bool, length, set, min, Some, None, ltb}
use Rattle.std.proofs.Math.Path.{refl, sym, ap, subst}
use Rattle.std.proofs.Common.{◌∙◌, inl, inr, true≢false, lt-ltb, le-ltb, add-mul, div-mul-le_self}
use Rattle.std.proofs.Math.Nat.{lt-div-mul-add}
use Rattle.std.proofs.Math.Bool.{true, false}
use Rattle.std.proofs.Math.ListN.{get_or}
use mathlib.Core.List.{List}
use borrow.Author.Tests.{le-leb}
use native.Mathlib.Omega.{arith}
use Rattle.std.proofs.Math.Decide.{dec_lt}
use Rattle.route_completion.specs.Sem.{pick, elem}
use Rattle.code_flat.specs.Machine.{Instr, NONE, LIST, LEAVE, ASK, SELECT, OPEN, END, CASE, decode}
use Rattle.code_flat.specs.Machine.{is_none}
use Rattle.code_flat.specs.Has.{Has}
use Rattle.code_flat.proofs.Correct.{has_self}
use Rattle.code_valid.specs.Instrs.{len, words, flat, parse, find}
use Rattle.code_valid.specs.Valid.{Valid}
use Rattle.code_shorten.specs.Short.{thread, aimed, last}
use Rattle.code_machine.specs.declared.Target.{Target}
use Rattle.code_shorten.specs.Reads.{find_has}
use Rattle.code_shorten.specs.Sound.{Begin, len_pos, dec_eq, flat_parse, valid_sound}
use Rattle.code_shorten.specs.Threads.{threaded_find}
use Rattle.code_shorten.specs.Closes.{In}
use Rattle.code_pass.specs.Stages.{sent_on, kept_places, new_place, kept_to, cycle, mark, marked}
use Rattle.code_pass.proofs.KeptLaws.{At, Next, begin_apart, kept_mono, kept_next, sent_sound, sent_none, sent_begin, kept_begin, kept_parse, place_is, kept_most, at_next, at_begin, begin_fits, kept_inside, kept_less, next_kept}
use Rattle.code_mark.specs.Read.{read_at, standing_in}
use Rattle.code_places.specs.Placing.{kept_place, Tagged, Placed}

-- The number that begins an instruction.
abbrev pub first : Instr → ℕ
first i = get_or (words i) 0 0

pub first_low : (i : Instr) → first i < 8
first_low NONE = omega arith
first_low (LIST n) = omega arith
first_low (LEAVE t d) = omega arith
first_low (ASK n y z) = omega arith
first_low (SELECT n c e) = omega arith
first_low (OPEN f) = omega arith
first_low (END e) = omega arith
first_low (CASE c t d) = omega arith

first_len : (i : Instr) (a b c : ℕ) → len (decode (first i) a b c) ≡ len i
first_len NONE a b c = refl
first_len (LIST n) a b c = refl
first_len (LEAVE t d) a b c = refl
first_len (ASK n y z) a b c = refl
first_len (SELECT n k e) a b c = refl
first_len (OPEN f) a b c = refl
first_len (END e) a b c = refl
first_len (CASE k t d) a b c = refl

first_thread : (is : List Instr) (i : Instr) → first (thread is i) ≡ first i
first_thread is NONE = refl
first_thread is (LIST n) = refl
first_thread is (LEAVE t d) = go (last is (suc (length is)) t d)
  where
    go : (a : Rattle.std.specs.Prelude.Option Target) → first (aimed a LEAVE (LEAVE t d)) ≡ 2
    go None = refl
    go (Some aim) = refl
first_thread is (ASK n y z) = refl
first_thread is (SELECT n c e) = refl
first_thread is (OPEN f) = refl
first_thread is (END e) = refl
first_thread is (CASE c t d) = go (last is (suc (length is)) t d)
  where
    go : (a : Rattle.std.specs.Prelude.Option Target) → first (aimed a (CASE c) (CASE c t d)) ≡ 7
    go None = refl
    go (Some aim) = refl

first_has : (D : List ℕ) (o : ℕ) (i : Instr) → is_none i ≡ false → Has D o (words i) → get_or D o 0 ≡ first i
first_has D o NONE n h = absurd (true≢false n)
first_has D o (LIST a) n h = h.0
first_has D o (LEAVE t d) n h = h.0
first_has D o (ASK a y z) n h = h.0
first_has D o (SELECT a c e) n h = h.0
first_has D o (OPEN f) n h = h.0
first_has D o (END e) n h = h.0
first_has D o (CASE c t d) n h = h.0

-- How many numbers are read of an instruction whose first number may be raised.
pub raised_len : (f : List ℕ) (p : ℕ) (i : Instr) → get_or f p 0 % 8 ≡ first i → p + len i ≤ length f → len (standing_in f p) ≡ len i
unfolding standing_in read_at
raised_len f p i e h =
    ap (λ b. len (pick b (read_at f p) NONE)) (le-leb (p + len (read_at f p)) (length f) (omega (arith, n))) ∙ n
  where
    n : len (read_at f p) ≡ len i
    n = ap (λ y. len (decode y (get_or f (p + 1) 0) (get_or f (p + 2) 0) (get_or f (p + 3) 0))) e ∙ first_len i (get_or f (p + 1) 0) (get_or f (p + 2) 0) (get_or f (p + 3) 0)

module _ (C : List ℕ) (v : Valid C) where
  abbrev is : List Instr
  is = sent_on C

  abbrev S : List ℕ
  S = kept_places C

  pub first_is : (o : ℕ) → Begin is o → get_or C o 0 ≡ first (find is 0 o)
  first_is o b =
      let n : is_none (find (parse C) 0 o) ≡ false = sym (sent_none C v o) ∙ b in
      let e : flat (parse C) ≡ C = flat_parse C (valid_sound C v).some in
      first_has C o (find (parse C) 0 o) n (find_has C (parse C) 0 o (subst (λ D. Has D 0 (flat (parse C))) e (has_self (flat (parse C)))) n)
      ∙ sym (first_thread (parse C) (find (parse C) 0 o)) ∙ ap first (sym (threaded_find (parse C) o))

  -- What is read where a mark may stand.
  module _ (f : List ℕ) (same : length f ≡ length C) (p : ℕ) (m : get_or f p 0 ≡ marked C p) (b : Begin is p) where
    pub marked_len : len (standing_in f p) ≡ len (find is 0 p)
    marked_len = go (elem p S) refl
      where
        go : (c : Bool) → elem p S ≡ c → len (standing_in f p) ≡ len (find is 0 p)
        go true e =
            let x : pick (elem p (kept_places C)) mark 0 ≡ 8 = ap (λ t. pick t mark 0) e in
            raised_len f p (find is 0 p) (omega (arith, first_is p b, first_low (find is 0 p))) (omega (arith, begin_fits C v p b))
        go false e =
            let x : pick (elem p (kept_places C)) mark 0 ≡ 0 = ap (λ t. pick t mark 0) e in
            raised_len f p (find is 0 p) (omega (arith, first_is p b, first_low (find is 0 p))) (omega (arith, begin_fits C v p b))

    pub marked_kept : (w : ℕ) → pick (ltb (get_or f p 0) 8) 0 w ≡ pick (elem p S) w 0
    marked_kept w = go (elem p S) refl
      where
        go : (c : Bool) → elem p S ≡ c → pick (ltb (get_or f p 0) 8) 0 w ≡ pick c w 0
        go true e =
            let x : pick (elem p (kept_places C)) mark 0 ≡ 8 = ap (λ t. pick t mark 0) e in
            ap (λ t. pick t 0 w) (le-ltb (get_or f p 0) 8 (omega arith))
        go false e =
            let x : pick (elem p (kept_places C)) mark 0 ≡ 0 = ap (λ t. pick t mark 0) e in
            ap (λ t. pick t 0 w) (lt-ltb (get_or f p 0) 8 (omega (arith, first_is p b, first_low (find is 0 p))))

-- A search of the front for o, which stands at q.
pub record Seeking (C : List ℕ) (stride o q : ℕ) : Type 0 where
  pub from : ℕ
  pub at : At C from
  pub count : q ≡ kept_to C from
  pub later : In (kept_places C) o → from ≤ o
  pub low : (o / stride * stride ≤ from) ⊎ (from ≡ length C)

module _ (C begins news f : List ℕ) (stride split front o : ℕ) (k : Placed C begins news stride split front) (t : Tagged C f split) where
  v : Valid C
  v = k.valid

  split_in : split ≤ length C
  split_in = go k.cut.begins
    where
      go : Begin (parse C) split ⊎ (split ≡ length C) → split ≤ length C
      go (inl b) = omega (arith, begin_fits C v split (sent_begin C v split b))
      go (inr e) = omega arith

  module _ (l : o < split) (small : o < 4294967296) where
    covered : o / stride + 1 < length begins
    covered = k.index.covers o (omega (arith, split_in)) small

    pub seek_first : Seeking C stride o (get_or news (o / stride) 0)
    seek_first =
        let j : o / stride < length begins = omega (arith, covered) in
        record {
          from = get_or begins (o / stride) 0;
          at = begun (k.index.begun (o / stride) j);
          count = k.index.new (o / stride) j;
          later = λ h. k.index.first (o / stride) o j (kept_parse C v o h) (div-mul-le_self o stride);
          low = k.index.from (o / stride) j;
        }
      where
        begun : Begin (parse C) (get_or begins (o / stride) 0) ⊎ (get_or begins (o / stride) 0 ≡ length C) → At C (get_or begins (o / stride) 0)
        begun (inl b) = inl (sent_begin C v (get_or begins (o / stride) 0) b)
        begun (inr e) = inr e

    abbrev limit : ℕ
    limit = min (min (get_or news (o / stride + 1) 0) front) (length f)

    module _ (q : ℕ) (s : Seeking C stride o q) where
      -- A kept instruction stands there.
      module _ (h : q < limit) where
        abbrev next : Next C s.from q
        next =
            next_kept C v (length C) s.from q (omega arith) s.at s.count
            (omega (arith, k.count, kept_mono (kept_places C) (sent_on C) 0 split (length C) split_in))

        abbrev a : ℕ
        a = next.old

        in_front : a < split
        in_front = go (dec_lt a split)
          where
            go : Dec (a < split) → a < split
            go (yes x) = x
            go (no x) = absurd (omega (arith, k.count, next.place, kept_mono (kept_places C) (sent_on C) 0 split a (omega arith)))

        begun : Begin (sent_on C) a
        begun = kept_begin C v a next.stays

        abbrev size : ℕ
        size = len (find (sent_on C) 0 a)

        here : get_or f q 0 ≡ first (find (sent_on C) 0 a) + 8 * (a % cycle)
        here = ap (λ x. get_or f x 0) (next.place ∙ sym (place_is C v a begun)) ∙ t.firsts a next.stays in_front

        seek_size : len (standing_in f q) ≡ size
        seek_size = raised_len f q (find (sent_on C) 0 a) (omega (arith, here, first_low (find (sent_on C) 0 a))) (omega (arith, next.place, kept_inside C v a next.stays, t.same))

        pub seek_some : len (standing_in f q) ≢ 0
        seek_some z = omega (arith, seek_size, len_pos (find (sent_on C) 0 a) begun)

        positive : 0 < stride
        positive = k.index.positive

        row : o / stride * stride ≤ o
        row = div-mul-le_self o stride

        row_end : o < o / stride * stride + stride
        row_end = lt-div-mul-add positive

        next_row : (o / stride + 1) * stride ≡ o / stride * stride + stride
        next_row = add-mul (o / stride) 1 stride ∙ (let w : 1 * stride ≡ stride = omega arith in ap (λ x. o / stride * stride + x) w)

        -- In the same stride.
        above : o / stride * stride ≤ a
        above = go s.low
          where
            go : (o / stride * stride ≤ s.from) ⊎ (s.from ≡ length C) → o / stride * stride ≤ a
            go (inl x) = omega (arith, next.later)
            go (inr e) = absurd (omega (arith, next.later, begin_fits C v a begun, len_pos (find (sent_on C) 0 a) begun))

        below : a < o / stride * stride + stride
        below = go (dec_lt a (o / stride * stride + stride))
          where
            go : Dec (a < o / stride * stride + stride) → a < o / stride * stride + stride
            go (yes x) = x
            go (no x) =
                let m : get_or begins (o / stride + 1) 0 ≤ a = k.index.first (o / stride + 1) a covered (kept_parse C v a next.stays) (omega (arith, next_row)) in
                absurd (omega (arith, k.index.new (o / stride + 1) covered, next.place, kept_mono (kept_places C) (sent_on C) 0 (get_or begins (o / stride + 1) 0) a m))

        pub seek_found : get_or f q 0 / 8 ≡ o % cycle → Some q ≡ kept_place C o
        seek_found e =
            let r : a % cycle ≡ o % cycle = omega (arith, here, first_low (find (sent_on C) 0 a)) in
            let x : a ≡ o = omega (arith, k.index.small, row, row_end, above, below) in
            let i : In (kept_places C) o = subst (In (kept_places C)) x next.stays in
            sym (ap (λ c. pick c (Some (new_place C o)) None) i ∙ ap Some (ap (new_place C) (sym x) ∙ place_is C v a begun ∙ sym next.place))

        pub seek_on : (get_or f q 0 / 8 ≡ o % cycle → ⊥) → Seeking C stride o (q + len (standing_in f q))
        seek_on n =
            record {
              from = a + size;
              at = at_next C v a begun;
              count = omega (arith, seek_size, next.place, kept_next (kept_places C) (sent_on C) 0 a (sent_sound C v).some begun, kept);
              later = λ i. up i (dec_eq a o);
              low = inl (omega (arith, above));
            }
          where
            kept : pick (elem a (kept_places C)) size 0 ≡ size
            kept = ap (λ c. pick c size 0) next.stays

            up : In (kept_places C) o → Dec (a ≡ o) → a + size ≤ o
            up i (yes x) = absurd (n (omega (arith, here, first_low (find (sent_on C) 0 a), ap (λ y. y % cycle) x)))
            up i (no x) =
                begin_apart (sent_on C) 0 a o (sent_sound C v).some begun (kept_begin C v o i) (omega (arith, next.first o (s.later i) i))

      pub seek_end : limit ≤ q → None ≡ kept_place C o
      seek_end h = go (elem o (kept_places C)) refl
        where
          go : (c : Bool) → elem o (kept_places C) ≡ c → None ≡ pick c (Some (new_place C o)) None
          go false e = refl
          go true i = absurd (omega (arith, in_row, in_front, in_code, low, covered, len_pos (find (sent_on C) 0 o) b))
            where
              b : Begin (sent_on C) o
              b = kept_begin C v o i

              low : q ≤ kept_to C o
              low = omega (arith, s.count, kept_mono (kept_places C) (sent_on C) 0 s.from o (s.later i))

              in_front : kept_to C o + len (find (sent_on C) 0 o) ≤ front
              in_front = omega (arith, k.count, kept_less C v o split i l)

              in_code : kept_to C o + len (find (sent_on C) 0 o) ≤ length f
              in_code = omega (arith, kept_inside C v o i, t.same)

              next_row : (o / stride + 1) * stride ≡ o / stride * stride + stride
              next_row = add-mul (o / stride) 1 stride ∙ (let w : 1 * stride ≡ stride = omega arith in ap (λ x. o / stride * stride + x) w)

              row_end : o < o / stride * stride + stride
              row_end = lt-div-mul-add k.index.positive

              behind : ((o / stride + 1) * stride ≤ get_or begins (o / stride + 1) 0) ⊎ (get_or begins (o / stride + 1) 0 ≡ length C) → o < get_or begins (o / stride + 1) 0
              behind (inl x) = omega (arith, next_row, row_end)
              behind (inr e) = omega (arith, begin_fits C v o b, len_pos (find (sent_on C) 0 o) b)

              in_row : kept_to C o + len (find (sent_on C) 0 o) ≤ get_or news (o / stride + 1) 0
              in_row = omega (arith, k.index.new (o / stride + 1) covered, kept_less C v o (get_or begins (o / stride + 1) 0) i (behind (k.index.from (o / stride + 1) covered)))

      -- The walk stops.
      pub seek_done : (end : ℕ) → end ≡ limit → (end ≤ q) ⊎ (len (standing_in f q) ≡ 0) → None ≡ kept_place C o
      seek_done end e (inl h) = seek_end (omega arith)
      seek_done end e (inr z) = go (dec_lt q limit)
        where
          go : Dec (q < limit) → None ≡ kept_place C o
          go (yes h) = absurd (seek_some h z)
          go (no h) = seek_end (omega arith)

-- A walk over what a slice with marks keeps, which stands at p.
pub record Counting (C : List ℕ) (split o p q : ℕ) : Type 0 where
  pub at : At C p
  pub count : q ≡ kept_to C p
  pub behind : split ≤ p
  pub before : p ≤ o

module _ (C begins news f : List ℕ) (stride split front o : ℕ) (k : Placed C begins news stride split front) (t : Tagged C f split) (l : split ≤ o) (i : In (kept_places C) o) where
  stands : Begin (sent_on C) o
  stands = kept_begin C k.valid o i

  covered' : o < 4294967296 → o / stride < length begins
  covered' small = omega (arith, k.index.covers o (omega (arith, begin_fits C k.valid o stands, len_pos (find (sent_on C) 0 o) stands)) small)

  begin_low : (s : o < 4294967296) → get_or begins (o / stride) 0 ≤ o
  begin_low s = k.index.first (o / stride) o (covered' s) (kept_parse C k.valid o i) (div-mul-le_self o stride)

  pub count_split : get_or begins (o / stride) 0 < split → Counting C split o split front
  count_split h = record { at = at k.cut.begins; count = k.count; behind = omega arith; before = l }
    where
      at : Begin (parse C) split ⊎ (split ≡ length C) → At C split
      at (inl b) = inl (sent_begin C k.valid split b)
      at (inr e) = inr e

  pub count_first : (s : o < 4294967296) → split ≤ get_or begins (o / stride) 0 → Counting C split o (get_or begins (o / stride) 0) (get_or news (o / stride) 0)
  count_first s h = record { at = at (k.index.begun (o / stride) (covered' s)); count = k.index.new (o / stride) (covered' s); behind = h; before = begin_low s }
    where
      at : Begin (parse C) (get_or begins (o / stride) 0) ⊎ (get_or begins (o / stride) 0 ≡ length C) → At C (get_or begins (o / stride) 0)
      at (inl b) = inl (sent_begin C k.valid (get_or begins (o / stride) 0) b)
      at (inr e) = inr e

  module _ (p q : ℕ) (c : Counting C split o p q) where
    module _ (h : p < o) where
      count_begin : Begin (sent_on C) p
      count_begin = at_begin C k.valid p c.at (omega (arith, begin_fits C k.valid o stands))

      count_len : len (standing_in f p) ≡ len (find (sent_on C) 0 p)
      count_len = marked_len C k.valid f t.same p (t.behind p c.behind) count_begin

      pub count_some : len (standing_in f p) ≢ 0
      count_some z = omega (arith, count_len, len_pos (find (sent_on C) 0 p) count_begin)

      pub count_on : (w n q' : ℕ) → w ≡ len (standing_in f p) → n ≡ pick (ltb (get_or f p 0) 8) 0 w → (q + n ≤ length C → q' ≡ q + n) → Counting C split o (p + w) q'
      count_on w n q' e g d =
          record {
            at = subst (λ x. At C (p + x)) (sym size) (at_next C k.valid p count_begin);
            count = omega (arith, d room, all);
            behind = omega (arith, c.behind);
            before = omega (arith, size, begin_apart (sent_on C) 0 p o (sent_sound C k.valid).some count_begin stands h);
          }
        where
          size : w ≡ len (find (sent_on C) 0 p)
          size = e ∙ count_len

          n_is : n ≡ pick (elem p (kept_places C)) (len (find (sent_on C) 0 p)) 0
          n_is = g ∙ marked_kept C k.valid f t.same p (t.behind p c.behind) count_begin w ∙ ap (λ x. pick (elem p (kept_places C)) x 0) size

          all : q + n ≡ kept_to C (p + w)
          all = omega (arith, c.count, n_is, kept_next (kept_places C) (sent_on C) 0 p (sent_sound C k.valid).some count_begin, ap (λ x. kept_to C (p + x)) size)

          room : q + n ≤ length C
          room = omega (arith, all, kept_most C k.valid, kept_mono (kept_places C) (sent_on C) 0 (p + w) (length C) (omega (arith, size, begin_fits C k.valid p count_begin)))

    pub count_end : o ≤ p → q ≡ new_place C o
    count_end h = c.count ∙ ap (kept_to C) (let e : p ≡ o = omega (arith, c.before) in e) ∙ sym (place_is C k.valid o stands)

    pub count_done : (end : ℕ) → end ≡ o → (end ≤ p) ⊎ (len (standing_in f p) ≡ 0) → q ≡ new_place C o
    count_done end e (inl h) = count_end (omega arith)
    count_done end e (inr z) = go (dec_lt p o)
      where
        go : Dec (p < o) → q ≡ new_place C o
        go (yes h) = absurd (count_some h z)
        go (no h) = count_end (omega arith)
