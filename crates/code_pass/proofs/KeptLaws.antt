-- Laws of how many numbers are kept before a place.
use Prim.Native.Nat.{ℕ, zero, suc, ◌+◌, ◌-◌, ◌≤◌, ◌<◌}
use Rattle.std.specs.Prelude.{◌≡◌, ◌⊎◌, Bool, ◌&&◌, length, ltb}
use Rattle.std.proofs.Math.Path.{refl, sym, ap, subst}
use Rattle.std.proofs.Common.{◌∙◌, inl, inr, true≢false, lt-ltb, le-ltb}
use Rattle.std.proofs.Math.Bool.{true, false}
use mathlib.Core.List.{List, [], ◌∷◌}
use native.Mathlib.Omega.{arith}
use Rattle.std.proofs.Math.Decide.{dec_lt}
use Rattle.route_completion.specs.Sem.{pick, elem}
use Rattle.code_flat.specs.Machine.{Instr}
use Rattle.code_flat.specs.Machine.{is_none}
use Rattle.code_valid.specs.Instrs.{len, parse, find}
use Rattle.code_valid.specs.Valid.{Valid}
use Rattle.code_shorten.specs.Short.{threaded, reached, moved, kept, close_up, shorter}
use Rattle.code_shorten.specs.Longer.{total, flat_length, map_length, relocate_length, thread_length, never_longer}
use Rattle.code_shorten.specs.Sound.{AreInstrs, Begin, Sound, dec_eq, len_pos, find_here, find_there, find_low, none_in, flat_parse, valid_sound}
use Rattle.code_shorten.specs.Threads.{thread_none, threaded_find, threaded_sound}
use Rattle.code_shorten.specs.Closes.{In, moved_here, moved_there}
use Rattle.code_shorten.specs.Reaches.{leads_begin}
use Rattle.code_shorten.specs.Stands.{least}
use Rattle.code_shorten.proofs.PlaceLaws.{find_inside, next_place}
use Rattle.code_pass.specs.Stages.{sent_on, kept_places, new_place, kept_before, kept_to}

pub begin_apart : (is : List Instr) (p a o : ℕ) → AreInstrs is → is_none (find is p a) ≡ false → is_none (find is p o) ≡ false → a < o → a + len (find is p a) ≤ o
begin_apart is p a o s b c h = go (dec_lt o (a + len (find is p a)))
  where
    go : Dec (o < a + len (find is p a)) → a + len (find is p a) ≤ o
    go (no l) = omega arith
    go (yes l) =
        let k : a + (o - a) ≡ o = omega arith in
        absurd (find_inside is p a (o - a) s b (omega arith) (omega arith) (subst (λ x. is_none (find is p x) ≡ false) (sym k) c))

-- None begins behind the end.
pub begin_in : (is : List Instr) (p a : ℕ) → is_none (find is p a) ≡ false → a ≤ p + total is
unfolding total
begin_in [] p a n = absurd (none_in p a n)
begin_in (i ∷ is) p a n = go (dec_eq p a) (begin_in is (p + len i) a)
  where
    go : Dec (p ≡ a) → (is_none (find is (p + len i) a) ≡ false → a ≤ p + len i + total is) → a ≤ p + (len i + total is)
    go (yes e) f = omega arith
    go (no e) f = omega (arith, f (ap is_none (sym (find_there i is p a e)) ∙ n))

module _ (S : List ℕ) where
  counted : (i : Instr) (is : List Instr) (p o : ℕ) (b : Bool) → ltb p o ≡ b
      → kept_before S (i ∷ is) p o ≡ pick (b && elem p S) (len i) 0 + kept_before S is (p + len i) o
  unfolding kept_before
  counted i is p o b e = ap (λ c. pick (c && elem p S) (len i) 0 + kept_before S is (p + len i) o) e

  pub kept_low : (is : List Instr) (p o : ℕ) → o ≤ p → kept_before S is p o ≡ 0
  unfolding kept_before
  kept_low [] p o h = refl
  kept_low (i ∷ is) p o h = omega (arith, counted i is p o false (le-ltb p o h), kept_low is (p + len i) o (omega arith))

  behind : (i : Instr) (is : List Instr) (p o : ℕ) → p < o → kept_before S (i ∷ is) p o ≡ pick (elem p S) (len i) 0 + kept_before S is (p + len i) o
  behind i is p o h = counted i is p o true (lt-ltb p o h)

  pub kept_moved : (is : List Instr) (p q o : ℕ) → is_none (find is p o) ≡ false → moved S is p q o ≡ q + kept_before S is p o
  kept_moved [] p q o n = absurd (none_in p o n)
  kept_moved (i ∷ is) p q o n = go (dec_eq p o) (λ r. kept_moved is (p + len i) r o)
    where
      go : Dec (p ≡ o) → ((r : ℕ) → is_none (find is (p + len i) o) ≡ false → moved S is (p + len i) r o ≡ r + kept_before S is (p + len i) o)
          → moved S (i ∷ is) p q o ≡ q + kept_before S (i ∷ is) p o
      go (yes e) f = omega (arith, ap (moved S (i ∷ is) p q) (sym e) ∙ moved_here S i is p q, kept_low (i ∷ is) p o (omega arith))
      go (no e) f =
          let l : p ≤ o = find_low (i ∷ is) p o n in
          let m : is_none (find is (p + len i) o) ≡ false = ap is_none (sym (find_there i is p o e)) ∙ n in
          at (elem p S) (omega arith) m (moved_there S i is p q o e)
        where
          at : (b : Bool) → p < o → is_none (find is (p + len i) o) ≡ false → moved S (i ∷ is) p q o ≡ moved S is (p + len i) (pick (elem p S) (q + len i) q) o
              → moved S (i ∷ is) p q o ≡ q + kept_before S (i ∷ is) p o
          at b l m e' = omega (arith, e', f (pick (elem p S) (q + len i) q) m, behind i is p o l, both (elem p S))
            where
              both : (c : Bool) → pick c (q + len i) q ≡ q + pick c (len i) 0
              both true = refl
              both false = omega arith

  pub kept_mono : (is : List Instr) (p a b : ℕ) → a ≤ b → kept_before S is p a ≤ kept_before S is p b
  unfolding kept_before
  kept_mono [] p a b h = omega arith
  kept_mono (i ∷ is) p a b h = go (dec_lt p a) (kept_mono is (p + len i) a b h)
    where
      go : Dec (p < a) → kept_before S is (p + len i) a ≤ kept_before S is (p + len i) b → kept_before S (i ∷ is) p a ≤ kept_before S (i ∷ is) p b
      go (yes l) r = omega (arith, behind i is p a l, behind i is p b (omega arith))
      go (no l) r = omega (arith, kept_low (i ∷ is) p a (omega arith))

  -- Over one instruction.
  pub kept_next : (is : List Instr) (p o : ℕ) → AreInstrs is → is_none (find is p o) ≡ false
      → kept_before S is p (o + len (find is p o)) ≡ kept_before S is p o + pick (elem o S) (len (find is p o)) 0
  kept_next [] p o s n = absurd (none_in p o n)
  kept_next (i ∷ is) p o s n = go (dec_eq p o) (kept_next is (p + len i) o s.1)
    where
      go : Dec (p ≡ o)
          → (is_none (find is (p + len i) o) ≡ false
          → kept_before S is (p + len i) (o + len (find is (p + len i) o)) ≡ kept_before S is (p + len i) o + pick (elem o S) (len (find is (p + len i) o)) 0)
          → kept_before S (i ∷ is) p (o + len (find (i ∷ is) p o)) ≡ kept_before S (i ∷ is) p o + pick (elem o S) (len (find (i ∷ is) p o)) 0
      go (yes e) f =
          let x : find (i ∷ is) p o ≡ i = ap (find (i ∷ is) p) (sym e) ∙ find_here i is p in
          let l : 0 < len i = len_pos i s.0 in
          let z : o + len (find (i ∷ is) p o) ≡ p + len i = omega (arith, ap len x) in
          let w : pick (elem o S) (len (find (i ∷ is) p o)) 0 ≡ pick (elem p S) (len i) 0 = λ j. pick (elem (sym e j) S) (len (x j)) 0 in
          omega (arith, ap (kept_before S (i ∷ is) p) z, behind i is p (p + len i) (omega arith), kept_low is (p + len i) (p + len i) (omega arith), kept_low (i ∷ is) p o (omega arith), w)
      go (no e) f =
          let x : find (i ∷ is) p o ≡ find is (p + len i) o = find_there i is p o e in
          let l : p ≤ o = find_low (i ∷ is) p o n in
          let m : is_none (find is (p + len i) o) ≡ false = ap is_none (sym x) ∙ n in
          let z : o + len (find (i ∷ is) p o) ≡ o + len (find is (p + len i) o) = ap (λ k. o + len k) x in
          let w : pick (elem o S) (len (find (i ∷ is) p o)) 0 ≡ pick (elem o S) (len (find is (p + len i) o)) 0 = ap (λ k. pick (elem o S) (len k) 0) x in
          omega (arith, ap (kept_before S (i ∷ is) p) z, behind i is p (o + len (find is (p + len i) o)) (omega arith), behind i is p o (omega arith), f m, w)

  -- No more than all.
  pub kept_fits : (is : List Instr) (p o : ℕ) → AreInstrs is → is_none (find is p o) ≡ false → p + kept_before S is p o ≤ o
  kept_fits [] p o s n = absurd (none_in p o n)
  kept_fits (i ∷ is) p o s n = go (dec_eq p o) (kept_fits is (p + len i) o s.1)
    where
      most : (b : Bool) → pick b (len i) 0 ≤ len i
      most true = omega arith
      most false = omega arith

      go : Dec (p ≡ o) → (is_none (find is (p + len i) o) ≡ false → p + len i + kept_before S is (p + len i) o ≤ o) → p + kept_before S (i ∷ is) p o ≤ o
      go (yes e) f = omega (arith, kept_low (i ∷ is) p o (omega arith))
      go (no e) f =
          let l : p ≤ o = find_low (i ∷ is) p o n in
          let m : is_none (find is (p + len i) o) ≡ false = ap is_none (sym (find_there i is p o e)) ∙ n in
          omega (arith, behind i is p o (omega arith), f m, most (elem p S))

  pub kept_total : (f : ℕ → ℕ) (is : List Instr) (p o : ℕ) → AreInstrs is → p + total is ≤ o → kept_before S is p o ≡ total (kept f S is p)
  unfolding kept total kept_before
  kept_total f [] p o s h = refl
  kept_total f (i ∷ is) p o s h =
      omega (arith, behind i is p o (omega (arith, len_pos i s.0)), kept_total f is (p + len i) o s.1 (omega arith), both (elem p S))
    where
      both : (b : Bool) → total (pick b (Rattle.code_shorten.specs.Short.relocate f i ∷ kept f S is (p + len i)) (kept f S is (p + len i))) ≡ pick b (len i) 0 + total (kept f S is (p + len i))
      both true = omega (arith, relocate_length f i)
      both false = omega arith

  -- Each kept number is one of a kept instruction.
  pub record Covers (is : List Instr) (p o x : ℕ) : Type 0 where
    pub old : ℕ
    pub begun : is_none (find is p old) ≡ false
    pub stays : In S old
    pub before : old < o
    pub from : kept_before S is p old ≤ x
    pub until : x < kept_before S is p old + len (find is p old)

  pub covers : (is : List Instr) (p o x : ℕ) → AreInstrs is → x < kept_before S is p o → Covers is p o x
  unfolding kept_before
  covers [] p o x s h = absurd (omega arith)
  covers (i ∷ is) p o x s h = go (dec_lt p o) (λ y. covers is (p + len i) o y s.1)
    where
      later : (y : ℕ) → p < o → y + pick (elem p S) (len i) 0 ≡ x → Covers is (p + len i) o y → Covers (i ∷ is) p o x
      later y l e c =
          let b : p + len i ≤ c.old = find_low is (p + len i) c.old c.begun in
          let d : p ≡ c.old → ⊥ = λ w. omega (arith, len_pos i s.0) in
          let f : find (i ∷ is) p c.old ≡ find is (p + len i) c.old = find_there i is p c.old d in
          let k : kept_before S (i ∷ is) p c.old ≡ pick (elem p S) (len i) 0 + kept_before S is (p + len i) c.old = behind i is p c.old (omega (arith, len_pos i s.0)) in
          record {
            old = c.old;
            begun = ap is_none f ∙ c.begun;
            stays = c.stays;
            before = c.before;
            from = omega (arith, c.from);
            until = omega (arith, c.until, ap len f);
          }

      at : (b : Bool) → elem p S ≡ b → p < o → ((y : ℕ) → y < kept_before S is (p + len i) o → Covers is (p + len i) o y) → Covers (i ∷ is) p o x
      at false e l r =
          let w : pick (elem p S) (len i) 0 ≡ 0 = ap (λ c. pick c (len i) 0) e in
          later x l (omega arith) (r x (omega (arith, behind i is p o l)))
      at true e l r = here (dec_lt x (len i))
        where
          w : pick (elem p S) (len i) 0 ≡ len i
          w = ap (λ c. pick c (len i) 0) e

          here : Dec (x < len i) → Covers (i ∷ is) p o x
          here (yes m) =
              let f : find (i ∷ is) p p ≡ i = find_here i is p in
              record {
                old = p;
                begun = ap is_none f ∙ s.0;
                stays = e;
                before = l;
                from = omega (arith, kept_low (i ∷ is) p p (omega arith));
                until = omega (arith, kept_low (i ∷ is) p p (omega arith), ap len f);
              }
          here (no m) = later (x - len i) l (omega (arith, w)) (r (x - len i) (omega (arith, w, behind i is p o l)))

      go : Dec (p < o) → ((y : ℕ) → y < kept_before S is (p + len i) o → Covers is (p + len i) o y) → Covers (i ∷ is) p o x
      go (yes l) r = at (elem p S) refl l r
      go (no l) r = absurd (omega (arith, kept_low (i ∷ is) p o (omega arith)))

-- Where an instruction begins, or the code ends.
abbrev pub At : List ℕ → ℕ → Type 0
At C p = Begin (sent_on C) p ⊎ (p ≡ length C)

-- From a place on, the next kept instruction.
pub record Next (C : List ℕ) (p q : ℕ) : Type 0 where
  pub old : ℕ
  pub stays : In (kept_places C) old
  pub place : q ≡ kept_to C old
  pub later : p ≤ old
  pub first : (o : ℕ) → p ≤ o → In (kept_places C) o → old ≤ o

-- Of a code, at the places where its instructions begin.
module _ (C : List ℕ) (v : Valid C) where
  abbrev is : List Instr
  is = sent_on C

  abbrev S : List ℕ
  S = kept_places C

  pub sent_sound : Sound is
  sent_sound = threaded_sound (parse C) (valid_sound C v)

  pub sent_total : total is ≡ length C
  unfolding threaded
  sent_total = map_length (parse C) (parse C) ∙ sym (flat_length (parse C)) ∙ ap length (flat_parse C (valid_sound C v).some)

  pub sent_len : (o : ℕ) → len (find is 0 o) ≡ len (find (parse C) 0 o)
  sent_len o = ap len (threaded_find (parse C) o) ∙ thread_length (parse C) (find (parse C) 0 o)

  pub sent_none : (o : ℕ) → is_none (find is 0 o) ≡ is_none (find (parse C) 0 o)
  sent_none o = ap is_none (threaded_find (parse C) o) ∙ thread_none (parse C) (find (parse C) 0 o)

  pub sent_begin : (o : ℕ) → Begin (parse C) o → Begin is o
  sent_begin o b = sent_none o ∙ b

  pub kept_begin : (o : ℕ) → In S o → Begin is o
  kept_begin o h = least is sent_sound (Begin is) sent_sound.start (λ x b q. leads_begin is sent_sound x b) (length is) o h

  pub kept_parse : (o : ℕ) → In S o → Begin (parse C) o
  kept_parse o h = sym (sent_none o) ∙ kept_begin o h

  pub place_is : (o : ℕ) → Begin is o → new_place C o ≡ kept_to C o
  place_is o b = let e : new_place C o ≡ 0 + kept_to C o = kept_moved S is 0 0 o b in omega arith

  pub kept_end : kept_to C (length C) ≡ length (shorter C)
  unfolding shorter close_up
  kept_end =
      kept_total S (moved S is 0 0) is 0 (length C) sent_sound.some (omega (arith, sent_total)) ∙ sym (flat_length (close_up S is))

  pub kept_most : kept_to C (length C) ≤ length C
  kept_most = omega (arith, kept_end, never_longer C)

  pub at_next : (p : ℕ) → Begin is p → At C (p + len (find is 0 p))
  at_next p b = go (next_place is 0 p sent_sound.some b)
    where
      go : (is_none (find is 0 (p + len (find is 0 p))) ≡ false) ⊎ (p + len (find is 0 p) ≡ 0 + total is) → At C (p + len (find is 0 p))
      go (inl x) = inl x
      go (inr e) = inr (omega (arith, sent_total))

  pub at_begin : (p : ℕ) → At C p → p < length C → Begin is p
  at_begin p (inl b) l = b
  at_begin p (inr e) l = absurd (omega arith)

  pub begin_fits : (o : ℕ) → Begin is o → o + len (find is 0 o) ≤ length C
  begin_fits o b = go (next_place is 0 o sent_sound.some b) (at_next o b)
    where
      go : (is_none (find is 0 (o + len (find is 0 o))) ≡ false) ⊎ (o + len (find is 0 o) ≡ 0 + total is) → At C (o + len (find is 0 o)) → o + len (find is 0 o) ≤ length C
      go (inr e) a = omega (arith, sent_total)
      go (inl x) a = inside x
        where
          inside : is_none (find is 0 (o + len (find is 0 o))) ≡ false → o + len (find is 0 o) ≤ length C
          inside y = omega (arith, begin_in is 0 (o + len (find is 0 o)) y, sent_total)

  -- The kept instruction's numbers stand among all.
  pub kept_inside : (o : ℕ) → In S o → kept_to C o + len (find is 0 o) ≤ length C
  kept_inside o h = omega (arith, kept_fits S is 0 o sent_sound.some (kept_begin o h), begin_fits o (kept_begin o h))

  -- A kept instruction's numbers stand before what is kept of those behind it.
  pub kept_less : (a b : ℕ) → In S a → a < b → kept_to C a + len (find is 0 a) ≤ kept_to C b
  kept_less a b i h = go (dec_lt b (a + len (find is 0 a)))
    where
      n : kept_to C (a + len (find is 0 a)) ≡ kept_to C a + len (find is 0 a)
      n = kept_next S is 0 a sent_sound.some (kept_begin a i) ∙ ap (λ c. kept_to C a + pick c (len (find is 0 a)) 0) i

      go : Dec (b < a + len (find is 0 a)) → kept_to C a + len (find is 0 a) ≤ kept_to C b
      go (no l) = omega (arith, n, kept_mono S is 0 (a + len (find is 0 a)) b (omega arith))
      go (yes l) = omega (arith, n, within is 0 a b sent_sound.some (kept_begin a i) h l)
        where
          -- Nothing more is counted inside an instruction.
          within : (js : List Instr) (p x y : ℕ) → AreInstrs js → is_none (find js p x) ≡ false → x < y → y < x + len (find js p x)
              → kept_before S js p (x + len (find js p x)) ≤ kept_before S js p y
          within [] p x y s m c d = absurd (none_in p x m)
          within (j ∷ js) p x y s m c d = at (dec_eq p x) (within js (p + len j) x y s.1)
            where
              at : Dec (p ≡ x)
                  → (is_none (find js (p + len j) x) ≡ false → x < y → y < x + len (find js (p + len j) x)
                  → kept_before S js (p + len j) (x + len (find js (p + len j) x)) ≤ kept_before S js (p + len j) y)
                  → kept_before S (j ∷ js) p (x + len (find (j ∷ js) p x)) ≤ kept_before S (j ∷ js) p y
              at (yes e) f =
                  let u : find (j ∷ js) p x ≡ j = ap (find (j ∷ js) p) (sym e) ∙ find_here j js p in
                  let z : x + len (find (j ∷ js) p x) ≡ p + len j = omega (arith, ap len u) in
                  omega (arith, ap (kept_before S (j ∷ js) p) z, behind S j js p (p + len j) (omega (arith, len_pos j s.0)), behind S j js p y (omega arith), kept_low S js (p + len j) (p + len j) (omega arith))
              at (no e) f =
                  let u : find (j ∷ js) p x ≡ find js (p + len j) x = find_there j js p x e in
                  let l : p ≤ x = find_low (j ∷ js) p x m in
                  let z : x + len (find (j ∷ js) p x) ≡ x + len (find js (p + len j) x) = ap (λ k. x + len k) u in
                  omega (
                    arith,
                    ap (kept_before S (j ∷ js) p) z,
                    behind S j js p (x + len (find js (p + len j) x)) (omega arith),
                    behind S j js p y (omega arith),
                    f (ap is_none (sym u) ∙ m) c (omega arith),
                  )

  pub next_kept : (n p q : ℕ) → length C ≤ p + n → At C p → q ≡ kept_to C p → q < kept_to C (length C) → Next C p q
  next_kept zero p q h a e l = absurd (omega (arith, kept_mono S is 0 (length C) p (omega arith)))
  next_kept (suc n) p q h a e l = go (dec_lt p (length C)) (λ r x y z. next_kept n r q y z x l)
    where
      at : Begin is p → (b : Bool) → elem p S ≡ b → ((r : ℕ) → q ≡ kept_to C r → length C ≤ r + n → At C r → Next C r q) → Next C p q
      at c true i f = record { old = p; stays = i; place = e; later = omega arith; first = λ o m k. m }
      at c false i f =
          let w : kept_to C (p + len (find is 0 p)) ≡ kept_to C p + 0 = kept_next S is 0 p sent_sound.some c ∙ ap (λ t. kept_to C p + pick t (len (find is 0 p)) 0) i in
          let r : Next C (p + len (find is 0 p)) q = f (p + len (find is 0 p)) (omega (arith, w)) (omega (arith, len_pos (find is 0 p) c)) (at_next p c) in
          record {
            old = r.old;
            stays = r.stays;
            place = r.place;
            later = omega (arith, r.later);
            first = λ o m k. r.first o (up o m k (dec_eq p o)) k;
          }
        where
          up : (o : ℕ) → p ≤ o → In S o → Dec (p ≡ o) → p + len (find is 0 p) ≤ o
          up o m k (yes x) = absurd (true≢false (sym k ∙ ap (λ y. elem y S) (sym x) ∙ i))
          up o m k (no x) = begin_apart is 0 p o sent_sound.some c (kept_begin o k) (omega arith)

      go : Dec (p < length C) → ((r : ℕ) → q ≡ kept_to C r → length C ≤ r + n → At C r → Next C r q) → Next C p q
      go (yes m) f = at (at_begin p a m) (elem p S) refl f
      go (no m) f = absurd (omega (arith, kept_mono S is 0 (length C) p (omega arith)))
