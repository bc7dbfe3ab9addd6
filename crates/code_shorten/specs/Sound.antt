-- What a good verdict gives: the list of numbers is its instructions, and each instruction leads to others.
use Rattle.std.specs.Prelude.{ℕ, zero, suc, ◌+◌, ◌≤◌, ◌<◌, refl, Bool, not, ◌&&◌, ◌||◌, eqb, Ok, Err}
use Rattle.std.proofs.Math.Path.{◌≡◌}
use Rattle.std.proofs.Common.{sym, ◌∙◌, ap, true≢false, eqb-true, eq-eqb, ne_eqb, arith}
use Rattle.std.proofs.Math.Bool.{true, false}
use mathlib.Core.List.{List, [], ◌∷◌}
use Rattle.std.proofs.lemmas.Bool.{eqb-false}
use Rattle.route_completion.specs.Sem.{pick}
use Rattle.code_flat.specs.Machine.{Instr, NONE, LIST, LEAVE, ASK, SELECT, OPEN, END, CASE}
use Rattle.code_flat.specs.Machine.{is_none}
use Rattle.code_valid.specs.Instrs.{len, flat, parse, find, begins, names, runs_on}
use Rattle.code_valid.specs.Valid.{all_begin, is_last, sound, first_bad, judge, check, Valid}

-- Each is an instruction.
abbrev pub AreInstrs : List Instr → Type 0
AreInstrs [] = Unit {0}
AreInstrs (i ∷ is) = (is_none i ≡ false) × AreInstrs is

-- An instruction begins at o.
abbrev pub Begin : List Instr → ℕ → Type 0
Begin is o = is_none (find is 0 o) ≡ false

-- The place o holds for each.
abbrev pub All : (ℕ → Type 0) → List ℕ → Type 0
All P [] = Unit {0}
All P (o ∷ os) = P o × All P os

pub record Sound (is : List Instr) : Type 0 where
  pub some : AreInstrs is
  pub start : Begin is 0
  pub named : (o : ℕ) → Begin is o → All (Begin is) (names (find is 0 o))
  pub next : (o : ℕ) → Begin is o → runs_on (find is 0 o) ≡ true → Begin is (o + len (find is 0 o))

pub dec_eq : (a b : ℕ) → Dec (a ≡ b)
dec_eq a b = go (eqb a b) refl
  where
    go : (t : Bool) → eqb a b ≡ t → Dec (a ≡ b)
    go true e = yes (eqb-true a b e)
    go false e = no (eqb-false a b e)

pub and_left : (a b : Bool) → (a && b) ≡ true → a ≡ true
and_left true b h = refl
and_left false b h = absurd (true≢false (sym h))

pub and_right : (a b : Bool) → (a && b) ≡ true → b ≡ true
and_right true b h = h
and_right false b h = absurd (true≢false (sym h))

pub not_true : (a : Bool) → not a ≡ true → a ≡ false
not_true true h = absurd (true≢false (sym h))
not_true false h = refl

pub len_pos : (i : Instr) → is_none i ≡ false → 0 < len i
len_pos NONE h = absurd (true≢false h)
len_pos (LIST n) h = omega arith
len_pos (LEAVE t d) h = omega arith
len_pos (ASK n y z) h = omega arith
len_pos (SELECT n c e) h = omega arith
len_pos (OPEN f) h = omega arith
len_pos (END e) h = omega arith
len_pos (CASE c t d) h = omega arith

-- What stands at the beginning, and what stands behind it.
pub find_here : (i : Instr) (is : List Instr) (p : ℕ) → find (i ∷ is) p p ≡ i
unfolding find
find_here i is p = ap (λ b. pick b i (find is (p + len i) p)) (eq-eqb p p refl)

pub find_there : (i : Instr) (is : List Instr) (p o : ℕ) → (p ≡ o → ⊥) → find (i ∷ is) p o ≡ find is (p + len i) o
unfolding find
find_there i is p o h = ap (λ b. pick b i (find is (p + len i) o)) (ne_eqb p o h)

-- Nothing begins before the beginning.
pub find_low : (is : List Instr) (p o : ℕ) → is_none (find is p o) ≡ false → p ≤ o
unfolding find
find_low [] p o h = absurd (true≢false h)
find_low (i ∷ is) p o h = go (eqb p o) refl h (find_low is (p + len i) o)
  where
    go : (b : Bool) → eqb p o ≡ b → is_none (pick b i (find is (p + len i) o)) ≡ false → (is_none (find is (p + len i) o) ≡ false → p + len i ≤ o) → p ≤ o
    go true e m f = let q : p ≡ o = eqb-true p o e in omega arith
    go false e m f = let q : p + len i ≤ o = f m in omega arith

pub begin_find : (is : List Instr) (p o : ℕ) → AreInstrs is → begins is p o ≡ true → is_none (find is p o) ≡ false
unfolding begins find
begin_find [] p o s h = absurd (true≢false (sym h))
begin_find (i ∷ is) p o s h = go (eqb p o) h (begin_find is (p + len i) o s.1)
  where
    go : (b : Bool) → ((b && not (is_none i)) || begins is (p + len i) o) ≡ true → (begins is (p + len i) o ≡ true → is_none (find is (p + len i) o) ≡ false)
        → is_none (pick b i (find is (p + len i) o)) ≡ false
    go true e f = s.0
    go false e f = f e

pub find_begin : (is : List Instr) (p o : ℕ) → is_none (find is p o) ≡ false → begins is p o ≡ true
unfolding begins find
find_begin [] p o h = absurd (true≢false h)
find_begin (i ∷ is) p o h = go (eqb p o) h (find_begin is (p + len i) o)
  where
    or_true : (a : Bool) → (a || true) ≡ true
    or_true true = refl
    or_true false = refl

    go : (b : Bool) → is_none (pick b i (find is (p + len i) o)) ≡ false → (is_none (find is (p + len i) o) ≡ false → begins is (p + len i) o ≡ true)
        → ((b && not (is_none i)) || begins is (p + len i) o) ≡ true
    go true e f = ap (λ x. not x || begins is (p + len i) o) e
    go false e f = f e

pub none_in : (p o : ℕ) → is_none (find [] p o) ≡ false → ⊥
unfolding find
none_in p o h = true≢false h

-- The parts of a good verdict.
module _ (all : List Instr) where
  abbrev Good : List Instr → ℕ → Type 0
  Good is p = first_bad all is p ≡ Ok tt

  is_good : (i : Instr) (is : List Instr) (p : ℕ) → Good (i ∷ is) p → (sound all i is ≡ true) × Good is (p + len i)
  unfolding first_bad
  is_good i is p h = go (sound all i is) h
    where
      go : (b : Bool) → pick b (first_bad all is (p + len i)) (Err p) ≡ Ok tt → (b ≡ true) × Good is (p + len i)
      go true e = (refl, e)
      go false e = let w : ◌≡◌ {A = ℕ} 0 1 = cc in absurd (omega arith)

  good_some : (is : List Instr) (p : ℕ) → Good is p → AreInstrs is
  good_some [] p h = tt
  good_some (i ∷ is) p h =
      let g : (sound all i is ≡ true) × Good is (p + len i) = is_good i is p h in
      (not_true (is_none i) (and_left (not (is_none i)) (all_begin all (names i) && not (runs_on i && is_last is)) g.0), good_some is (p + len i) g.1)

  good_names : (is : List Instr) (p : ℕ) → Good is p → (o : ℕ) → is_none (find is p o) ≡ false → all_begin all (names (find is p o)) ≡ true
  unfolding find
  good_names [] p h o n = absurd (true≢false n)
  good_names (i ∷ is) p h o n = go (eqb p o) n (good_names is (p + len i) g.1 o)
    where
      g : (sound all i is ≡ true) × Good is (p + len i)
      g = is_good i is p h

      go : (b : Bool) → is_none (pick b i (find is (p + len i) o)) ≡ false
          → (is_none (find is (p + len i) o) ≡ false → all_begin all (names (find is (p + len i) o)) ≡ true)
          → all_begin all (names (pick b i (find is (p + len i) o))) ≡ true
      go true m f =
          and_left (all_begin all (names i)) (not (runs_on i && is_last is))
          (and_right (not (is_none i)) (all_begin all (names i) && not (runs_on i && is_last is)) g.0)
      go false m f = f m

  -- What runs on has another behind it.
  behind_it : (i : Instr) (is : List Instr) (p : ℕ) → not (runs_on i && is_last is) ≡ true → AreInstrs is → runs_on i ≡ true → is_none (find is (p + len i) (p + len i)) ≡ false
  behind_it i [] p h s r = absurd (true≢false (sym (ap (λ b. not (b && true)) (sym r) ∙ h)))
  behind_it i (j ∷ is) p h s r = ap is_none (find_here j is (p + len i)) ∙ s.0

  good_next : (is : List Instr) (p : ℕ) → Good is p → (o : ℕ) → is_none (find is p o) ≡ false → runs_on (find is p o) ≡ true → is_none (find is p (o + len (find is p o))) ≡ false
  good_next [] p h o n r = absurd (none_in p o n)
  good_next (i ∷ is) p h o n r = go (dec_eq p o) (good_next is (p + len i) g.1 o)
    where
      g : (sound all i is ≡ true) × Good is (p + len i)
      g = is_good i is p h

      some : is_none i ≡ false
      some = (good_some (i ∷ is) p h).0

      last : not (runs_on i && is_last is) ≡ true
      last = and_right (all_begin all (names i)) (not (runs_on i && is_last is)) (and_right (not (is_none i)) (all_begin all (names i) && not (runs_on i && is_last is)) g.0)

      go : Dec (p ≡ o)
          → (is_none (find is (p + len i) o) ≡ false → runs_on (find is (p + len i) o) ≡ true → is_none (find is (p + len i) (o + len (find is (p + len i) o))) ≡ false)
          → is_none (find (i ∷ is) p (o + len (find (i ∷ is) p o))) ≡ false
      go (yes e) f =
          let q : find (i ∷ is) p o ≡ i = ap (find (i ∷ is) p) (sym e) ∙ find_here i is p in
          ap (λ j. is_none (find (i ∷ is) p (o + len j))) q
          ∙ ap (λ x. is_none (find (i ∷ is) p (x + len i))) (sym e)
          ∙ ap is_none (find_there i is p (p + len i) (λ w. omega (arith, len_pos i some)))
          ∙ behind_it i is p last (good_some is (p + len i) g.1) (ap runs_on (sym q) ∙ r)
      go (no e) f =
          let q : find (i ∷ is) p o ≡ find is (p + len i) o = find_there i is p o e in
          let l : p ≤ o = find_low (i ∷ is) p o n in
          ap (λ j. is_none (find (i ∷ is) p (o + len j))) q
          ∙ ap is_none (find_there i is p (o + len (find is (p + len i) o)) (λ w. e (omega arith)))
          ∙ f (ap is_none (sym q) ∙ n) (ap runs_on (sym q) ∙ r)

all_begins : (is : List Instr) (os : List ℕ) → AreInstrs is → all_begin is os ≡ true → All (Begin is) os
unfolding all_begin
all_begins is [] s h = tt
all_begins is (o ∷ os) s h = (begin_find is 0 o s (and_left (begins is 0 o) (all_begin is os) h), all_begins is os s (and_right (begins is 0 o) (all_begin is os) h))

pub judged : (is : List Instr) → judge is ≡ Ok tt → Sound is
judged [] h = let w : ◌≡◌ {A = ℕ} 0 1 = cc in absurd (omega arith)
judged (i ∷ is) h =
    record {
      some = good_some (i ∷ is) (i ∷ is) 0 h;
      start = ap is_none (find_here i is 0) ∙ (good_some (i ∷ is) (i ∷ is) 0 h).0;
      named = λ o n. all_begins (i ∷ is) (names (find (i ∷ is) 0 o)) (good_some (i ∷ is) (i ∷ is) 0 h) (good_names (i ∷ is) (i ∷ is) 0 h o n);
      next = λ o n r. good_next (i ∷ is) (i ∷ is) 0 h o n r;
    }

-- The numbers of instructions, read again, are these.
pub flat_parse : (C : List ℕ) → AreInstrs (parse C) → flat (parse C) ≡ C
unfolding parse flat
flat_parse [] s = refl
flat_parse (zero ∷ C) s = absurd (true≢false s.0)
flat_parse (suc zero ∷ []) s = absurd (true≢false s.0)
flat_parse (suc zero ∷ n ∷ C) s = ap (λ l. 1 ∷ n ∷ l) (flat_parse C s.1)
flat_parse (suc (suc zero) ∷ []) s = absurd (true≢false s.0)
flat_parse (suc (suc zero) ∷ t ∷ []) s = absurd (true≢false s.0)
flat_parse (suc (suc zero) ∷ t ∷ d ∷ C) s = ap (λ l. 2 ∷ t ∷ d ∷ l) (flat_parse C s.1)
flat_parse (suc (suc (suc zero)) ∷ []) s = absurd (true≢false s.0)
flat_parse (suc (suc (suc zero)) ∷ n ∷ []) s = absurd (true≢false s.0)
flat_parse (suc (suc (suc zero)) ∷ n ∷ y ∷ []) s = absurd (true≢false s.0)
flat_parse (suc (suc (suc zero)) ∷ n ∷ y ∷ z ∷ C) s = ap (λ l. 3 ∷ n ∷ y ∷ z ∷ l) (flat_parse C s.1)
flat_parse (suc (suc (suc (suc zero))) ∷ []) s = absurd (true≢false s.0)
flat_parse (suc (suc (suc (suc zero))) ∷ n ∷ []) s = absurd (true≢false s.0)
flat_parse (suc (suc (suc (suc zero))) ∷ n ∷ c ∷ []) s = absurd (true≢false s.0)
flat_parse (suc (suc (suc (suc zero))) ∷ n ∷ c ∷ e ∷ C) s = ap (λ l. 4 ∷ n ∷ c ∷ e ∷ l) (flat_parse C s.1)
flat_parse (suc (suc (suc (suc (suc zero)))) ∷ []) s = absurd (true≢false s.0)
flat_parse (suc (suc (suc (suc (suc zero)))) ∷ f ∷ C) s = ap (λ l. 5 ∷ f ∷ l) (flat_parse C s.1)
flat_parse (suc (suc (suc (suc (suc (suc zero))))) ∷ []) s = absurd (true≢false s.0)
flat_parse (suc (suc (suc (suc (suc (suc zero))))) ∷ e ∷ C) s = ap (λ l. 6 ∷ e ∷ l) (flat_parse C s.1)
flat_parse (suc (suc (suc (suc (suc (suc (suc zero)))))) ∷ []) s = absurd (true≢false s.0)
flat_parse (suc (suc (suc (suc (suc (suc (suc zero)))))) ∷ c ∷ []) s = absurd (true≢false s.0)
flat_parse (suc (suc (suc (suc (suc (suc (suc zero)))))) ∷ c ∷ t ∷ []) s = absurd (true≢false s.0)
flat_parse (suc (suc (suc (suc (suc (suc (suc zero)))))) ∷ c ∷ t ∷ d ∷ C) s = ap (λ l. 7 ∷ c ∷ t ∷ d ∷ l) (flat_parse C s.1)
flat_parse (suc (suc (suc (suc (suc (suc (suc (suc k))))))) ∷ C) s = absurd (true≢false s.0)

pub valid_sound : (C : List ℕ) → Valid C → Sound (parse C)
unfolding check
valid_sound C h = judged (parse C) h
