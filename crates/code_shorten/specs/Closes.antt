-- A code whose instructions outside a closed set are dropped, and whose room is closed up, runs as the code does.
use Rattle.std.specs.Prelude.{ℕ, zero, suc, ◌+◌, ◌≤◌, ◌<◌, ◌≡◌, refl, Bool, true, false, ltb}
use Rattle.std.proofs.Common.{sym, ◌∙◌, subst, true≢false, lt-ltb, le-ltb, eq-eqb, ne_eqb, arith}
use Rattle.std.proofs.Math.Path.{ap}
use mathlib.Core.List.{List, [], ◌∷◌}
use Rattle.std.proofs.Math.Decide.{dec_lt}
use Rattle.route_completion.specs.Sem.{pick, elem}
use Rattle.code_flat.specs.Machine.{Instr, NONE, LIST, LEAVE, ASK, SELECT, OPEN, END, CASE, fetch, is_zero}
use Rattle.code_flat.specs.Machine.{is_none}
use Rattle.code_flat.specs.Forward.{run}
use Rattle.code_valid.specs.Instrs.{len, flat, find, names, runs_on, leads}
use Rattle.code_shorten.specs.Short.{moved, relocate, kept, close_up}
use Rattle.code_shorten.specs.Longer.{relocate_length}
use Rattle.code_shorten.specs.Reads.{fetched}
use Rattle.code_shorten.specs.Unwinds.{Ahead}
use Rattle.code_shorten.specs.Alike.{Kept, Does, alike}
use Rattle.code_shorten.specs.Sound.{AreInstrs, Begin, All, Sound, dec_eq, len_pos, find_here, find_there, find_low, none_in}

-- The place is one of S.
abbrev pub In : List ℕ → ℕ → Type 0
In S o = elem o S ≡ true

-- S holds where its instructions lead.
abbrev pub Closed : List Instr → List ℕ → Type 0
Closed is S = (o : ℕ) → Begin is o → In S o → All (In S) (leads o (find is 0 o))

-- Where the new code stands, from q on.
module _ (S : List ℕ) where
  abbrev pub after : ℕ → ℕ → Instr → ℕ
  after p q i = pick (elem p S) (q + len i) q

  pub moved_here : (i : Instr) (is : List Instr) (p q : ℕ) → moved S (i ∷ is) p q p ≡ q
  unfolding moved
  moved_here i is p q = ap (λ b. pick b q (moved S is (p + len i) (after p q i) p)) (eq-eqb p p refl)

  pub moved_there : (i : Instr) (is : List Instr) (p q o : ℕ) → (p ≡ o → ⊥) → moved S (i ∷ is) p q o ≡ moved S is (p + len i) (after p q i) o
  unfolding moved
  moved_there i is p q o h = ap (λ b. pick b q (moved S is (p + len i) (after p q i) o)) (ne_eqb p o h)

  after_low : (p q : ℕ) (i : Instr) → q ≤ after p q i
  after_low p q i = go (elem p S)
    where
      go : (b : Bool) → q ≤ pick b (q + len i) q
      go true = omega arith
      go false = omega arith

  pub after_in : (p q : ℕ) (i : Instr) → In S p → after p q i ≡ q + len i
  after_in p q i h = ap (λ b. pick b (q + len i) q) h

  pub moved_low : (is : List Instr) (p q o : ℕ) → is_none (find is p o) ≡ false → q ≤ moved S is p q o
  moved_low [] p q o n = absurd (none_in p o n)
  moved_low (i ∷ is) p q o n = go (dec_eq p o) (moved_low is (p + len i) (after p q i) o)
    where
      go : Dec (p ≡ o) → (is_none (find is (p + len i) o) ≡ false → after p q i ≤ moved S is (p + len i) (after p q i) o) → q ≤ moved S (i ∷ is) p q o
      go (yes e) f = let m : moved S (i ∷ is) p q o ≡ q = ap (moved S (i ∷ is) p q) (sym e) ∙ moved_here i is p q in omega arith
      go (no e) f =
          let m : moved S (i ∷ is) p q o ≡ moved S is (p + len i) (after p q i) o = moved_there i is p q o e in
          let l : after p q i ≤ moved S is (p + len i) (after p q i) o = f (ap is_none (sym (find_there i is p o e)) ∙ n) in
          omega (arith, after_low p q i)

  -- The order of places stays.
  pub moved_less : (is : List Instr) (p q a b : ℕ) → is_none (find is p a) ≡ false → is_none (find is p b) ≡ false → In S a → a < b → moved S is p q a < moved S is p q b
  moved_less [] p q a b n m s h = absurd (none_in p a n)
  moved_less (i ∷ is) p q a b n m s h = go (dec_eq p a) (moved_less is (p + len i) (after p q i) a b)
    where
      low : p ≤ a
      low = find_low (i ∷ is) p a n

      other : p ≡ b → ⊥
      other e = omega (arith, low)

      mb : moved S (i ∷ is) p q b ≡ moved S is (p + len i) (after p q i) b
      mb = moved_there i is p q b other

      nb : is_none (find is (p + len i) b) ≡ false
      nb = ap is_none (sym (find_there i is p b other)) ∙ m

      go : Dec (p ≡ a)
          → (is_none (find is (p + len i) a) ≡ false → is_none (find is (p + len i) b) ≡ false → In S a → a < b
          → moved S is (p + len i) (after p q i) a < moved S is (p + len i) (after p q i) b)
          → moved S (i ∷ is) p q a < moved S (i ∷ is) p q b
      go (yes e) f =
          let ma : moved S (i ∷ is) p q a ≡ q = ap (moved S (i ∷ is) p q) (sym e) ∙ moved_here i is p q in
          let l : 0 < len i = len_pos i (ap is_none (sym (ap (find (i ∷ is) p) (sym e) ∙ find_here i is p)) ∙ n) in
          let k : after p q i ≡ q + len i = after_in p q i (ap (λ x. elem x S) e ∙ s) in
          omega (arith, mb, moved_low is (p + len i) (after p q i) b nb)
      go (no e) f =
          let ma : moved S (i ∷ is) p q a ≡ moved S is (p + len i) (after p q i) a = moved_there i is p q a e in
          omega (arith, mb, f (ap is_none (sym (find_there i is p a e)) ∙ n) nb s h)

  -- The next place stays the next.
  pub moved_next : (is : List Instr) (p q o : ℕ) → is_none (find is p o) ≡ false → In S o → is_none (find is p (o + len (find is p o))) ≡ false
      → moved S is p q (o + len (find is p o)) ≡ moved S is p q o + len (find is p o)
  moved_next [] p q o n s m = absurd (none_in p o n)
  moved_next (i ∷ is) p q o n s m = go (dec_eq p o) (moved_next is (p + len i) (after p q i) o)
    where
      here : (js : List Instr) → is_none (find js (p + len i) (p + len i)) ≡ false → (r : ℕ) → moved S js (p + len i) r (p + len i) ≡ r
      here [] k r = absurd (none_in (p + len i) (p + len i) k)
      here (j ∷ js) k r = moved_here j js (p + len i) r

      go : Dec (p ≡ o)
          → (is_none (find is (p + len i) o) ≡ false → In S o → is_none (find is (p + len i) (o + len (find is (p + len i) o))) ≡ false
          → moved S is (p + len i) (after p q i) (o + len (find is (p + len i) o)) ≡ moved S is (p + len i) (after p q i) o + len (find is (p + len i) o))
          → moved S (i ∷ is) p q (o + len (find (i ∷ is) p o)) ≡ moved S (i ∷ is) p q o + len (find (i ∷ is) p o)
      go (yes e) f =
          let x : find (i ∷ is) p o ≡ i = ap (find (i ∷ is) p) (sym e) ∙ find_here i is p in
          let l : 0 < len i = len_pos i (ap is_none (sym x) ∙ n) in
          let y : o + len (find (i ∷ is) p o) ≡ p + len i = ap (λ j. o + len j) x ∙ ap (λ z. z + len i) (sym e) in
          let k : is_none (find is (p + len i) (p + len i)) ≡ false
          = ap is_none (sym (find_there i is p (p + len i) (λ w. omega arith))) ∙ ap (λ z. is_none (find (i ∷ is) p z)) (sym y) ∙ m in
          ap (moved S (i ∷ is) p q) y ∙ moved_there i is p q (p + len i) (λ w. omega arith) ∙ here is k (after p q i) ∙ after_in p q i (ap (λ z. elem z S) e ∙ s)
          ∙ ap (λ j. q + len j) (sym x) ∙ ap (λ z. z + len (find (i ∷ is) p o)) (sym (ap (moved S (i ∷ is) p q) (sym e) ∙ moved_here i is p q))
      go (no e) f =
          let x : find (i ∷ is) p o ≡ find is (p + len i) o = find_there i is p o e in
          let l : p ≤ o = find_low (i ∷ is) p o n in
          let o' : ℕ = o + len (find is (p + len i) o) in
          let d : p ≡ o' → ⊥ = λ w. e (omega arith) in
          ap (λ j. moved S (i ∷ is) p q (o + len j)) x ∙ moved_there i is p q o' d
          ∙ f (ap is_none (sym x) ∙ n) s (ap is_none (sym (find_there i is p o' d)) ∙ ap (λ j. is_none (find (i ∷ is) p (o + len j))) (sym x) ∙ m)
          ∙ ap (λ z. z + len (find is (p + len i) o)) (sym (moved_there i is p q o e)) ∙ ap (λ j. moved S (i ∷ is) p q o + len j) (sym x)

  -- What stands at the new place.
  pub kept_find : (φ : ℕ → ℕ) (is : List Instr) (p q o : ℕ) → AreInstrs is → is_none (find is p o) ≡ false → In S o
      → find (kept φ S is p) q (moved S is p q o) ≡ relocate φ (find is p o)
  unfolding kept
  kept_find φ [] p q o h n s = absurd (none_in p o n)
  kept_find φ (i ∷ is) p q o h n s = go (dec_eq p o) (λ r. kept_find φ is (p + len i) r o h.1)
    where
      rest : List Instr
      rest = kept φ S is (p + len i)

      go : Dec (p ≡ o)
          → ((r : ℕ) → is_none (find is (p + len i) o) ≡ false → In S o → find rest r (moved S is (p + len i) r o) ≡ relocate φ (find is (p + len i) o))
          → find (pick (elem p S) (relocate φ i ∷ rest) rest) q (moved S (i ∷ is) p q o) ≡ relocate φ (find (i ∷ is) p o)
      go (yes e) f =
          ap (λ b. find (pick b (relocate φ i ∷ rest) rest) q (moved S (i ∷ is) p q o)) (ap (λ x. elem x S) e ∙ s)
          ∙ ap (find (relocate φ i ∷ rest) q) (ap (moved S (i ∷ is) p q) (sym e) ∙ moved_here i is p q)
          ∙ find_here (relocate φ i) rest q ∙ ap (relocate φ) (sym (ap (find (i ∷ is) p) (sym e) ∙ find_here i is p))
      go (no e) f =
          ap (find (pick (elem p S) (relocate φ i ∷ rest) rest) q) (moved_there i is p q o e) ∙ at (elem p S) ∙ ap (relocate φ) (sym (find_there i is p o e))
        where
          m : is_none (find is (p + len i) o) ≡ false
          m = ap is_none (sym (find_there i is p o e)) ∙ n

          at : (b : Bool) → find (pick b (relocate φ i ∷ rest) rest) q (moved S is (p + len i) (pick b (q + len i) q) o) ≡ relocate φ (find is (p + len i) o)
          at true =
              find_there (relocate φ i) rest q (moved S is (p + len i) (q + len i) o) (λ w. omega (arith, len_pos i h.0, moved_low is (p + len i) (q + len i) o m))
              ∙ ap (λ l. find rest (q + l) (moved S is (p + len i) (q + len i) o)) (relocate_length φ i) ∙ f (q + len i) m s
          at false = f q m s

pub relocate_none : (φ : ℕ → ℕ) (i : Instr) → is_none (relocate φ i) ≡ is_none i
relocate_none φ NONE = refl
relocate_none φ (LIST n) = refl
relocate_none φ (LEAVE t d) = refl
relocate_none φ (ASK n y z) = refl
relocate_none φ (SELECT n c e) = refl
relocate_none φ (OPEN f) = refl
relocate_none φ (END e) = refl
relocate_none φ (CASE c t d) = refl

module _ (is : List Instr) (s : Sound is) (S : List ℕ) (zero∈ : In S 0) (shut : Closed is S) where
  abbrev pub φ : ℕ → ℕ
  φ = moved S is 0 0

  abbrev pub P : ℕ → Type 0
  P o = Begin is o × In S o

  less : (a b : ℕ) → P a → P b → a < b → φ a < φ b
  less a b p q h = moved_less S is 0 0 a b p.0 q.0 p.1 h

  order : (a b : ℕ) → P a → P b → ltb (φ a) (φ b) ≡ ltb a b
  order a b p q = go (dec_lt a b) (dec_lt b a)
    where
      go : Dec (a < b) → Dec (b < a) → ltb (φ a) (φ b) ≡ ltb a b
      go (yes h) k = lt-ltb (φ a) (φ b) (less a b p q h) ∙ sym (lt-ltb a b h)
      go (no h) (yes k) = let l : φ b < φ a = less b a q p k in le-ltb (φ a) (φ b) (omega arith) ∙ sym (le-ltb a b (omega arith))
      go (no h) (no k) = let e : a ≡ b = omega arith in ap (λ x. ltb (φ a) (φ x)) (sym e) ∙ le-ltb (φ a) (φ a) (omega arith) ∙ sym (le-ltb a b (omega arith))

  pub moved_zero : φ 0 ≡ 0
  moved_zero = go is s.start
    where
      go : (js : List Instr) → is_none (find js 0 0) ≡ false → moved S js 0 0 0 ≡ 0
      go [] n = absurd (none_in 0 0 n)
      go (j ∷ js) n = moved_here S j js 0 0

  pub zeros : (o : ℕ) → P o → is_zero (φ o) ≡ is_zero o
  zeros zero p = ap is_zero moved_zero
  zeros (suc o) p = go (φ (suc o)) (less 0 (suc o) (s.start, zero∈) p (omega arith))
    where
      go : (x : ℕ) → φ 0 < x → is_zero x ≡ false
      go zero h = absurd (omega arith)
      go (suc x) h = refl

  both : (xs : List ℕ) → All (Begin is) xs → All (In S) xs → All P xs
  both [] a b = tt
  both (x ∷ xs) a b = ((a.0, b.0), both xs a.1 b.1)

  pub named : (o : ℕ) (i : Instr) → All (Begin is) (names i) → All (In S) (leads o i) → All P (names i)
  named o i a b = go (runs_on i) b
    where
      go : (t : Bool) → All (In S) (pick t ((o + len i) ∷ names i) (names i)) → All P (names i)
      go true c = both (names i) a c.1
      go false c = both (names i) a c

  stays : (t d : ℕ) → P t → Ahead (flat is) P φ t d (φ t) d
  stays t d p = record { holds = p; hops = 0; last = t; way = (refl, refl); moved = refl }

  does_it : (o : ℕ) (i : Instr) → is_none i ≡ false → All P (names i) → (runs_on i ≡ true → P (o + len i) × (φ (o + len i) ≡ φ o + len i)) → Does (flat is) P φ o i (relocate φ i)
  does_it o NONE n a r = absurd (true≢false n)
  does_it o (LIST x) n a r = (refl, (r refl).0, (r refl).1)
  does_it o (LEAVE t d) n a r = (φ t, d, refl, stays t d a.0)
  does_it o (ASK x y z) n a r = (refl, a.0, a.1.0)
  does_it o (SELECT x c e) n a r = (refl, a.0, a.1.0)
  does_it o (OPEN f) n a r = (refl, a.0, (r refl).0, (r refl).1)
  does_it o (END e) n a r = refl
  does_it o (CASE c t d) n a r = (φ t, d, refl, a.0, stays t d a.1.0)

  pub closed_find : (o : ℕ) → P o → find (close_up S is) 0 (φ o) ≡ relocate φ (find is 0 o)
  unfolding close_up
  closed_find o p = kept_find S φ is 0 0 o s.some p.0 p.1

  pub runs_in : (o : ℕ) (i : Instr) → All (In S) (leads o i) → runs_on i ≡ true → In S (o + len i)
  runs_in o i b r = go (runs_on i) r b
    where
      go : (t : Bool) → t ≡ true → All (In S) (pick t ((o + len i) ∷ names i) (names i)) → In S (o + len i)
      go true e c = c.0
      go false e c = absurd (true≢false (sym e))

  does : (o : ℕ) → P o → Does (flat is) P φ o (fetch (flat is) o) (fetch (flat (close_up S is)) (φ o))
  does o p =
      subst (λ i. Does (flat is) P φ o i (fetch (flat (close_up S is)) (φ o))) (sym (fetched is o p.0))
      (subst (λ j. Does (flat is) P φ o (find is 0 o) j)
      (sym (fetched (close_up S is) (φ o) (ap is_none (closed_find o p) ∙ relocate_none φ (find is 0 o) ∙ p.0) ∙ closed_find o p))
      (does_it o (find is 0 o) p.0 (named o (find is 0 o) (s.named o p.0) (shut o p.0 p.1))
      (λ r. ((s.next o p.0 r, runs_in o (find is 0 o) (shut o p.0 p.1) r), moved_next S is 0 0 o p.0 p.1 (s.next o p.0 r)))))

  -- The forward machine runs the closed code alike.
  pub closed_runs : (lim : ℕ) (qs : List ℕ) → Kept (run lim (flat is) 0 [] qs) → run lim (flat (close_up S is)) 0 [] qs ≡ run lim (flat is) 0 [] qs
  closed_runs lim qs w =
      ap (λ x. run lim (flat (close_up S is)) x [] qs) (sym moved_zero)
      ∙ alike lim (flat is) (flat (close_up S is)) P φ order zeros does (s.start, zero∈) qs w
