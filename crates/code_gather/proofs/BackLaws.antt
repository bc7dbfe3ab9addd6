-- Laws of what the instructions from a place on come to; of what is entered, and what is needed.
use Prim.Native.Nat.{ℕ, suc, ◌+◌, ◌*◌, ◌≤◌, ◌<◌}
use Rattle.std.specs.Prelude.{◌≡◌, Bool, not, ◌&&◌, ◌||◌, ltb, leb, eqb, map, Option, Some, None}
use Rattle.std.proofs.Math.Path.{refl, sym, ap}
use Rattle.std.proofs.Common.{◌∙◌, true≢false, lt-ltb, le-ltb, eqb-true, eq-eqb}
use Rattle.std.proofs.Math.Bool.{true, false}
use mathlib.Core.List.{List, [], ◌∷◌}
use Rattle.std.proofs.Math.ListN.{length}
use borrow.Author.Tests.{le-leb, lt-leb}
use native.Mathlib.Omega.{arith}
use Rattle.std.proofs.Math.Decide.{dec_lt, dec_le}
use Rattle.route_completion.specs.Sem.{pick, elem}
use Rattle.code_flat.specs.Machine.{Instr, NONE, LIST, LEAVE, ASK, SELECT, OPEN, END, CASE}
use Rattle.code_flat.specs.Machine.{is_none}
use Rattle.code_valid.specs.Instrs.{len, parse, find}
use Rattle.code_valid.specs.Valid.{Valid}
use Rattle.code_machine.specs.declared.Target.{Target}
use Rattle.code_shorten.specs.Short.{aim_of, thread, threaded, shorter}
use Rattle.code_shorten.specs.Longer.{total, thread_length}
use Rattle.code_shorten.specs.Sound.{AreInstrs, dec_eq, len_pos, find_here, find_there, find_low, none_in}
use Rattle.code_shorten.specs.Closes.{In}
use Rattle.code_shorten.specs.Marking.{bit}
use Rattle.code_pass.specs.Stages.{kept_places, kept_before, kept_to}
use Rattle.code_mark.proofs.PlaceLaws.{sound, total_is}
use Rattle.code_mark.proofs.KeptLaws.{kept_end}
use Rattle.code_gather.specs.Gather.{way, follow, hop_behind, entry, back, comes, entered_by, dropped, with_entry, needed_by, needed}

module _ {A : Type 0} (g : ℕ → Instr → A → A) (z : A) where
  -- Where all are taken, it makes no difference from where on.
  back_same : (is : List Instr) (q a b : ℕ) → a ≤ q → b ≤ q → back g z a is q ≡ back g z b is q
  unfolding back
  back_same [] q a b l m = refl
  back_same (i ∷ is) q a b l m =
      ap (λ c. pick c (g q i (back g z a is (q + len i))) (back g z a is (q + len i))) (le-leb a q l)
      ∙ ap (g q i) (back_same is (q + len i) a b (omega arith) (omega arith))
      ∙ sym (ap (λ c. pick c (g q i (back g z b is (q + len i))) (back g z b is (q + len i))) (le-leb b q m))

  -- The first of them, and the rest.
  pub back_next : (is : List Instr) (q p x : ℕ) → AreInstrs is → is_none (find is q p) ≡ false → x ≡ p + len (find is q p) → back g z p is q ≡ g p (find is q p) (back g z x is q)
  unfolding back
  back_next [] q p x s b e = absurd (none_in q p b)
  back_next (i ∷ is) q p x s b e = go (dec_eq q p) (back_next is (q + len i) p x s.1)
    where
      skip : (a : ℕ) → q < a → back g z a (i ∷ is) q ≡ back g z a is (q + len i)
      skip a l = ap (λ c. pick c (g q i (back g z a is (q + len i))) (back g z a is (q + len i))) (lt-leb a q l)

      go : Dec (q ≡ p) → (is_none (find is (q + len i) p) ≡ false → x ≡ p + len (find is (q + len i) p) → back g z p is (q + len i) ≡ g p (find is (q + len i) p) (back g z x is (q + len i)))
          → back g z p (i ∷ is) q ≡ g p (find (i ∷ is) q p) (back g z x (i ∷ is) q)
      go (yes w) k =
          let f : find (i ∷ is) q p ≡ i = ap (find (i ∷ is) q) (sym w) ∙ find_here i is q in
          let n : 0 < len i = len_pos i s.0 in
          ap (λ c. pick c (g q i (back g z p is (q + len i))) (back g z p is (q + len i))) (le-leb p q (omega arith))
          ∙ ap (g q i) (back_same is (q + len i) p x (omega arith) (omega (arith, ap len f)) ∙ sym (skip x (omega (arith, ap len f))))
          ∙ (λ j. g (w j) (sym f j) (back g z x (i ∷ is) q))
      go (no w) k =
          let l : q ≤ p = find_low (i ∷ is) q p b in
          let f : find (i ∷ is) q p ≡ find is (q + len i) p = find_there i is q p w in
          skip p (omega arith) ∙ k (ap is_none (sym f) ∙ b) (e ∙ ap (λ j. p + len j) f)
          ∙ (λ j. g p (sym f j) (sym (skip x (omega (arith, e))) j))

  -- Behind all, there is none.
  pub back_end : (is : List Instr) (q p : ℕ) → AreInstrs is → q + total is ≤ p → back g z p is q ≡ z
  unfolding back total
  back_end [] q p s l = refl
  back_end (i ∷ is) q p s l =
      ap (λ c. pick c (g q i (back g z p is (q + len i))) (back g z p is (q + len i))) (lt-leb p q (omega (arith, len_pos i s.0)))
      ∙ back_end is (q + len i) p s.1 (omega arith)

-- How many of a list are below p.
unfoldable pub below : ℕ → List ℕ → ℕ
below p [] = 0
below p (x ∷ xs) = bit (ltb x p) + below p xs

bit_less : (x p q : ℕ) → p ≤ q → bit (ltb x p) ≤ bit (ltb x q)
bit_less x p q l = go (dec_lt x p) (dec_lt x q)
  where
    go : Dec (x < p) → Dec (x < q) → bit (ltb x p) ≤ bit (ltb x q)
    go (no a) b = let e : bit (ltb x p) ≡ 0 = ap bit (le-ltb x p (omega arith)) in omega arith
    go (yes a) (yes b) = let e : bit (ltb x q) ≡ 1 = ap bit (lt-ltb x q b) in let d : bit (ltb x p) ≡ 1 = ap bit (lt-ltb x p a) in omega arith
    go (yes a) (no b) = absurd (omega arith)

pub below_more : (p q : ℕ) (xs : List ℕ) → p ≤ q → below p xs ≤ below q xs
unfolding below
below_more p q [] l = omega arith
below_more p q (x ∷ xs) l = omega (arith, bit_less x p q l, below_more p q xs l)

pub below_one : (p q : ℕ) (xs : List ℕ) → p < q → In xs p → below p xs + 1 ≤ below q xs
unfolding below
below_one p q [] l h = absurd (true≢false (sym h))
below_one p q (x ∷ xs) l h = go (dec_eq p x) (below_one p q xs l)
  where
    go : Dec (p ≡ x) → (In xs p → below p xs + 1 ≤ below q xs) → bit (ltb x p) + below p xs + 1 ≤ bit (ltb x q) + below q xs
    go (yes e) k =
        let a : bit (ltb x p) ≡ 0 = ap bit (le-ltb x p (omega arith)) in
        let b : bit (ltb x q) ≡ 1 = ap bit (lt-ltb x q (omega arith)) in
        omega (arith, below_more p q xs (omega arith))
    go (no e) k =
        let i : In xs p = rest (eqb p x) refl h in
        omega (arith, bit_less x p q (omega arith), k i)
      where
        rest : (b : Bool) → eqb p x ≡ b → (b || elem p xs) ≡ true → elem p xs ≡ true
        rest true q m = absurd (e (eqb-true p x q))
        rest false q m = m

pub below_all : (p : ℕ) (xs : List ℕ) → below p xs ≤ length xs
unfolding below
below_all p [] = omega arith
below_all p (x ∷ xs) = go (ltb x p) (below_all p xs)
  where
    go : (b : Bool) → below p xs ≤ length xs → bit b + below p xs ≤ suc (length xs)
    go true h = omega arith
    go false h = omega arith

-- What one more instruction adds.
module _ (C : List ℕ) (split : ℕ) where
  elem_with : (x : ℕ) → dropped C split x ≡ true → (a : Option Target) (xs : List ℕ) → elem x (with_entry C split a xs) ≡ (comes x a || elem x xs)
  elem_with x h None xs = refl
  elem_with x h (Some aim) xs = go (dec_eq aim.place x)
    where
      go : Dec (aim.place ≡ x) → elem x (pick (dropped C split aim.place && not (elem aim.place xs)) (aim.place ∷ xs) xs) ≡ (eqb aim.place x || elem x xs)
      go (yes e) =
          ap (λ c. elem x (pick (c && not (elem aim.place xs)) (aim.place ∷ xs) xs)) (ap (dropped C split) e ∙ h)
          ∙ at (elem aim.place xs) refl ∙ sym (ap (λ c. c || elem x xs) (eq-eqb aim.place x e))
        where
          at : (c : Bool) → elem aim.place xs ≡ c → elem x (pick (not c) (aim.place ∷ xs) xs) ≡ true
          at true q = ap (λ y. elem y xs) (sym e) ∙ q
          at false q = ap (λ c. c || elem x xs) (eq-eqb x aim.place (sym e))
      go (no e) = at (dropped C split aim.place && not (elem aim.place xs)) ∙ sym (ap (λ c. c || elem x xs) (ne aim.place x e))
        where
          ne : (a b : ℕ) → (a ≡ b → ⊥) → eqb a b ≡ false
          ne a b d = try (eqb a b) refl
            where
              try : (c : Bool) → eqb a b ≡ c → c ≡ false
              try true q = absurd (d (eqb-true a b q))
              try false q = refl

          at : (c : Bool) → elem x (pick c (aim.place ∷ xs) xs) ≡ elem x xs
          at true = ap (λ c. c || elem x xs) (ne x aim.place (λ w. e (sym w)))
          at false = refl

  -- What is needed is what is entered, of the dropped jumps.
  pub needed_entered : (x from : ℕ) → dropped C split x ≡ true → (is : List Instr) (p : ℕ)
      → elem x (back (needed_by C split) [] from is p) ≡ back (entered_by C split x) false from is p
  unfolding back
  needed_entered x from h [] p = refl
  needed_entered x from h (i ∷ is) p = go (leb from p) (needed_entered x from h is (p + len i))
    where
      N : List ℕ
      N = back (needed_by C split) [] from is (p + len i)

      E : Bool
      E = back (entered_by C split x) false from is (p + len i)

      go : (b : Bool) → elem x N ≡ E → elem x (pick b (needed_by C split p i N) N) ≡ pick b (entered_by C split x p i E) E
      go true k = elem_with x h (entry C split p i) N ∙ ap (λ c. comes x (entry C split p i) || c) k
      go false k = k

  -- And only dropped jumps are needed.
  with_dropped : (x : ℕ) (a : Option Target) (xs : List ℕ) → (In xs x → dropped C split x ≡ true) → In (with_entry C split a xs) x → dropped C split x ≡ true
  with_dropped x None xs k h = k h
  with_dropped x (Some aim) xs k h = go (dropped C split aim.place) refl h
    where
      go : (c : Bool) → dropped C split aim.place ≡ c → elem x (pick (c && not (elem aim.place xs)) (aim.place ∷ xs) xs) ≡ true → dropped C split x ≡ true
      go false q m = k m
      go true q m = at (elem aim.place xs) m
        where
          at : (c : Bool) → elem x (pick (not c) (aim.place ∷ xs) xs) ≡ true → dropped C split x ≡ true
          at true n = k n
          at false n = try (eqb x aim.place) refl n
            where
              try : (d : Bool) → eqb x aim.place ≡ d → (d || elem x xs) ≡ true → dropped C split x ≡ true
              try true r o = ap (dropped C split) (eqb-true x aim.place r) ∙ q
              try false r o = k o

  pub needed_dropped : (x from : ℕ) (is : List Instr) (p : ℕ) → In (back (needed_by C split) [] from is p) x → dropped C split x ≡ true
  unfolding back
  needed_dropped x from [] p h = absurd (true≢false (sym h))
  needed_dropped x from (i ∷ is) p h = go (leb from p) h (needed_dropped x from is (p + len i))
    where
      N : List ℕ
      N = back (needed_by C split) [] from is (p + len i)

      go : (b : Bool) → In (pick b (needed_by C split p i N) N) x → (In N x → dropped C split x ≡ true) → dropped C split x ≡ true
      go true m k = with_dropped x (entry C split p i) N k m
      go false m k = k m

  -- Only a kept jump has an entry; it takes three numbers at least.
  entry_kept : (p : ℕ) (i : Instr) (a : Target) → entry C split p i ≡ Some a → (elem p (kept_places C) ≡ true) × (3 ≤ len i)
  unfolding entry
  entry_kept p i a h = go (elem p (kept_places C)) h
    where
      jump : (j : Instr) (k : ℕ → ℕ → Option Target) → follow k (aim_of j) ≡ Some a → 3 ≤ len j
      jump NONE k e = let x : ◌≡◌ {A = ℕ} 0 1 = cc in absurd (omega arith)
      jump (LIST n) k e = let x : ◌≡◌ {A = ℕ} 0 1 = cc in absurd (omega arith)
      jump (LEAVE t d) k e = omega arith
      jump (ASK n y z) k e = let x : ◌≡◌ {A = ℕ} 0 1 = cc in absurd (omega arith)
      jump (SELECT n c d) k e = let x : ◌≡◌ {A = ℕ} 0 1 = cc in absurd (omega arith)
      jump (OPEN f) k e = let x : ◌≡◌ {A = ℕ} 0 1 = cc in absurd (omega arith)
      jump (END d) k e = let x : ◌≡◌ {A = ℕ} 0 1 = cc in absurd (omega arith)
      jump (CASE c t d) k e = omega arith

      K : ℕ → ℕ → Option Target
      K = way (hop_behind C split) (length C + 1)

      go : (b : Bool) → pick b (follow K (aim_of i)) None ≡ Some a → (b ≡ true) × (3 ≤ len i)
      go true e = (refl, jump i K e)
      go false e = let x : ◌≡◌ {A = ℕ} 0 1 = cc in absurd (omega arith)

  with_length : (a : Option Target) (xs : List ℕ) → length (with_entry C split a xs) ≤ 1 + length xs
  with_length None xs = omega arith
  with_length (Some aim) xs = go (dropped C split aim.place && not (elem aim.place xs))
    where
      go : (b : Bool) → length (pick b (aim.place ∷ xs) xs) ≤ 1 + length xs
      go true = omega arith
      go false = omega arith

  -- THE ROOM for them: each takes three numbers, as the last that enters there does at least.
  fits_by : (is : List Instr) (p from o : ℕ) → AreInstrs is → p + total is ≤ o
      → 3 * length (back (needed_by C split) [] from is p) + kept_before (kept_places C) is p from ≤ kept_before (kept_places C) is p o
  unfolding back total kept_before
  fits_by [] p from o s l = omega arith
  fits_by (i ∷ is) p from o s l = go (dec_le from p) (fits_by is (p + len i) from o s.1 (omega arith))
    where
      N : List ℕ
      N = back (needed_by C split) [] from is (p + len i)

      S : List ℕ
      S = kept_places C

      K : ℕ → ℕ
      K x = kept_before S is (p + len i) x

      upper : ltb p o ≡ true
      upper = lt-ltb p o (omega (arith, len_pos i s.0))

      all : pick (ltb p o && elem p S) (len i) 0 ≡ pick (elem p S) (len i) 0
      all = ap (λ b. pick (b && elem p S) (len i) 0) upper

      room : (a : Option Target) → entry C split p i ≡ a → 3 * length (with_entry C split a N) ≤ 3 * length N + pick (elem p S) (len i) 0
      room None e = omega arith
      room (Some aim) e =
          let k : (elem p S ≡ true) × (3 ≤ len i) = entry_kept p i aim e in
          let m : pick (elem p S) (len i) 0 ≡ len i = ap (λ b. pick b (len i) 0) k.0 in
          omega (arith, with_length (Some aim) N, k.1)

      go : Dec (from ≤ p) → 3 * length N + K from ≤ K o
          → 3 * length (pick (leb from p) (needed_by C split p i N) N) + (pick (ltb p from && elem p S) (len i) 0 + K from) ≤ pick (ltb p o && elem p S) (len i) 0 + K o
      go (yes h) k =
          let a : pick (ltb p from && elem p S) (len i) 0 ≡ 0 = ap (λ b. pick (b && elem p S) (len i) 0) (le-ltb p from h) in
          let b : length (pick (leb from p) (needed_by C split p i N) N) ≡ length (needed_by C split p i N) = ap (λ c. length (pick c (needed_by C split p i N) N)) (le-leb from p h) in
          omega (arith, all, room (entry C split p i) refl)
      go (no h) k =
          let a : pick (ltb p from && elem p S) (len i) 0 ≡ pick (elem p S) (len i) 0 = ap (λ b. pick (b && elem p S) (len i) 0) (lt-ltb p from (omega arith)) in
          let b : length (pick (leb from p) (needed_by C split p i N) N) ≡ length N = ap (λ c. length (pick c (needed_by C split p i N) N)) (lt-leb from p (omega arith)) in
          omega (arith, all)

  kept_thread : (all is : List Instr) (S : List ℕ) (p o : ℕ) → kept_before S (map (thread all) is) p o ≡ kept_before S is p o
  unfolding kept_before
  kept_thread all [] S p o = refl
  kept_thread all (i ∷ is) S p o =
      ap (λ n. pick (ltb p o && elem p S) n 0 + kept_before S (map (thread all) is) (p + n) o) (thread_length all i)
      ∙ ap (λ n. pick (ltb p o && elem p S) (len i) 0 + n) (kept_thread all is S (p + len i) o)

  pub needed_fits : Valid C → (from : ℕ) → kept_to C from + 3 * length (needed C split from) ≤ length (shorter C)
  unfolding threaded
  needed_fits v from =
      let a : kept_to C from ≡ kept_before (kept_places C) (parse C) 0 from = kept_thread (parse C) (parse C) (kept_places C) 0 from in
      let b : kept_to C (length C) ≡ kept_before (kept_places C) (parse C) 0 (length C) = kept_thread (parse C) (parse C) (kept_places C) 0 (length C) in
      omega (arith, kept_end C v (length C) (omega arith), fits_by (parse C) 0 from (length C) (sound C v).some (omega (arith, total_is C v)))
