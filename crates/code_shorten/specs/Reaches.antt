-- What is reached is closed: it holds 0 and all places where its instructions lead. And each set that is closed holds it.
use Prim.Native.Nat.{ℕ, zero, suc, ◌+◌, ◌≤◌, ◌<◌}
use Rattle.std.specs.Prelude.{◌≡◌, Bool, not, ◌&&◌, ◌||◌, ◌⊎◌, length, eqb}
use Rattle.std.proofs.Math.Path.{refl}
use Rattle.std.proofs.Common.{sym, ◌∙◌, ap, subst, true≢false, eqb-true, eq-eqb}
use Rattle.std.proofs.Math.Bool.{true, false}
use mathlib.Core.List.{List, [], ◌∷◌}
use Rattle.std.proofs.Math.Logic.{inl, inr}
use native.Mathlib.Omega.{arith}
use Rattle.route_completion.specs.Sem.{pick, elem}
use Rattle.code_flat.specs.Machine.{Instr}
use Rattle.code_flat.specs.Machine.{is_none}
use Rattle.code_valid.specs.Instrs.{len, find, names, runs_on, leads}
use Rattle.code_shorten.specs.Short.{named, round, rounds, reached}
use Rattle.code_shorten.specs.Sound.{AreInstrs, Begin, All, Sound, dec_eq, and_left, and_right, find_here, find_there, none_in}
use Rattle.code_shorten.specs.Closes.{In, Closed}

pub or_left : (a b : Bool) → a ≡ true → (a || b) ≡ true
or_left true b h = refl
or_left false b h = absurd (true≢false (sym h))

pub or_right : (a b : Bool) → b ≡ true → (a || b) ≡ true
or_right true b h = refl
or_right false b h = h

pub or_case : (a b : Bool) → (a || b) ≡ true → (a ≡ true) ⊎ (b ≡ true)
or_case true b h = inl refl
or_case false b h = inr h

and_both : (a b : Bool) → a ≡ true → b ≡ true → (a && b) ≡ true
and_both true b h k = k
and_both false b h k = absurd (true≢false (sym h))

-- An instruction of S that leads to x names it.
named_by : (is : List Instr) (p : ℕ) (S : List ℕ) (o x : ℕ) → is_none (find is p o) ≡ false → In S o → elem x (leads o (find is p o)) ≡ true → named is p S x ≡ true
unfolding named
named_by [] p S o x n s e = absurd (none_in p o n)
named_by (i ∷ is) p S o x n s e = go (dec_eq p o) (named_by is (p + len i) S o x)
  where
    go : Dec (p ≡ o) → (is_none (find is (p + len i) o) ≡ false → In S o → elem x (leads o (find is (p + len i) o)) ≡ true → named is (p + len i) S x ≡ true)
        → ((elem p S && elem x (leads p i)) || named is (p + len i) S x) ≡ true
    go (yes q) f =
        let y : find (i ∷ is) p o ≡ i = ap (find (i ∷ is) p) (sym q) ∙ find_here i is p in
        or_left (elem p S && elem x (leads p i)) (named is (p + len i) S x)
        (and_both (elem p S) (elem x (leads p i)) (ap (λ z. elem z S) q ∙ s) (ap (λ z. elem x (leads z i)) q ∙ ap (λ j. elem x (leads o j)) (sym y) ∙ e))
    go (no q) f =
        let y : find (i ∷ is) p o ≡ find is (p + len i) o = find_there i is p o q in
        or_right (elem p S && elem x (leads p i)) (named is (p + len i) S x) (f (ap is_none (sym y) ∙ n) s (ap (λ j. elem x (leads o j)) (sym y) ∙ e))

-- A set that holds more names more.
named_more : (is : List Instr) (p : ℕ) (S T : List ℕ) (x : ℕ) → ((o : ℕ) → In S o → In T o) → named is p S x ≡ true → named is p T x ≡ true
unfolding named
named_more [] p S T x h n = n
named_more (i ∷ is) p S T x h n = go (or_case (elem p S && elem x (leads p i)) (named is (p + len i) S x) n) (named_more is (p + len i) S T x h)
  where
    go : ((elem p S && elem x (leads p i)) ≡ true) ⊎ (named is (p + len i) S x ≡ true) → (named is (p + len i) S x ≡ true → named is (p + len i) T x ≡ true)
        → ((elem p T && elem x (leads p i)) || named is (p + len i) T x) ≡ true
    go (inl e) f =
        or_left (elem p T && elem x (leads p i)) (named is (p + len i) T x)
        (and_both (elem p T) (elem x (leads p i)) (h p (and_left (elem p S) (elem x (leads p i)) e)) (and_right (elem p S) (elem x (leads p i)) e))
    go (inr e) f = or_right (elem p T && elem x (leads p i)) (named is (p + len i) T x) (f e)

module _ (all : List Instr) (S : List ℕ) where
  -- S holds o, or names it.
  abbrev pub Next : ℕ → Type 0
  Next o = (elem o S || named all 0 S o) ≡ true

  round_in : (is : List Instr) (p o : ℕ) → is_none (find is p o) ≡ false → Next o → In (round all is p S) o
  unfolding round
  round_in [] p o n h = absurd (none_in p o n)
  round_in (i ∷ is) p o n h = go (dec_eq p o) (round_in is (p + len i) o)
    where
      rest : List ℕ
      rest = round all is (p + len i) S

      go : Dec (p ≡ o) → (is_none (find is (p + len i) o) ≡ false → Next o → In rest o) → In (pick (elem p S || named all 0 S p) (p ∷ rest) rest) o
      go (yes e) f =
          ap (λ b. elem o (pick b (p ∷ rest) rest)) (ap (λ x. elem x S || named all 0 S x) e ∙ h) ∙ or_left (eqb o p) (elem o rest) (eq-eqb o p (sym e))
      go (no e) f = at (elem p S || named all 0 S p)
        where
          r : In rest o
          r = f (ap is_none (sym (find_there i is p o e)) ∙ n) h

          at : (b : Bool) → In (pick b (p ∷ rest) rest) o
          at true = or_right (eqb o p) (elem o rest) r
          at false = r

  pub round_out : (is : List Instr) (p o : ℕ) → AreInstrs is → In (round all is p S) o → Next o × (is_none (find is p o) ≡ false)
  unfolding round
  round_out [] p o s h = absurd (true≢false (sym h))
  round_out (i ∷ is) p o s h = go (elem p S || named all 0 S p) refl h (round_out is (p + len i) o s.1)
    where
      rest : List ℕ
      rest = round all is (p + len i) S

      later : Next o × (is_none (find is (p + len i) o) ≡ false) → Next o × (is_none (find (i ∷ is) p o) ≡ false)
      later r = (r.0, at (dec_eq p o))
        where
          at : Dec (p ≡ o) → is_none (find (i ∷ is) p o) ≡ false
          at (yes e) = ap is_none (ap (find (i ∷ is) p) (sym e) ∙ find_here i is p) ∙ s.0
          at (no e) = ap is_none (find_there i is p o e) ∙ r.1

      go : (b : Bool) → (elem p S || named all 0 S p) ≡ b → In (pick b (p ∷ rest) rest) o → (In rest o → Next o × (is_none (find is (p + len i) o) ≡ false))
          → Next o × (is_none (find (i ∷ is) p o) ≡ false)
      go true e k f = at (or_case (eqb o p) (elem o rest) k)
        where
          at : (eqb o p ≡ true) ⊎ In rest o → Next o × (is_none (find (i ∷ is) p o) ≡ false)
          at (inl q) =
              let w : o ≡ p = eqb-true o p q in
              (ap (λ x. elem x S || named all 0 S x) w ∙ e, ap is_none (ap (find (i ∷ is) p) w ∙ find_here i is p) ∙ s.0)
          at (inr q) = later (f q)
      go false e k f = later (f k)

-- Nothing new is named, from p on.
unfoldable full : List Instr → List Instr → ℕ → List ℕ → Bool
full all [] p S = true
full all (i ∷ is) p S = (elem p S || not (named all 0 S p)) && full all is (p + len i) S

-- How many instructions stand at places of S.
unfoldable count : List Instr → ℕ → List ℕ → ℕ
count [] p S = 0
count (i ∷ is) p S = pick (elem p S) 1 0 + count is (p + len i) S

first : (j : Instr) (js : List Instr) → 0 < count (j ∷ js) 0 (0 ∷ [])
unfolding count
first j js = omega arith

count_most : (is : List Instr) (p : ℕ) (S : List ℕ) → count is p S ≤ length is
unfolding count
count_most [] p S = omega arith
count_most (i ∷ is) p S = go (elem p S) (count_most is (p + len i) S)
  where
    go : (b : Bool) → count is (p + len i) S ≤ length is → pick b 1 0 + count is (p + len i) S ≤ suc (length is)
    go true h = omega arith
    go false h = omega arith

module _ (all : List Instr) (S T : List ℕ) where
  abbrev Grows : List Instr → ℕ → Type 0
  Grows is p = (o : ℕ) → is_none (find is p o) ≡ false → Next all S o → In T o

  behind : (i : Instr) (is : List Instr) (p : ℕ) → is_none i ≡ false → Grows (i ∷ is) p → Grows is (p + len i)
  behind i is p s h o n x = h o (at (dec_eq p o)) x
    where
      at : Dec (p ≡ o) → is_none (find (i ∷ is) p o) ≡ false
      at (yes e) = ap is_none (ap (find (i ∷ is) p) (sym e) ∙ find_here i is p) ∙ s
      at (no e) = ap is_none (find_there i is p o e) ∙ n

  count_more : (is : List Instr) (p : ℕ) → AreInstrs is → Grows is p → count is p S ≤ count is p T
  unfolding count
  count_more [] p s h = omega arith
  count_more (i ∷ is) p s h = go (elem p S) refl (elem p T) refl (count_more is (p + len i) s.1 (behind i is p s.0 h))
    where
      go : (a : Bool) → elem p S ≡ a → (b : Bool) → elem p T ≡ b → count is (p + len i) S ≤ count is (p + len i) T
          → pick a 1 0 + count is (p + len i) S ≤ pick b 1 0 + count is (p + len i) T
      go true e true k m = omega arith
      go true e false k m = absurd (true≢false (sym (h p (ap is_none (find_here i is p) ∙ s.0) (or_left (elem p S) (named all 0 S p) e)) ∙ k))
      go false e true k m = omega arith
      go false e false k m = omega arith

  count_grows : (is : List Instr) (p : ℕ) → AreInstrs is → Grows is p → full all is p S ≡ false → count is p S < count is p T
  unfolding count full
  count_grows [] p s h n = absurd (true≢false n)
  count_grows (i ∷ is) p s h n =
      go (elem p S) refl (named all 0 S p) refl (elem p T) refl n (count_more is (p + len i) s.1 g) (count_grows is (p + len i) s.1 g)
    where
      g : Grows is (p + len i)
      g = behind i is p s.0 h

      into : Next all S p → elem p T ≡ false → ⊥
      into x k = true≢false (sym (h p (ap is_none (find_here i is p) ∙ s.0) x) ∙ k)

      go : (a : Bool) → elem p S ≡ a → (c : Bool) → named all 0 S p ≡ c → (b : Bool) → elem p T ≡ b → ((a || not c) && full all is (p + len i) S) ≡ false
          → count is (p + len i) S ≤ count is (p + len i) T → (full all is (p + len i) S ≡ false → count is (p + len i) S < count is (p + len i) T)
          → pick a 1 0 + count is (p + len i) S < pick b 1 0 + count is (p + len i) T
      go true e c d true k m x f = let y : count is (p + len i) S < count is (p + len i) T = f m in omega arith
      go true e c d false k m x f = absurd (into (or_left (elem p S) (named all 0 S p) e) k)
      go false e true d true k m x f = omega arith
      go false e true d false k m x f = absurd (into (or_right (elem p S) (named all 0 S p) d) k)
      go false e false d true k m x f = omega arith
      go false e false d false k m x f = let y : count is (p + len i) S < count is (p + len i) T = f m in omega arith

-- A full set holds what it names.
full_in : (all is : List Instr) (p : ℕ) (S : List ℕ) → full all is p S ≡ true → (o : ℕ) → is_none (find is p o) ≡ false → named all 0 S o ≡ true → In S o
unfolding full
full_in all [] p S h o n m = absurd (none_in p o n)
full_in all (i ∷ is) p S h o n m = go (dec_eq p o) (full_in all is (p + len i) S (and_right (elem p S || not (named all 0 S p)) (full all is (p + len i) S) h) o)
  where
    go : Dec (p ≡ o) → (is_none (find is (p + len i) o) ≡ false → named all 0 S o ≡ true → In S o) → In S o
    go (yes e) f =
        at (elem o S) (named all 0 S o) m (ap (λ x. elem x S || not (named all 0 S x)) (sym e) ∙ and_left (elem p S || not (named all 0 S p)) (full all is (p + len i) S) h)
      where
        at : (a b : Bool) → b ≡ true → (a || not b) ≡ true → a ≡ true
        at true b q k = refl
        at false true q k = absurd (true≢false (sym k))
        at false false q k = absurd (true≢false (sym q))
    go (no e) f = f (ap is_none (sym (find_there i is p o e)) ∙ n) m

full_of : (all is : List Instr) (p : ℕ) (S : List ℕ) → AreInstrs is → ((o : ℕ) → is_none (find is p o) ≡ false → named all 0 S o ≡ true → In S o) → full all is p S ≡ true
unfolding full
full_of all [] p S s h = refl
full_of all (i ∷ is) p S s h = and_both (elem p S || not (named all 0 S p)) (full all is (p + len i) S) (go (elem p S) refl (named all 0 S p) refl) (full_of all is (p + len i) S s.1 later)
  where
    go : (a : Bool) → elem p S ≡ a → (b : Bool) → named all 0 S p ≡ b → (a || not b) ≡ true
    go true e b k = refl
    go false e true k = sym e ∙ h p (ap is_none (find_here i is p) ∙ s.0) k
    go false e false k = refl

    later : (o : ℕ) → is_none (find is (p + len i) o) ≡ false → named all 0 S o ≡ true → In S o
    later o n m = h o (at (dec_eq p o)) m
      where
        at : Dec (p ≡ o) → is_none (find (i ∷ is) p o) ≡ false
        at (yes e) = ap is_none (ap (find (i ∷ is) p) (sym e) ∙ find_here i is p) ∙ s.0
        at (no e) = ap is_none (find_there i is p o e) ∙ n

module _ (is : List Instr) (s : Sound is) where
  -- A round of a full set adds nothing.
  same : (S : List ℕ) → full is is 0 S ≡ true → (o : ℕ) → In (round is is 0 S) o → In S o
  same S h o x =
      let r : Next is S o × (is_none (find is 0 o) ≡ false) = round_out is S is 0 o s.some x in
      go (or_case (elem o S) (named is 0 S o) r.0) r.1
    where
      go : (elem o S ≡ true) ⊎ (named is 0 S o ≡ true) → Begin is o → In S o
      go (inl e) n = e
      go (inr e) n = full_in is is 0 S h o n e

  full_stays : (S : List ℕ) → full is is 0 S ≡ true → full is is 0 (round is is 0 S) ≡ true
  full_stays S h =
      full_of is is 0 (round is is 0 S) s.some
      (λ o n m. round_in is S is 0 o n (or_right (elem o S) (named is 0 S o) (named_more is 0 (round is is 0 S) S o (same S h) m)))

  -- Each round fills the set, or adds to it.
  grown : (k : ℕ) → (full is is 0 (rounds is k) ≡ true) ⊎ (k < count is 0 (rounds is k))
  unfolding rounds
  grown zero = inr (one is s.start)
    where
      one : (js : List Instr) → is_none (find js 0 0) ≡ false → 0 < count js 0 (0 ∷ [])
      one [] n = absurd (none_in 0 0 n)
      one (j ∷ js) n = first j js
  grown (suc k) = go (full is is 0 (rounds is k)) refl (grown k)
    where
      go : (b : Bool) → full is is 0 (rounds is k) ≡ b → (full is is 0 (rounds is k) ≡ true) ⊎ (k < count is 0 (rounds is k))
          → (full is is 0 (round is is 0 (rounds is k)) ≡ true) ⊎ (suc k < count is 0 (round is is 0 (rounds is k)))
      go true e h = inl (full_stays (rounds is k) e)
      go false e (inl h) = absurd (true≢false (sym h ∙ e))
      go false e (inr h) =
          let m : count is 0 (rounds is k) < count is 0 (round is is 0 (rounds is k))
          = count_grows is (rounds is k) (round is is 0 (rounds is k)) is 0 s.some (λ o n x. round_in is (rounds is k) is 0 o n x) e in
          inr (omega arith)

  filled : full is is 0 (reached is) ≡ true
  filled = go (grown (length is))
    where
      go : (full is is 0 (reached is) ≡ true) ⊎ (length is < count is 0 (reached is)) → full is is 0 (reached is) ≡ true
      go (inl h) = h
      go (inr h) = absurd (omega (arith, count_most is 0 (reached is)))

  pub rounds_zero : (k : ℕ) → In (rounds is k) 0
  unfolding rounds
  rounds_zero zero = refl
  rounds_zero (suc k) = round_in is (rounds is k) is 0 0 s.start (or_left (elem 0 (rounds is k)) (named is 0 (rounds is k) 0) (rounds_zero k))

  pub reached_zero : In (reached is) 0
  reached_zero = rounds_zero (length is)

  pub all_in : (S : List ℕ) (xs : List ℕ) → ((x : ℕ) → elem x xs ≡ true → In S x) → All (In S) xs
  all_in S [] h = tt
  all_in S (x ∷ xs) h = (h x (or_left (eqb x x) (elem x xs) (eq-eqb x x refl)), all_in S xs (λ y e. h y (or_right (eqb y x) (elem y xs) e)))

  pub in_all : (P : ℕ → Type 0) (xs : List ℕ) (x : ℕ) → All P xs → elem x xs ≡ true → P x
  in_all P [] x a e = absurd (true≢false (sym e))
  in_all P (y ∷ xs) x a e = go (or_case (eqb x y) (elem x xs) e) (in_all P xs x a.1)
    where
      go : (eqb x y ≡ true) ⊎ (elem x xs ≡ true) → (elem x xs ≡ true → P x) → P x
      go (inl q) f = subst P (sym (eqb-true x y q)) a.0
      go (inr q) f = f q

  -- Where an instruction leads, another begins.
  pub leads_begin : (o : ℕ) → Begin is o → All (Begin is) (leads o (find is 0 o))
  leads_begin o b = go (runs_on (find is 0 o)) refl
    where
      go : (t : Bool) → runs_on (find is 0 o) ≡ t → All (Begin is) (pick t ((o + len (find is 0 o)) ∷ names (find is 0 o)) (names (find is 0 o)))
      go true e = (s.next o b e, s.named o b)
      go false e = s.named o b

  pub reached_closed : Closed is (reached is)
  reached_closed o b h =
      all_in (reached is) (leads o (find is 0 o))
      (λ x e. full_in is is 0 (reached is) filled x (in_all (Begin is) (leads o (find is 0 o)) x (leads_begin o b) e) (named_by is 0 (reached is) o x b h e))
