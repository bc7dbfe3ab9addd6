-- Laws of lists of nodes: members, those kept, rising lists.
use Rattle.std.specs.Prelude.{ℕ, zero, suc, ◌+◌, ◌-◌, ◌≤◌, ◌<◌, ◌≡◌, refl, List, [], ◌∷◌, Bool, true, false, cond, ◌||◌, eqb}
use Rattle.std.proofs.Common.{sym, subst, arith, eq-eqb, eqb-true}
use Rattle.std.proofs.lemmas.Bool.{eqb-false}
use Rattle.base_common.specs.Upto.{range, upto, any}
use Rattle.base_common.proofs.Bools.{never}
use Rattle.base_walk.specs.On.{member}
use Rattle.table_children.specs.Children.{keep}

pub member_here : (x : ℕ) (l : List ℕ) → member x (x ∷ l) ≡ true
member_here x l = rw (eq-eqb x x refl)

pub member_there : (x y : ℕ) (l : List ℕ) → member x l ≡ true → member x (y ∷ l) ≡ true
member_there x y l e = go (eqb x y)
  where
    go : (b : Bool) → (b || member x l) ≡ true
    go true = refl
    go false = e

pub any_hit_lem : (p : ℕ → Bool) (l : List ℕ) (x : ℕ) → member x l ≡ true → p x ≡ true → any p l ≡ true
any_hit_lem p [] x m e = never (sym m)
any_hit_lem p (y ∷ l) x m e = go (eqb x y) refl m (λ z. any_hit_lem p l x z e)
  where
    go : (b : Bool) → eqb x y ≡ b → (b || member x l) ≡ true → (member x l ≡ true → any p l ≡ true) → (p y || any p l) ≡ true
    go true q z r = let u : x ≡ y = eqb-true x y q in let v : p y ≡ true = subst (λ (i : ℕ). p i ≡ true) u e in rw v
    go false q z r = by (p y) (r z)
      where
        by : (a : Bool) → any p l ≡ true → (a || any p l) ≡ true
        by true h = refl
        by false h = h

pub record Meets (p : ℕ → Bool) (l : List ℕ) : Type 0 where
  pub at : ℕ
  pub in' : member at l ≡ true
  pub does : p at ≡ true

pub any_find_lem : (p : ℕ → Bool) (l : List ℕ) → any p l ≡ true → Meets p l
any_find_lem p [] e = never (sym e)
any_find_lem p (y ∷ l) e = go (p y) refl e (λ z. any_find_lem p l z)
  where
    go : (b : Bool) → p y ≡ b → (b || any p l) ≡ true → (any p l ≡ true → Meets p l) → Meets p (y ∷ l)
    go true q z r = record { at = y; in' = member_here y l; does = q }
    go false q z r = let w = r z in record { at = w.at; in' = member_there w.at y l w.in'; does = w.does }

pub kept_in : (q : ℕ → Bool) (l : List ℕ) (x : ℕ) → member x (keep q l) ≡ true → (member x l ≡ true) × (q x ≡ true)
unfolding keep
kept_in q [] x m = never (sym m)
kept_in q (y ∷ l) x m = go (q y) refl m (λ z. kept_in q l x z)
  where
    go : (b : Bool) → q y ≡ b → member x (cond b (y ∷ keep q l) (keep q l)) ≡ true → (member x (keep q l) ≡ true → (member x l ≡ true) × (q x ≡ true)) → (member x (y ∷ l) ≡ true) × (q x ≡ true)
    go true h z r = by (eqb x y) refl z
      where
        by : (a : Bool) → eqb x y ≡ a → (a || member x (keep q l)) ≡ true → (member x (y ∷ l) ≡ true) × (q x ≡ true)
        by true u v = (rw u, subst (λ (i : ℕ). q i ≡ true) (sym (eqb-true x y u)) h)
        by false u v = let w = r v in (member_there x y l w.0, w.1)
    go false h z r = let w = r z in (member_there x y l w.0, w.1)

pub in_kept : (q : ℕ → Bool) (l : List ℕ) (x : ℕ) → member x l ≡ true → q x ≡ true → member x (keep q l) ≡ true
unfolding keep
in_kept q [] x m e = never (sym m)
in_kept q (y ∷ l) x m e = go (eqb x y) refl m (λ z. in_kept q l x z e)
  where
    go : (a : Bool) → eqb x y ≡ a → (a || member x l) ≡ true → (member x l ≡ true → member x (keep q l) ≡ true) → member x (cond (q y) (y ∷ keep q l) (keep q l)) ≡ true
    go true u z r = let v : q y ≡ true = subst (λ (i : ℕ). q i ≡ true) (eqb-true x y u) e in rw (v, u)
    go false u z r = by (q y) (r z)
      where
        by : (b : Bool) → member x (keep q l) ≡ true → member x (cond b (y ∷ keep q l) (keep q l)) ≡ true
        by true h = member_there x y (keep q l) h
        by false h = h

pub keep_none : (q : ℕ → Bool) (l : List ℕ) → ((x : ℕ) → member x l ≡ true → q x ≡ false) → keep q l ≡ []
unfolding keep
keep_none q [] h = refl
keep_none q (y ∷ l) h = rw (h y (member_here y l), keep_none q l (λ x m. h x (member_there x y l m)))

pub keep_all : (q : ℕ → Bool) (l : List ℕ) → ((x : ℕ) → member x l ≡ true → q x ≡ true) → keep q l ≡ l
unfolding keep
keep_all q [] h = refl
keep_all q (y ∷ l) h = rw (h y (member_here y l), keep_all q l (λ x m. h x (member_there x y l m)))

-- a test that two say alike of the members of a list
pub keep_alike : (p q : ℕ → Bool) (l : List ℕ) → ((x : ℕ) → member x l ≡ true → p x ≡ q x) → keep p l ≡ keep q l
unfolding keep
keep_alike p q [] h = refl
keep_alike p q (x ∷ l) h = rw (h x (member_here x l), keep_alike p q l (λ y m. h y (member_there y x l m)))

pub any_alike : (p q : ℕ → Bool) (l : List ℕ) → ((x : ℕ) → member x l ≡ true → p x ≡ q x) → any p l ≡ any q l
any_alike p q [] h = refl
any_alike p q (x ∷ l) h = rw (h x (member_here x l), any_alike p q l (λ y m. h y (member_there y x l m)))

-- of two tests of which the first keeps nothing
pub keep_second : (p q : ℕ → Bool) (l : List ℕ) → keep p l ≡ [] → keep (λ x. p x || q x) l ≡ keep q l
unfolding keep
keep_second p q [] h = refl
keep_second p q (x ∷ l) h = go (p x) h (λ (e : keep p l ≡ []). keep_second p q l e)
  where
    go : (b : Bool) → cond b (x ∷ keep p l) (keep p l) ≡ [] → (keep p l ≡ [] → keep (λ x. p x || q x) l ≡ keep q l)
        → cond (b || q x) (x ∷ keep (λ x. p x || q x) l) (keep (λ x. p x || q x) l) ≡ cond (q x) (x ∷ keep q l) (keep q l)
    go true e r = let z : ◌≡◌ {A = ℕ} 0 1 = cc in absurd (omega arith)
    go false e r = rw (r e)

-- each member is below those behind it
abbrev pub Rising : List ℕ → Type 0
Rising [] = Unit {0}
Rising (a ∷ l) = ((b : ℕ) → member b l ≡ true → a < b) × Rising l

pub keep_rising : (q : ℕ → Bool) (l : List ℕ) → Rising l → Rising (keep q l)
unfolding keep
keep_rising q [] r = tt
keep_rising q (y ∷ l) r = go (q y) (keep_rising q l r.1)
  where
    go : (b : Bool) → Rising (keep q l) → Rising (cond b (y ∷ keep q l) (keep q l))
    go true h = ((λ x m. r.0 x (kept_in q l x m).0), h)
    go false h = h

pub upto_rising : (i n : ℕ) → Rising (upto i n)
unfolding upto range
upto_rising i n = go i (n - i)
  where
    low : (i f x : ℕ) → member x (range i f) ≡ true → i ≤ x
    low i zero x m = never (sym m)
    low i (suc f) x m = by (eqb x i) refl m (λ z. low (suc i) f x z)
      where
        by : (b : Bool) → eqb x i ≡ b → (b || member x (range (suc i) f)) ≡ true → (member x (range (suc i) f) ≡ true → suc i ≤ x) → i ≤ x
        by true u v r = omega (arith, eqb-true x i u)
        by false u v r = omega (arith, r v)

    go : (i f : ℕ) → Rising (range i f)
    go i zero = tt
    go i (suc f) = ((λ x m. low (suc i) f x m), go (suc i) f)

pub upto_in : (i n j : ℕ) → i ≤ j → j < n → member j (upto i n) ≡ true
unfolding upto range
upto_in i n j a b = go i (n - i) j a (omega arith)
  where
    go : (i f j : ℕ) → i ≤ j → j < i + f → member j (range i f) ≡ true
    go i zero j a b = absurd (omega arith)
    go i (suc f) j a b = by (eqb j i) refl (λ c. go (suc i) f j c (omega arith))
      where
        by : (x : Bool) → eqb j i ≡ x → (suc i ≤ j → member j (range (suc i) f) ≡ true) → (x || member j (range (suc i) f)) ≡ true
        by true q r = refl
        by false q r = let z = eqb-false j i q in r (omega arith)

pub in_upto : (n j : ℕ) → j < n → member j (upto 0 n) ≡ true
in_upto n j h = upto_in 0 n j (omega arith) h
