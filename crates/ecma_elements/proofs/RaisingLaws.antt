-- Laws of lists of nodes that pass a test, and of findings with one code.
use Rattle.std.specs.Prelude.{ℕ, zero, suc, ◌+◌, ◌-◌, ◌≤◌, ◌<◌, ◌≡◌, refl, Bool, true, false, cond, ◌&&◌, ◌||◌, eqb}
use Rattle.std.proofs.Common.{◌∙◌, eq-eqb, arith, add-one}
use mathlib.Core.List.{List, [], ◌∷◌, flat_map}
use Rattle.base_common.specs.Upto.{range, upto, any}
use Rattle.base_common.proofs.UptoLaws.{upto_cons}
use Rattle.base_walk.specs.On.{member}
use Rattle.table_children.specs.Children.{keep}

pub keep_same : (p q : ℕ → Bool) → ((k : ℕ) → p k ≡ q k) → (l : List ℕ) → keep p l ≡ keep q l
unfolding keep
keep_same p q h [] = refl
keep_same p q h (k ∷ l) = rw (h k, keep_same p q h l)

-- a test that two say alike of the numbers from i up to n
pub keep_upto : (p q : ℕ → Bool) (i n : ℕ) → ((x : ℕ) → i ≤ x → x < n → p x ≡ q x) → keep p (upto i n) ≡ keep q (upto i n)
unfolding upto range keep
keep_upto p q i n h = go i (n - i) (λ x a b. h x a (omega arith))
  where
    go : (i f : ℕ) → ((x : ℕ) → i ≤ x → x < i + f → p x ≡ q x) → keep p (range i f) ≡ keep q (range i f)
    go i zero h = refl
    go i (suc f) h = rw (h i (omega arith) (omega arith), go (suc i) f (λ x a b. h x (omega arith) (omega arith)))

pub flat_upto : {A : Type 0} (f g : ℕ → List A) (i n : ℕ) → ((x : ℕ) → i ≤ x → x < n → f x ≡ g x) → flat_map f (upto i n) ≡ flat_map g (upto i n)
unfolding upto range flat_map
flat_upto {A} f g i n h = go i (n - i) (λ x a b. h x a (omega arith))
  where
    go : (i k : ℕ) → ((x : ℕ) → i ≤ x → x < i + k → f x ≡ g x) → flat_map f (range i k) ≡ flat_map g (range i k)
    go i zero h = refl
    go i (suc k) h = rw (h i (omega arith) (omega arith), go (suc i) k (λ x a b. h x (omega arith) (omega arith)))

-- .. of the members of a list
pub flat_members : {A : Type 0} (f g : ℕ → List A) (l : List ℕ) → ((x : ℕ) → member x l ≡ true → f x ≡ g x) → flat_map f l ≡ flat_map g l
unfolding flat_map
flat_members f g [] h = refl
flat_members f g (x ∷ l) h = rw (h x (rw (eq-eqb x x refl)), flat_members f g l (λ y m. h y (go y (eqb y x) m)))
  where
    go : (y : ℕ) (b : Bool) → member y l ≡ true → (b || member y l) ≡ true
    go y true m = refl
    go y false m = m

-- numbers below i that do not pass may be left out
pub keep_from : (q : ℕ → Bool) (n i : ℕ) → i ≤ n → ((x : ℕ) → x < i → q x ≡ false) → keep q (upto 0 n) ≡ keep q (upto i n)
unfolding keep
keep_from q n zero h w = refl
keep_from q n (suc i) h w = keep_from q n i (omega arith) (λ x l. w x (omega arith)) ∙ rw (upto_cons i n (omega arith), w i (omega arith), add-one i)

pub any_upto : (p q : ℕ → Bool) (i n : ℕ) → ((x : ℕ) → i ≤ x → x < n → p x ≡ q x) → any p (upto i n) ≡ any q (upto i n)
unfolding upto range
any_upto p q i n h = go i (n - i) (λ x a b. h x a (omega arith))
  where
    go : (i k : ℕ) → ((x : ℕ) → i ≤ x → x < i + k → p x ≡ q x) → any p (range i k) ≡ any q (range i k)
    go i zero h = refl
    go i (suc k) h = rw (h i (omega arith) (omega arith), go (suc i) k (λ x a b. h x (omega arith) (omega arith)))

-- a test of the kept ones
pub any_kept : (q p : ℕ → Bool) (l : List ℕ) → any p (keep q l) ≡ any (λ x. q x && p x) l
unfolding keep
any_kept q p [] = refl
any_kept q p (x ∷ l) = rw (← any_kept q p l) (go (q x))
  where
    go : (b : Bool) → any p (cond b (x ∷ keep q l) (keep q l)) ≡ ((b && p x) || any p (keep q l))
    go true = refl
    go false = refl

pub any_three : (p q r : ℕ → Bool) (l : List ℕ) → any (λ x. p x || (q x || r x)) l ≡ (any p l || (any q l || any r l))
any_three p q r [] = refl
any_three p q r (x ∷ l) = rw (any_three p q r l) (go (p x) (q x) (r x) (any p l) (any q l) (any r l))
  where
    go : (a b c d e f : Bool) → ((a || (b || c)) || (d || (e || f))) ≡ ((a || d) || ((b || e) || (c || f)))
    go true b c d e f = refl
    go false true c true e f = refl
    go false true c false e f = refl
    go false false true true e f = refl
    go false false true false true f = refl
    go false false true false false f = refl
    go false false false d e f = refl
