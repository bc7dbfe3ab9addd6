-- What `shared` counts is a beginning of both lists, and the longest.
use Rattle.std.specs.Prelude.{ℕ, zero, suc, ◌≤◌, ◌≡◌, refl, Bool, true, false, List, [], ◌∷◌, length, get_or, take, drop, eqb}
use Rattle.std.proofs.Common.{sym, ◌∙◌, ap, subst, eqb-true, eq-eqb, arith}
use Rattle.route_completion.specs.Sem.{pick}
use Rattle.route_laws.specs.Shared.{shared, Longest}

-- It is a beginning of both, within them,
pub shared_same : (xs ys : List ℕ) → take (shared xs ys) xs ≡ take (shared xs ys) ys
unfolding shared
shared_same [] ys = refl
shared_same (x ∷ xs) [] = refl
shared_same (x ∷ xs) (y ∷ ys) = go (eqb x y) refl (shared_same xs ys)
  where
    go : (b : Bool) → eqb x y ≡ b → take (shared xs ys) xs ≡ take (shared xs ys) ys → take (pick b (suc (shared xs ys)) 0) (x ∷ xs) ≡ take (pick b (suc (shared xs ys)) 0) (y ∷ ys)
    go true e ih = ap (λ z. z ∷ take (shared xs ys) xs) (eqb-true x y e) ∙ ap (λ l. y ∷ l) ih
    go false e ih = refl

pub shared_within : (xs ys : List ℕ) → (shared xs ys ≤ length xs) × (shared xs ys ≤ length ys)
unfolding shared
shared_within [] ys = omega arith
shared_within (x ∷ xs) [] = omega arith
shared_within (x ∷ xs) (y ∷ ys) = go (eqb x y) (shared_within xs ys)
  where
    go : (b : Bool) → (shared xs ys ≤ length xs) × (shared xs ys ≤ length ys)
        → (pick b (suc (shared xs ys)) 0 ≤ suc (length xs)) × (pick b (suc (shared xs ys)) 0 ≤ suc (length ys))
    go true h = (omega (arith, h.0), omega (arith, h.1))
    go false h = omega arith

-- .. and the longest.
pub shared_longest : (n : ℕ) (xs ys : List ℕ) → take n xs ≡ take n ys → n ≤ length xs → n ≤ length ys → n ≤ shared xs ys
unfolding shared
shared_longest zero xs ys e p q = omega arith
shared_longest (suc n) [] ys e p q = absurd (omega arith)
shared_longest (suc n) (x ∷ xs) [] e p q = absurd (omega arith)
shared_longest (suc n) (x ∷ xs) (y ∷ ys) e p q =
    subst (λ b. suc n ≤ pick b (suc (shared xs ys)) 0) (sym (eq-eqb x y (ap (λ l. get_or l 0 0) e)))
    (omega (arith, shared_longest n xs ys (ap (drop 1) e) (omega arith) (omega arith)))

pub longest : (xs ys : List ℕ) → Longest xs ys (shared xs ys)
longest xs ys = record { within = shared_within xs ys; same = shared_same xs ys; most = λ m p q e. shared_longest m xs ys e p q }
