-- How long a route is: a list without repetition fits into each list that holds it, and so does each part of a route, cut behind each entry
-- that takes an answer.
use Rattle.std.specs.Prelude.{ℕ, suc, ◌+◌, ◌*◌, ◌≤◌, ◌≡◌, refl, List, [], ◌∷◌, length}
use Rattle.std.proofs.Common.{sym, ◌∙◌, ap, subst, inl, inr, arith}
use Rattle.route_completion.specs.Sem.{Entry, plain, asked}
use Rattle.route_completion.specs.Route.{asks, Mem, Once, onto, parts, AllOnce}
use Rattle.route_completion.specs.Entries.{Each}
use Rattle.route_laws.specs.Inside.{In}
use Rattle.route_laws.specs.Fits.{PartsIn, sum}

-- N without one x.
without : (x : ℕ) (N : List ℕ) → Mem x N → List ℕ
without x (y ∷ N) (inl e) = N
without x (y ∷ N) (inr m) = y ∷ without x N m
without x [] x'' = elim x'' [ ]

without_length : (x : ℕ) (N : List ℕ) (m : Mem x N) → length N ≡ suc (length (without x N m))
unfolding without
without_length x (y ∷ N) (inl e) = refl
without_length x (y ∷ N) (inr m) = ap suc (without_length x N m)
without_length x [] m = elim m [ ]

without_mem : (x y : ℕ) (N : List ℕ) (m : Mem x N) → (y ≡ x → ⊥) → Mem y N → Mem y (without x N m)
unfolding without
without_mem x y (z ∷ N) (inl e) d (inl f) = absurd (d (f ∙ sym e))
without_mem x y (z ∷ N) (inl e) d (inr v) = v
without_mem x y (z ∷ N) (inr m) d (inl f) = inl f
without_mem x y (z ∷ N) (inr m) d (inr v) = inr (without_mem x y N m d v)
without_mem x y [] m d _ = elim m [ ]

-- The pigeonhole law.
pub once_fits : (p N : List ℕ) → Once p → ((x : ℕ) → Mem x p → Mem x N) → length p ≤ length N
once_fits [] N o h = omega arith
once_fits (x ∷ p) N o h =
    omega (
      arith,
      without_length x N (h x (inl refl)),
      once_fits p (without x N (h x (inl refl))) o.1 (λ y m. without_mem x y N (h x (inl refl)) (λ e. o.0 (subst (λ z. Mem z p) e m)) (h y (inr m))),
    )

parts_in : (N : List ℕ) (es : List Entry) → Each (In N) es → PartsIn N (parts es)
unfolding parts
parts_in N [] h = ((λ x m. absurd m), tt)
parts_in N (plain n ∷ es) h = go (parts es) (parts_in N es h.1)
  where
    one : (p : List ℕ) → ((x : ℕ) → Mem x p → Mem x N) → (x : ℕ) → Mem x (n ∷ p) → Mem x N
    one p f x (inl e) = subst (λ z. Mem z N) (sym e) h.0
    one p f x (inr m) = f x m

    go : (ps : List (List ℕ)) → PartsIn N ps → PartsIn N (onto n ps)
    go [] f = (one [] (λ x m. absurd m), tt)
    go (p ∷ ps) f = (one p f.0, f.1)
parts_in N (asked n ∷ es) h = (one, parts_in N es h.1)
  where
    one : (x : ℕ) → Mem x (n ∷ []) → Mem x N
    one x (inl e) = subst (λ z. Mem z N) (sym e) h.0
    one x (inr x4) = elim x4 [ ]

-- The parts are one more than the answers taken, and together they are the route.
parts_many : (es : List Entry) → length (parts es) ≡ suc (asks es)
unfolding parts asks
parts_many [] = refl
parts_many (plain n ∷ es) = go (parts es) (parts_many es)
  where
    go : (ps : List (List ℕ)) → length ps ≡ suc (asks es) → length (onto n ps) ≡ suc (asks es)
    go [] e = absurd (omega arith)
    go (p ∷ ps) e = e
parts_many (asked n ∷ es) = ap suc (parts_many es)

parts_sum : (es : List Entry) → sum (parts es) ≡ length es
unfolding parts
parts_sum [] = refl
parts_sum (plain n ∷ es) = go (parts es) (parts_sum es)
  where
    go : (ps : List (List ℕ)) → sum ps ≡ length es → sum (onto n ps) ≡ suc (length es)
    go [] e = omega arith
    go (p ∷ ps) e = omega arith
parts_sum (asked n ∷ es) = omega (arith, parts_sum es)

parts_fit : (N : List ℕ) (ps : List (List ℕ)) → AllOnce ps → PartsIn N ps → sum ps ≤ length ps * length N
parts_fit N [] o h = omega arith
parts_fit N (p ∷ ps) o h = omega (arith, once_fits p N o.0 h.0, parts_fit N ps o.1 h.1)

-- Entries within N, without repetition between answers, are at most as many as the answers taken and one, times the nodes of N.
pub entries_fit : (N : List ℕ) (es : List Entry) → AllOnce (parts es) → Each (In N) es → length es ≤ (asks es + 1) * length N
entries_fit N es o h =
    rw (← (parts_sum es)) (subst (λ x. sum (parts es) ≤ x * length N) (omega (arith, parts_many es)) (parts_fit N (parts es) o (parts_in N es h)))
