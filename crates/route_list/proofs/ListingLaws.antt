-- Laws of a list that is counted and laid over a slice.
use Rattle.std.specs.Prelude.{ℕ, suc, ◌≤◌, ◌<◌, ◌≡◌, refl, List, [], ◌∷◌, ◌++◌, length, get_or, drop, take, set}
use Rattle.std.proofs.Common.{sym, ◌∙◌, ap, append-nil, length-append, drop_of_length-le, take_all, drop-cons, length-take-le, arith}
use Rattle.std.proofs.Math.Seq.{take-nil, set_out, append_snoc}
use Rattle.std.proofs.lemmas.List.{set_at, take-append-le}
use Rattle.std.proofs.Math.Decide.{dec_lt}
use Rattle.route_list.specs.Listing.{most, saturated, next, laid, Listing}

-- The slice as it came has nothing laid over it.
laid_none : (f : List ℕ) → laid [] f ≡ f
unfolding laid
laid_none f = ap (λ l. l ++ f) (take-nil (length f))

-- Where the list fits, and where it does not.
laid_in : (l f : List ℕ) → length l ≤ length f → laid l f ≡ l ++ drop (length l) f
unfolding laid
laid_in l f h = ap (λ k. k ++ drop (length l) f) (take_all (length f) l h)

laid_out : (l f : List ℕ) → length f ≤ length l → laid l f ≡ take (length f) l
unfolding laid
laid_out l f h = ap (λ k. take (length f) l ++ k) (drop_of_length-le f h) ∙ append-nil (take (length f) l)

-- One more entry is a store at the count of those before, saturated or not: past the slice it does nothing.
laid_more : (l f : List ℕ) (x : ℕ) → length f ≤ most → set (laid l f) (saturated (length l)) x ≡ laid (l ++ x ∷ []) f
laid_more l f x m = go (dec_lt (length l) (length f))
  where
    more : length (l ++ x ∷ []) ≡ suc (length l)
    more = simp length-append (omega arith)

    go : Dec (length l < length f) → set (laid l f) (saturated (length l)) x ≡ laid (l ++ x ∷ []) f
    go (yes h) =
        let k : saturated (length l) ≡ length l = omega arith in
        let g : length (l ++ x ∷ []) ≤ length f = omega (arith, more) in
        ap (λ j. set (laid l f) j x) k
        ∙ ap (λ d. set d (length l) x) (laid_in l f (omega arith) ∙ ap (λ d. l ++ d) (drop-cons f (length l) 0 h))
        ∙ set_at l (get_or f (length l) 0) (drop (suc (length l)) f) x (length l) refl
        ∙ sym (append_snoc l x (drop (suc (length l)) f))
        ∙ ap (λ j. l ++ (x ∷ []) ++ drop j f) (sym more)
        ∙ sym (laid_in (l ++ x ∷ []) f g)
    go (no h) =
        let b : length f ≤ length l = omega arith in
        let g : length f ≤ length (l ++ x ∷ []) = omega (arith, more) in
        let w : length (laid l f) ≡ length f = ap length (laid_out l f b) ∙ length-take-le (length f) l b in
        set_out (laid l f) (saturated (length l)) x (omega arith)
        ∙ laid_out l f b
        ∙ sym (take-append-le (length f) l (x ∷ []) b)
        ∙ sym (laid_out (l ++ x ∷ []) f g)

pub listing_first : (f : List ℕ) → Listing f f [] 0
listing_first f = record { counts = omega arith; wrote = sym (laid_none f) }

-- One more.
pub listing_more : (f₀ f l : List ℕ) (n x : ℕ) → length f₀ ≤ most → Listing f₀ f l n → Listing f₀ (set f n x) (l ++ x ∷ []) (next n)
listing_more f₀ f l n x m h =
    record {
      counts = count;
      wrote = (λ j. set (h.wrote j) (h.counts j) x) ∙ laid_more l f₀ x m;
    }
  where
    c : n ≡ saturated (length l)
    c = h.counts

    count : next n ≡ saturated (length (l ++ x ∷ []))
    count = simp length-append (omega arith)
