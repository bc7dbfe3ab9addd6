-- Laws of findings in a slice: piece by piece, all of them where there is room, none in an empty slice.
use Rattle.std.specs.Prelude.{ℕ, suc, ◌+◌, ◌*◌, ◌≤◌, ◌<◌, ◌≡◌, refl, List, [], ◌∷◌, ◌++◌, Bool, true, false, cond, leb, length, take, drop}
use Rattle.std.proofs.Common.{ap, sym, ◌∙◌, append_assoc, append-nil, arith, le-leb, leb-true, length-append, take-append-drop, take_at, drop_at, drop-drop, length-take-le}
use Rattle.std.proofs.lemmas.Bool.{lt-leb}
use Rattle.base_common.specs.Wrote.{put}
use Rattle.base_common.proofs.WroteLaws.{length_put}
use Rattle.check_diagnostics.specs.declared.Finding.{Finding}
use Rattle.check_diagnostics.specs.Finding.{numbers, flat, sink}

pub length_flat_lem : (fs : List Finding) → length (flat fs) ≡ 7 * length fs
unfolding flat
length_flat_lem [] = refl
length_flat_lem (f ∷ fs) = let h = length_flat_lem fs in omega (arith, length-append (numbers f) (flat fs))

-- one finding
abbrev one : List ℕ → ℕ → Finding → List ℕ
one s w f = cond (leb (w + 7) (length s)) (put s w (numbers f)) s

pub one_room_lem : (s : List ℕ) (w : ℕ) (f : Finding) → w + 7 ≤ length s → sink s w (f ∷ []) ≡ put s w (numbers f)
unfolding sink
one_room_lem s w f h = rw (le-leb (w + 7) (length s) h)

pub one_full : (s : List ℕ) (w : ℕ) (f : Finding) → length s < w + 7 → sink s w (f ∷ []) ≡ s
unfolding sink
one_full s w f h = rw (lt-leb (w + 7) (length s) h)

pub sink_nil : (s : List ℕ) (w : ℕ) → sink s w [] ≡ s
unfolding sink
sink_nil s w = refl

-- findings of two checks, one after the other
pub sink_append : (s : List ℕ) (w : ℕ) (fs gs : List Finding) → sink s w (fs ++ gs) ≡ sink (sink s w fs) (w + 7 * length fs) gs
unfolding sink
sink_append s w [] gs = let e : w + 7 * 0 ≡ w = omega arith in rw e
sink_append s w (f ∷ fs) gs =
    let e : w + 7 * suc (length fs) ≡ w + 7 + 7 * length fs = omega arith in
    sink_append (one s w f) (w + 7) fs gs ∙ rw e

one_length : (s : List ℕ) (w : ℕ) (f : Finding) → length (one s w f) ≡ length s
one_length s w f = go (leb (w + 7) (length s)) refl
  where
    go : (b : Bool) → leb (w + 7) (length s) ≡ b → length (cond b (put s w (numbers f)) s) ≡ length s
    go true e = length_put s w (numbers f) (leb-true (w + 7) (length s) e)
    go false e = refl

-- the slice keeps its length
pub sink_length : (s : List ℕ) (w : ℕ) (fs : List Finding) → length (sink s w fs) ≡ length s
unfolding sink
sink_length s w [] = refl
sink_length s w (f ∷ fs) = sink_length (one s w f) (w + 7) fs ∙ one_length s w f

-- an empty slice takes none
pub sink_none : (s : List ℕ) (w : ℕ) (fs : List Finding) → length s ≡ 0 → sink s w fs ≡ s
unfolding sink
sink_none s w [] h = refl
sink_none s w (f ∷ fs) h = rw (lt-leb (w + 7) (length s) (omega arith)) (sink_none s (w + 7) fs h)

-- with room for all of them, they stand in order, and nothing else is changed
put_put : (s : List ℕ) (w : ℕ) (vs us : List ℕ) → w + length vs + length us ≤ length s → put (put s w vs) (w + length vs) us ≡ put s w (vs ++ us)
put_put s w vs us h =
    let t : length (take w s) ≡ w = length-take-le w s (omega arith) in
    let lp : length (take w s ++ vs) ≡ w + length vs = length-append (take w s) vs ∙ ap (λ (k : ℕ). k + length vs) t in
    let la : length (vs ++ us) ≡ length vs + length us = length-append vs us in
    let d : drop (w + length vs + length us) (put s w vs) ≡ drop (w + length (vs ++ us)) s =
    sym (drop-drop (length us) (w + length vs) (put s w vs))
    ∙ ap (drop (length us)) (drop_at (take w s ++ vs) (drop (w + length vs) s) (w + length vs) lp)
    ∙ drop-drop (length us) (w + length vs) s
    ∙ ap (λ (k : ℕ). drop k s) (let e : w + length vs + length us ≡ w + length (vs ++ us) = omega arith in e) in
    rw (take_at (take w s ++ vs) (drop (w + length vs) s) (w + length vs) lp, d) (ap (λ (l : List ℕ). l ++ drop (w + length (vs ++ us)) s) (append_assoc (take w s) vs us))

pub sink_all : (s : List ℕ) (w : ℕ) (fs : List Finding) → w + 7 * length fs ≤ length s → sink s w fs ≡ put s w (flat fs)
unfolding sink flat
sink_all s w [] h =
    let e : w + 0 ≡ w = omega arith in
    rw (e, append-nil) (sym (take-append-drop w s))
sink_all s w (f ∷ fs) h =
    let l = length_flat_lem fs in
    rw (le-leb (w + 7) (length s) (omega arith))
    (sink_all (put s w (numbers f)) (w + 7) fs (let k = length_put s w (numbers f) (omega arith) in omega arith)
    ∙ put_put s w (numbers f) (flat fs) (omega arith))
