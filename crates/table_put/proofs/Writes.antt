-- Numbers written to a slice one after another.
use Rattle.std.specs.Prelude.{get_or}
use Rattle.std.proofs.Common.{length-drop, drop_of_length-le, drop-cons}
use Rattle.std.specs.Prelude.{ℕ, suc, ◌+◌, ◌≤◌, ◌<◌, ◌≡◌, refl, List, [], ◌∷◌, ◌++◌, length, set, take, drop}
use Rattle.std.proofs.Common.{ap, sym, subst, ◌∙◌, append_assoc, append-nil, add-one, arith, length-append, length-take-le, take_at, drop_at, drop-drop}
use Rattle.std.proofs.lemmas.List.{set_split}
use Rattle.base_common.specs.Wrote.{Wrote, put}
use Rattle.base_common.proofs.WroteLaws.{wrote_put, wrote_end}

-- a number written behind those already written
pub wrote_one : (f₀ f : List ℕ) (w v : ℕ) (rest whole : List ℕ) → Wrote f₀ f w (v ∷ rest) whole → Wrote f₀ (set f w v) (w + 1) rest whole
wrote_one f₀ f w v rest whole o =
    let s = o.same in
    let r = o.room in
    let h : w < length f = omega arith in
    subst (λ (g : List ℕ). Wrote f₀ g (w + 1) rest whole) (sym (set_split f w v h ∙ rw (add-one w) (sym (append_assoc (take w f) (v ∷ []) (drop (suc w) f)))))
    (wrote_put f₀ f w (v ∷ []) rest whole o)

-- a list put into a slice at place w: how its writing starts, and how it ends
module _ (f₀ : List ℕ) (w : ℕ) (vs : List ℕ) (fit : w + length vs ≤ length f₀) where
  pub put_start : Wrote f₀ f₀ w vs (take w f₀ ++ vs)
  put_start = record { same = refl; room = fit; head = refl; tail = refl }

  pub put_end : (f : List ℕ) (k : ℕ) → Wrote f₀ f k [] (take w f₀ ++ vs) → f ≡ put f₀ w vs
  put_end f k o =
      let t : length (take w f₀) ≡ w = length-take-le w f₀ (omega arith) in
      let e : length (take w f₀ ++ vs) ≡ w + length vs = length-append (take w f₀) vs ∙ ap (λ (j : ℕ). j + length vs) t in
      wrote_end f₀ f k (take w f₀ ++ vs) o ∙ rw e

-- nothing is left to write
pub wrote_done : (f₀ f : List ℕ) (k : ℕ) (whole : List ℕ) → Wrote f₀ f k [] whole → (k ≡ length whole) × (f ≡ whole ++ drop (length whole) f₀)
wrote_done f₀ f k whole o =
    let s = o.same in
    let r = o.room in
    (sym (length-take-le k f (omega arith)) ∙ ap length (sym (append-nil (take k f)) ∙ o.head), wrote_end f₀ f k whole o)

-- two lists put one behind the other
pub put_put : (f : List ℕ) (w : ℕ) (a b : List ℕ) → w + length a + length b ≤ length f → put (put f w a) (w + length a) b ≡ put f w (a ++ b)
put_put f w a b h =
    let t : length (take w f) ≡ w = length-take-le w f (omega arith) in
    let p : length (take w f ++ a) ≡ w + length a = length-append (take w f) a ∙ ap (λ (k : ℕ). k + length a) t in
    let d : drop (w + length a + length b) (take w f ++ a ++ drop (w + length a) f) ≡ drop (w + length a + length b) f =
    sym (drop-drop (length b) (w + length a) (take w f ++ a ++ drop (w + length a) f)) ∙ ap (drop (length b)) (drop_at (take w f ++ a) (drop (w + length a) f) (w + length a) p) ∙ drop-drop (length b) (w + length a) f in
    let e : w + length (a ++ b) ≡ w + length a + length b = omega (arith, length-append a b) in
    rw (take_at (take w f ++ a) (drop (w + length a) f) (w + length a) p, d, e) (ap (λ (x : List ℕ). x ++ drop (w + length a + length b) f) (append_assoc (take w f) a b))

module _ (f₀ f : List ℕ) (w : ℕ) (src : List ℕ) (i : ℕ) (whole : List ℕ) where
  pub copy_turn : i < length src → Wrote f₀ f w (drop i src) whole → Wrote f₀ (set f w (get_or src i 0)) (w + 1) (drop (i + 1) src) whole
  copy_turn h o = wrote_one f₀ f w (get_or src i 0) (drop (i + 1) src) whole (subst (λ r. Wrote f₀ f w r whole) (rw (add-one i) (drop-cons src i 0 h)) o)

  pub copy_room : i < length src → Wrote f₀ f w (drop i src) whole → w < length f
  copy_room h o =
      let l = length-drop i src in
      let r = o.room in
      let s = o.same in
      omega arith

  pub copy_end : length src ≤ i → Wrote f₀ f w (drop i src) whole → Wrote f₀ f w [] whole
  copy_end h o = rw (drop_of_length-le src h) at o
