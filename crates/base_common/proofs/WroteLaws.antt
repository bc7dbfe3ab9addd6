-- Laws of a loop that writes a list to the front of a slice: its start, a turn, its end.
use Rattle.std.specs.Prelude.{ℕ, ◌+◌, ◌≤◌, ◌≡◌, refl, List, [], ◌∷◌, ◌++◌, set, length, take, drop}
use Rattle.std.proofs.Common.{ap, sym, ◌∙◌, append_assoc, append-nil, add-one, arith, length-append, length-take, length-drop, take-append-drop, take_at, drop_at, drop-drop, length-take-le}
use Rattle.std.proofs.Math.Numerals.{add-two, add-three, add-four, add_five, add_six}
use Rattle.std.proofs.lemmas.List.Edits.{sets-eq}
use Rattle.base_common.specs.Wrote.{Wrote, put}

pub wrote_start : (f₀ whole : List ℕ) → length whole ≤ length f₀ → Wrote f₀ f₀ 0 whole whole
wrote_start f₀ whole h = record { same = refl; room = omega arith; head = refl; tail = refl }

pub length_put : (f : List ℕ) (w : ℕ) (vs : List ℕ) → w + length vs ≤ length f → length (put f w vs) ≡ length f
length_put f w vs h = simp (length-append, length-take, length-drop) (omega arith)

module _ (f₀ f : List ℕ) (w : ℕ) (vs rest whole : List ℕ) where
  pub wrote_put : Wrote f₀ f w (vs ++ rest) whole → Wrote f₀ (put f w vs) (w + length vs) rest whole
  wrote_put o =
      let l : length (vs ++ rest) ≡ length vs + length rest = length-append vs rest in
      let s = o.same in
      let r = o.room in
      let t : length (take w f) ≡ w = length-take-le w f (omega arith) in
      let lp : length (take w f ++ vs) ≡ w + length vs = length-append (take w f) vs ∙ ap (λ (k : ℕ). k + length vs) t in
      record {
        same = length_put f w vs (omega arith) ∙ s;
        room = omega arith;
        head = rw (take_at (take w f ++ vs) (drop (w + length vs) f) (w + length vs) lp, append_assoc) o.head;
        tail = rw (drop_at (take w f ++ vs) (drop (w + length vs) f) (w + length vs) lp)
            (sym (drop-drop (length vs) w f) ∙ ap (drop (length vs)) o.tail ∙ drop-drop (length vs) w f₀);
      }

pub wrote_end : (f₀ f : List ℕ) (w : ℕ) (whole : List ℕ) → Wrote f₀ f w [] whole → f ≡ whole ++ drop (length whole) f₀
wrote_end f₀ f w whole o =
    let h : take w f ≡ whole = sym (append-nil (take w f)) ∙ o.head in
    let s = o.same in
    let r = o.room in
    let t : length (take w f) ≡ w = length-take-le w f (omega arith) in
    let l : length whole ≡ w = ap length (sym h) ∙ t in
    rw l (sym (take-append-drop w f) ∙ rw (h, o.tail))

-- seven stores in a row
pub put_seven : (f : List ℕ) (w a b c d e g h : ℕ) → w + 7 ≤ length f
    → set (set (set (set (set (set (set f w a) (w + 1) b) (w + 2) c) (w + 3) d) (w + 4) e) (w + 5) g) (w + 6) h ≡ put f w (a ∷ b ∷ c ∷ d ∷ e ∷ g ∷ h ∷ [])
put_seven f w a b c d e g h l = rw (add-one w, add-two w, add-three w, add-four w, add_five w, add_six w) (sets-eq (a ∷ b ∷ c ∷ d ∷ e ∷ g ∷ h ∷ []) f w l)
