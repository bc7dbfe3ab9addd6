-- Numbers stored one after the other, as one list put there.
use Rattle.std.specs.Prelude.{suc}
use Rattle.std.proofs.Common.{arith}
use Rattle.std.proofs.Math.Numerals.{add-two, add-three, add-four, add_five, add_six, add_seven, add_eight}
use Rattle.std.specs.Prelude.{ℕ, ◌+◌, ◌≤◌, ◌≡◌, List, [], ◌∷◌, length, set}
use Rattle.std.proofs.Common.{add-one}
use Rattle.std.proofs.lemmas.List.Edits.{sets-eq}
use Rattle.base_common.specs.Wrote.{put}

module _ (f : List ℕ) (w : ℕ) where
  pub put_two : (a b : ℕ) → w + 2 ≤ length f → set (set f w a) (w + 1) b ≡ put f w (a ∷ b ∷ [])
  put_two a b h = rw (add-one w) (sets-eq (a ∷ b ∷ []) f w h)

add_nine : (n : ℕ) → n + 9 ≡ suc (suc (suc (suc (suc (suc (suc (suc (suc n))))))))
add_nine n = omega arith

module _ (f : List ℕ) (w : ℕ) where
  pub put_ten : (a b c d e p q r s t : ℕ) → w + 10 ≤ length f → set (set (set (set (set (set (set (set (set (set f w a) (w + 1) b) (w + 2) c) (w + 3) d) (w + 4) e) (w + 5) p) (w + 6) q) (w + 7) r) (w + 8) s) (w + 9) t ≡ put f w (a ∷ b ∷ c ∷ d ∷ e ∷ p ∷ q ∷ r ∷ s ∷ t ∷ [])
  put_ten a b c d e p q r s t h = rw (add-one w, add-two w, add-three w, add-four w, add_five w, add_six w, add_seven w, add_eight w, add_nine w) (sets-eq (a ∷ b ∷ c ∷ d ∷ e ∷ p ∷ q ∷ r ∷ s ∷ t ∷ []) f w h)
