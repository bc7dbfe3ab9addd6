-- Laws of one more instruction: what begins before the next place, and how much is kept before it.
use Prim.Native.Nat.{ℕ, ◌+◌, ◌<◌}
use Rattle.std.specs.Prelude.{◌≡◌, ◌⊎◌}
use Rattle.std.proofs.Math.Path.{sym, ap}
use Rattle.std.proofs.Common.{◌∙◌, inl, inr}
use mathlib.Core.List.{List}
use native.Mathlib.Omega.{arith}
use Rattle.std.proofs.Math.Decide.{dec_lt}
use Rattle.route_completion.specs.Sem.{pick, elem}
use Rattle.code_valid.specs.Instrs.{len, parse, find}
use Rattle.code_valid.specs.Valid.{Valid}
use Rattle.code_shorten.specs.Sound.{Begin, dec_eq, len_pos}
use Rattle.code_shorten.specs.Closes.{In}
use Rattle.code_pass.specs.Stages.{kept_places, new_place, kept_to, sent_on}
use Rattle.code_pass.proofs.KeptLaws.{kept_less, kept_parse}
use Rattle.code_mark.proofs.PlaceLaws.{no_overlap}
use Rattle.code_mark.proofs.KeptLaws.{kept_new, kept_more}

module _ (C : List ℕ) (v : Valid C) where
  -- The numbers of a kept instruction before p come to stand before what is kept from p on.
  pub old_low : (p o j : ℕ) → In (kept_places C) o → o < p → j < len (find (sent_on C) 0 o) → new_place C o + j < kept_to C p
  old_low p o j k l m = omega (arith, kept_less C v o p k l, kept_new C v o (kept_parse C v o k))

  module _ (p : ℕ) (b : Begin (parse C) p) (n : ℕ) (e : n ≡ len (find (parse C) 0 p)) where
    pub begins_before : (o : ℕ) → Begin (parse C) o → o < p + n → (o < p) ⊎ (o ≡ p)
    begins_before o c m = go (dec_lt o p) (dec_eq o p)
      where
        go : Dec (o < p) → Dec (o ≡ p) → (o < p) ⊎ (o ≡ p)
        go (yes a) q = inl a
        go (no a) (yes q) = inr q
        go (no a) (no q) = absurd (omega (arith, e, no_overlap C v p b o c (omega arith)))

    pub kept_sum : (q : ℕ) → q ≡ kept_to C p → kept_to C (p + n) ≡ q + pick (elem p (kept_places C)) n 0
    kept_sum q w =
        kept_more C v p (p + n) b (omega (arith, e, len_pos (find (parse C) 0 p) b)) (omega (arith, e))
        ∙ ap (λ k. kept_to C p + pick (elem p (kept_places C)) k 0) (sym e) ∙ ap (λ k. k + pick (elem p (kept_places C)) n 0) (sym w)
