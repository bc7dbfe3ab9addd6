-- Laws of the call: what its steps hand on, and what it answers.
use Prim.Native.Nat.{ℕ, zero, suc, ◌+◌, ◌≤◌, ◌<◌}
use Rattle.std.specs.Prelude.{◌≡◌, Bool, length, drop, Ok, Err}
use Rattle.std.proofs.Math.Path.{refl, sym, ap, subst}
use Rattle.std.proofs.Common.{◌∙◌}
use Rattle.std.proofs.Math.Bool.{true, false}
use Rattle.std.proofs.Math.ListN.{get_or}
use mathlib.Core.List.{List, [], ◌∷◌, ◌++◌}
use native.Mathlib.Omega.{arith}
use Rattle.route_completion.specs.Sem.{pick, elem}
use Rattle.code_valid.specs.Valid.{Valid, check}
use Rattle.code_shorten.specs.Short.{shorter}
use Rattle.code_pass.specs.Stages.{kept_places, kept_to, mark, marked, Marked, Split, Index}
use Rattle.code_pass.proofs.KeptLaws.{kept_parse}
use Rattle.code_places.specs.Placing.{stride_for, Placed}
use Rattle.code_close.specs.Closing.{Saved}
use Rattle.call_shorten.specs.Shorten.{by, shorten_answer, shorten_slice}

module _ (C f : List ℕ) (v : Valid C) (m : Marked C f) (n split : ℕ) (e : n ≡ length (shorter C)) (cut : Split C split) where
  -- Nothing between the new length and the split is marked.
  unmarked : (x : ℕ) → n ≤ x → x < split → get_or f x 0 ≡ get_or C x 0
  unmarked x l k = m.each x ∙ go (elem x (kept_places C)) refl
    where
      go : (b : Bool) → elem x (kept_places C) ≡ b → marked C x ≡ get_or C x 0
      go true i = absurd (omega (arith, cut.first x (kept_parse C v x i) (omega arith)))
      go false i = let z : get_or C x 0 + 0 ≡ get_or C x 0 = omega arith in ap (λ b. get_or C x 0 + pick b mark 0) i ∙ z

  pub saved_first : (a b c : ℕ) → a ≡ get_or f n 0 → b ≡ get_or f (n + 1) 0 → c ≡ get_or f (n + 2) 0 → Saved C n split (a ∷ b ∷ c ∷ [])
  saved_first a b c ea eb ec = record { each = each }
    where
      each : (k : ℕ) → n + k < split → get_or (a ∷ b ∷ c ∷ []) k 0 ≡ get_or C (n + k) 0
      each zero h = let z : n ≡ n + 0 = omega arith in ea ∙ ap (λ x. get_or f x 0) z ∙ unmarked (n + 0) (omega arith) h
      each (suc zero) h = eb ∙ unmarked (n + 1) (omega arith) h
      each (suc (suc zero)) h = ec ∙ unmarked (n + 2) (omega arith) h
      each (suc (suc (suc k))) h = absurd (omega (arith, cut.near))

  pub placed_first : (begins news : List ℕ) (strides stride front : ℕ) → Index C begins news (stride_for strides (length C)) → stride ≡ stride_for strides (length f) → front ≡ kept_to C split
      → Placed C begins news stride split front
  placed_first begins news strides stride front i s k =
      record { valid = v; index = subst (Index C begins news) (sym (s ∙ ap (stride_for strides) m.same)) i; cut = cut; count = k }

-- 18 with its place, and nothing is changed.
pub refused : (C : List ℕ) (p : ℕ) → check C ≡ Err p → (Err p ≡ shorten_answer C) × (C ≡ shorten_slice C)
unfolding shorten_answer shorten_slice
refused C p e = (sym (ap (λ r. by r (Ok (length (shorter C))) Err) e), sym (ap (λ r. by r (shorter C ++ drop (length (shorter C)) C) (λ q. C)) e))

pub accepted : (C D : List ℕ) (n : ℕ) → Valid C → n ≡ length (shorter C) → D ≡ shorter C ++ drop n C → (Ok n ≡ shorten_answer C) × (D ≡ shorten_slice C)
unfolding shorten_answer shorten_slice
accepted C D n v e d = (
  ap Ok e ∙ sym (ap (λ r. by r (Ok (length (shorter C))) Err) v),
  d ∙ ap (λ k. shorter C ++ drop k C) e ∙ sym (ap (λ r. by r (shorter C ++ drop (length (shorter C)) C) (λ q. C)) v),
)
