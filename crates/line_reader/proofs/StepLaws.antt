-- A reader that goes from field to field.
use Rattle.line_reader.specs.declared.Number.{Number}
use Rattle.std.specs.Prelude.{Some, None, ℕ, ◌+◌, ◌-◌, ◌≤◌, ◌≡◌, refl, Bool, true, false, List, leb, length, drop, Option}
use Rattle.std.proofs.Common.{ap, sym, ◌∙◌, arith, leb-true, leb-false, length-drop, drop_of_length-le, drop-drop}
use Rattle.std.proofs.Math.Seq.{drop-length}
use Rattle.line_digits.specs.Number.{is_number}
use Rattle.line_fields.specs.Split.{to_first, field_of, next_of}
use Rattle.line_fields.proofs.SplitLaws.{drop_onward}
use Rattle.line_reader.specs.Step.{past_at, number_at, step_at}

-- a part at the end of a list, found again by its length
drop_back : (l : List ℕ) (m : ℕ) → drop (length l - length (drop m l)) l ≡ drop m l
drop_back l m = go (leb m (length l)) refl
  where
    go : (t : Bool) → leb m (length l) ≡ t → drop (length l - length (drop m l)) l ≡ drop m l
    go true q =
        let h = leb-true m (length l) q in
        let n = length-drop m l in
        let e : length l - length (drop m l) ≡ m = omega arith in
        ap (λ (k : ℕ). drop k l) e
    go false q =
        let h = leb-false m (length l) q in
        let g : length l ≤ m = omega arith in
        let n = length-drop m l in
        let e : length l - length (drop m l) ≡ length l = omega arith in
        ap (λ (k : ℕ). drop k l) e ∙ drop-length l ∙ sym (drop_of_length-le l g)

pub past_drop : (l : List ℕ) (at : ℕ) → drop (past_at l at) l ≡ next_of (drop at l)
unfolding past_at
past_drop l at =
    let k = to_first 44 (drop 1 (drop at l)) in
    let e : next_of (drop at l) ≡ drop (at + 1 + k) l = sym (drop_onward 44 (drop 1 (drop at l))) ∙ ap (drop k) (drop-drop 1 at l) ∙ drop-drop k (at + 1) l in
    rw e (drop_back l (at + 1 + k))

-- what a step tells
module _ (l : List ℕ) (at : ℕ) where
  pub step_number : is_number (field_of (drop at l)) ≡ true → step_at l at ≡ Some (number_at l at)
  unfolding step_at
  step_number e = rw e

  pub step_stop : is_number (field_of (drop at l)) ≡ false → step_at l at ≡ None
  unfolding step_at
  step_stop e = rw e

pub past_is : (l : List ℕ) (at : ℕ) (t : List ℕ) → t ≡ next_of (drop at l) → length l - length t ≡ past_at l at
unfolding past_at
past_is l at t e = rw e

module _ (l : List ℕ) (at : ℕ) where
  pub step_never : is_number (field_of (drop at l)) ≡ true → step_at l at ≡ None → ⊥
  step_never e s =
      let n : ◌≡◌ {A = Option Number} (Some (number_at l at)) None = sym (step_number l at e) ∙ s in
      let z : ◌≡◌ {A = ℕ} 0 1 = cc in
      omega arith
