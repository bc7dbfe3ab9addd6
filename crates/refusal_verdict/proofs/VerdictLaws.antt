-- What a verdict of none says of its parts.
use Rattle.std.specs.Prelude.{ℕ, ◌≡◌, refl, Bool, true, false, cond, Option, Some, None, Result, Ok, Err, IsErrAnd}
use Rattle.std.proofs.Common.{arith, ap, sym, ◌∙◌}
use Rattle.refusal_verdict.specs.declared.Refusal.{Refusal}
use Rattle.refusal_verdict.specs.declared.Refused.{Refused}
use Rattle.refusal_verdict.specs.declared.Refused.TheVariants.{At}
use Rattle.refusal_verdict.specs.Verdict.{Verdict, Passed, or_next}

pub no_pass : {A : Type 0} → (e : Refused) → Err e ≡ Passed → A
no_pass r e = let z : ◌≡◌ {A = ℕ} 0 1 = cc in absurd (omega arith)

-- there is no place of this refusal, and none of the later ones
pub passed : (k : Refusal) (p : Option ℕ) (r : Verdict) → or_next k p r ≡ Passed → (p ≡ None) × (r ≡ Passed)
passed k (Some j) r e = no_pass (At k j) e
passed k None r e = (refl, e)

-- what `?` hands on
pub handed : {A E : Type 0} (r : Result A E) (e : E) → IsErrAnd r (λ y. y ≡ e) → r ≡ Err e
handed (Ok x) e is = absurd is
handed (Err y) e is = ap Err is

-- a place that a test found: refused, whatever the later ones say
pub stopped : (k : Refusal) (p q : Option ℕ) (r : Verdict) (e : Refused) → p ≡ q → Err e ≡ or_next k p Passed → Err e ≡ or_next k q r
stopped k (Some j) q r e h w = w ∙ ap (λ x. or_next k x r) h
stopped k None q r e h w = no_pass e w

-- it found none: as the later ones say
pub cleared : (k : Refusal) (p q : Option ℕ) → p ≡ q → Passed ≡ or_next k p Passed → q ≡ None
cleared k (Some j) q h w = no_pass (At k j) (sym w)
cleared k None q h w = sym h

pub went_on : (k : Refusal) (p q : Option ℕ) (r : Verdict) → p ≡ q → Passed ≡ or_next k p Passed → or_next k q r ≡ r
went_on k p q r h w = ap (λ x. or_next k x r) (cleared k p q h w)

-- the same of a refusal without a place of its own
pub passed_test : (k : Refusal) (p : ℕ) (x : Bool) (r : Verdict) → cond x (Err (At k p)) r ≡ Passed → (x ≡ false) × (r ≡ Passed)
passed_test k p true r e = no_pass (At k p) e
passed_test k p false r e = (refl, e)

-- two verdicts that differ in the later refusals alone
pub pass_on_lem : (k : Refusal) (p : Option ℕ) (r s : Verdict) → (r ≡ Passed → s ≡ Passed) → or_next k p r ≡ Passed → or_next k p s ≡ Passed
pass_on_lem k (Some j) r s f e = no_pass (At k j) e
pass_on_lem k None r s f e = f e

pub pass_on_test : (k : Refusal) (p : ℕ) (x : Bool) (r s : Verdict) → (r ≡ Passed → s ≡ Passed) → cond x (Err (At k p)) r ≡ Passed → cond x (Err (At k p)) s ≡ Passed
pass_on_test k p true r s f e = no_pass (At k p) e
pass_on_test k p false r s f e = f e
