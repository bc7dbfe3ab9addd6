-- Refusals in their order: each is looked for over the whole table and given with its lowest place; the first that has one is given.
use Rattle.std.specs.Prelude.{ℕ, Option, Some, None, Result, Ok, Err, ⊤}
use Rattle.refusal_verdict.specs.declared.Refusal.{Refusal}
use Rattle.refusal_verdict.specs.declared.Refused.{Refused}
use Rattle.refusal_verdict.specs.declared.Refused.TheVariants.{At}

-- what tests come to: a refusal, or none
abbrev pub Verdict : Type 0
Verdict = Result ⊤ Refused

abbrev pub Passed : Verdict
Passed = Ok tt

-- refused by this number where there is a place, and else as the later refusals say
abbrev pub or_next : Refusal → Option ℕ → Verdict → Verdict
or_next k (Some p) r = Err (At k p)
or_next k None r = r

-- the answer, or the slice, of a call: by the refusal, or else
abbrev pub unless : {A : Type 0} → Verdict → (Refused → A) → A → A
unless (Err e) f a = f e
unless (Ok u) f a = a
