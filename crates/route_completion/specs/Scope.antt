-- Where every break and every continue has its target, a unit ends with 0, 1, 2 or 3.
use Rattle.std.specs.Prelude.{◌≡◌, Bool}
use Rattle.std.proofs.Math.Bool.{true}
use Rattle.route_completion.specs.Sem.{Out, Comp, normal, returns, throws, spent}

pub record Base (σ : Comp → Bool) : Type 0 where
  pub falls : σ normal ≡ true
  pub returned : σ returns ≡ true
  pub thrown : σ throws ≡ true
  pub stopped : σ spent ≡ true

abbrev pub In : (Comp → Bool) → Out → Type 0
In σ o = σ o.comp ≡ true
