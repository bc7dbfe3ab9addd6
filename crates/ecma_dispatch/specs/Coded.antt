-- Lists whose findings have certain codes only.
use Rattle.std.specs.Prelude.{ℕ, ◌≡◌, true}
use mathlib.Core.List.{List}
use Rattle.base_common.specs.Upto.{all}
use Rattle.base_walk.specs.On.{member}
use Rattle.check_diagnostics.specs.declared.Finding.{Finding}

-- every finding of the list has one of these codes
pub record Coded (cs : List ℕ) (fs : List Finding) : Type 0 where
  pub each : all (λ f. member f.code cs) fs ≡ true
