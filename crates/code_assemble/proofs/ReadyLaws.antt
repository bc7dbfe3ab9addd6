-- The unit's code by what holds its statements.
use Rattle.std.specs.Prelude.{ℕ, ◌≡◌, List, Some, None}
use Rattle.std.proofs.Math.Path.{ap}
use Rattle.code_flat.specs.Code.{unit, ends, codes}
use Rattle.code_tree.specs.Statements.{holder_of, body_of, unit_by, unit_of}

module _ (ns names : List ℕ) (u : ℕ) where
  pub unit_held : (b : ℕ) → holder_of ns u ≡ Some (record { 0 = b }) → unit_of ns names u ≡ body_of ns names b
  unfolding unit_of
  unit_held b e = ap (unit_by ns names) e

  -- "A function or arrow without FunctionBody lists nothing and ends 0": it has the ends alone.
  pub unit_none : holder_of ns u ≡ None → unit (unit_of ns names u) ≡ ends
  unfolding unit_of unit codes
  unit_none e = ap (λ h. unit (unit_by ns names h)) e
