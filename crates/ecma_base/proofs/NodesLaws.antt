-- What one check raises, where it raises one finding.
use Rattle.std.specs.Prelude.{ℕ, ◌≡◌, refl, Bool, true, false, cond, None}
use Rattle.std.proofs.Common.{eq-eqb}
use Rattle.check_diagnostics.specs.Finding.{error_span}
use Rattle.ecma_trees.specs.Walk.{only}
use Rattle.ecma_base.specs.Nodes.{of_check}

-- one finding where a test says so
pub if_only : (c s e n x : ℕ) (b : Bool) → of_check c (cond b (error_span c n s e x) None) ≡ only b n
if_only c s e n x true = rw (eq-eqb c c refl)
if_only c s e n x false = refl
