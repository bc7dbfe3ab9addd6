-- What a function that raises findings does to the slice.
use Rattle.std.specs.Prelude.{ℕ, ◌+◌, ◌*◌, ◌≡◌, List, length}
use Rattle.check_diagnostics.specs.declared.Finding.{Finding}
use Rattle.check_diagnostics.specs.declared.Findings.{Findings}
use Rattle.check_diagnostics.specs.Finding.{sink}

-- from `at` on the slice s takes the list l, which gives s'; w is the place behind it
pub record Raises (s s' : List ℕ) (at w : ℕ) (l : List Finding) : Type 0 where
  pub place : w ≡ at + 7 * length l
  pub slice : s' ≡ sink s at l

-- the slice that was lent takes the list l behind what was raised before
pub record Adds (before after : Findings) (l : List Finding) : Type 0 where
  pub same_slice : after.slice.ghost_name ≡ before.slice.ghost_name
  pub raises : Raises before.slice.now after.slice.now before.raised after.raised l
