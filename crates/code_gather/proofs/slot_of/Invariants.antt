use lib.ListN.{get_or}
use mathlib.Core.Path.{◌≡◌}
use Prim.Native.Nat.{ℕ, ◌+◌, ◌*◌, ◌-◌, ◌<◌}
use Rattle.code_gather.proofs.slot_of.Given as goal

-- So many slots were looked at, and none says t.
abbrev pub invariant-loop-at : goal.invariant-loop-at
invariant-loop-at l = (n : ℕ) × (l.at ≡ l.block + 3 * n) × ((j : ℕ) → j < n → get_or l.code (l.block + 3 * j) 0 ≡ l.t → ⊥)

abbrev pub decreases-loop-at : goal.decreases-loop-at
decreases-loop-at l = l.split - l.at
