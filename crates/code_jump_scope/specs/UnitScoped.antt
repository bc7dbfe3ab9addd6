-- THE LAW: where each break and continue has its target, the statements of every unit are scoped, with `try` in any child order and static blocks. The search for a target
-- stops at the nearest unit, so that no jump leaves a static block that is entered.
use Prim.Native.Nat.{ℕ, ◌≤◌, ◌<◌}
use Rattle.std.specs.Prelude.{◌≡◌}
use mathlib.Core.List.{List}
use Rattle.std.proofs.Math.Bool.{true}
use Rattle.table_records.specs.Table.{kind_of, count}
use Rattle.table_records.specs.Kinds as k
use Rattle.refusal_state.specs.Targets.{has_target}

-- Every Break and Continue of the tree has its target inside its nearest unit.
abbrev pub Targeted : List ℕ → List ℕ → Type 0
Targeted ns names = (n : ℕ) → n < count ns → k.Break ≤ kind_of ns n → kind_of ns n ≤ k.Continue → has_target ns names n ≡ true
