-- A list of numbers stands in a code.
use Prim.Native.Nat.{ℕ, suc}
use Rattle.std.specs.Prelude.{◌≡◌, get_or}
use mathlib.Core.List.{List, [], ◌∷◌}

-- The code C has l at the place o.
abbrev pub Has : List ℕ → ℕ → List ℕ → Type 0
Has C o [] = Unit {0}
Has C o (x ∷ l) = (get_or C o 0 ≡ x) × Has C (suc o) l
