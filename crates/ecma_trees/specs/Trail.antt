-- The way up from a node: the node, its parent, .., up to but not including the program. A step of it is from a node to its parent, so a fold over it sees both.
use Rattle.std.specs.Prelude.{ℕ, zero, suc, Bool, cond}
use mathlib.Core.List.{List, [], ◌∷◌, foldr}
use Rattle.table_records.specs.Table.{parent_of}

-- at most so many steps up
unfoldable pub climb : List ℕ → ℕ → ℕ → List ℕ
climb ns zero i = []
climb ns (suc f) zero = []
climb ns (suc f) (suc i) = suc i ∷ climb ns f (parent_of ns (suc i))

unfoldable pub trail : List ℕ → ℕ → List ℕ
trail ns i = climb ns i i

-- what a node is handed, as a fold over its way up
abbrev pub handed_down : {A : Type 0} → List ℕ → (ℕ → ℕ → A → A) → A → ℕ → A
handed_down ns down d j = foldr (λ k r. down (parent_of ns k) k r) d (trail ns j)

-- the unit that a node is in, where a node may begin a unit with some of its parts only (a method with its body, and not with its computed key)
abbrev pub unit_of : List ℕ → (ℕ → ℕ → Bool) → ℕ → ℕ
unit_of ns edge j = handed_down ns (λ i j r. cond (edge i j) i r) 0 j
