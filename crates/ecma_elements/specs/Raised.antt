-- Where findings are told: lists of nodes that the theorems speak of.
use Rattle.std.specs.Prelude.{ℕ, List, [], ◌∷◌}
use Rattle.ecma_trees.specs.Walk.{each}

-- n for each member of a list
abbrev pub times : ℕ → List ℕ → List ℕ
times n l = each (λ x. n ∷ []) l
