-- How long a route is: a list without repetition fits into each list that holds it, and so does each part of a route, cut behind each entry
-- that takes an answer.
use Rattle.std.specs.Prelude.{ℕ, ◌+◌, List, [], ◌∷◌, length}
use Rattle.route_completion.specs.Route.{Mem}

-- All parts within N.
abbrev pub PartsIn : List ℕ → List (List ℕ) → Type 0
PartsIn N [] = Unit {0}
PartsIn N (p ∷ ps) = ((x : ℕ) → Mem x p → Mem x N) × PartsIn N ps

abbrev pub sum : List (List ℕ) → ℕ
sum [] = 0
sum (p ∷ ps) = length p + sum ps
