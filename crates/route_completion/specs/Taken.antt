-- The answers taken are as many as the entries that take one; what is left is the list without them.
use Rattle.std.specs.Prelude.{ℕ, ◌≡◌, List, drop}
use Rattle.route_completion.specs.Sem.{Out}
use Rattle.route_completion.specs.Route.{asks}

-- Of the answers qs the outcome has taken as many as its entries ask for.
abbrev pub Takes : Out → List ℕ → Type 0
Takes o qs = drop (asks o.nodes) qs ≡ o.rest

abbrev pub Taking : (List ℕ → Out) → Type 0
Taking k = (r : List ℕ) → Takes (k r) r
