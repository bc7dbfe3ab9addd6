-- Whatever a unit lists is one of its nodes.
use Rattle.std.specs.Prelude.{ℕ, List}
use Rattle.route_completion.specs.Sem.{Entry}
use Rattle.route_completion.specs.Route.{node_of, Mem}

-- The entry lists a node of N.
abbrev pub In : List ℕ → Entry → Type 0
In N e = Mem (node_of e) N
