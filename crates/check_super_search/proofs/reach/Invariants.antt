-- `check_super_search::reach` meets its contract: what is left of the search equals the whole, scope by scope, and node by node at a class.
use Rattle.check_super_search.specs.Search.{scopes_in, at_most, AroundSuper}
use Rattle.check_supers.specs.Super.{place_of, reach_from, reach_of, body_of}
use Rattle.table_children.specs.Children.{below}
use Rattle.table_records.specs.Table.{count}
use mathlib.Core.Path.{◌≡◌}
use Prim.Native.Nat.{◌<◌}
use Rattle.check_super_search.proofs.reach.Given as goal

abbrev pub invariant-loop-x : goal.invariant-loop-x
invariant-loop-x l = (l.x.0 < count l.nodes) × (place_of l.nodes l.x.0 ≡ place_of l.nodes l.initial.x.0) × (l.class ≡ l.initial.class)

abbrev pub decreases-loop-x : goal.decreases-loop-x
decreases-loop-x l = l.x.0

abbrev pub invariant-scopes : goal.invariant-scopes
invariant-scopes l = AroundSuper l.nodes l.scopes l.n.0 l.left × (below l.nodes (body_of l.class)) × (l.start.0 < count l.nodes) × (reach_from l.nodes l.scopes l.n.0 l.call (scopes_in l.scopes l.left) (body_of l.class) l.start.0 ≡ reach_of l.nodes l.scopes l.n.0)

abbrev pub decreases-scopes : goal.decreases-scopes
decreases-scopes l = at_most l.left
