-- The law of marks: "For a mark taken up on the tables and unit of all its stops, the list so far followed by what comes after, if not
-- stopped again, equals the route, its end too, for the answers taken so far joined with the further ones."
use Rattle.std.specs.Prelude.{ℕ, ◌+◌, ◌≤◌, ◌<◌, ◌≡◌, List, [], ◌++◌, map, length, drop, take}
use Rattle.route_completion.specs.Tree.{Stmts}
use Rattle.route_completion.specs.Sem.{Entry}
use Rattle.route_completion.specs.Route.{asks, node_of, route}
use Rattle.code_flat.specs.Code.{unit}
use Rattle.code_flat.specs.Machine.{Res, pre, Pos}
use Rattle.code_marks.specs.Stop.{held, stopped, taken_up, Call, so_far}
use Rattle.code_marks.specs.Begins.{Begins}

-- One stop, behind n answers of qs, from the start or a mark p: what was listed so far, es, and the mark, m.
pub record Stopped (lim : ℕ) (C : List ℕ) (n : ℕ) (p : Pos) (qs : List ℕ) (es : List Entry) (m : Pos) (left : List ℕ) : Type 0 where
  -- The run for the answers taken so far joined with any further ones: the list so far, and then the run from the mark on. Its end too, and the answers left.
  pub split : (more : List ℕ) → taken_up lim C p (take n qs ++ more) ≡ pre es (taken_up lim C m more)
  -- Those set the same mark.
  pub again : (more : List ℕ) → stopped lim C n p (take n qs ++ more) ≡ held es m more
  -- So many answers are taken, and the others left.
  pub taken : asks es ≡ n
  pub others : drop n qs ≡ left

-- A run that ends before the stop: it is the run.
pub record Ended (lim : ℕ) (C : List ℕ) (n : ℕ) (p : Pos) (qs : List ℕ) (r : Res) : Type 0 where
  pub whole : taken_up lim C p qs ≡ r
  pub fewer : asks r.nodes < n

-- Any number of stops, one call after another, on any list of numbers as code.
pub record Marked (lim : ℕ) (C : List ℕ) (p : Pos) (cs : List Call) (es : List Entry) (m : Pos) : Type 0 where
  pub split : (more : List ℕ) → taken_up lim C p (so_far cs ++ more) ≡ pre es (taken_up lim C m more)
  pub taken : asks es ≡ length (so_far cs)
  -- The mark is that of one stop, behind the answers taken so far.
  pub direct : stopped lim C (length (so_far cs)) p (so_far cs) ≡ held es m []

-- .. on the code of a unit, from its start: the route by the completion rules.
pub record MarkedRoute (lim : ℕ) (ss : Stmts) (cs : List Call) (es : List Entry) (m : Pos) (more : List ℕ) : Type 0 where
  pub list : (route ss (so_far cs ++ more)).list ≡ map node_of es ++ map node_of (taken_up lim (unit ss) m more).nodes
  pub end : (route ss (so_far cs ++ more)).end ≡ (taken_up lim (unit ss) m more).end
  pub taken : (route ss (so_far cs ++ more)).taken ≡ length (so_far cs) + asks (taken_up lim (unit ss) m more).nodes

-- Such a mark is never turned down: an instruction begins at its place (17), and its pending ends find room.
pub record MarkKept (lim : ℕ) (ss : Stmts) (m : Pos) : Type 0 where
  pub place : Begins (unit ss) m.pc
  pub room : length m.stack ≤ lim
