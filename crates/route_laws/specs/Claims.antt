-- One answer changed, the laws: "Let two answer lists of one length differ only at position k, from 0. The two routes are equal up to and including the
-- entry that takes answer k. If the first route takes k answers or fewer, they are equal to the end. Each route has at most (answers taken + 1)
-- × (nodes of the unit) entries."
use Rattle.std.specs.Prelude.{ℕ, ◌+◌, ◌*◌, ◌≤◌, ◌≡◌, List, length, take}
use Rattle.route_completion.specs.Tree.{Stmts}
use Rattle.route_completion.specs.Sem.{execs}
use Rattle.route_completion.specs.Route.{Route, route}
use Rattle.code_flat.specs.Machine.{started, code_route}
use Rattle.route_laws.specs.Changed.{up_to}
use Rattle.route_laws.specs.Shared.{shared}

-- Of the routes of a unit, by the completion rules, with try and without:
pub record Compared (ss : Stmts) (k : ℕ) (qs ps : List ℕ) : Type 0 where
  -- the entries are equal up to and including the one that takes answer k,
  pub entries : up_to k (execs ss qs).nodes ≡ up_to k (execs ss ps).nodes
  -- .. so that the lists are equal that far,
  pub lists : take (length (up_to k (execs ss qs).nodes)) (route ss qs).list ≡ take (length (up_to k (execs ss qs).nodes)) (route ss ps).list
  -- .. the call that gives the length of the longest beginning that they share gives at least that,
  pub shares : length (up_to k (execs ss qs).nodes) ≤ shared (route ss qs).list (route ss ps).list
  -- .. and list, end and answers taken are equal if the first route takes k answers or fewer.
  pub same : (route ss qs).taken ≤ k → route ss qs ≡ route ss ps

-- Of the runs of any list of numbers as code:
pub record ComparedRuns (C : List ℕ) (k : ℕ) (qs ps : List ℕ) : Type 0 where
  pub entries : up_to k (started C qs).nodes ≡ up_to k (started C ps).nodes
  pub lists : take (length (up_to k (started C qs).nodes)) (code_route C qs).list ≡ take (length (up_to k (started C qs).nodes)) (code_route C ps).list
  pub shares : length (up_to k (started C qs).nodes) ≤ shared (code_route C qs).list (code_route C ps).list
  pub same : (code_route C qs).taken ≤ k → code_route C qs ≡ code_route C ps

-- "at most (answers taken + 1) × (nodes of the unit) entries", for a unit of n nodes.
abbrev pub Short : ℕ → Route → Type 0
Short n r = length r.list ≤ (r.taken + 1) * n
