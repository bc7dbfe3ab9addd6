-- What is proved of units and their code, in one place: for every tree whose finally blocks find room and every list of answers, the
-- machine's run of the unit's code is the unit's route by the completion rules.
use Rattle.std.specs.Prelude.{ℕ, ◌*◌, ◌≤◌, ◌≡◌, List, ◌∷◌, length, drop}
use Rattle.route_completion.specs.Tree.{Stmts}
use Rattle.route_completion.specs.Sem.{execs}
use Rattle.route_completion.specs.Route.{route, ScopedAll, top_scope, Once, nodes_of_all, parts, AllOnce}
use Rattle.code_flat.specs.Code.{unit}
use Rattle.code_flat.specs.Machine.{started, code_route}
use Rattle.code_flat.specs.Own.{s_unit, total, shapes_all}

pub record Claims (ss : Stmts) (qs : List ℕ) : Type 0 where
  -- The list of nodes, the end and the answers taken are those of the completion rules.
  pub same : code_route (unit ss) qs ≡ route ss qs
  -- The entries, those that take an answer among them, are the completion rules' own.
  pub entries : (started (unit ss) qs).nodes ≡ (execs ss qs).nodes
  -- The answers left are the list without those taken.
  pub left : (started (unit ss) qs).rest ≡ drop (route ss qs).taken qs
  -- Where each break and continue has its target, the end is one of document 01's.
  pub ends : ScopedAll ss top_scope → (route ss qs).end ≤ 3
  -- Where the nodes are all different, no part of the list, cut behind each entry that takes an answer, has one twice.
  pub once : Once (nodes_of_all ss) → AllOnce (parts (started (unit ss) qs).nodes)
  -- The code's length is the sum of the nodes' numbers, at most 16 for each.
  pub long : length (unit ss) ≡ total (s_unit ∷ shapes_all ss)
  pub small : length (unit ss) ≤ 16 * length (s_unit ∷ shapes_all ss)
