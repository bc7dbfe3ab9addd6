use Prim.Native.Nat.{◌+◌, ◌-◌, ◌*◌, ◌≤◌}
use mathlib.Core.Path.{◌≡◌}
use mathlib.Core.List.{[]}
use lib.ListN as L
use lib.ListN.{drop}
use Rattle.table_records.specs.Table.{count}
use Rattle.route_completion.specs.Sem.{rounds, exec, execs}
use Rattle.code_tree.specs.Parts.{up_of, parts}
use Rattle.code_tree.specs.Statements.{test_at, list_of, one_of}
use Rattle.route_walk.specs.declared.Progress.{Progress}
use Rattle.route_walk.specs.declared.Completion.{Completion}
use Rattle.route_walk.specs.Walk.{Walked}
use Rattle.route_steps.specs.Statement.{labels_of, statement as statementOf}
use Prim.Native.Nat.{◌<◌}
use Rattle.route_walk.proofs.+walk.Given as goal

abbrev pub decreases-walk_caught : goal.decreases-walk_caught
decreases-walk_caught l = 4 * (count l.given.now.nodes - l.n.0) + 1

abbrev pub decreases-walk_if : goal.decreases-walk_if
decreases-walk_if l = 4 * (count l.given.now.nodes - l.n.0) + 2

abbrev pub decreases-walk_loop : goal.decreases-walk_loop
decreases-walk_loop l = 4 * (count l.given.now.nodes - l.n.0) + 2

abbrev pub decreases-walk_node : goal.decreases-walk_node
decreases-walk_node l = 4 * (count l.given.now.nodes - l.n.0) + 3

abbrev pub decreases-walk_one : goal.decreases-walk_one
decreases-walk_one l = 4 * (count l.given.now.nodes - l.n.0)

abbrev pub decreases-walk_parts : goal.decreases-walk_parts
decreases-walk_parts l = 4 * (count l.given.now.nodes - l.n.0)

abbrev pub invariant-walk_parts-loop-c : goal.invariant-walk_parts-loop-c
invariant-walk_parts-loop-c l = (l.n.0 < l.i) × (l.i ≤ count l.given.nodes) × (l.progress.taken ≤ L.length l.given.answers) × ((r : Progress) (how : Completion) → Walked l.given l.progress (execs (list_of (statementOf l.given.nodes l.given.names) (parts l.given.nodes l.n.0 l.i)) (drop l.progress.taken l.given.answers)) r how → Walked l.given l.initial.progress (execs (list_of (statementOf l.given.nodes l.given.names) (parts l.given.nodes l.n.0 l.from)) (drop l.initial.progress.taken l.given.answers)) r how)

abbrev pub decreases-walk_parts-loop-c : goal.decreases-walk_parts-loop-c
decreases-walk_parts-loop-c l = count l.given.nodes - l.i

abbrev pub decreases-walk_switch : goal.decreases-walk_switch
decreases-walk_switch l = 4 * (count l.given.now.nodes - l.n.0) + 2

abbrev pub decreases-walk_try : goal.decreases-walk_try
decreases-walk_try l = 4 * (count l.given.now.nodes - l.n.0) + 2

abbrev pub decreases-walk_turns : goal.decreases-walk_turns
decreases-walk_turns l = 4 * (count l.given.now.nodes - l.n.0) + 1

abbrev pub invariant-walk_turns-loop-a : goal.invariant-walk_turns-loop-a
invariant-walk_turns-loop-a l = (l.progress.taken ≤ L.length l.given.answers) × (l.heeds ≡ test_at l.given.nodes l.n.0) × ((r : Progress) (how : Completion) → Walked l.given l.progress (rounds l.n.0 (test_at l.given.nodes l.n.0) (labels_of l.given.nodes l.given.names (up_of l.given.nodes l.n.0)) (λ x. exec (one_of (statementOf l.given.nodes l.given.names) (parts l.given.nodes l.n.0 (l.n.0 + 1))) [] x) (drop l.progress.taken l.given.answers)) r how → Walked l.given l.initial.progress (rounds l.n.0 (test_at l.given.nodes l.n.0) (labels_of l.given.nodes l.given.names (up_of l.given.nodes l.n.0)) (λ x. exec (one_of (statementOf l.given.nodes l.given.names) (parts l.given.nodes l.n.0 (l.n.0 + 1))) [] x) (drop l.initial.progress.taken l.given.answers)) r how)

abbrev pub decreases-walk_turns-loop-a : goal.decreases-walk_turns-loop-a
decreases-walk_turns-loop-a l = L.length l.given.answers - l.progress.taken
