-- THE CLAIM OF ROUTES, over tables: for every tree and unit that is not refused, and every list of answers, the flat code, made before any answer
-- is known, gives the list, the answers taken and the end of the standard's completion rules.
use Rattle.std.specs.Prelude.{ℕ, ◌*◌, ◌≤◌, ◌≡◌, List, ◌∷◌, length, drop}
use Rattle.route_completion.specs.Sem.{execs}
use Rattle.route_completion.specs.Route.{route, parts, AllOnce}
use Rattle.route_completion.specs.Entries.{Each}
use Rattle.code_flat.specs.Code.{unit}
use Rattle.code_flat.specs.Machine.{started, code_route}
use Rattle.code_flat.specs.Own.{s_unit, total, shapes_all}
use Rattle.code_tree.specs.Statements.{unit_of}
use Rattle.code_length.specs.Length.{code_length}
use Rattle.code_entries.specs.Asking.{ByKind}

-- What holds of the unit u and the answers.
pub record Routes (ns names : List ℕ) (u : ℕ) (answers : List ℕ) : Type 0 where
  -- The run of the code lists the same statements in the same order, takes as many answers, and ends with the same number as the completion rules say,
  pub same : code_route (unit (unit_of ns names u)) answers ≡ route (unit_of ns names u) answers
  -- .. and its entries, those that take an answer among them, are the completion rules' own,
  pub entries : (started (unit (unit_of ns names u)) answers).nodes ≡ (execs (unit_of ns names u) answers).nodes
  -- .. each of which takes an answer exactly if its node is a loop, an If or a Switch,
  pub asking : Each (ByKind ns) (started (unit (unit_of ns names u)) answers).nodes
  -- .. and leaves the answers that follow those taken.
  pub left : (started (unit (unit_of ns names u)) answers).rest ≡ drop (route (unit_of ns names u) answers).taken answers
  -- "Ends: 0 fell through, 1 returned, 2 thrown, 3 answers spent"
  pub ends : (route (unit_of ns names u) answers).end ≤ 3
  -- "Cut behind each entry that takes an answer, no part of the list has a statement twice."
  pub once : AllOnce (parts (started (unit (unit_of ns names u)) answers).nodes)
  -- The code's length is the sum of a number for each node of the unit, by its kind, at most 16; it is made without the answers.
  pub long : length (unit (unit_of ns names u)) ≡ total (s_unit ∷ shapes_all (unit_of ns names u))
  pub small : length (unit (unit_of ns names u)) ≤ 16 * length (s_unit ∷ shapes_all (unit_of ns names u))
  -- "The code takes at most 16 numbers per node of the unit": the same sum over the table's own nodes, each by its kind, role and parent's kind, and 8 for the unit itself.
  pub rows : length (unit (unit_of ns names u)) ≡ code_length ns u
