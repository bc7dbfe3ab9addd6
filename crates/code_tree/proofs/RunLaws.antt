-- A machine with room for 512 pending ends runs the code of every unit of a well-formed table as the completion rules say.
use Rattle.std.specs.Prelude.{ℕ, ◌≡◌, List, [], length}
use Rattle.table_records.specs.Facts.{Tree}
use Rattle.route_completion.specs.Sem.{execs}
use Rattle.code_flat.specs.Code.{unit}
use Rattle.code_flat.specs.Machine.{run, result}
use Rattle.code_flat.proofs.ClaimsLaws.{unit_runs}
use Rattle.code_tree.specs.Statements.{unit_of}
use Rattle.code_tree.proofs.RoomLaws.{unit_room_lem}

pub unit_runs_lem : (ns names : List ℕ) → Tree ns → (u : ℕ) (qs : List ℕ)
    → run 512 (unit (unit_of ns names u)) (length (unit (unit_of ns names u))) 0 [] qs ≡ result (execs (unit_of ns names u) qs)
unit_runs_lem ns names t u qs = unit_runs 512 (unit_of ns names u) (unit_room_lem ns names t u) qs
