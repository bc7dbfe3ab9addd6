-- What is proved of units and their code, in one place: for every tree whose finally blocks find room and every list of answers, the
-- machine's run of the unit's code is the unit's route by the completion rules.
use Rattle.std.specs.Prelude.{ℕ, ◌≤◌, ◌≡◌, List, [], ◌∷◌, ◌≢◌, length}
use Rattle.std.proofs.Common.{sym, ◌∙◌, ap, arith}
use Rattle.route_completion.specs.Tree.{Stmts, NoTryAll}
use Rattle.route_completion.specs.Sem.{Comp, normal, breaks, continues, returns, throws, spent, execs}
use Rattle.route_completion.specs.Route.{end_of, route_of}
use Rattle.route_completion.proofs.TakenLaws.{execs_takes}
use Rattle.route_completion.proofs.ScopeLaws.{scoped_end}
use Rattle.route_completion.proofs.Parts.{parts_once}
use Rattle.code_flat.specs.Code.{unit, sizes, RoomAll}
use Rattle.code_flat.specs.Forward.{gave_up}
use Rattle.code_flat.specs.Machine.{run, room, started, result}
use Rattle.code_flat.proofs.Meet.{meet}
use Rattle.code_flat.proofs.Correct.{unit_correct}
use Rattle.code_flat.proofs.Room.{no_try_room, room_enough}
use Rattle.code_flat.specs.Own.{s_unit, shapes_all}
use Rattle.code_flat.proofs.Sum.{length_sum, total_small}
use Rattle.code_flat.specs.Claims.{Claims}

-- No completion of a unit gives it up.
ended : (x : Comp) → end_of x ≢ gave_up
ended normal e = absurd (omega arith)
ended (breaks l) e = absurd (omega arith)
ended (continues l) e = absurd (omega arith)
ended returns e = absurd (omega arith)
ended throws e = absurd (omega arith)
ended spent e = absurd (omega arith)

-- For every unit and every list of answers: the run of its code is what the unit does, where its finally blocks find room.
pub unit_runs : (lim : ℕ) (ss : Stmts) → RoomAll ss lim → (qs : List ℕ) → run lim (unit ss) (length (unit ss)) 0 [] qs ≡ result (execs ss qs)
unit_runs lim ss w qs =
    meet lim (unit ss) qs (λ e. ended (execs ss qs).comp (sym (ap (λ r. r.end) (unit_correct lim ss w qs)) ∙ e)) ∙ unit_correct lim ss w qs

-- With room for both alike: a unit without try runs as on a machine with no room at all.
pub any_room : (lim lim' : ℕ) (ss : Stmts) → RoomAll ss lim → RoomAll ss lim' → (qs : List ℕ)
    → run lim (unit ss) (length (unit ss)) 0 [] qs ≡ run lim' (unit ss) (length (unit ss)) 0 [] qs
any_room lim lim' ss w w' qs = unit_runs lim ss w qs ∙ sym (unit_runs lim' ss w' qs)

pub none_needed : (ss : Stmts) → NoTryAll ss → (qs : List ℕ) → started (unit ss) qs ≡ run 0 (unit ss) (length (unit ss)) 0 [] qs
none_needed ss h qs = any_room room 0 ss (no_try_room ss room h) (no_try_room ss 0 h) qs

-- THE THEOREM
pub claims : (ss : Stmts) → RoomAll ss room → (qs : List ℕ) → Claims ss qs
claims ss w qs =
    record {
      same = ap (λ r. route_of r.nodes r.end) runs;
      entries = ap (λ r. r.nodes) runs;
      left = ap (λ r. r.rest) runs ∙ sym (execs_takes ss qs);
      ends = λ s. scoped_end ss s qs;
      once = λ d. rw runs (parts_once ss d qs);
      long = length_sum ss;
      small = omega (arith, length_sum ss, total_small (s_unit ∷ shapes_all ss));
    }
  where
    runs : started (unit ss) qs ≡ result (execs ss qs)
    runs = unit_runs room ss w qs

-- With try: a machine with room enough runs every unit.
pub every_unit : (ss : Stmts) (lim : ℕ) → sizes ss ≤ lim → (qs : List ℕ) → run lim (unit ss) (length (unit ss)) 0 [] qs ≡ result (execs ss qs)
every_unit ss lim h qs = unit_runs lim ss (room_enough ss lim h) qs
