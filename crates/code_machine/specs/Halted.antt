-- The route up to a stop, and where it stands then.
use Rattle.std.specs.Prelude.{ℕ, ◌≡◌, List, length}
use Rattle.route_completion.specs.Route.{Route, route_of}
use Rattle.route_completion.specs.Ends as run_end
use Rattle.route_list.specs.Listing.{saturated, laid}
use Rattle.code_flat.specs.Machine.{room, Pos, pos}
use Rattle.code_marks.specs.Stop.{Stop, held, over, stopped}
use Rattle.code_machine.specs.Pending.{stack}
use Rattle.code_machine.specs.declared.Landing.{Landing}
use Rattle.code_machine.specs.declared.Ran.{Ran}

-- "with end 4"
abbrev pub stopped_end : ℕ
stopped_end = run_end.Stopped

-- The list, the end and the answers taken of a run that was stopped, or had ended before.
abbrev pub route_to : Stop → Route
route_to (held es p r) = route_of es stopped_end
route_to (over r) = route_of r.nodes r.end

-- A run that was stopped stands at p.
abbrev pub StandsAt : Stop → Pos → Type 0
StandsAt (held es q r) p = q ≡ p
StandsAt (over r) p = Unit {0}

-- The run from a place on, with the pending ends that the array holds, stopped behind so many answers.
abbrev pub stop_from : List ℕ → List ℕ → List ℕ → Landing → ℕ → Stop
stop_from C qs ends begin stop = stopped room C stop (pos begin.place (stack ends begin.pending)) qs

-- What a run that comes to s gives.
pub record Told (s : Stop) (f₀ f : List ℕ) (ran : Ran) : Type 0 where
  pub end : ran.end ≡ (route_to s).end
  pub entries : ran.entries ≡ saturated (length (route_to s).list)
  pub taken : ran.taken ≡ (route_to s).taken
  pub list : f ≡ laid (route_to s).list f₀
