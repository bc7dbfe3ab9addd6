-- A unit that is not refused can be walked; what the whole walk showed.
use Rattle.std.specs.Prelude.{ℕ, ◌≡◌, List}
use Rattle.refusal_verdict.specs.Verdict.{Passed}
use Rattle.check_dispatch.specs.Rule.{rule}
use Rattle.code_assemble.specs.Ready.{Ready}
use Rattle.route_walk.specs.Walk.{Enterable}
use Rattle.call_routes.specs.Calls.{code_refusal}
use Rattle.call_routes.proofs.CallsLaws.{ready}

-- What can be coded can be walked.
pub ready_enterable : (ns names : List ℕ) (u : ℕ) → Ready ns names u → Enterable ns names u
ready_enterable ns names u w = record { tree = w.tree; root = w.root; held = λ b e. (w.held b e).held }

pub enterable : (source_type async_bodies : ℕ) (ns ss source names : List ℕ) (u : ℕ) → code_refusal (rule source_type async_bodies ns ss source names) u ≡ Passed → Enterable ns names u
enterable source_type async_bodies ns ss source names u e = ready_enterable ns names u (ready source_type async_bodies ns ss source names u e)
