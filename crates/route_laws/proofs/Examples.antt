-- Document 01's unit, with the second answer changed.
use Rattle.std.specs.Prelude.{◌≡◌, refl, [], ◌∷◌}
use Rattle.route_completion.specs.Sem.{asked, exec, execs, turns, rounds}
use Rattle.route_completion.specs.Examples.{row}
use Rattle.route_laws.specs.Changed.{up_to}

-- while and switch are shared; then come continue and while, or x and while.
pub shared : up_to 1 (execs row (1 ∷ 0 ∷ 0 ∷ [])).nodes ≡ (asked 1 ∷ asked 2 ∷ [])
unfolding exec turns rounds up_to
shared = refl

pub shared5 : up_to 1 (execs row (1 ∷ 5 ∷ 0 ∷ [])).nodes ≡ (asked 1 ∷ asked 2 ∷ [])
unfolding exec turns rounds up_to
shared5 = refl
