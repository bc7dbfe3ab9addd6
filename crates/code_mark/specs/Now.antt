-- The instructions while the jumps of the front are sent on and the others not yet: `Mixed` of code_shorten (Place.antt), so each last target is that of
-- the code that came in.
use Rattle.std.specs.Prelude.{ℕ, ◌+◌, List, [], ◌∷◌, ltb}
use Rattle.route_completion.specs.Sem.{pick}
use Rattle.code_flat.specs.Machine.{Instr}
use Rattle.code_valid.specs.Instrs.{len, parse}
use Rattle.code_shorten.specs.Short.{thread}

-- Of the instructions `is`, the first of which begins at p, those before the split are sent on.
unfoldable pub front_sent : List Instr → List Instr → ℕ → ℕ → List Instr
front_sent all [] p split = []
front_sent all (i ∷ is) p split = pick (ltb p split) (thread all i) i ∷ front_sent all is (p + len i) split

abbrev pub now : List ℕ → ℕ → List Instr
now C split = front_sent (parse C) (parse C) 0 split
