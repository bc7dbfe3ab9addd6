-- Document 01's unit stopped and taken up; and a stop in a finally block that runs, with a return pending.
use Rattle.std.specs.Prelude.{◌≡◌, refl, [], ◌∷◌}
use Rattle.route_completion.specs.Tree.{Stmts, simple, ret, leaf, if1, try_f}
use Rattle.route_completion.specs.Sem.{plain, asked}
use Rattle.route_completion.specs.Examples.{one, row}
use Rattle.code_flat.specs.Code.{code, size, place, unit}
use Rattle.code_flat.specs.Machine.{res, pend, pos, fetch, unwind, chase, run, runs}
use Rattle.code_flat.specs.Leg.{leg}
use Rattle.code_marks.specs.Stop.{held, over, stops, stopped, taken_up, calls}

-- Behind while and switch: at the case.
pub behind_switch : stopped 0 (unit row) 2 (pos 0 []) (1 ∷ 0 ∷ 0 ∷ []) ≡ held (asked 1 ∷ asked 2 ∷ []) (pos 20 []) (0 ∷ [])
unfolding stops leg fetch unwind chase unit code size place
behind_switch = refl

pub from_switch : taken_up 0 (unit row) (pos 20 []) (0 ∷ []) ≡ res (plain 3 ∷ asked 1 ∷ []) 0 []
unfolding run runs fetch unwind chase unit code size place
from_switch = refl

-- Stopped behind while, taken up with 5, and stopped behind switch.
pub twice : calls 0 (unit row) (pos 0 []) (record { number = 1; answers = 1 ∷ 7 ∷ [] } ∷ record { number = 1; answers = 5 ∷ [] } ∷ [])
    ≡ held (asked 1 ∷ asked 2 ∷ []) (pos 17 []) []
unfolding calls stops leg fetch unwind chase unit code size place
twice = refl

-- The route ends before a second answer.
pub ended : stopped 0 (unit row) 2 (pos 0 []) (0 ∷ 0 ∷ []) ≡ over (res (asked 1 ∷ []) 0 (0 ∷ []))
unfolding stops leg fetch unwind chase unit code size place
ended = refl

-- `try { return } finally { if (t) x }`, stopped behind the If.
abbrev tried : Stmts
tried = one (try_f (leaf 1 ret) (if1 2 (leaf 3 simple)))

pub in_finally : stopped 1 (unit tried) 1 (pos 0 []) (1 ∷ []) ≡ held (plain 1 ∷ asked 2 ∷ []) (pos 14 (pend 21 0 ∷ [])) []
unfolding stops leg fetch unwind chase unit code size place
in_finally = refl

pub from_finally : taken_up 1 (unit tried) (pos 14 (pend 21 0 ∷ [])) [] ≡ res (plain 3 ∷ []) 1 []
unfolding run runs fetch unwind chase unit code size place
from_finally = refl
