-- The pending ends as an array of numbers.
use Rattle.std.specs.Prelude.{ℕ, zero, suc, ◌/◌, ◌%◌, ◌≤◌, List, [], ◌∷◌, get_or}
use Rattle.code_flat.specs.Machine.{Frame, open', pend, Pos, pos, unwind}
use Rattle.code_machine.specs.declared.Target.{Target}
use Rattle.code_machine.specs.declared.Passing.{Passing}
use Rattle.code_machine.specs.declared.Passing.TheVariants.{Here, Into, Below}

-- A number holds a place in its lower half; in its upper half 0 if the finally block there is open, and else one more than the depth of the jump to
-- that place, which waits.
abbrev pub half : ℕ
half = 4294967296

abbrev pub frame_by : ℕ → ℕ → Frame
frame_by zero f = open' f
frame_by (suc d) t = pend t d

abbrev pub frame_of : ℕ → Frame
frame_of end = frame_by (end / half) (end % half)

-- The first n numbers of the array are pending, the last of them on top.
unfoldable pub stack : List ℕ → ℕ → List Frame
stack ends zero = []
stack ends (suc n) = frame_of (get_or ends n 0) ∷ stack ends n

-- What a jump comes to at the end f, with K below it.
abbrev pub comes : Frame → List Frame → Target → Passing → Pos
comes f K target Here = pos target.place (f ∷ K)
comes f K target (Into t) = pos t (pend target.place target.depth ∷ K)
comes f K target (Below on) = unwind K on.place on.depth

-- A jump that waits goes no deeper than what is below.
abbrev pub shallow : ℕ → Target → Passing → Type 0
shallow below target Here = Unit {0}
shallow below target (Into t) = target.depth ≤ below
shallow below target (Below on) = Unit {0}
