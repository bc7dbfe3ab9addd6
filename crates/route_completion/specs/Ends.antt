-- The ends of a run, by number. Document 01: "Ends: 0 fell through, 1 returned, 2 thrown, 3 answers spent".
use Rattle.std.specs.Prelude.{ℕ}

abbrev pub FellThrough : ℕ
FellThrough = 0

abbrev pub Returned : ℕ
Returned = 1

abbrev pub Thrown : ℕ
Thrown = 2

abbrev pub Spent : ℕ
Spent = 3

-- 7/13: "A route may be stopped right after the entry that takes the last of a named number of answers .., with end 4".
abbrev pub Stopped : ℕ
Stopped = 4

-- A break or a continue has no target, or the run is where the code of a unit never comes to.
abbrev pub Astray : ℕ
Astray = 5
