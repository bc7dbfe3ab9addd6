-- A jump, sent on in place.
use Rattle.std.specs.Prelude.{ℕ, ◌+◌, List, set, Option, Some, None}
use Rattle.code_machine.specs.declared.Target.{Target}

-- The numbers with a place and a depth written at q.
abbrev pub written : List ℕ → ℕ → Option Target → List ℕ
written C q None = C
written C q (Some aim) = set (set C q aim.place) (q + 1) aim.depth
