-- Request 9's sum at its largest, so that room for a code can be planned by the number of nodes alone.
use Rattle.std.specs.Prelude.{ℕ, ◌+◌, ◌*◌, ◌-◌}
use Rattle.code_length.specs.Length.{unit_number}

-- the largest number of a node, a loop's
abbrev pub most_number : ℕ
most_number = 10

-- The most that the code of a unit takes in a tree of so many nodes: "the unit's own node has a number as unit", and each other node at most the largest.
abbrev pub most_length : ℕ → ℕ
most_length nodes = unit_number + most_number * (nodes - 1)
