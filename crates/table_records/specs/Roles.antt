-- The roles of a node under its parent.
use Rattle.std.specs.Prelude.{ℕ}

-- other
abbrev pub Other : ℕ
Other = 0

-- value or argument
abbrev pub Value : ℕ
Value = 1

-- key
abbrev pub Key : ℕ
Key = 2

-- held statement or body
abbrev pub Held : ℕ
Held = 3

-- alternate or catch
abbrev pub Alternate : ℕ
Alternate = 4

-- finally
abbrev pub Finally : ℕ
Finally = 5

-- label
abbrev pub Label : ℕ
Label = 6

-- left of a for
abbrev pub Left : ℕ
Left = 7
