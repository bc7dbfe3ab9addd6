-- A scope's flags, which are added up.
use Rattle.std.specs.Prelude.{ℕ}

-- strict
abbrev pub Strict : ℕ
Strict = 1

-- top
abbrev pub Top : ℕ
Top = 2

-- function
abbrev pub FunctionScope : ℕ
FunctionScope = 4

-- arrow
abbrev pub ArrowScope : ℕ
ArrowScope = 8

-- static block
abbrev pub StaticBlockScope : ℕ
StaticBlockScope = 16
