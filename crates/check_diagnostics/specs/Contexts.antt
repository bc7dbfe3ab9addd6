-- The contexts of findings.
use Rattle.std.specs.Prelude.{ℕ}

-- no context
abbrev pub none : ℕ
none = 0

-- strict
abbrev pub strict_mode : ℕ
strict_mode = 1

-- class
abbrev pub in_class : ℕ
in_class = 2

-- module
abbrev pub in_module : ℕ
in_module = 3

-- module await
abbrev pub module_await : ℕ
module_await = 4
