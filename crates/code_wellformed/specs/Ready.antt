-- Well-formed tables are what the code maker asks for.
use Rattle.std.specs.Prelude.{ℕ, ◌≡◌, ◌⊎◌}
use Rattle.table_records.specs.Kinds as k

-- A Program, a StaticBlock and a FunctionBody hold a unit's statements.
abbrev pub Holds : ℕ → Type 0
Holds kind = (kind ≡ k.Program) ⊎ ((kind ≡ k.StaticBlock) ⊎ (kind ≡ k.FunctionBody))
