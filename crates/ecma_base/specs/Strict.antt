-- ECMA-262, 11.2.2 Strict Mode Code. Document 01: "A node's code is strict if its scope is": which code is strict is told by the tables.
use Rattle.std.specs.Prelude.{ℕ, List, Bool}
use Rattle.table_records.specs.Table.{scope_of, scope_flags_of, has_flag}
use Rattle.table_records.specs.ScopeFlag as scope

-- IsStrict of the production that a node is
abbrev pub strict_code : List ℕ → List ℕ → ℕ → Bool
strict_code ns ss n = has_flag (scope_flags_of ss (scope_of ns n)) scope.Strict
