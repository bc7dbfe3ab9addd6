-- The source type of a rule: "0 script, 1 module" (document 01); "Source type 2 is a TypeScript module without ambient code" (document 02, request 13).
use Rattle.std.specs.Prelude.{ℕ, Bool, ◌||◌, eqb}

abbrev pub Module : ℕ
Module = 1

abbrev pub Typescript : ℕ
Typescript = 2

abbrev pub is_typescript : ℕ → Bool
is_typescript source_type = eqb source_type Typescript

abbrev pub is_module : ℕ → Bool
is_module source_type = eqb source_type Module || eqb source_type Typescript
