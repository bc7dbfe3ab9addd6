-- A script and a module of JavaScript, types 0 and 1.
use Rattle.std.specs.Prelude.{ℕ, ◌≤◌, ◌≡◌, refl, Bool, true, false, ◌||◌, eqb}
use Rattle.std.proofs.Common.{arith, ne_eqb}
use Rattle.table_source.specs.SourceType.{Typescript, is_typescript, is_module}

pub no_typescript : (source_type : ℕ) → source_type ≤ 1 → is_typescript source_type ≡ false
no_typescript source_type h = ne_eqb source_type Typescript (λ e. omega arith)

-- .. is a module just where it was one
pub module_before : (source_type : ℕ) → source_type ≤ 1 → is_module source_type ≡ eqb source_type 1
module_before source_type h = rw (no_typescript source_type h) (go (eqb source_type 1))
  where
    go : (b : Bool) → (b || false) ≡ b
    go true = refl
    go false = refl
