-- Async functions and generators as bodies: document 02, request 8. The Rust passes them, since its parser has turned them down.
use Rattle.std.specs.Prelude.{ℕ, List, [], ◌++◌, cond, eqb, Option, None}
use Rattle.table_records.specs.Table.{kind_of, flags_of, has_flag}
use Rattle.table_records.specs.Kinds as k
use Rattle.table_children.specs.Children.{held_of, alternate_of, when_found}
use Rattle.table_scoping.specs.Scoping.{is_strict}
use Rattle.check_diagnostics.specs.Contexts as context
use Rattle.check_diagnostics.specs.declared.Finding.{Finding}
use Rattle.check_diagnostics.specs.Finding.{error_at, listed}

-- "The node's flags get 8192, async or generator"
abbrev pub AsyncOrGenerator : ℕ
AsyncOrGenerator = 8192

abbrev pub async_body : ℕ
async_body = 34

-- "such a declaration .. is reported as code 34, span of the declaration": s is the statement that n holds
unfoldable pub check_async_body : List ℕ → ℕ → ℕ → Option Finding
check_async_body ns n s = cond (eqb (kind_of ns s) k.Function) (cond (has_flag (flags_of ns s) AsyncOrGenerator) (error_at ns async_body n s context.none) None) None

abbrev pub check_async_held : List ℕ → ℕ → Option Finding
check_async_held ns n = when_found (held_of ns n) (check_async_body ns n) None

abbrev pub check_async_alternate : List ℕ → ℕ → Option Finding
check_async_alternate ns n = when_found (alternate_of ns n) (check_async_body ns n) None

-- "in sloppy code as body of an If or a label .., raised at that If or Labeled .., role 3 before role 4; that node's scope says whether code is sloppy"
unfoldable pub async_bodies_at : List ℕ → List ℕ → ℕ → List Finding
async_bodies_at ns ss n =
    cond (is_strict ns ss n) []
    (cond (eqb (kind_of ns n) k.If) (listed (check_async_held ns n) ++ listed (check_async_alternate ns n))
    (cond (eqb (kind_of ns n) k.Labeled) (listed (check_async_held ns n))
    []))
