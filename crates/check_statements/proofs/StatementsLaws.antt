-- The search for what holds a labelled function, as a walk up meets it.
use Rattle.std.specs.Prelude.{ℕ, ◌<◌, ◌≡◌, List, true, false, None}
use Rattle.std.proofs.Common.{◌∙◌}
use borrow.Author.Tests.{eq-eqb, ne_eqb}
use Rattle.base_common.specs.Tests.{within}
use Rattle.table_records.specs.Table.{kind_of, parent_of, count}
use Rattle.table_records.specs.Kinds as k
use Rattle.table_records.specs.Facts.{Tree}
use Rattle.table_ancestry.proofs.AncestryLaws.{ancestors_up, ancestors_root}
use Rattle.check_diagnostics.specs.Codes as code
use Rattle.check_diagnostics.specs.Contexts as context
use Rattle.check_diagnostics.specs.Finding.{error_at}
use Rattle.check_statements.specs.Statements.{labelled_function}

-- p is the parent of i
module _ (ns : List ℕ) (t : Tree ns) (n s i p : ℕ) (h : 0 < i) (l : i < count ns) (e : p ≡ parent_of ns i) where
  pub function_on : kind_of ns p ≡ k.Labeled → labelled_function ns n s i ≡ labelled_function ns n s p
  unfolding labelled_function
  function_on w = ancestors_up _ _ ns t i h l ∙ rw (← e, eq-eqb _ _ w)

  pub function_held : (kind_of ns p ≡ k.Labeled → ⊥) → within (kind_of ns p) k.For k.With ≡ true → labelled_function ns n s i ≡ error_at ns code.function_declaration_non_strict n s context.none
  unfolding labelled_function
  function_held w v = ancestors_up _ _ ns t i h l ∙ rw (← e, ne_eqb _ _ w, v)

  pub function_free : (kind_of ns p ≡ k.Labeled → ⊥) → within (kind_of ns p) k.For k.With ≡ false → labelled_function ns n s i ≡ None
  unfolding labelled_function
  function_free w v = ancestors_up _ _ ns t i h l ∙ rw (← e, ne_eqb _ _ w, v)

pub function_root : (ns : List ℕ) (n s : ℕ) → labelled_function ns n s 0 ≡ None
unfolding labelled_function
function_root ns n s = ancestors_root _ _ ns
