-- Document 01 counts statements, Blocks, a CatchClause, a Function ("holds one Block"), refusal 14 counts children by their role alone. Where 13 is nowhere both are one count: a
-- child with that role is of that kind.
use Rattle.std.specs.Prelude.{ℕ, ◌≤◌, ◌<◌, ◌≡◌, List, Bool, ◌&&◌, ◌||◌, eqb, length}
use Rattle.table_records.specs.Table.{kind_of, role_of, count}
use Rattle.table_records.specs.Kinds as k
use Rattle.table_records.specs.Roles as r
use Rattle.table_children.specs.Children.{keep, children}
use Rattle.refusal_standing.specs.Standing.{is_statement, may_be_statement}
use Rattle.refusal_counts.specs.Counts.{with_role}

-- how many children of p have a role and a kind that passes a test
unfoldable pub with_both : (ℕ → Bool) → List ℕ → ℕ → ℕ → ℕ
with_both takes ns p role = length (keep (λ c. takes (kind_of ns c) && eqb (role_of ns c) role) (children ns p))

-- the kinds that are statements where they are held
abbrev pub statement : ℕ → Bool
statement kind = is_statement kind || may_be_statement kind

abbrev pub is : ℕ → ℕ → Bool
is kind x = eqb x kind

-- the counts of refusal 14 by role are those by kind and role
pub record ByKind (ns : List ℕ) : Type 0 where
  pub body : (i : ℕ) → i < count ns → k.Labeled ≤ kind_of ns i → kind_of ns i ≤ k.With → with_role ns i r.Held ≡ with_both statement ns i r.Held
  pub alternate : (i : ℕ) → i < count ns → kind_of ns i ≡ k.If → with_role ns i r.Alternate ≡ with_both statement ns i r.Alternate
  pub try_block : (i : ℕ) → i < count ns → kind_of ns i ≡ k.Try → with_role ns i r.Held ≡ with_both (is k.Block) ns i r.Held
  pub try_clause : (i : ℕ) → i < count ns → kind_of ns i ≡ k.Try → with_role ns i r.Alternate ≡ with_both (is k.CatchClause) ns i r.Alternate
  pub try_finally : (i : ℕ) → i < count ns → kind_of ns i ≡ k.Try → with_role ns i r.Finally ≡ with_both (is k.Block) ns i r.Finally
  pub clause_block : (i : ℕ) → i < count ns → kind_of ns i ≡ k.CatchClause → with_role ns i r.Held ≡ with_both (is k.Block) ns i r.Held
  pub method : (i : ℕ) → i < count ns → kind_of ns i ≡ k.MethodDefinition → with_role ns i r.Value ≡ with_both (is k.Function) ns i r.Value
