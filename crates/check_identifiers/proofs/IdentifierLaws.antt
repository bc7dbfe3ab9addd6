-- Laws of the two searches, as a walk up meets them, and of the scope's node.
use Rattle.std.specs.Prelude.{ℕ, ◌<◌, ◌≡◌, List, true, false, ◌||◌, eqb, None}
use Rattle.std.proofs.Math.Path.{ap}
use Rattle.std.proofs.Common.{◌∙◌, arith}
use borrow.Author.Tests.{eq-eqb, ne_eqb}
use Rattle.base_common.specs.Tests.{within}
use Rattle.base_walk.proofs.OnLaws.{on_self, on_le}
use Rattle.table_records.specs.Table.{kind_of, parent_of, count, scope_of, scope_parent_of, scope_node_of}
use Rattle.table_records.specs.Facts.{Tree, Scoped}
use Rattle.table_records.specs.Kinds as k
use Rattle.table_ancestry.proofs.AncestryLaws.{ancestors_up, ancestors_root}
use Rattle.check_diagnostics.specs.Finding.{error_at}
use Rattle.check_diagnostics.specs.Codes as code
use Rattle.check_diagnostics.specs.Contexts as context
use Rattle.check_identifiers.specs.Identifiers.{let_bound, let_at, let_from, is_field_value, arguments_at, arguments_from}

-- the search for a declaration: a is the parent of i
module _ (ns : List ℕ) (t : Tree ns) (n i a : ℕ) (h : 0 < i) (l : i < count ns) (e : a ≡ parent_of ns i) where
  let_step : let_from ns n i ≡ let_at ns n a (let_from ns n a)
  unfolding let_from
  let_step = ancestors_up (let_at ns n) None ns t i h l ∙ rw (← e)

  pub let_found : kind_of ns a ≡ k.VariableDeclaration → let_from ns n i ≡ let_bound ns n a
  unfolding let_at
  let_found q = let_step ∙ rw (eq-eqb (kind_of ns a) k.VariableDeclaration q)

  pub let_function : (kind_of ns a ≡ k.VariableDeclaration → ⊥) → within (kind_of ns a) k.Function k.Arrow ≡ true → let_from ns n i ≡ None
  unfolding let_at
  let_function q w = let_step ∙ rw (ne_eqb (kind_of ns a) k.VariableDeclaration q, w)

  pub let_on : (kind_of ns a ≡ k.VariableDeclaration → ⊥) → within (kind_of ns a) k.Function k.Arrow ≡ false → let_from ns n i ≡ let_from ns n a
  unfolding let_at
  let_on q w = let_step ∙ rw (ne_eqb (kind_of ns a) k.VariableDeclaration q, w)

pub let_root : (ns : List ℕ) (n : ℕ) → let_from ns n 0 ≡ None
unfolding let_from
let_root ns n = ancestors_root (let_at ns n) None ns

-- the search for a field or a static block: a is the parent of i
module _ (ns : List ℕ) (t : Tree ns) (n i a : ℕ) (h : 0 < i) (l : i < count ns) (e : a ≡ parent_of ns i) where
  arguments_step : arguments_from ns n i ≡ arguments_at ns n i (arguments_from ns n a)
  unfolding arguments_from
  arguments_step = ap (arguments_at ns n i) (ancestors_up (arguments_at ns n) None ns t i h l ∙ rw (← e))

  pub arguments_function : kind_of ns a ≡ k.Function → arguments_from ns n i ≡ None
  unfolding arguments_at
  arguments_function q = arguments_step ∙ rw (← e, eq-eqb (kind_of ns a) k.Function q)

  pub arguments_found : (kind_of ns a ≡ k.Function → ⊥) → (is_field_value ns a i || eqb (kind_of ns a) k.StaticBlock) ≡ true → arguments_from ns n i ≡ error_at ns code.unexpected_arguments n n context.none
  unfolding arguments_at
  arguments_found q w = arguments_step ∙ rw (← e, ne_eqb (kind_of ns a) k.Function q, w)

  pub arguments_on : (kind_of ns a ≡ k.Function → ⊥) → (is_field_value ns a i || eqb (kind_of ns a) k.StaticBlock) ≡ false → arguments_from ns n i ≡ arguments_from ns n a
  unfolding arguments_at
  arguments_on q w = arguments_step ∙ rw (← e, ne_eqb (kind_of ns a) k.Function q, w)

pub arguments_root : (ns : List ℕ) → Tree ns → (n : ℕ) → arguments_from ns n 0 ≡ None
unfolding arguments_from arguments_at is_field_value
arguments_root ns t n = rw (t.top, t.root) (ancestors_root (arguments_at ns n) None ns)

-- the node of a current scope is the node itself or above it
pub scope_node_below : (ns ss : List ℕ) → Tree ns → Scoped ns ss → (n : ℕ) → n < count ns → scope_node_of ss (scope_of ns n) < count ns
scope_node_below ns ss t w n l =
    let q = on_le (parent_of ns) (count ns) t.falls (scope_node_of ss (scope_of ns n)) n l (w.chain n l (scope_of ns n) (on_self (scope_parent_of ss) (scope_of ns n))) in
    omega arith
