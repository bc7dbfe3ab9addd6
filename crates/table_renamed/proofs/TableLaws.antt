-- What is read off two tables that differ in names alone: fields, children, ancestors.
use Rattle.std.specs.Prelude.{ℕ, ◌≡◌, List, length}
use Rattle.std.proofs.Math.Path.{fun_ext}
use Rattle.table_records.specs.Table.{kind_of, parent_of, role_of, span_start_of, span_end_of, scope_of, flags_of, extra_of}
use Rattle.table_children.specs.Children.{children, how_many, is_child, fits}
use Rattle.table_ancestry.specs.Ancestry.{nearest_of, has_ancestor}
use Rattle.table_renamed.specs.Alike.{Fields}

module _ (ns ms : List ℕ) (a : Fields ns ms) where
  pub size : length ns ≡ length ms
  size = a.size

  pub kind : (i : ℕ) → kind_of ns i ≡ kind_of ms i
  kind = a.kind

  pub parent : (i : ℕ) → parent_of ns i ≡ parent_of ms i
  parent = a.parent

  pub role : (i : ℕ) → role_of ns i ≡ role_of ms i
  role = a.role

  pub start : (i : ℕ) → span_start_of ns i ≡ span_start_of ms i
  start = a.start

  pub end : (i : ℕ) → span_end_of ns i ≡ span_end_of ms i
  end = a.end

  pub scope : (i : ℕ) → scope_of ns i ≡ scope_of ms i
  scope = a.scope

  pub flags : (i : ℕ) → flags_of ns i ≡ flags_of ms i
  flags = a.flags

  pub extra : (i : ℕ) → extra_of ns i ≡ extra_of ms i
  extra = a.extra

  pub parents : parent_of ns ≡ parent_of ms
  parents = fun_ext parent

  ruleset fields = (size, kind, parent, role, start, end, scope, flags, extra, parents)

  pub child_test : (p lo hi x y : ℕ) → is_child ns p lo hi x y ≡ is_child ms p lo hi x y
  unfolding is_child
  child_test p lo hi x y = fun_ext (λ k. simp fields)

  pub its_children : (p : ℕ) → children ns p ≡ children ms p
  unfolding children
  its_children p = simp fields

  fits_same : (lo hi x y : ℕ) → fits ns lo hi x y ≡ fits ms lo hi x y
  fits_same lo hi x y = fun_ext (λ k. simp fields)

  pub how_many_lem : (p lo hi x y : ℕ) → how_many ns p lo hi x y ≡ how_many ms p lo hi x y
  unfolding how_many
  how_many_lem p lo hi x y = simp (fits_same lo hi x y, its_children)

  pub nearest : (lo hi n : ℕ) → nearest_of ns lo hi n ≡ nearest_of ms lo hi n
  unfolding nearest_of
  nearest lo hi n = simp fields

  pub has_ancestor_lem : (lo hi n : ℕ) → has_ancestor ns lo hi n ≡ has_ancestor ms lo hi n
  unfolding has_ancestor
  has_ancestor_lem lo hi n = simp fields

-- with an entry for `Fields`, which fills their argument: simp (tables, a)
pub ruleset tables = (size, kind, parent, role, start, end, scope, flags, extra, parents, child_test, its_children, how_many_lem, nearest, has_ancestor_lem)
