-- What the layers above rely on: each record is what one refusal gives where it does not apply.
use Rattle.std.specs.Prelude.{ℕ, ◌+◌, ◌≤◌, ◌<◌, ◌≡◌, List, true, length}
use Rattle.base_walk.specs.Above.{Falls}
use Rattle.base_walk.specs.On.{on}
use Rattle.base_walk.specs.Preorder.{Preorder}
use Rattle.table_records.specs.Table.{count, kind_of, parent_of, depth_of, scope_of, extra_of, span_start_of, span_end_of, name_start_of, name_len_of, count_scopes, scope_parent_of, scope_flags_of, scope_node_of}

-- What is known where no node is out of place. Functions that ask for it take a `Nodes`, whose invariant it is.
pub record Tree (ns : List ℕ) : Type 0 where
  pub some : 0 < count ns
  pub small : count ns ≤ 65535
  pub root : kind_of ns 0 ≡ 0
  pub top : parent_of ns 0 ≡ 0
  pub inner : (i : ℕ) → 0 < i → i < count ns → kind_of ns i ≡ 0 → ⊥
  pub order : Preorder (parent_of ns) (count ns)
  pub falls : Falls (parent_of ns) (count ns)
  pub depth : (i : ℕ) → i < count ns → depth_of ns i ≤ 512

-- What `Nodes` lends: its own numbers, and that they are a tree.
pub record IsOfTree (ns numbers : List ℕ) : Type 0 where
  pub same : numbers ≡ ns
  pub tree : Tree ns

-- What is known where no scope record is broken. Functions that ask for it take a `Scopes`, whose invariant it is.
pub record Chained (ss : List ℕ) : Type 0 where
  pub some : 0 < count_scopes ss
  pub small : count_scopes ss ≤ 65535
  pub flags : (s : ℕ) → s < count_scopes ss → scope_flags_of ss s ≤ 31
  pub top : scope_parent_of ss 0 ≡ 0
  pub falls : Falls (scope_parent_of ss) (count_scopes ss)

-- What `Scopes` lends: its own numbers, and that their records are not broken.
pub record IsOfChain (ss numbers : List ℕ) : Type 0 where
  pub same : numbers ≡ ss
  pub chained : Chained ss

-- Every node's name lies within the bytes. Functions that ask for it of a `Nodes` take a `NamedNodes` (table_names), whose invariant it is.
-- A `requires` of the five that take the nodes as a slice, in table_names and check_identifiers: a `NamedNodes` there would ask of their callers that the nodes are a tree.
pub record Named (ns names : List ℕ) : Type 0 where
  pub inside : (i : ℕ) → i < count ns → name_start_of ns i + name_len_of ns i ≤ length names

-- what is known where the scope of no node is missing or does not fit it
-- A `requires` and no struct's invariant: of the 31 functions that ask for it nine take both tables as slices, 12 a `Nodes` and the scopes as a slice, three the nodes as a slice and a `Scopes`, and seven a
-- `Nodes` and a `Scopes`. A struct of both tables would serve one of these four sorts, or ask more of callers.
pub record Scoped (ns ss : List ℕ) : Type 0 where
  pub scope : (i : ℕ) → i < count ns → scope_of ns i < count_scopes ss
  pub own : (i : ℕ) → i < count ns → kind_of ns i ≡ 26 → extra_of ns i < count_scopes ss
  pub chain : (i : ℕ) → i < count ns → (t : ℕ) → on (scope_parent_of ss) t (scope_of ns i) ≡ true → on (parent_of ns) (scope_node_of ss t) i ≡ true

-- every span ends where it starts or later, within the largest source
-- A `requires` and no struct's invariant: of the functions that are lent the nodes, few ask for it.
pub record Spanned (ns : List ℕ) : Type 0 where
  pub span : (i : ℕ) → i < count ns → span_start_of ns i ≤ span_end_of ns i
  pub small : (i : ℕ) → i < count ns → span_end_of ns i ≤ 1048576

-- every span lies within the source
-- A `requires` and no struct's invariant: it ties two lent slices, and of the checks only those of literals read the source.
pub record Sourced (ns source : List ℕ) : Type 0 where
  pub span : (i : ℕ) → i < count ns → span_start_of ns i ≤ span_end_of ns i
  pub inside : (i : ℕ) → i < count ns → span_end_of ns i ≤ length source

-- nodes with their scopes, spans and names
-- A `requires` and no struct's invariant: `Rule` (check_dispatch), which holds these tables, is made before the refusals are looked for, so it stands where this is not known.
pub record Input (ns ss names : List ℕ) : Type 0 where
  pub tree : Tree ns
  pub chained : Chained ss
  pub scoped : Scoped ns ss
  pub spanned : Spanned ns
  pub named : Named ns names
