-- The node table: ten numbers to a node, in the order kind, parent, role, span start, span end, scope, flags, extra, name start, name length.
use Rattle.std.specs.Prelude.{ℕ, ◌+◌, ◌*◌, ◌/◌, ◌≤◌, ◌<◌, List, Bool, not, eqb, length, get_or}
use Rattle.std.specs.Int.Bits.{bit_and}
use Rattle.base_walk.specs.Above.{above}

abbrev pub count : List ℕ → ℕ
count ns = length ns / 10

abbrev pub kind_of : List ℕ → ℕ → ℕ
kind_of ns i = get_or ns (i * 10) 0

abbrev pub parent_of : List ℕ → ℕ → ℕ
parent_of ns i = get_or ns (i * 10 + 1) 0

abbrev pub role_of : List ℕ → ℕ → ℕ
role_of ns i = get_or ns (i * 10 + 2) 0

abbrev pub span_start_of : List ℕ → ℕ → ℕ
span_start_of ns i = get_or ns (i * 10 + 3) 0

abbrev pub span_end_of : List ℕ → ℕ → ℕ
span_end_of ns i = get_or ns (i * 10 + 4) 0

abbrev pub scope_of : List ℕ → ℕ → ℕ
scope_of ns i = get_or ns (i * 10 + 5) 0

abbrev pub flags_of : List ℕ → ℕ → ℕ
flags_of ns i = get_or ns (i * 10 + 6) 0

abbrev pub extra_of : List ℕ → ℕ → ℕ
extra_of ns i = get_or ns (i * 10 + 7) 0

abbrev pub name_start_of : List ℕ → ℕ → ℕ
name_start_of ns i = get_or ns (i * 10 + 8) 0

abbrev pub name_len_of : List ℕ → ℕ → ℕ
name_len_of ns i = get_or ns (i * 10 + 9) 0

-- the nodes above a node, nearest first
abbrev pub ancestors : List ℕ → ℕ → List ℕ
ancestors ns i = above (parent_of ns) i

abbrev pub depth_of : List ℕ → ℕ → ℕ
depth_of ns i = length (ancestors ns i)

-- The scope table: three numbers to a scope, in the order parent, flags, node.
abbrev pub count_scopes : List ℕ → ℕ
count_scopes ss = length ss / 3

abbrev pub scope_parent_of : List ℕ → ℕ → ℕ
scope_parent_of ss s = get_or ss (s * 3) 0

abbrev pub scope_flags_of : List ℕ → ℕ → ℕ
scope_flags_of ss s = get_or ss (s * 3 + 1) 0

abbrev pub scope_node_of : List ℕ → ℕ → ℕ
scope_node_of ss s = get_or ss (s * 3 + 2) 0

-- the scopes around a scope, nearest first
abbrev pub outer : List ℕ → ℕ → List ℕ
outer ss s = above (scope_parent_of ss) s

-- a table of nodes, or of scopes, has some records, and not too many
-- A `requires` and no struct's invariant: it is about the count of one lent slice, of nodes or of scopes, from refusal 1 on until `Tree` or `Chained` has it too.
pub record IsTableSize (n : ℕ) : Type 0 where
  pub some : 0 < n
  pub small : n ≤ 65535

-- a flag is in a sum of flags
abbrev pub has_flag : ℕ → ℕ → Bool
has_flag sum flag = not (eqb (bit_and sum flag) 0)
