-- What one pass over the table notes of each node: of each sort of child that a sentence of document 01 counts, whether there is none, one, or more.
use Rattle.std.specs.Prelude.{ℕ, ◌+◌, ◌/◌, ◌%◌, ◌<◌, ◌≡◌, List, Bool, cond, ◌&&◌, ltb, length, get_or, min}
use Rattle.base_common.specs.Upto.{upto}
use Rattle.table_records.specs.Table.{count}
use Rattle.table_records.specs.Kinds as k
use Rattle.table_records.specs.Roles as r
use Rattle.table_children.specs.Children.{keep, is_child, how_many}
use Rattle.refusal_counts.specs.declared.Sort.{Sort}
use Rattle.refusal_counts.specs.declared.Sort.TheVariants.{Value, Key, Held, Alternate, Finally, Handler, Label, FunctionBody, ClassBody, Default}
use Rattle.refusal_counts.specs.Counts.{with_role, with_kind, labels, is_default, defaults}

-- c is a child of p of this sort
abbrev pub is_of : List ℕ → ℕ → Sort → ℕ → Bool
is_of ns p Value c = is_child ns p 0 55 r.Value r.Value c
is_of ns p Key c = is_child ns p 0 55 r.Key r.Key c
is_of ns p Held c = is_child ns p 0 55 r.Held r.Held c
is_of ns p Alternate c = is_child ns p 0 55 r.Alternate r.Alternate c
is_of ns p Finally c = is_child ns p 0 55 r.Finally r.Finally c
is_of ns p Handler c = is_child ns p 0 55 r.Alternate r.Finally c
is_of ns p Label c = is_child ns p k.LabelIdentifier k.LabelIdentifier r.Label r.Label c
is_of ns p FunctionBody c = is_child ns p k.FunctionBody k.FunctionBody 0 7 c
is_of ns p ClassBody c = is_child ns p k.ClassBody k.ClassBody 0 7 c
is_of ns p Default c = is_default ns p c

-- how many children of this sort p has
abbrev pub number : List ℕ → ℕ → Sort → ℕ
number ns p Value = with_role ns p r.Value
number ns p Key = with_role ns p r.Key
number ns p Held = with_role ns p r.Held
number ns p Alternate = with_role ns p r.Alternate
number ns p Finally = with_role ns p r.Finally
number ns p Handler = how_many ns p 0 55 r.Alternate r.Finally
number ns p Label = labels ns p
number ns p FunctionBody = with_kind ns p k.FunctionBody
number ns p ClassBody = with_kind ns p k.ClassBody
number ns p Default = defaults ns p

-- .. and how many of them are among the nodes below m
unfoldable pub so_far : List ℕ → ℕ → Sort → ℕ → ℕ
so_far ns p s m = length (keep (is_of ns p s) (upto (p + 1) m))

-- what is noted of a node is a number in base 4, with a digit for each sort
abbrev pub weight : Sort → ℕ
weight Value = 1
weight Key = 4
weight Held = 16
weight Alternate = 64
weight Finally = 256
weight Handler = 1024
weight Label = 4096
weight FunctionBody = 16384
weight ClassBody = 65536
weight Default = 262144

unfoldable pub digit : ℕ → Sort → ℕ
digit seen s = seen / weight s % 4

-- a digit with one child more, if it is of its sort: it stays at 2
abbrev pub one_more : ℕ → Bool → ℕ
one_more d b = cond (b && ltb d 2) (d + 1) d

-- each digit of what is noted of p, after c: there are ten, so that the number is below 4^10
pub record Adds (ns : List ℕ) (p c seen after : ℕ) : Type 0 where
  pub small : after < 1048576
  pub digits : (s : Sort) → digit after s ≡ one_more (digit seen s) (is_of ns p s c)

-- the digits are the numbers of children of p among the nodes below m, or 2 where there are more
pub record Notes (ns : List ℕ) (p seen m : ℕ) : Type 0 where
  pub small : seen < 1048576
  pub digits : (s : Sort) → digit seen s ≡ min 2 (so_far ns p s m)

-- .. for each node: the array, after the nodes below m
abbrev pub Tallied : List ℕ → List ℕ → ℕ → Type 0
Tallied ns seen m = (p : ℕ) → p < count ns → Notes ns p (get_or seen p 0) m
