-- The children of a node, and its parts: "the first child fit for a part is that part".
use Rattle.table_records.specs.declared.NodeId.{NodeId}
use Rattle.std.specs.Prelude.{ℕ, ◌+◌, ◌<◌, Bool, false, cond, ◌&&◌, eqb, length, Option, Some, None}
use mathlib.Core.List.{List, [], ◌∷◌, foldr}
use Rattle.base_common.specs.Upto.{upto}
use Rattle.base_common.specs.Tests.{within}
use Rattle.table_records.specs.Table.{kind_of, role_of, parent_of, count}
use Rattle.table_records.specs.Kinds as k
use Rattle.table_records.specs.Roles as role

-- those of a list that pass a test
unfoldable pub keep : (ℕ → Bool) → List ℕ → List ℕ
keep q [] = []
keep q (k ∷ l) = cond (q k) (k ∷ keep q l) (keep q l)

-- the children of p, in order
unfoldable pub children : List ℕ → ℕ → List ℕ
children ns p = keep (λ k. eqb (parent_of ns k) p) (upto (p + 1) (count ns))

-- a node has a kind from low to high and a role from first to last
abbrev pub fits : List ℕ → ℕ → ℕ → ℕ → ℕ → ℕ → Bool
fits ns low high first last k = within (kind_of ns k) low high && within (role_of ns k) first last

-- how many children of p fit
unfoldable pub how_many : List ℕ → ℕ → ℕ → ℕ → ℕ → ℕ → ℕ
how_many ns p low high first last = length (keep (fits ns low high first last) (children ns p))

-- k is a child of p that fits
unfoldable pub is_child : List ℕ → ℕ → ℕ → ℕ → ℕ → ℕ → ℕ → Bool
is_child ns p low high first last k = eqb (parent_of ns k) p && fits ns low high first last k

-- the first node from i up to n that passes a test
unfoldable pub first_node : (ℕ → Bool) → ℕ → ℕ → Option NodeId
first_node q i n = foldr (λ k r. cond (q k) (Some (record { 0 = k })) r) None (upto i n)

-- the first child of p, from i on, that fits
abbrev pub next_child : List ℕ → ℕ → ℕ → ℕ → ℕ → ℕ → ℕ → Option NodeId
next_child ns p low high first last i = first_node (is_child ns p low high first last) i (count ns)

-- the first child of p that fits
abbrev pub first_child : List ℕ → ℕ → ℕ → ℕ → ℕ → ℕ → Option NodeId
first_child ns p low high first last = next_child ns p low high first last (p + 1)

-- the parts of a node, each the first child fit for it: of Labeled, Break and Continue the label ..
abbrev pub label_of : List ℕ → ℕ → Option NodeId
label_of ns p = first_child ns p k.LabelIdentifier k.LabelIdentifier role.Label role.Label

-- .. the key of an element or a property
abbrev pub key_of : List ℕ → ℕ → Option NodeId
key_of ns p = first_child ns p 0 55 role.Key role.Key

-- .. the value of an element or a property, the argument of a unary expression
abbrev pub value_of : List ℕ → ℕ → Option NodeId
value_of ns p = first_child ns p 0 55 role.Value role.Value

-- .. the statement that a statement holds
abbrev pub held_of : List ℕ → ℕ → Option NodeId
held_of ns p = first_child ns p 0 55 role.Held role.Held

-- .. the alternate of an If
abbrev pub alternate_of : List ℕ → ℕ → Option NodeId
alternate_of ns p = first_child ns p 0 55 role.Alternate role.Alternate

-- .. the body of a function or arrow
abbrev pub function_body_of : List ℕ → ℕ → Option NodeId
function_body_of ns p = first_child ns p k.FunctionBody k.FunctionBody 0 7

-- .. the body of a class
abbrev pub class_body_of : List ℕ → ℕ → Option NodeId
class_body_of ns p = first_child ns p k.ClassBody k.ClassBody 0 7

-- .. what a parenthesis or a chain holds: any child
abbrev pub inner_of : List ℕ → ℕ → Option NodeId
inner_of ns p = first_child ns p 0 55 0 7

-- with what was found, or else
abbrev pub when_found : {R : Type 0} → Option NodeId → (ℕ → R) → R → R
when_found (Some m) f r = f m.0
when_found None f r = r

-- what was found is in the table
abbrev pub below : List ℕ → Option NodeId → Type 0
below ns (Some m) = m.0 < count ns
below ns None = Unit {0}

-- what was found is node j
abbrev pub is_node : Option NodeId → ℕ → Bool
is_node (Some m) j = eqb m.0 j
is_node None j = false
