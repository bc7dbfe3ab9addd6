-- The labels of breaks, continues and labelled statements, as numbers.
use Rattle.table_records.specs.declared.NodeId.{NodeId}
use Rattle.std.specs.Prelude.{ℕ, Bool, cond, ◌&&◌, eqb, Option, Some, None}
use mathlib.Core.List.{List, foldr}
use Rattle.base_common.specs.Upto.{upto}
use Rattle.table_records.specs.Table.{kind_of, role_of, count}
use Rattle.table_records.specs.Kinds as k
use Rattle.table_records.specs.Roles as role
use Rattle.table_names.specs.Name.{same_name}
use Rattle.table_children.specs.Children.{label_of}
use Rattle.route_completion.specs.Tree.{Lab, near, named}

-- "a label is a node of kind 33 with role 6"
abbrev pub is_label : List ℕ → ℕ → Bool
is_label ns j = eqb (kind_of ns j) k.LabelIdentifier && eqb (role_of ns j) role.Label

-- A label's name as a number: the first label that has it. (Of a node that is no label, and whose name no label has, that node.)
unfoldable pub name_id : List ℕ → List ℕ → ℕ → ℕ
name_id ns names l = foldr (λ j r. cond (is_label ns j && same_name ns names j l) j r) l (upto 0 (count ns))

-- The label of a Break or a Continue: "Break and Continue at most one".
abbrev pub lab_by : List ℕ → List ℕ → Option NodeId → Lab
lab_by ns names (Some m) = named (name_id ns names m.0)
lab_by ns names None = near

abbrev pub lab_at : List ℕ → List ℕ → ℕ → Lab
lab_at ns names j = lab_by ns names (label_of ns j)

-- The label of a Labeled: "Labeled has one label of kind 33". Without one, which no well-formed table has, it has a number that is no name's.
abbrev pub id_by : List ℕ → List ℕ → Option NodeId → ℕ
id_by ns names (Some m) = name_id ns names m.0
id_by ns names None = count ns

abbrev pub id_at : List ℕ → List ℕ → ℕ → ℕ
id_at ns names j = id_by ns names (label_of ns j)
