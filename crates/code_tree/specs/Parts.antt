-- The parts of a node: the statements that it holds, in the order of their code.
use Rattle.std.specs.Prelude.{ℕ, ◌<◌, ◌≡◌, ◌+◌, List, ◌++◌, Bool, true, false, cond, ◌&&◌, ◌||◌, eqb}
use Rattle.base_common.specs.Upto.{upto}
use Rattle.base_common.specs.Tests.{within}
use Rattle.table_records.specs.Table.{kind_of, parent_of, role_of, flags_of, count, has_flag}
use Rattle.table_records.specs.Kinds as k
use Rattle.table_records.specs.Roles as role
use Rattle.table_records.specs.NodeFlag as flag
use Rattle.table_children.specs.Children.{keep}
use Rattle.code_tree.specs.declared.Shape.{Shape}
use Rattle.code_tree.specs.declared.Shape.TheVariants.{Leaf, Class, If, With, Block, Label, Loop, Switch, Case, Try, Catch}

-- A class, and an export, which may declare one.
abbrev pub is_class : ℕ → Bool
is_class kind = eqb kind k.Class || (eqb kind k.ExportDefault || eqb kind k.ExportNamed)

-- What a node is to the code, by its kind: Program, StaticBlock, FunctionBody and Block hold a list of statements; "Simple statements (kinds 18-22 and,
-- with role 3 or 4, kinds 1, 24, 26, 53, 54) are listed when reached".
unfoldable pub shape_by : ℕ → Shape
shape_by kind =
    cond (eqb kind k.Program || (eqb kind k.StaticBlock || (eqb kind k.FunctionBody || eqb kind k.Block))) Block
    (cond (eqb kind k.Labeled) Label (cond (within kind k.For k.DoWhile) Loop (cond (eqb kind k.If) If (cond (eqb kind k.With) With
    (cond (eqb kind k.Switch) Switch (cond (eqb kind k.SwitchCase) Case (cond (eqb kind k.Try) Try (cond (eqb kind k.CatchClause) Catch (cond (is_class kind) Class Leaf)))))))))

abbrev pub shape_at : List ℕ → ℕ → Shape
shape_at ns j = shape_by (kind_of ns j)

abbrev pub is_labeled : Shape → Bool
is_labeled Leaf = false
is_labeled Class = false
is_labeled If = false
is_labeled With = false
is_labeled Block = false
is_labeled Label = true
is_labeled Loop = false
is_labeled Switch = false
is_labeled Case = false
is_labeled Try = false
is_labeled Catch = false

-- "A class that an export declares (its child, flag 32) is entered after the export is listed"; any other class after it is listed itself.
abbrev pub entered_by : List ℕ → ℕ → ℕ
entered_by ns c = cond (within (kind_of ns (parent_of ns c)) k.ExportDefault k.ExportNamed && has_flag (flags_of ns c) flag.Declaration) (parent_of ns c) c

-- Whose part a node may be: its parent's; a static block, which stands in a ClassBody, that of the class or export it is entered from.
unfoldable pub up_of : List ℕ → ℕ → ℕ
up_of ns j = cond (eqb (kind_of ns j) k.StaticBlock) (entered_by ns (parent_of ns (parent_of ns j))) (parent_of ns j)

-- The kind and role of a part, by what its holder is: "held statement or body", of an If its alternate too, of a Try its catch and finally; of a class its static blocks.
-- What lists alone has no parts.
abbrev pub part_by : Shape → ℕ → ℕ → Bool
part_by Leaf kind r = false
part_by Class kind r = eqb kind k.StaticBlock
part_by If kind r = eqb r role.Held || eqb r role.Alternate
part_by With kind r = eqb r role.Held
part_by Block kind r = eqb r role.Held
part_by Label kind r = eqb r role.Held
part_by Loop kind r = eqb r role.Held
part_by Switch kind r = eqb r role.Held
part_by Case kind r = eqb r role.Held
part_by Try kind r = eqb r role.Held || (eqb r role.Alternate || eqb r role.Finally)
part_by Catch kind r = eqb r role.Held

unfoldable pub is_part : List ℕ → ℕ → Bool
is_part ns j = part_by (shape_at ns (up_of ns j)) (kind_of ns j) (role_of ns j)

-- The parts of p from the node i on: "Those of one holder run in node order."
unfoldable pub parts : List ℕ → ℕ → ℕ → List ℕ
parts ns p i = keep (λ j. eqb (up_of ns j) p && is_part ns j) (upto i (count ns))

-- Those of a list with the role r.
abbrev pub with_role : List ℕ → ℕ → List ℕ → List ℕ
with_role ns r ps = keep (λ j. eqb (role_of ns j) r) ps

-- The parts in the order of their code: of a Try its Block, its CatchClause, its finally, in whichever order they stand in the table; else node order.
abbrev pub order_by : List ℕ → Shape → List ℕ → List ℕ
order_by ns Leaf ps = ps
order_by ns Class ps = ps
order_by ns If ps = ps
order_by ns With ps = ps
order_by ns Block ps = ps
order_by ns Label ps = ps
order_by ns Loop ps = ps
order_by ns Switch ps = ps
order_by ns Case ps = ps
order_by ns Try ps = with_role ns role.Held ps ++ (with_role ns role.Alternate ps ++ with_role ns role.Finally ps)
order_by ns Catch ps = ps

unfoldable pub order : List ℕ → ℕ → List ℕ
order ns j = order_by ns (shape_at ns j) (parts ns j (j + 1))

-- c is a part of p.
pub record Part (ns : List ℕ) (p c : ℕ) : Type 0 where
  pub behind : p < c
  pub inside : c < count ns
  pub parent : up_of ns c ≡ p
  pub part : is_part ns c ≡ true
