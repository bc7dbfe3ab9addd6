-- The statements of a unit, from the node table: document 01, "Routes", with requests 1 and 5.
use Rattle.table_records.specs.declared.NodeId.{NodeId}
use Rattle.std.specs.Prelude.{ℕ, zero, suc, List, [], ◌∷◌, Bool, cond, not, ◌||◌, eqb, Option, Some, None}
use Rattle.base_common.specs.Tests.{within}
use Rattle.table_records.specs.Table.{kind_of, role_of, flags_of, count, has_flag}
use Rattle.table_records.specs.Kinds as k
use Rattle.table_records.specs.Roles as role
use Rattle.table_records.specs.NodeFlag as flag
use Rattle.table_children.specs.Children.{function_body_of}
use Rattle.route_completion.specs.Tree.{Leaf, simple, brk, con, ret, thr, Stmt, Stmts, Cases, leaf, if1, if2, if3, withs, block, label, loop, switch, try_c, try_f, nil, cons, none, case}
use Rattle.code_tree.specs.declared.Shape.{Shape}
use Rattle.code_tree.specs.declared.Shape.TheVariants.{Leaf as Single, Class, If, With, Block, Label, Loop, Switch, Case, Try, Catch}
use Rattle.code_tree.specs.Labels.{lab_at, id_at}
use Rattle.code_tree.specs.Parts.{shape_at, order}

-- Which statement without parts a node is.
unfoldable pub leaf_at : List ℕ → List ℕ → ℕ → Leaf
leaf_at ns names j =
    cond (eqb (kind_of ns j) k.Break) (brk (lab_at ns names j)) (cond (eqb (kind_of ns j) k.Continue) (con (lab_at ns names j))
    (cond (eqb (kind_of ns j) k.Return) ret (cond (eqb (kind_of ns j) k.Throw) thr simple)))

-- "Loops take theirs before the body, DoWhile after"; "a `for` without a test goes on whatever it says".
abbrev pub before_at : List ℕ → ℕ → Bool
before_at ns j = not (eqb (kind_of ns j) k.DoWhile)

abbrev pub test_at : List ℕ → ℕ → Bool
test_at ns j = not (eqb (kind_of ns j) k.For) || has_flag (flags_of ns j) flag.Test

abbrev pub default_at : List ℕ → ℕ → Bool
default_at ns j = has_flag (flags_of ns j) flag.Default

-- Statements from their nodes; S gives the statement of a node.
abbrev pub list_of : (ℕ → Stmt) → List ℕ → Stmts
list_of S [] = nil
list_of S (j ∷ js) = cons (S j) (list_of S js)

abbrev pub one_of : (ℕ → Stmt) → List ℕ → Stmt
one_of S [] = block nil
one_of S (j ∷ js) = S j

-- "If runs role 3 on yes, else role 4", in whichever order they stand.
abbrev pub if_of : List ℕ → (ℕ → Stmt) → ℕ → List ℕ → Stmt
if_of ns S i [] = block nil
if_of ns S i (j ∷ []) = if1 i (S j)
if_of ns S i (j ∷ l ∷ ls) = cond (eqb (role_of ns j) role.Alternate) (if3 i (S j) (S l)) (if2 i (S j) (S l))

-- A Try from its Block, its CatchClause and its finally. The finally runs on each way out, out of the catch too; a throw in the catch isn't caught there.
abbrev pub try_of : List ℕ → (ℕ → Stmt) → List ℕ → Stmt
try_of ns S [] = block nil
try_of ns S (b ∷ []) = S b
try_of ns S (b ∷ c ∷ []) = cond (eqb (role_of ns c) role.Finally) (try_f (S b) (S c)) (try_c (S b) (S c))
try_of ns S (b ∷ c ∷ d ∷ ds) = try_f (try_c (S b) (S c)) (S d)

-- "after the class is listed, its static blocks run in node order": `withs j` lists j and then runs what it holds (ClassLaws.antt).
abbrev pub class_of : ℕ → Stmts → Stmt
class_of j nil = leaf j simple
class_of j (cons b bs) = withs j (block (cons b bs))

abbrev pub cases_of : List ℕ → (ℕ → Stmt) → List ℕ → Cases
cases_of ns S [] = none
cases_of ns S (j ∷ js) = case (default_at ns j) (list_of S (order ns j)) (cases_of ns S js)

abbrev pub build : List ℕ → List ℕ → (ℕ → Stmt) → ℕ → List ℕ → Shape → Stmt
build ns names S j ps Single = leaf j (leaf_at ns names j)
build ns names S j ps Class = class_of j (list_of S ps)
build ns names S j ps If = if_of ns S j ps
build ns names S j ps With = withs j (one_of S ps)
build ns names S j ps Block = block (list_of S ps)
build ns names S j ps Label = label (id_at ns names j) (one_of S ps)
build ns names S j ps Loop = loop j (before_at ns j) (test_at ns j) (one_of S ps)
build ns names S j ps Switch = switch j (cases_of ns S ps)
build ns names S j ps Case = block (list_of S ps)
build ns names S j ps Try = try_of ns S ps
build ns names S j ps Catch = one_of S ps

-- The statement of the node j. The first number bounds the nesting: a part stands behind its holder, so that the count of nodes is enough (BoundLaws.antt).
unfoldable pub stmt_at : List ℕ → List ℕ → ℕ → ℕ → Stmt
stmt_at ns names zero j = block nil
stmt_at ns names (suc f) j = build ns names (stmt_at ns names f) j (order ns j) (shape_at ns j)

-- The statements that the node b (a Program, a StaticBlock, a FunctionBody) holds.
unfoldable pub body_of : List ℕ → List ℕ → ℕ → Stmts
body_of ns names b = list_of (stmt_at ns names (count ns)) (order ns b)

-- The node that holds a unit's statements: of a function or arrow its FunctionBody, else the unit itself.
unfoldable pub holder_of : List ℕ → ℕ → Option NodeId
holder_of ns u = cond (within (kind_of ns u) k.Function k.Arrow) (function_body_of ns u) (Some (record { 0 = u }))

-- "A function or arrow without FunctionBody lists nothing and ends 0."
abbrev pub unit_by : List ℕ → List ℕ → Option NodeId → Stmts
unit_by ns names (Some b) = body_of ns names b.0
unit_by ns names None = nil

unfoldable pub unit_of : List ℕ → List ℕ → ℕ → Stmts
unit_of ns names u = unit_by ns names (holder_of ns u)
