-- What holds of kinds by computing it for each of them.
use Rattle.std.specs.Prelude.{ℕ, zero, suc, ◌≤◌, ◌≡◌, ◌⊎◌, Bool, true, false, not, ◌&&◌, ◌||◌, eqb}
use Rattle.base_common.specs.Tests.{within}
use Rattle.table_records.specs.Kinds as k
use Rattle.table_records.specs.Roles as role
use Rattle.refusal_standing.specs.Standing.{is_statement, is_holder, may_be_statement}
use Rattle.code_tree.specs.declared.Shape.{Shape}
use Rattle.code_tree.specs.declared.Shape.TheVariants.{Leaf as Single, Class, If, With, Block, Label, Loop, Switch, Case, Try, Catch}

-- A test of all numbers below n.
abbrev pub every_below : (ℕ → Bool) → ℕ → Bool
every_below q zero = true
every_below q (suc n) = q n && every_below q n

-- One test implies another.
abbrev pub implies : Bool → Bool → Bool
implies a b = not a || b

-- A holder is the Program, a static block, a FunctionBody, a case, a clause or a statement.
abbrev pub holder_is : ℕ → Bool
holder_is kind = eqb kind k.Program || (eqb kind k.FunctionBody || (eqb kind k.StaticBlock || (eqb kind k.SwitchCase || (eqb kind k.CatchClause || is_statement kind))))

-- What a part says of its holder: it is a static block, or has role 3, 4 or 5 in what holds statements or cases.
abbrev pub has_parts : Shape → Bool
has_parts Single = false
has_parts Class = false
has_parts If = true
has_parts With = true
has_parts Block = true
has_parts Label = true
has_parts Loop = true
has_parts Switch = true
has_parts Case = true
has_parts Try = true
has_parts Catch = true

abbrev pub Holding : Shape → ℕ → ℕ → Type 0
Holding s l r = (l ≡ k.StaticBlock) ⊎ ((role.Held ≤ r) × (r ≤ role.Finally) × (has_parts s ≡ true))

-- What holds statements or cases is no function, arrow or class, and a Switch or a holder.
abbrev pub open_holder : ℕ → Bool
open_holder kind = (eqb kind k.Switch || is_holder kind) && (not (within kind k.Function k.Arrow) && not (eqb kind k.Class))

-- What the code has for a part: the number of its shape, at a finally two more.
abbrev pub may_count : ℕ → Bool
may_count kind = eqb kind k.StaticBlock || (eqb kind k.SwitchCase || (eqb kind k.CatchClause || (is_statement kind || may_be_statement kind)))

-- What adds a number is a static block, a case, a statement, or held as one.
abbrev pub counts : Bool → ℕ → Bool
counts held kind = eqb kind k.StaticBlock || (eqb kind k.SwitchCase || (is_statement kind || held))
