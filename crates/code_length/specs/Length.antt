-- Request 9: "The code's length shall be exactly a sum over the unit's nodes outside nested functions, arrows and classes that aren't entered .., of a number stated for each
-- kind with its role, flags and parent's kind". It is read off the node table, without the code.
use Rattle.std.specs.Prelude.{ℕ, ◌+◌, Bool, true, false, cond, not, ◌&&◌, ◌||◌, eqb}
use mathlib.Core.List.{List, foldr}
use Rattle.base_common.specs.Upto.{upto}
use Rattle.base_common.specs.Tests.{within}
use Rattle.table_records.specs.Table.{kind_of, parent_of, role_of, flags_of, count, ancestors, has_flag}
use Rattle.table_records.specs.Kinds as k
use Rattle.table_records.specs.Roles as role
use Rattle.table_records.specs.NodeFlag as flag
use Rattle.refusal_standing.specs.Standing.{is_held, is_holder, may_be_statement, parent_kind}

-- THE NUMBERS, by the kind of a node, its role and its parent's kind; none depends on its flags.
unfoldable pub number_of : ℕ → ℕ → ℕ → ℕ
number_of kind r above =
    -- a static block; a Block, as finally of a Try two more
    cond (eqb kind k.StaticBlock) 3
    (cond (eqb kind k.Block) (cond (eqb r role.Finally && eqb above k.Try) 5 3)
    (cond (within kind k.For k.DoWhile) 10
    (cond (eqb kind k.If) 7
    (cond (eqb kind k.With) 2
    (cond (eqb kind k.Switch) 7
    (cond (eqb kind k.SwitchCase) 4
    (cond (within kind k.Break k.OtherStatement) 5
    -- "Kinds 1, 24, 26, 53 and 54 may [have role 3, 4 or 5 under a holder], and are statements then": "a nested function's own node counts where it is listed"
    (cond (may_be_statement kind && (is_held r && is_holder above)) 5
    -- Program, Arrow, FunctionBody, Labeled, Try, CatchClause; "0 for kinds 23, 25, 27 to 52 and 55"
    0))))))))

-- "the unit's own node has a number as unit"
abbrev pub unit_number : ℕ
unit_number = 8

-- n is listed when it is reached: a statement of its holder.
abbrev pub is_listed : List ℕ → ℕ → Bool
is_listed ns n = is_held (role_of ns n) && is_holder (parent_kind ns n)

-- "A class that an export declares (its child, flag 32)"
abbrev pub is_exported : List ℕ → ℕ → Bool
is_exported ns c = within (parent_kind ns c) k.ExportDefault k.ExportNamed && has_flag (flags_of ns c) flag.Declaration

-- ".. is entered after the export is listed"; any other class "after the class is listed"; "classes in expressions are still not entered".
abbrev pub is_entered : List ℕ → ℕ → Bool
is_entered ns c = is_listed ns c || (is_exported ns c && is_listed ns (parent_of ns c))

-- "nested functions, arrows and classes that aren't entered"
abbrev pub is_closed : List ℕ → ℕ → Bool
is_closed ns a = within (kind_of ns a) k.Function k.Arrow || (eqb (kind_of ns a) k.Class && not (is_entered ns a))

-- n is one of the nodes of the unit u outside these: the way up from it meets u before any of them.
unfoldable pub of_unit : List ℕ → ℕ → ℕ → Bool
of_unit ns u n = foldr (λ a r. cond (eqb a u) true (cond (is_closed ns a) false r)) false (ancestors ns n)

-- what n adds to the length of the unit u
abbrev pub added_by : List ℕ → ℕ → ℕ → ℕ
added_by ns u n = cond (of_unit ns u n) (number_of (kind_of ns n) (role_of ns n) (parent_kind ns n)) 0

-- THE LENGTH of the code of the unit u
unfoldable pub code_length : List ℕ → ℕ → ℕ
code_length ns u = unit_number + foldr (λ n r. added_by ns u n + r) 0 (upto 0 (count ns))
