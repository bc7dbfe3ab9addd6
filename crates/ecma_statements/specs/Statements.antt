-- ECMA-262, 14.11 The with Statement, 14.11.1 Static Semantics: Early Errors; 14.7.5 The for-in, for-of, and for-await-of Statements, with B.3.5 Initializers in ForIn Statement Heads; 14.3.1.1 Static Semantics: Early Errors, of using.
use Rattle.table_records.specs.declared.NodeId.{NodeId}
use Rattle.std.specs.Prelude.{ℕ, ◌+◌, List, Bool, false, not, ◌&&◌, ◌||◌, eqb, leb, length, Option, Some, None}
use Rattle.base_common.specs.Upto.{upto, all, any}
use Rattle.base_common.specs.Tests.{within}
use Rattle.table_records.specs.Table.{kind_of, parent_of, count, flags_of, extra_of, has_flag, ancestors}
use Rattle.table_records.specs.Kinds as k
use Rattle.table_records.specs.Roles as role
use Rattle.table_records.specs.Extras as extra
use Rattle.table_records.specs.NodeFlag as flag
use Rattle.table_children.specs.Children.{keep, is_child, first_child}
use Rattle.ecma_base.specs.Strict.{strict_code}

-- 14.11.1: WithStatement : with ( Expression ) Statement: "It is a Syntax Error if IsStrict(this production) is true."
unfoldable pub strict_with : List ℕ → List ℕ → ℕ → Bool
strict_with ns ss n = eqb (kind_of ns n) k.With && strict_code ns ss n

-- 14.7.5: THE HEAD OF A FOR-IN OR A FOR-OF

-- 14.3.1 LexicalBinding, 14.3.2 VariableDeclaration: the declarations of a head, and those with an Initializer
abbrev pub declarators_of : List ℕ → ℕ → List ℕ
declarators_of ns d = keep (is_child ns d k.VariableDeclarator k.VariableDeclarator 0 7) (upto (d + 1) (count ns))

abbrev pub initialized : List ℕ → ℕ → Bool
initialized ns v = has_flag (flags_of ns v) flag.Initialiser

-- what is declared is a BindingIdentifier, no BindingPattern (14.3.3)
abbrev pub plain_name : List ℕ → ℕ → Bool
plain_name ns v = has_flag (flags_of ns v) flag.PlainName

-- there is no second one
abbrev pub single : List ℕ → Bool
single l = leb (length l) 1

-- B.3.5: for ( var BindingIdentifier Initializer in Expression ) Statement, in code that is not strict.
unfoldable pub annex_head : List ℕ → List ℕ → ℕ → ℕ → Bool
annex_head ns ss n d =
    (eqb (kind_of ns n) k.ForIn && eqb (extra_of ns d) extra.Var) && ((single (declarators_of ns d) && all (plain_name ns) (declarators_of ns d)) && not (strict_code ns ss n))

-- 14.7.5: the declaration d in the head of n has an Initializer, which no production of ForInOfStatement but that of B.3.5 has
unfoldable pub bad_head : List ℕ → List ℕ → ℕ → ℕ → Bool
bad_head ns ss n d = eqb (kind_of ns d) k.VariableDeclaration && (any (initialized ns) (declarators_of ns d) && not (annex_head ns ss n d))

-- 14.7.5: the left of a for-in or a for-of
abbrev pub head_of : List ℕ → ℕ → Option NodeId
head_of ns n = first_child ns n 0 55 role.Left role.Left

abbrev pub of_head : (ℕ → Bool) → Option NodeId → Bool
of_head p (Some d) = p d.0
of_head p None = false

-- 14.7.5, B.3.5: of n, a ForInOfStatement
unfoldable pub initialized_head : List ℕ → List ℕ → ℕ → Bool
initialized_head ns ss n = within (kind_of ns n) k.ForIn k.ForOf && of_head (bad_head ns ss n) (head_of ns n)

-- 14.3.1.1 as explicit resource management has it (not in the edition of 2025): USING

-- 14.3.1: UsingDeclaration, AwaitUsingDeclaration
abbrev pub using_declaration : List ℕ → ℕ → Bool
using_declaration ns n = eqb (kind_of ns n) k.VariableDeclaration && within (extra_of ns n) extra.Using extra.AwaitUsing

-- "contained, either directly or indirectly, within a Block, ForStatement, ForInOfStatement, FunctionBody, .., or ClassStaticBlockBody"
abbrev pub holds_using : ℕ → Bool
holds_using kind = within kind k.StaticBlock k.Block || within kind k.For k.ForOf

unfoldable pub held_using : List ℕ → ℕ → Bool
held_using ns n = any (λ a. holds_using (kind_of ns a)) (ancestors ns n)

-- "It is a Syntax Error if the goal symbol is Script and UsingDeclaration is not contained" in one of these, or "if UsingDeclaration is contained directly within the
-- StatementList of either a CaseClause or DefaultClause."
unfoldable pub bad_using : ℕ → List ℕ → ℕ → Bool
bad_using source_type ns n = using_declaration ns n && ((eqb source_type 0 && not (held_using ns n)) || eqb (kind_of ns (parent_of ns n)) k.SwitchCase)
