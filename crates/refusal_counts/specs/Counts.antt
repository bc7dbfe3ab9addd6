-- Refusal 14, a wrong count: document 02, "A child missing or too many", at the parent. Each sentence of document 01 (its refusal 6, "parent with a wrong count") stands above the
-- definition that writes it down. That a child with a role is of the kind that the sentence names is the business of 13, which comes first over the whole tree.
use Rattle.std.specs.Prelude.{ℕ, ◌+◌, ◌≤◌, ◌<◌, ◌≡◌, List, Bool, cond, not, ◌&&◌, ◌||◌, eqb, ltb, length}
use Rattle.base_common.specs.Tests.{within}
use Rattle.base_common.specs.Upto.{upto}
use Rattle.table_records.specs.Table.{kind_of, flags_of, count, has_flag}
use Rattle.table_records.specs.Kinds as k
use Rattle.table_records.specs.Roles as r
use Rattle.table_records.specs.NodeFlag as flag
use Rattle.table_children.specs.Children.{keep, is_child, how_many}

-- how many children of a node have a role, or are of a kind
abbrev pub with_role : List ℕ → ℕ → ℕ → ℕ
with_role ns i role = how_many ns i 0 55 role role

abbrev pub with_kind : List ℕ → ℕ → ℕ → ℕ
with_kind ns i kind = how_many ns i kind kind 0 7

-- how many labels of kind 33
abbrev pub labels : List ℕ → ℕ → ℕ
labels ns i = how_many ns i k.LabelIdentifier k.LabelIdentifier r.Label r.Label

-- c is a SwitchCase that the Switch p holds, with flag 4096
unfoldable pub is_default : List ℕ → ℕ → ℕ → Bool
is_default ns p c = is_child ns p k.SwitchCase k.SwitchCase r.Held r.Held c && has_flag (flags_of ns c) flag.Default

unfoldable pub defaults : List ℕ → ℕ → ℕ
defaults ns p = length (keep (is_default ns p) (upto (p + 1) (count ns)))

-- "Kinds 6-11 and 13 hold exactly one statement with role 3, If one": If is kind 12
unfoldable pub wrong_body : List ℕ → ℕ → Bool
wrong_body ns i = within (kind_of ns i) k.Labeled k.With && not (eqb (with_role ns i r.Held) 1)

-- "If .. at most one with role 4"
unfoldable pub wrong_alternate : List ℕ → ℕ → Bool
wrong_alternate ns i = eqb (kind_of ns i) k.If && ltb 1 (with_role ns i r.Alternate)

-- "Switch holds only SwitchCase with role 3, at most one with flag 4096."
unfoldable pub wrong_default : List ℕ → ℕ → Bool
wrong_default ns i = eqb (kind_of ns i) k.Switch && ltb 1 (defaults ns i)

-- "Try holds one Block with role 3, at most one CatchClause with role 4, one Block with role 5, and at least one of the last two"
unfoldable pub wrong_try : List ℕ → ℕ → Bool
wrong_try ns i =
    eqb (kind_of ns i) k.Try
    && (not (eqb (with_role ns i r.Held) 1)
    || (ltb 1 (with_role ns i r.Alternate)
    || (ltb 1 (with_role ns i r.Finally) || eqb (how_many ns i 0 55 r.Alternate r.Finally) 0)))

-- "CatchClause .. holds one Block."
unfoldable pub wrong_clause : List ℕ → ℕ → Bool
wrong_clause ns i = eqb (kind_of ns i) k.CatchClause && not (eqb (with_role ns i r.Held) 1)

-- "Labeled has one label of kind 33, Break and Continue at most one."
unfoldable pub wrong_label : List ℕ → ℕ → Bool
wrong_label ns i = cond (eqb (kind_of ns i) k.Labeled) (not (eqb (labels ns i) 1)) (within (kind_of ns i) k.Break k.Continue && ltb 1 (labels ns i))

-- "FunctionBody stands only under kind 1 or 2, at most one each."
unfoldable pub wrong_function : List ℕ → ℕ → Bool
wrong_function ns i = within (kind_of ns i) k.Function k.Arrow && ltb 1 (with_kind ns i k.FunctionBody)

-- "Class has one ClassBody"
unfoldable pub wrong_class : List ℕ → ℕ → Bool
wrong_class ns i = eqb (kind_of ns i) k.Class && not (eqb (with_kind ns i k.ClassBody) 1)

-- "28-30 have .. at most one value, 28 one Function as value."
unfoldable pub wrong_value : List ℕ → ℕ → Bool
wrong_value ns i = cond (eqb (kind_of ns i) k.MethodDefinition) (not (eqb (with_role ns i r.Value) 1)) (ltb 1 (with_role ns i r.Value))

-- "28-30 have one key and at most one value, 28 one Function as value."
unfoldable pub wrong_element : List ℕ → ℕ → Bool
wrong_element ns i = within (kind_of ns i) k.MethodDefinition k.AccessorProperty && (not (eqb (with_role ns i r.Key) 1) || wrong_value ns i)

-- a child missing or too many: of a statement; of a Switch, a Try or a CatchClause; of a function, a class or an element
unfoldable pub wrong_statement : List ℕ → ℕ → Bool
wrong_statement ns i = wrong_body ns i || (wrong_alternate ns i || wrong_label ns i)

unfoldable pub wrong_part : List ℕ → ℕ → Bool
wrong_part ns i = wrong_default ns i || (wrong_try ns i || wrong_clause ns i)

unfoldable pub wrong_home : List ℕ → ℕ → Bool
wrong_home ns i = wrong_function ns i || (wrong_class ns i || wrong_element ns i)

unfoldable pub wrong_count_at : List ℕ → ℕ → Bool
wrong_count_at ns i = wrong_statement ns i || (wrong_part ns i || wrong_home ns i)

-- the kinds whose children a sentence counts
unfoldable pub is_counted : ℕ → Bool
is_counted kind = within kind k.Function k.Arrow || (within kind k.Labeled k.Switch || (within kind k.Try k.Continue || (eqb kind k.Class || within kind k.MethodDefinition k.AccessorProperty)))

-- what is known where no node has a wrong number of children
pub record Counted (ns : List ℕ) : Type 0 where
  pub body : (i : ℕ) → i < count ns → k.Labeled ≤ kind_of ns i → kind_of ns i ≤ k.With → with_role ns i r.Held ≡ 1
  pub alternate : (i : ℕ) → i < count ns → kind_of ns i ≡ k.If → with_role ns i r.Alternate ≤ 1
  pub label : (i : ℕ) → i < count ns → kind_of ns i ≡ k.Labeled → labels ns i ≡ 1
  pub jump : (i : ℕ) → i < count ns → k.Break ≤ kind_of ns i → kind_of ns i ≤ k.Continue → labels ns i ≤ 1
  pub one_default : (i : ℕ) → i < count ns → kind_of ns i ≡ k.Switch → defaults ns i ≤ 1
  pub try_block : (i : ℕ) → i < count ns → kind_of ns i ≡ k.Try → with_role ns i r.Held ≡ 1
  pub try_clause : (i : ℕ) → i < count ns → kind_of ns i ≡ k.Try → with_role ns i r.Alternate ≤ 1
  pub try_finally : (i : ℕ) → i < count ns → kind_of ns i ≡ k.Try → with_role ns i r.Finally ≤ 1
  pub try_either : (i : ℕ) → i < count ns → kind_of ns i ≡ k.Try → how_many ns i 0 55 r.Alternate r.Finally ≡ 0 → ⊥
  pub clause_block : (i : ℕ) → i < count ns → kind_of ns i ≡ k.CatchClause → with_role ns i r.Held ≡ 1
  pub function_body : (i : ℕ) → i < count ns → k.Function ≤ kind_of ns i → kind_of ns i ≤ k.Arrow → with_kind ns i k.FunctionBody ≤ 1
  pub class_body : (i : ℕ) → i < count ns → kind_of ns i ≡ k.Class → with_kind ns i k.ClassBody ≡ 1
  pub key : (i : ℕ) → i < count ns → k.MethodDefinition ≤ kind_of ns i → kind_of ns i ≤ k.AccessorProperty → with_role ns i r.Key ≡ 1
  pub value : (i : ℕ) → i < count ns → k.MethodDefinition ≤ kind_of ns i → kind_of ns i ≤ k.AccessorProperty → with_role ns i r.Value ≤ 1
  pub method : (i : ℕ) → i < count ns → kind_of ns i ≡ k.MethodDefinition → with_role ns i r.Value ≡ 1
