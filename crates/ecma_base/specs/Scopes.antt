-- Tables whose scopes follow the tree, as tree makers write them (docs/TREES.md): the condition under which rules that go by scopes are the standard's, which go by the tree.
use Rattle.std.specs.Prelude.{ℕ, List, Bool, cond, not, ◌&&◌, ◌||◌, eqb, ltb, ◌<◌, ◌≡◌}
use Rattle.base_common.specs.Upto.{upto, all}
use Rattle.base_common.specs.Tests.{within}
use Rattle.table_records.specs.Table.{kind_of, parent_of, count, extra_of, scope_of, scope_parent_of, scope_flags_of, scope_node_of, has_flag}
use Rattle.table_records.specs.Kinds as k
use Rattle.table_records.specs.ScopeFlag as scope

-- what makes a scope for all that stands in it: functions, arrows, static blocks, Blocks, the three kinds of for
abbrev pub makes_scope : ℕ → Bool
makes_scope kind = within kind k.Function k.StaticBlock || (eqb kind k.Block || within kind k.For k.ForOf)

-- what makes one for some of its parts: With, Switch, CatchClause, Class
abbrev pub may_make_scope : ℕ → Bool
may_make_scope kind = within kind k.With k.Switch || (eqb kind k.CatchClause || eqb kind k.Class)

-- the scope of i is its parent's, or one that its parent makes
abbrev pub same_scope : List ℕ → ℕ → Bool
same_scope ns i = eqb (scope_of ns i) (scope_of ns (parent_of ns i))

abbrev pub new_scope : List ℕ → List ℕ → ℕ → Bool
new_scope ns ss i = ltb 0 (scope_of ns i) && (eqb (scope_parent_of ss (scope_of ns i)) (scope_of ns (parent_of ns i)) && eqb (scope_node_of ss (scope_of ns i)) (parent_of ns i))

unfoldable pub follows_at : List ℕ → List ℕ → ℕ → Bool
follows_at ns ss i =
    cond (makes_scope (kind_of ns (parent_of ns i))) (new_scope ns ss i) (same_scope ns i || (may_make_scope (kind_of ns (parent_of ns i)) && new_scope ns ss i))

-- the scope of i is flagged as what its node is: a static block's, a function's or an arrow's, the program's
abbrev pub iff : Bool → Bool → Bool
iff a b = cond a b (not b)

abbrev pub block_scope : List ℕ → List ℕ → ℕ → Bool
block_scope ns ss i = has_flag (scope_flags_of ss (scope_of ns i)) scope.StaticBlockScope

abbrev pub function_scope : List ℕ → List ℕ → ℕ → Bool
function_scope ns ss i = has_flag (scope_flags_of ss (scope_of ns i)) scope.FunctionScope

abbrev pub arrow_scope : List ℕ → List ℕ → ℕ → Bool
arrow_scope ns ss i = has_flag (scope_flags_of ss (scope_of ns i)) scope.ArrowScope

abbrev pub top_scope : List ℕ → List ℕ → ℕ → Bool
top_scope ns ss i = has_flag (scope_flags_of ss (scope_of ns i)) scope.Top

abbrev pub scope_kind : List ℕ → List ℕ → ℕ → ℕ
scope_kind ns ss i = kind_of ns (scope_node_of ss (scope_of ns i))

unfoldable pub flagged_at : List ℕ → List ℕ → ℕ → Bool
flagged_at ns ss i =
    iff (block_scope ns ss i) (eqb (scope_kind ns ss i) k.StaticBlock)
    && (iff (function_scope ns ss i) (within (scope_kind ns ss i) k.Function k.Arrow)
    && (iff (arrow_scope ns ss i) (eqb (scope_kind ns ss i) k.Arrow) && iff (top_scope ns ss i) (eqb (scope_of ns i) 0)))

-- a class names the scope that it makes for its ClassBody; a ClassBody holds elements alone
abbrev pub implies : Bool → Bool → Bool
implies a b = not a || b

unfoldable pub class_at : List ℕ → List ℕ → ℕ → Bool
class_at ns ss i =
    implies (eqb (kind_of ns i) k.Class) (eqb (scope_node_of ss (extra_of ns i)) i)
    && (implies (eqb (kind_of ns i) k.ClassBody) (new_scope ns ss i && eqb (scope_of ns i) (extra_of ns (parent_of ns i)))
    && implies (eqb (kind_of ns (parent_of ns i)) k.ClassBody) (within (kind_of ns i) k.MethodDefinition k.AccessorProperty || eqb (kind_of ns i) k.StaticBlock))

unfoldable pub scopes_follow : List ℕ → List ℕ → Bool
scopes_follow ns ss =
    (eqb (scope_of ns 0) 0 && eqb (scope_node_of ss 0) 0)
    && (all (flagged_at ns ss) (upto 0 (count ns)) && (all (follows_at ns ss) (upto 1 (count ns)) && all (class_at ns ss) (upto 1 (count ns))))

-- a scope that the parent p of i makes
pub record Made (ns ss : List ℕ) (i : ℕ) : Type 0 where
  pub later : 0 < scope_of ns i
  pub around : scope_parent_of ss (scope_of ns i) ≡ scope_of ns (parent_of ns i)
  pub whose : scope_node_of ss (scope_of ns i) ≡ parent_of ns i
