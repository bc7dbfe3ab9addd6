-- Refusal 13, a misplaced child: document 02, "A node under a parent that may not hold it, or of a kind or role that this parent doesn't take". Each sentence of document 01
-- (its refusal 6, "misplaced child") stands above the definition that writes it down.
-- A child is judged by its kind, its role and the kind of its parent, called `above`.
use Rattle.std.specs.Prelude.{ℕ, ◌≤◌, ◌<◌, ◌≡◌, List, Bool, cond, not, ◌&&◌, ◌||◌, true, ◌⊎◌, eqb, ltb}
use Rattle.base_common.specs.Tests.{within}
use Rattle.table_records.specs.Table.{kind_of, role_of, parent_of, count}
use Rattle.table_records.specs.Kinds as k
use Rattle.table_records.specs.Roles as r

-- kinds 5-14, 16 and 18-22
unfoldable pub is_statement : ℕ → Bool
is_statement kind = within kind k.Block k.Switch || (eqb kind k.Try || within kind k.Break k.OtherStatement)

-- kinds 1, 24, 26, 53 and 54
unfoldable pub may_be_statement : ℕ → Bool
may_be_statement kind = eqb kind k.Function || (eqb kind k.VariableDeclaration || (eqb kind k.Class || within kind k.ExportDefault k.ExportNamed))

-- "a holder: 0, 3-13, 15-17"
unfoldable pub is_holder : ℕ → Bool
is_holder kind = eqb kind k.Program || (within kind k.StaticBlock k.With || within kind k.SwitchCase k.CatchClause)

-- role 3, 4 or 5
abbrev pub is_held : ℕ → Bool
is_held role = within role r.Held r.Finally

-- "Kinds 5-14, 16 and 18-22 have role 3, 4 or 5 under a holder"
unfoldable pub stray_statement : ℕ → ℕ → ℕ → Bool
stray_statement kind role above = is_statement kind && not (is_held role && is_holder above)

-- "Kinds 1, 24, 26, 53 and 54 may, and are statements then. No other kind has these roles there, but 17 under Try."
unfoldable pub stray_held : ℕ → ℕ → ℕ → Bool
stray_held kind role above =
    (is_held role && is_holder above) && not (is_statement kind || (may_be_statement kind || (eqb kind k.CatchClause && eqb above k.Try)))

-- "If .. at most one with role 4; else only Try holds roles 4 and 5"
unfoldable pub stray_alternate : ℕ → ℕ → Bool
stray_alternate role above = within role r.Alternate r.Finally && not (eqb above k.Try || (eqb above k.If && eqb role r.Alternate))

-- "Switch holds only SwitchCase with role 3"
unfoldable pub stray_in_switch : ℕ → ℕ → ℕ → Bool
stray_in_switch kind role above = (eqb above k.Switch && eqb role r.Held) && not (eqb kind k.SwitchCase)

-- "A SwitchCase stands only there."
unfoldable pub stray_case : ℕ → ℕ → ℕ → Bool
stray_case kind role above = eqb kind k.SwitchCase && not (eqb above k.Switch && eqb role r.Held)

-- a Block with role 3, a CatchClause with role 4, a Block with role 5
unfoldable pub try_part : ℕ → ℕ
try_part role = cond (eqb role r.Alternate) k.CatchClause k.Block

-- "Try holds one Block with role 3, at most one CatchClause with role 4, one Block with role 5"
unfoldable pub stray_in_try : ℕ → ℕ → ℕ → Bool
stray_in_try kind role above = (eqb above k.Try && is_held role) && not (eqb kind (try_part role))

-- "CatchClause, only there"
unfoldable pub stray_clause : ℕ → ℕ → ℕ → Bool
stray_clause kind role above = eqb kind k.CatchClause && not (eqb above k.Try && eqb role r.Alternate)

-- "CatchClause .. holds one Block"
unfoldable pub stray_in_clause : ℕ → ℕ → ℕ → Bool
stray_in_clause kind role above = (eqb above k.CatchClause && eqb role r.Held) && not (eqb kind k.Block)

-- "FunctionBody stands only under kind 1 or 2"
unfoldable pub stray_function_body : ℕ → ℕ → Bool
stray_function_body kind above = eqb kind k.FunctionBody && not (within above k.Function k.Arrow)

-- "Class has one ClassBody, found only there."
unfoldable pub stray_class_body : ℕ → ℕ → Bool
stray_class_body kind above = eqb kind k.ClassBody && not (eqb above k.Class)

-- "Kinds 28-30 and 3 stand only under ClassBody"
unfoldable pub stray_element : ℕ → ℕ → Bool
stray_element kind above = (within kind k.MethodDefinition k.AccessorProperty || eqb kind k.StaticBlock) && not (eqb above k.ClassBody)

-- "28 one Function as value"
unfoldable pub stray_value : ℕ → ℕ → ℕ → Bool
stray_value kind role above = (eqb above k.MethodDefinition && eqb role r.Value) && not (eqb kind k.Function)

-- statements and what holds them; Switch, Try and their parts; functions and classes
unfoldable pub misplaced_statement : ℕ → ℕ → ℕ → Bool
misplaced_statement kind role above = stray_statement kind role above || (stray_held kind role above || stray_alternate role above)

unfoldable pub misplaced_part : ℕ → ℕ → ℕ → Bool
misplaced_part kind role above =
    stray_in_switch kind role above
    || (stray_case kind role above
    || (stray_in_try kind role above || (stray_clause kind role above || stray_in_clause kind role above)))

unfoldable pub misplaced_element : ℕ → ℕ → ℕ → Bool
misplaced_element kind role above =
    stray_function_body kind above || (stray_class_body kind above || (stray_element kind above || stray_value kind role above))

unfoldable pub misplaced : ℕ → ℕ → ℕ → Bool
misplaced kind role above = misplaced_statement kind role above || (misplaced_part kind role above || misplaced_element kind role above)

-- a node under a parent that may not hold it, or of a kind or role that this parent doesn't take; node 0 is no child
unfoldable pub misplaced_child_at : List ℕ → ℕ → Bool
misplaced_child_at ns i = ltb 0 i && misplaced (kind_of ns i) (role_of ns i) (kind_of ns (parent_of ns i))

-- the kind of a node's parent
abbrev pub parent_kind : List ℕ → ℕ → ℕ
parent_kind ns i = kind_of ns (parent_of ns i)

-- what is known where no child is misplaced
pub record Placed (ns : List ℕ) : Type 0 where
  pub stands : (i : ℕ) → i < count ns → is_statement (kind_of ns i) ≡ true → (r.Held ≤ role_of ns i) × (role_of ns i ≤ r.Finally) × (is_holder (parent_kind ns i) ≡ true)
  pub held : (i : ℕ) → 0 < i → i < count ns → r.Held ≤ role_of ns i → role_of ns i ≤ r.Finally → is_holder (parent_kind ns i) ≡ true
      → (is_statement (kind_of ns i) ≡ true) ⊎ ((may_be_statement (kind_of ns i) ≡ true) ⊎ ((kind_of ns i ≡ k.CatchClause) × (parent_kind ns i ≡ k.Try)))
  pub alternate : (i : ℕ) → 0 < i → i < count ns → r.Alternate ≤ role_of ns i → role_of ns i ≤ r.Finally → (parent_kind ns i ≡ k.Try) ⊎ ((parent_kind ns i ≡ k.If) × (role_of ns i ≡ r.Alternate))
  pub in_switch : (i : ℕ) → i < count ns → parent_kind ns i ≡ k.Switch → role_of ns i ≡ r.Held → kind_of ns i ≡ k.SwitchCase
  pub switch_case : (i : ℕ) → i < count ns → kind_of ns i ≡ k.SwitchCase → (parent_kind ns i ≡ k.Switch) × (role_of ns i ≡ r.Held)
  pub in_try : (i : ℕ) → i < count ns → parent_kind ns i ≡ k.Try → r.Held ≤ role_of ns i → role_of ns i ≤ r.Finally → kind_of ns i ≡ try_part (role_of ns i)
  pub clause : (i : ℕ) → i < count ns → kind_of ns i ≡ k.CatchClause → (parent_kind ns i ≡ k.Try) × (role_of ns i ≡ r.Alternate)
  pub in_clause : (i : ℕ) → i < count ns → parent_kind ns i ≡ k.CatchClause → role_of ns i ≡ r.Held → kind_of ns i ≡ k.Block
  pub function_body : (i : ℕ) → i < count ns → kind_of ns i ≡ k.FunctionBody → (k.Function ≤ parent_kind ns i) × (parent_kind ns i ≤ k.Arrow)
  pub class_body : (i : ℕ) → i < count ns → kind_of ns i ≡ k.ClassBody → parent_kind ns i ≡ k.Class
  pub element : (i : ℕ) → i < count ns → k.MethodDefinition ≤ kind_of ns i → kind_of ns i ≤ k.AccessorProperty → parent_kind ns i ≡ k.ClassBody
  pub static_block : (i : ℕ) → i < count ns → kind_of ns i ≡ k.StaticBlock → parent_kind ns i ≡ k.ClassBody
  pub method_value : (i : ℕ) → i < count ns → parent_kind ns i ≡ k.MethodDefinition → role_of ns i ≡ r.Value → kind_of ns i ≡ k.Function
