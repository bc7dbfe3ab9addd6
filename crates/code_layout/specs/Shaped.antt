-- What is asked of the tables: it follows from their being well-formed (refusals 3 and 6).
use Rattle.std.specs.Prelude.{ℕ, ◌<◌, ◌≡◌, List, [], ◌∷◌, Bool, true, false, ◌⊎◌}
use Rattle.base_walk.specs.Above.{Falls}
use Rattle.table_records.specs.Table.{role_of, count}
use Rattle.table_records.specs.Facts.{Tree, Named}
use Rattle.code_tree.specs.Parts.{up_of, shape_at, is_part, order}
use Rattle.code_tree.specs.declared.Shape.{Shape}
use Rattle.code_tree.specs.declared.Shape.TheVariants.{Leaf as Single, Class, If, With, Block, Label, Loop, Switch, Case, Try, Catch}

abbrev pub is_one : Shape → Bool
is_one Single = false
is_one Class = false
is_one If = false
is_one With = true
is_one Block = false
is_one Label = true
is_one Loop = true
is_one Switch = false
is_one Case = false
is_one Try = false
is_one Catch = true

abbrev pub is_case : Shape → Bool
is_case Single = false
is_case Class = false
is_case If = false
is_case With = false
is_case Block = false
is_case Label = false
is_case Loop = false
is_case Switch = false
is_case Case = true
is_case Try = false
is_case Catch = false

abbrev pub is_switch : Shape → Bool
is_switch Single = false
is_switch Class = false
is_switch If = false
is_switch With = false
is_switch Block = false
is_switch Label = false
is_switch Loop = false
is_switch Switch = true
is_switch Case = false
is_switch Try = false
is_switch Catch = false

-- The parts in code order, with their roles: one, two or three.
abbrev pub One : List ℕ → ℕ → Type 0
One ns j = (c : ℕ) × (order ns j ≡ c ∷ [])

abbrev pub Two : List ℕ → ℕ → ℕ → ℕ → Type 0
Two ns j r s = (c : ℕ) × (d : ℕ) × (order ns j ≡ c ∷ d ∷ []) × (role_of ns c ≡ r) × (role_of ns d ≡ s)

abbrev pub Three : List ℕ → ℕ → Type 0
Three ns j = (c : ℕ) × (d : ℕ) × (e : ℕ) × (order ns j ≡ c ∷ d ∷ e ∷ []) × (role_of ns c ≡ 3) × (role_of ns d ≡ 4) × (role_of ns e ≡ 5)

pub record Shaped (ns : List ℕ) : Type 0 where
  pub one : (j : ℕ) → j < count ns → is_one (shape_at ns j) ≡ true → One ns j
  pub ifs : (j : ℕ) → j < count ns → shape_at ns j ≡ If → One ns j ⊎ (Two ns j 3 4 ⊎ Two ns j 4 3)
  pub tries : (j : ℕ) → j < count ns → shape_at ns j ≡ Try → Two ns j 3 4 ⊎ (Two ns j 3 5 ⊎ Three ns j)
  pub cases : (k : ℕ) → 0 < k → k < count ns → is_part ns k ≡ true → is_case (shape_at ns k) ≡ is_switch (shape_at ns (up_of ns k))
  pub catches : (k : ℕ) → k < count ns → shape_at ns k ≡ Catch → shape_at ns (up_of ns k) ≡ Try

pub record Good (ns : List ℕ) : Type 0 where
  pub tree : Tree ns
  pub falls : Falls (up_of ns) (count ns)
  pub shaped : Shaped ns

-- .. and of the node that holds the unit's statements.
-- In the invariants of `Layout` (code_branch) and of `Given` (route_walk). A `requires` of code_widths alone, whose functions run before there is a `Layout`.
pub record Held (ns names : List ℕ) (b : ℕ) : Type 0 where
  pub good : Good ns
  pub named : Named ns names
  pub root : b < count ns
  pub block : shape_at ns b ≡ Block
