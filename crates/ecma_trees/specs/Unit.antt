-- An operation that starts afresh at the units (the program, each function, ..) and goes no further down than to the next.
use Rattle.std.specs.Prelude.{ℕ, Bool, true, false, cond, ◌&&◌, ◌||◌}
use mathlib.Core.List.{List, [], ◌++◌, foldr}
use Rattle.table_records.specs.Table.{ancestors}
use Rattle.ecma_trees.specs.Rose.{Rose, Roses, node, rnil, rcons, idx}

module _ {A B : Type 0} (visit : ℕ → A → List B) (into : ℕ → ℕ → Bool) (down : ℕ → ℕ → A → A) where
  -- The operation: what a node says by what it is handed, and then what the parts say that it goes into.
  unfoldable mutual
    pub says : Rose → A → List B
    says (node i ks) a = visit i a ++ says_all ks (into i) (λ j. down i j a)

    pub says_all : Roses → (ℕ → Bool) → (ℕ → A) → List B
    says_all rnil b g = []
    says_all (rcons t ts) b g = cond (b (idx t)) (says t (g (idx t))) [] ++ says_all ts b g

-- Where units, what is gone into and what is handed down depend on the node only, and not on the part.
abbrev pub lists : {A B : Type 0} → (ℕ → A → List B) → (ℕ → Bool) → (ℕ → A → A) → Roses → A → List B
lists visit into f ks a = says_all visit (λ i j. into i) (λ i j a. f i a) ks (λ j. true) (λ j. a)

-- The unit that a node is in: the nearest above it.
abbrev pub home_of : List ℕ → (ℕ → Bool) → ℕ → ℕ
home_of ns edge j = foldr (λ a r. cond (edge a) a r) 0 (ancestors ns j)

-- What is handed down is the fold over the ancestors, afresh at each unit.
abbrev pub in_unit : {A : Type 0} → (ℕ → Bool) → A → (ℕ → A → A) → ℕ → A → A
in_unit edge start f a r = cond (edge a) start (f a r)

-- Somewhere in the tree there is a unit of which the rule does not hold: rule is given the unit's parts.
module _ (unit : ℕ → Bool) (rule : Roses → Bool) where
  unfoldable mutual
    pub broken : Rose → Bool
    broken (node n ks) = (unit n && rule ks) || broken_any ks

    pub broken_any : Roses → Bool
    broken_any rnil = false
    broken_any (rcons t ts) = broken t || broken_any ts
