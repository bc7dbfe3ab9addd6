-- A slice to which the words of the unit's nodes are written, node by node.
use Rattle.std.specs.Prelude.{ℕ, ◌+◌, ◌≤◌, ◌<◌, ◌≡◌, List, true, length, get_or}
use Rattle.code_flat.specs.Code.{unit}
use Rattle.code_tree.specs.Statements.{body_of}
use Rattle.code_layout.specs.Widths.{in_unit, own_width}
use Rattle.code_layout.specs.Context.{offset_at}
use Rattle.code_put.specs.Put.{Done}

module _ (ns names : List ℕ) (b : ℕ) where
  abbrev pub whole : List ℕ
  whole = unit (body_of ns names b)

  -- The words of j are written: what was as it should be stays so, and nothing behind the code changes.
  pub record Emitted (j : ℕ) (f g : List ℕ) : Type 0 where
    pub same : length g ≡ length f
    pub done : in_unit ns b j ≡ true → (k : ℕ) → k < own_width ns b j → Done whole g (offset_at ns names b j + k)
    pub keeps : (x : ℕ) → Done whole f x → Done whole g x
    pub behind : (x : ℕ) → length whole ≤ x → get_or g x 0 ≡ get_or f x 0

  -- The words of the nodes before i are written.
  pub record Written (i : ℕ) (f₀ f : List ℕ) : Type 0 where
    pub same : length f ≡ length f₀
    pub done : (j : ℕ) → j < i → in_unit ns b j ≡ true → (k : ℕ) → k < own_width ns b j → Done whole f (offset_at ns names b j + k)
    pub behind : (x : ℕ) → length whole ≤ x → get_or f x 0 ≡ get_or f₀ x 0
