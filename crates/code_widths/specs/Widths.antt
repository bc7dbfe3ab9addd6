-- What the arrays of the code maker hold: which nodes are the unit's, how wide each is, and how many words stand behind it in its holder.
use Rattle.std.specs.Prelude.{ℕ, ◌+◌, ◌≤◌, ◌<◌, ◌≡◌, List, true, cond, get_or}
use Rattle.table_records.specs.Table.{count}
use Rattle.code_tree.specs.Parts.{up_of, parts}
use Rattle.code_layout.specs.Widths.{sum, in_unit, width_at}
use Rattle.code_layout.specs.Exact.{open_at}

-- Up to j: 1 for each node of the unit, 0 for the others; and zeros in the other array.
-- A `requires` and no struct's invariant: `fill_units` fills the array step by step through a `&mut`, and `fill_places` (code_contexts) writes over it.
pub record Units (ns : List ℕ) (b j : ℕ) (units : List ℕ) : Type 0 where
  pub is : (k : ℕ) → k < j → get_or units k 0 ≡ cond (in_unit ns b k) 1 0

pub record Zeros (j : ℕ) (l : List ℕ) : Type 0 where
  pub is : (k : ℕ) → k < j → get_or l k 0 ≡ 0

-- A node's words and those below it, with OPEN's counted at the finally block.
abbrev pub counted : List ℕ → ℕ → ℕ → ℕ
counted ns b j = width_at ns b j + open_at ns j

-- From i on: the width of each node of the unit, and the words of its holder's parts behind it. Before i: the words of the parts from i on.
pub record Counts (ns : List ℕ) (b i : ℕ) (widths behinds : List ℕ) : Type 0 where
  pub done : (k : ℕ) → i ≤ k → k < count ns → in_unit ns b k ≡ true → get_or widths k 0 ≡ width_at ns b k
  pub after : (k : ℕ) → i ≤ k → k < count ns → in_unit ns b k ≡ true → get_or behinds k 0 ≡ sum (counted ns b) (parts ns (up_of ns k) (k + 1))
  pub before : (k : ℕ) → b ≤ k → k < i → in_unit ns b k ≡ true → get_or widths k 0 ≡ sum (counted ns b) (parts ns k i)

-- The widths of the unit's nodes; and for each but b the words of its holder's parts behind it, in node order.
pub record Widths (ns : List ℕ) (b : ℕ) (widths behinds : List ℕ) : Type 0 where
  pub is : (k : ℕ) → b ≤ k → k < count ns → in_unit ns b k ≡ true → get_or widths k 0 ≡ width_at ns b k
  pub after : (k : ℕ) → b < k → k < count ns → in_unit ns b k ≡ true → get_or behinds k 0 ≡ sum (counted ns b) (parts ns (up_of ns k) (k + 1))
