-- What a function reads at a place of a slice, and a table of places to begin a search from.
use Rattle.std.specs.Prelude.{ℕ, ◌+◌, ◌*◌, ◌≤◌, ◌<◌, ◌≡◌, List, length, get_or, drop, leb}
use Rattle.route_completion.specs.Sem.{pick}
use Rattle.code_flat.specs.Machine.{Instr, NONE, fetch}
use Rattle.code_valid.specs.Instrs.{len, parse, begins}

-- The instruction that begins at p; NONE where there is none, or the end cuts it off.
unfoldable pub standing : List ℕ → ℕ → Instr
standing C p = pick (leb (p + len (fetch C p)) (length C)) (fetch C p) NONE

-- The instructions from p on.
abbrev pub from : List ℕ → ℕ → List Instr
from C p = parse (drop p C)

-- Who looks for the instructions behind p may begin at p.
abbrev pub Entry : List ℕ → ℕ → Type 0
Entry C p = (o : ℕ) → p ≤ o → begins (from C p) p o ≡ begins (parse C) 0 o

-- The k-th number of a table is a place to begin at for all that stands at k times the stride or behind.
pub record Table (C table : List ℕ) (stride : ℕ) : Type 0 where
  pub positive : 0 < stride
  pub low : (k : ℕ) → get_or table k 0 ≤ k * stride
  pub entry : (k : ℕ) → Entry C (get_or table k 0)
