-- The pass by a copy: closed up into a second slice, read off numbers whose jumps are sent on and whose reached instructions are marked (Marking.antt).
use Rattle.std.specs.Prelude.{ℕ, ◌+◌, ◌≤◌, ◌<◌, ◌≡◌, List, get_or}
use Rattle.code_flat.specs.Machine.{Instr}
use Rattle.code_valid.specs.Instrs.{flat, find}
use Rattle.code_shorten.specs.Short.{moved, kept, close_up}
use Rattle.code_shorten.specs.Longer.{total}
use Rattle.code_shorten.specs.Sound.{AreInstrs}

-- A walk over the instructions `is` stands at p, and what it keeps takes q numbers so far.
pub record Moving (is : List Instr) (S : List ℕ) (p q : ℕ) : Type 0 where
  pub rest : List Instr
  pub some : AreInstrs rest
  pub stands : (o : ℕ) → p ≤ o → find rest p o ≡ find is 0 o
  pub left : (o : ℕ) → p ≤ o → moved S rest p q o ≡ moved S is 0 0 o
  pub size : q + total (kept (moved S is 0 0) S rest p) ≡ total (close_up S is)
  pub ends : p + total rest ≡ total is
  pub low : q ≤ p

-- .. and those q numbers stand at the front of g, which was f.
pub record Closing (is : List Instr) (S f g : List ℕ) (p q : ℕ) : Type 0 where
  pub moving : Moving is S p q
  pub done : (x : ℕ) → x < q → get_or g x 0 ≡ get_or (flat (close_up S is)) x 0
  pub behind : (x : ℕ) → q ≤ x → get_or g x 0 ≡ get_or f x 0
