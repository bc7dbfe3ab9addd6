-- The end of the pass, over a slice whose kept instructions are gathered (code_pass, Stages.antt).
use Rattle.std.specs.Prelude.{ℕ, ◌+◌, ◌-◌, ◌*◌, ◌%◌, ◌≤◌, ◌<◌, ◌≡◌, Bool, ◌||◌, List, ◌⊎◌, length, get_or, eqb, ltb}
use Rattle.route_completion.specs.Sem.{pick}
use Rattle.code_flat.specs.Opcodes as op
use Rattle.code_flat.specs.Machine.{Instr}
use Rattle.code_valid.specs.Instrs.{len, words, find}
use Rattle.code_shorten.specs.Short.{relocate}
use Rattle.code_shorten.specs.Longer.{total}
use Rattle.code_shorten.specs.Sound.{Begin}
use Rattle.code_shorten.specs.Closes.{In}
use Rattle.code_pass.specs.Stages.{mark, cycle, sent_on, kept_places, new_place, marked}

-- Which of its operands name places, by the number that begins an instruction: `names` of code_valid, Instrs.antt.
abbrev pub names_first : ℕ → Bool
names_first x = eqb x op.Leave || (eqb x op.Open || eqb x op.Case)

abbrev pub names_second : ℕ → Bool
names_second x = eqb x op.Ask || (eqb x op.Select || eqb x op.Case)

abbrev pub names_third : ℕ → Bool
names_third x = eqb x op.Ask || eqb x op.Select

-- The kept instruction at o, as it is to stand in the shorter code.
abbrev pub placed : List ℕ → ℕ → Instr
placed C o = relocate (new_place C) (find (sent_on C) 0 o)

-- The number that begins it, as long as those of the front say their old places.
abbrev pub begun : List ℕ → ℕ → ℕ → ℕ
begun C split o = get_or (words (find (sent_on C) 0 o)) 0 0 + pick (ltb o split) (mark * (o % cycle)) 0

-- f became g: the targets of the instruction at q, which stood at o, are moved.
pub record Moves (C f g : List ℕ) (q o : ℕ) : Type 0 where
  pub same : length g ≡ length f
  pub first : get_or g q 0 ≡ get_or f q 0
  pub rest : (j : ℕ) → 0 < j → j < len (find (sent_on C) 0 o) → get_or g (q + j) 0 ≡ get_or (words (placed C o)) j 0
  pub elsewhere : (x : ℕ) → (x < q) ⊎ (q + len (find (sent_on C) 0 o) ≤ x) → get_or g x 0 ≡ get_or f x 0

-- All are.
pub record Moved (C f : List ℕ) (split : ℕ) : Type 0 where
  pub same : length f ≡ length C
  pub firsts : (o : ℕ) → In (kept_places C) o → get_or f (new_place C o) 0 ≡ begun C split o
  pub rest : (o j : ℕ) → In (kept_places C) o → 0 < j → j < len (find (sent_on C) 0 o) → get_or f (new_place C o + j) 0 ≡ get_or (words (placed C o)) j 0
  pub behind : (x : ℕ) → split ≤ x → get_or f x 0 ≡ marked C x

-- Of some instructions those from a place on; their end is another.
pub record Starts (is : List Instr) (from to : ℕ) : Type 0 where
  pub start : Begin is from ⊎ (from ≡ to)
  pub ends : to ≡ total is

-- They stand in f, but that the numbers which begin them may be raised.
pub record Raised (is : List Instr) (f : List ℕ) (from to : ℕ) : Type 0 where
  pub fits : to ≤ length f
  pub firsts : (o : ℕ) → Begin is o → from ≤ o → get_or f o 0 % mark ≡ get_or (words (find is 0 o)) 0 0

-- f became g: those numbers are plain.
pub record Plain (is : List Instr) (f g : List ℕ) (from : ℕ) : Type 0 where
  pub same : length g ≡ length f
  pub firsts : (o : ℕ) → Begin is o → from ≤ o → get_or g o 0 ≡ get_or (words (find is 0 o)) 0 0
  pub others : (x : ℕ) → (Begin is x → from ≤ x → ⊥) → get_or g x 0 ≡ get_or f x 0

-- f became g: the entries of [from, to) are those that were saved.
pub record Restored (f g : List ℕ) (from to : ℕ) (saved : List ℕ) : Type 0 where
  pub same : length g ≡ length f
  pub inside : (x : ℕ) → from ≤ x → x < to → x < length f → get_or g x 0 ≡ get_or saved (x - from) 0
  pub outside : (x : ℕ) → (x < from) ⊎ (to ≤ x) → get_or g x 0 ≡ get_or f x 0

-- They are those of C.
pub record Saved (C : List ℕ) (from to : ℕ) (saved : List ℕ) : Type 0 where
  pub each : (k : ℕ) → from + k < to → get_or saved k 0 ≡ get_or C (from + k) 0
