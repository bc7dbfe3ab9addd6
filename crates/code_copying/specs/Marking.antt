-- The pass by a copy: what is reached, marked in the copy. The number that begins a reached instruction is raised by 8 (code_shorten, Marking.antt).
-- Whoever has room for a copy of the code can go by these files; the pass in one slice (code_pass) is compared with them.
use Rattle.std.specs.Prelude.{ℕ, ◌+◌, ◌-◌, ◌≡◌, Bool, false, List, [], length, get_or, ltb}
use Rattle.route_completion.specs.Sem.{pick, elem}
use Rattle.code_flat.specs.Machine.{Instr, decode}
use Rattle.code_valid.specs.Instrs.{flat, leads}
use Rattle.code_shorten.specs.Short.{reached}
use Rattle.code_shorten.specs.Sound.{Begin}
use Rattle.code_shorten.specs.Closes.{In, Closed}
use Rattle.code_shorten.specs.Marking.{raise}

-- A number without its mark.
abbrev pub plain : ℕ → ℕ
plain x = pick (ltb x raise) x (x - raise)

-- Where the instruction at p leads, if it is marked.
unfoldable pub leads_at : List ℕ → ℕ → List ℕ
leads_at C p = pick (ltb (get_or C p 0) raise) [] (leads p (decode (get_or C p 0 - raise) (get_or C (p + 1) 0) (get_or C (p + 2) 0) (get_or C (p + 3) 0)))

-- The numbers of `is` with the places of S marked, which are reached.
pub record Inked (is : List Instr) (S C : List ℕ) : Type 0 where
  pub same : length C ≡ length (flat is)
  pub each : (o : ℕ) → get_or C o 0 ≡ get_or (flat is) o 0 + pick (elem o S) raise 0
  pub begun : (o : ℕ) → In S o → Begin is o
  pub within : (o : ℕ) → In S o → In (reached is) o

-- S, or more, is marked.
pub record Grown (is : List Instr) (S C : List ℕ) : Type 0 where
  pub set : List ℕ
  pub inked : Inked is set C
  pub more : (o : ℕ) → In S o → In set o

-- What a round over the code comes to: if nothing is new, what is marked is closed.
pub record Rounded (is : List Instr) (S C : List ℕ) (news : Bool) : Type 0 where
  pub grown : Grown is S C
  pub shut : news ≡ false → Closed is grown.set

-- The code's start is marked.
pub record Started (is : List Instr) (C : List ℕ) : Type 0 where
  pub set : List ℕ
  pub inked : Inked is set C
  pub start : In set 0

-- All that is reached is marked.
pub record Reached (is : List Instr) (C : List ℕ) : Type 0 where
  pub set : List ℕ
  pub inked : Inked is set C
  pub start : In set 0
  pub shut : Closed is set
