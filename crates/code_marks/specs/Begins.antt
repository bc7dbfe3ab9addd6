-- "a place where no instruction of the unit's code begins" (refusal 17): the places where one does.
use Rattle.std.specs.Prelude.{ℕ, zero, suc, ◌+◌, ◌<◌, ◌≡◌, List, get_or, eqb}
use Rattle.route_completion.specs.Sem.{pick}
use Rattle.code_flat.specs.Opcodes as op

-- How many numbers the instruction takes that begins with this one; 0 where none does.
abbrev pub width : ℕ → ℕ
width x =
    pick (eqb x op.List) 2 (pick (eqb x op.Leave) 3 (pick (eqb x op.Ask) 4 (pick (eqb x op.Select) 4
    (pick (eqb x op.Open) 2 (pick (eqb x op.End) 2 (pick (eqb x op.Case) 4 0))))))

-- The place behind k instructions from o on.
abbrev pub offset : List ℕ → ℕ → ℕ → ℕ
offset C o zero = o
offset C o (suc k) = offset C (o + width (get_or C o 0)) k

-- From instruction to instruction the start of the code leads to x, and one begins there.
pub record Begins (C : List ℕ) (x : ℕ) : Type 0 where
  pub index : ℕ
  pub place : offset C 0 index ≡ x
  pub some : 0 < width (get_or C x 0)
