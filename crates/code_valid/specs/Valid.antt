-- Refusal 18 of document 02, 10/13: "an entry that is no instruction, a target where none begins, a last instruction that runs on, an empty slice,
-- place the lowest offset where such an entry or instruction begins, 0 if empty".
use Rattle.std.specs.Prelude.{ℕ, ◌+◌, ◌≡◌, Bool, true, false, not, ◌&&◌, List, [], ◌∷◌, Ok, Err, Result}
use Rattle.route_completion.specs.Sem.{pick}
use Rattle.code_flat.specs.Machine.{Instr}
use Rattle.code_flat.specs.Machine.{is_none}
use Rattle.code_valid.specs.Instrs.{len, parse, begins, names, runs_on}

-- An instruction begins at each of the places.
unfoldable pub all_begin : List Instr → List ℕ → Bool
all_begin is [] = true
all_begin is (o ∷ os) = begins is 0 o && all_begin is os

-- Nothing stands behind it.
abbrev pub is_last : List Instr → Bool
is_last [] = true
is_last (i ∷ is) = false

-- It is an instruction, each target that it names begins one, and it doesn't run on if it is the last.
abbrev pub sound : List Instr → Instr → List Instr → Bool
sound all i is = not (is_none i) && (all_begin all (names i) && not (runs_on i && is_last is))

-- The first that is unsound, of those that stand from p on.
unfoldable pub first_bad : List Instr → List Instr → ℕ → Result (Unit {0}) ℕ
first_bad all [] p = Ok tt
first_bad all (i ∷ is) p = pick (sound all i is) (first_bad all is (p + len i)) (Err p)

-- An empty list is refused at 0.
abbrev pub judge : List Instr → Result (Unit {0}) ℕ
judge [] = Err 0
judge (i ∷ is) = first_bad (i ∷ is) (i ∷ is) 0

-- The verdict on a list of numbers.
unfoldable pub check : List ℕ → Result (Unit {0}) ℕ
check C = judge (parse C)

abbrev pub Valid : List ℕ → Type 0
Valid C = check C ≡ Ok tt
