-- A list of numbers read as instructions: each stands right behind the one before it.
use Rattle.std.specs.Prelude.{ℕ, zero, suc, ◌+◌, Bool, true, false, not, ◌&&◌, ◌||◌, List, [], ◌∷◌, ◌++◌, eqb}
use Rattle.route_completion.specs.Sem.{pick}
use Rattle.code_flat.specs.Opcodes as op
use Rattle.code_flat.specs.Machine.{Instr, NONE, LIST, LEAVE, ASK, SELECT, OPEN, END, CASE}
use Rattle.code_flat.specs.Machine.{is_none}

-- How many numbers it takes.
abbrev pub len : Instr → ℕ
len NONE = 0
len (LIST n) = 2
len (LEAVE t d) = 3
len (ASK n y z) = 4
len (SELECT n c e) = 4
len (OPEN f) = 2
len (END e) = 2
len (CASE c t d) = 4

-- Its numbers.
abbrev pub words : Instr → List ℕ
words NONE = []
words (LIST n) = op.List ∷ n ∷ []
words (LEAVE t d) = op.Leave ∷ t ∷ d ∷ []
words (ASK n y z) = op.Ask ∷ n ∷ y ∷ z ∷ []
words (SELECT n c e) = op.Select ∷ n ∷ c ∷ e ∷ []
words (OPEN f) = op.Open ∷ f ∷ []
words (END e) = op.End ∷ e ∷ []
words (CASE c t d) = op.Case ∷ c ∷ t ∷ d ∷ []

-- The numbers of all.
unfoldable pub flat : List Instr → List ℕ
flat [] = []
flat (i ∷ is) = words i ++ flat is

-- The instructions of a list of numbers, up to the first entry that is none, or is cut off: NONE stands for it. The numbers 1 to 7 are those of
-- Opcodes.antt.
unfoldable pub parse : List ℕ → List Instr
parse [] = []
parse (zero ∷ C) = NONE ∷ []
parse (suc zero ∷ []) = NONE ∷ []
parse (suc zero ∷ n ∷ C) = LIST n ∷ parse C
parse (suc (suc zero) ∷ []) = NONE ∷ []
parse (suc (suc zero) ∷ t ∷ []) = NONE ∷ []
parse (suc (suc zero) ∷ t ∷ d ∷ C) = LEAVE t d ∷ parse C
parse (suc (suc (suc zero)) ∷ []) = NONE ∷ []
parse (suc (suc (suc zero)) ∷ n ∷ []) = NONE ∷ []
parse (suc (suc (suc zero)) ∷ n ∷ y ∷ []) = NONE ∷ []
parse (suc (suc (suc zero)) ∷ n ∷ y ∷ z ∷ C) = ASK n y z ∷ parse C
parse (suc (suc (suc (suc zero))) ∷ []) = NONE ∷ []
parse (suc (suc (suc (suc zero))) ∷ n ∷ []) = NONE ∷ []
parse (suc (suc (suc (suc zero))) ∷ n ∷ c ∷ []) = NONE ∷ []
parse (suc (suc (suc (suc zero))) ∷ n ∷ c ∷ e ∷ C) = SELECT n c e ∷ parse C
parse (suc (suc (suc (suc (suc zero)))) ∷ []) = NONE ∷ []
parse (suc (suc (suc (suc (suc zero)))) ∷ f ∷ C) = OPEN f ∷ parse C
parse (suc (suc (suc (suc (suc (suc zero))))) ∷ []) = NONE ∷ []
parse (suc (suc (suc (suc (suc (suc zero))))) ∷ e ∷ C) = END e ∷ parse C
parse (suc (suc (suc (suc (suc (suc (suc zero)))))) ∷ []) = NONE ∷ []
parse (suc (suc (suc (suc (suc (suc (suc zero)))))) ∷ c ∷ []) = NONE ∷ []
parse (suc (suc (suc (suc (suc (suc (suc zero)))))) ∷ c ∷ t ∷ []) = NONE ∷ []
parse (suc (suc (suc (suc (suc (suc (suc zero)))))) ∷ c ∷ t ∷ d ∷ C) = CASE c t d ∷ parse C
parse (suc (suc (suc (suc (suc (suc (suc (suc k))))))) ∷ C) = NONE ∷ []

-- The instruction that begins at o, where the list begins at p.
unfoldable pub find : List Instr → ℕ → ℕ → Instr
find [] p o = NONE
find (i ∷ is) p o = pick (eqb p o) i (find is (p + len i) o)

-- An instruction begins at o.
unfoldable pub begins : List Instr → ℕ → ℕ → Bool
begins [] p o = false
begins (i ∷ is) p o = (eqb p o && not (is_none i)) || begins is (p + len i) o

-- The places that an instruction names. The number 0 for what is pending, and for no case, is the place where the code begins, and harms nothing.
abbrev pub names : Instr → List ℕ
names NONE = []
names (LIST n) = []
names (LEAVE t d) = t ∷ []
names (ASK n y z) = y ∷ z ∷ []
names (SELECT n c e) = c ∷ e ∷ []
names (OPEN f) = f ∷ []
names (END e) = []
names (CASE c t d) = c ∷ t ∷ []

abbrev pub runs_on : Instr → Bool
runs_on NONE = false
runs_on (LIST n) = true
runs_on (LEAVE t d) = false
runs_on (ASK n y z) = false
runs_on (SELECT n c e) = false
runs_on (OPEN f) = true
runs_on (END e) = false
runs_on (CASE c t d) = false

-- "A path goes to the next instruction where one runs on, and to each target that one names."
abbrev pub leads : ℕ → Instr → List ℕ
leads p i = pick (runs_on i) ((p + len i) ∷ names i) (names i)
