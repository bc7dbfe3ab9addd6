-- Bytes parted into lines, and a line into fields.
use Rattle.std.specs.Prelude.{ℕ, cond, List, [], ◌∷◌, ◌++◌, eqb, length, take, drop}

-- a byte put in front of the first part
abbrev pub ahead : ℕ → List (List ℕ) → List (List ℕ)
ahead c [] = (c ∷ []) ∷ []
ahead c (l ∷ ls) = (c ∷ l) ∷ ls

-- Lines end at byte 10; the last one may lack it.
unfoldable pub lines_of : List ℕ → List (List ℕ)
lines_of [] = []
lines_of (c ∷ b) = cond (eqb c 10) ([] ∷ lines_of b) (ahead c (lines_of b))

-- Commas, byte 44, part a line into fields: one more field than commas.
unfoldable pub fields_of : List ℕ → List (List ℕ)
fields_of [] = [] ∷ []
fields_of (c ∷ l) = cond (eqb c 44) ([] ∷ fields_of l) (ahead c (fields_of l))

-- fields with commas between them again
unfoldable pub joined : List (List ℕ) → List ℕ
joined [] = []
joined (f ∷ []) = f
joined (f ∷ g ∷ fs) = f ++ 44 ∷ joined (g ∷ fs)

-- what stands before the first byte d ..
unfoldable pub before : ℕ → List ℕ → List ℕ
before d [] = []
before d (c ∷ l) = cond (eqb c d) [] (c ∷ before d l)

-- .. and what from it on
unfoldable pub onward : ℕ → List ℕ → List ℕ
onward d [] = []
onward d (c ∷ l) = cond (eqb c d) (c ∷ l) (onward d l)

-- how far it is to the first d
abbrev pub to_first : ℕ → List ℕ → ℕ
to_first d l = length (before d l)

-- the fields of what follows a letter or a field: nothing, or a comma and more
unfoldable pub fields_in : List ℕ → List (List ℕ)
fields_in [] = []
fields_in (c ∷ l) = fields_of l

-- the first field of a tail ..
abbrev pub field_of : List ℕ → List ℕ
field_of l = before 44 (drop 1 l)

-- .. and the tail behind it
abbrev pub next_of : List ℕ → List ℕ
next_of l = onward 44 (drop 1 l)

-- the first n fields of a tail
unfoldable pub firsts : ℕ → List ℕ → List (List ℕ)
firsts n l = take n (fields_in l)
