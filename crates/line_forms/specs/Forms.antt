-- Forms of lines (document 01, "The reader program"), over lists of bytes: which lines can be read, and what stands in them.
use Rattle.std.specs.Prelude.{ℕ, ◌*◌, Bool, false, ◌&&◌, List, [], ◌∷◌, map, leb, eqb, length, get_or, take, drop}
use Rattle.base_common.specs.Upto.{all}
use Rattle.line_digits.specs.Number.{is_number, value_of}
use Rattle.line_digits.specs.Hex.{is_hex, bytes_of}
use Rattle.line_fields.specs.Split.{fields_of, joined, onward}

-- the field is this one byte
abbrev pub is_letter : ℕ → List ℕ → Bool
is_letter c [] = false
is_letter c (x ∷ []) = eqb x c
is_letter c (x ∷ y ∷ l) = false

-- "lines up to 2,100 bytes", and the first field is the letter
unfoldable pub lettered : ℕ → List ℕ → Bool
lettered c l = leb (length l) 2100 && is_letter c (get_or (fields_of l) 0 [])

-- the fields behind the letter
abbrev pub rest : List ℕ → List (List ℕ)
rest l = drop 1 (fields_of l)

abbrev pub numbers_of : List (List ℕ) → List ℕ
numbers_of fs = map value_of fs

-- the letter, n numbers and no more
unfoldable pub is_numbers : ℕ → ℕ → List ℕ → Bool
is_numbers c n l = lettered c l && (eqb (length (rest l)) n && all is_number (rest l))

-- "at most 1,024", and so many times `each` find room
unfoldable pub fits : ℕ → ℕ → ℕ → Bool
fits n each room = leb n 1024 && leb (n * each) room

-- "J: source type, nodes, scopes." A node takes ten numbers, a scope three.
abbrev pub kind_in : List ℕ → ℕ
kind_in l = get_or (numbers_of (rest l)) 0 0

abbrev pub nodes_in : List ℕ → ℕ
nodes_in l = get_or (numbers_of (rest l)) 1 0

abbrev pub scopes_in : List ℕ → ℕ
scopes_in l = get_or (numbers_of (rest l)) 2 0

unfoldable pub is_j : ℕ → ℕ → List ℕ → Bool
is_j nodes scopes l = is_numbers 74 3 l && (fits (nodes_in l) 10 nodes && fits (scopes_in l) 3 scopes)

-- "S: a scope."
abbrev pub is_s : List ℕ → Bool
is_s l = is_numbers 83 3 l

-- "N: eight node numbers, then the rest as name", commas too
unfoldable pub is_n : List ℕ → Bool
is_n l = lettered 78 l && (leb 9 (length (rest l)) && all is_number (take 8 (rest l)))

abbrev pub name_of : List ℕ → List ℕ
name_of l = joined (drop 8 (rest l))

-- "X: source in hexadecimal"
abbrev pub source_of : List ℕ → List ℕ
source_of l = bytes_of (get_or (rest l) 0 [])

unfoldable pub is_x : ℕ → List ℕ → Bool
is_x room l = lettered 88 l && (eqb (length (rest l)) 1 && (is_hex (get_or (rest l) 0 []) && fits (length (source_of l)) 1 room))

-- what stands behind the letter
abbrev pub tail_of : List ℕ → List ℕ
tail_of l = onward 44 l
