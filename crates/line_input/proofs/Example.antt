-- The example of document 01, `a: { continue a; }`, read by the definitions alone.
use Rattle.std.specs.Prelude.{Result, Ok, Err, ℕ, ◌≡◌, refl, List, [], ◌∷◌, ◌++◌}
use Rattle.line_digits.specs.Number.{is_number}
use Rattle.line_digits.specs.Hex.{is_hex, bytes_of, nibble_of}
use Rattle.line_fields.specs.Split.{lines_of, fields_of, joined}
use Rattle.line_input.specs.declared.Tables.{Tables}
use Rattle.line_input.specs.declared.Unread.{Unread}
use Rattle.line_input.specs.Route.{is_a, asked_by, read_route}
use Rattle.line_forms.specs.Forms.{lettered, is_numbers, fits, is_j, is_n, is_x}
use Rattle.line_input.specs.Format.{unread, Room, Reading, leading, named, scope_lines, node_lines, scopes_of, names_of, nodes_of, read_behind, read_lines, read_input}

-- its ten lines
abbrev text : List ℕ
text =
    74 ∷ 44 ∷ 48 ∷ 44 ∷ 54 ∷ 44 ∷ 50 ∷ 10 ∷
    83 ∷ 44 ∷ 48 ∷ 44 ∷ 50 ∷ 44 ∷ 48 ∷ 10 ∷
    83 ∷ 44 ∷ 48 ∷ 44 ∷ 48 ∷ 44 ∷ 51 ∷ 10 ∷
    78 ∷ 44 ∷ 48 ∷ 44 ∷ 48 ∷ 44 ∷ 48 ∷ 44 ∷ 48 ∷ 44 ∷ 49 ∷ 56 ∷ 44 ∷ 48 ∷ 44 ∷ 48 ∷ 44 ∷ 48 ∷ 44 ∷ 10 ∷
    78 ∷ 44 ∷ 54 ∷ 44 ∷ 48 ∷ 44 ∷ 51 ∷ 44 ∷ 48 ∷ 44 ∷ 49 ∷ 56 ∷ 44 ∷ 48 ∷ 44 ∷ 48 ∷ 44 ∷ 48 ∷ 44 ∷ 10 ∷
    78 ∷ 44 ∷ 51 ∷ 51 ∷ 44 ∷ 49 ∷ 44 ∷ 54 ∷ 44 ∷ 48 ∷ 44 ∷ 49 ∷ 44 ∷ 48 ∷ 44 ∷ 48 ∷ 44 ∷ 48 ∷ 44 ∷ 97 ∷ 10 ∷
    78 ∷ 44 ∷ 53 ∷ 44 ∷ 49 ∷ 44 ∷ 51 ∷ 44 ∷ 51 ∷ 44 ∷ 49 ∷ 56 ∷ 44 ∷ 48 ∷ 44 ∷ 48 ∷ 44 ∷ 48 ∷ 44 ∷ 10 ∷
    78 ∷ 44 ∷ 49 ∷ 57 ∷ 44 ∷ 51 ∷ 44 ∷ 51 ∷ 44 ∷ 53 ∷ 44 ∷ 49 ∷ 54 ∷ 44 ∷ 49 ∷ 44 ∷ 48 ∷ 44 ∷ 48 ∷ 44 ∷ 10 ∷
    78 ∷ 44 ∷ 51 ∷ 51 ∷ 44 ∷ 52 ∷ 44 ∷ 54 ∷ 44 ∷ 49 ∷ 52 ∷ 44 ∷ 49 ∷ 53 ∷ 44 ∷ 49 ∷ 44 ∷ 48 ∷ 44 ∷ 48 ∷ 44 ∷ 97 ∷ 10 ∷
    88 ∷ 44 ∷ 54 ∷ 49 ∷ 51 ∷ 97 ∷ 50 ∷ 48 ∷ 55 ∷ 98 ∷ 50 ∷ 48 ∷ 54 ∷ 51 ∷ 54 ∷ 102 ∷ 54 ∷ 101 ∷ 55 ∷ 52 ∷ 54 ∷ 57 ∷ 54 ∷ 101 ∷ 55 ∷ 53 ∷ 54 ∷ 53 ∷ 50 ∷ 48 ∷ 54 ∷ 49 ∷ 51 ∷ 98 ∷ 50 ∷ 48 ∷ 55 ∷ 100 ∷ 10 ∷ []

abbrev sized : ℕ → ℕ → ℕ → ℕ → ℕ → Tables
sized kind n s x m = record { kind = kind; nodes = n; scopes = s; source = x; names = m }

abbrev large : Room
large = record { nodes = 10240; scopes = 3072; source = 1024; names = 1024 }

abbrev read : Reading
read = record {
  answer = Ok (sized 0 60 6 18 2);
  nodes =
      0 ∷ 0 ∷ 0 ∷ 0 ∷ 18 ∷ 0 ∷ 0 ∷ 0 ∷ 0 ∷ 0 ∷
      6 ∷ 0 ∷ 3 ∷ 0 ∷ 18 ∷ 0 ∷ 0 ∷ 0 ∷ 0 ∷ 0 ∷
      33 ∷ 1 ∷ 6 ∷ 0 ∷ 1 ∷ 0 ∷ 0 ∷ 0 ∷ 0 ∷ 1 ∷
      5 ∷ 1 ∷ 3 ∷ 3 ∷ 18 ∷ 0 ∷ 0 ∷ 0 ∷ 1 ∷ 0 ∷
      19 ∷ 3 ∷ 3 ∷ 5 ∷ 16 ∷ 1 ∷ 0 ∷ 0 ∷ 1 ∷ 0 ∷
      33 ∷ 4 ∷ 6 ∷ 14 ∷ 15 ∷ 1 ∷ 0 ∷ 0 ∷ 1 ∷ 1 ∷ [];
  scopes = 0 ∷ 2 ∷ 0 ∷ 0 ∷ 0 ∷ 3 ∷ [];
  source = 97 ∷ 58 ∷ 32 ∷ 123 ∷ 32 ∷ 99 ∷ 111 ∷ 110 ∷ 116 ∷ 105 ∷ 110 ∷ 117 ∷ 101 ∷ 32 ∷ 97 ∷ 59 ∷ 32 ∷ 125 ∷ [];
  names = 97 ∷ 97 ∷ [];
}

pub example : read_input large text ≡ read
unfolding lines_of fields_of joined is_number is_hex bytes_of nibble_of lettered is_numbers fits is_j is_n is_x leading named scope_lines node_lines scopes_of names_of nodes_of read_behind read_lines
example = refl

-- small inputs: nothing; a node's line is missing; the largest number, leading zeros, digits of either case; a number too large; a node
-- too many; byte 13 before byte 10; an odd number of digits
abbrev answers : List ℕ → Result Tables Unread
answers b = (read_input large b).answer

pub rows :
    (answers ([]) ≡ Err (unread 1))
    × (answers (74 ∷ 44 ∷ 48 ∷ 44 ∷ 49 ∷ 44 ∷ 49 ∷ 10 ∷ 83 ∷ 44 ∷ 48 ∷ 44 ∷ 50 ∷ 44 ∷ 48 ∷ []) ≡ Err (unread 3))
    × (answers (74 ∷ 44 ∷ 52 ∷ 50 ∷ 57 ∷ 52 ∷ 57 ∷ 54 ∷ 55 ∷ 50 ∷ 57 ∷ 53 ∷ 44 ∷ 48 ∷ 48 ∷ 44 ∷ 48 ∷ 10 ∷ 88 ∷ 44 ∷ 52 ∷ 65 ∷ 52 ∷ 97 ∷ []) ≡ Ok (sized 4294967295 0 0 2 0))
    × (answers (74 ∷ 44 ∷ 52 ∷ 50 ∷ 57 ∷ 52 ∷ 57 ∷ 54 ∷ 55 ∷ 50 ∷ 57 ∷ 54 ∷ 44 ∷ 48 ∷ 44 ∷ 48 ∷ 10 ∷ 88 ∷ 44 ∷ []) ≡ Err (unread 1))
    × (answers (74 ∷ 44 ∷ 48 ∷ 44 ∷ 49 ∷ 48 ∷ 50 ∷ 53 ∷ 44 ∷ 48 ∷ 10 ∷ 88 ∷ 44 ∷ []) ≡ Err (unread 1))
    × (answers (74 ∷ 44 ∷ 48 ∷ 44 ∷ 48 ∷ 44 ∷ 48 ∷ 13 ∷ 10 ∷ 88 ∷ 44 ∷ []) ≡ Err (unread 1))
    × (answers (74 ∷ 44 ∷ 48 ∷ 44 ∷ 48 ∷ 44 ∷ 48 ∷ 10 ∷ 88 ∷ 44 ∷ 52 ∷ []) ≡ Err (unread 2))
unfolding lines_of fields_of joined is_number is_hex bytes_of nibble_of lettered is_numbers fits is_j is_n is_x leading named scope_lines node_lines scopes_of names_of nodes_of read_behind read_lines
rows = (refl, refl, refl, refl, refl, refl, refl)

-- with U,0 and A,1,0,7 behind the lines of the example
pub route : read_route large 1024 (text ++ 85 ∷ 44 ∷ 48 ∷ 10 ∷ 65 ∷ 44 ∷ 49 ∷ 44 ∷ 48 ∷ 44 ∷ 55 ∷ []) ≡ record { answer = Ok (record { tables = sized 0 60 6 18 2; unit = 0; answers = 3 }); answers = 1 ∷ 0 ∷ 7 ∷ [] }
unfolding lines_of fields_of joined is_number is_hex bytes_of nibble_of lettered is_numbers fits is_j is_n is_x leading named scope_lines node_lines scopes_of names_of nodes_of read_behind read_lines is_a asked_by
route = refl
