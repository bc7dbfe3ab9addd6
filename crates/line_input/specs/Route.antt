-- The two lines that `ruleroute` reads behind `rulecheck`'s: "U,unit", and "A" with up to 1,024 answers.
use Rattle.std.specs.Prelude.{Result, Ok, Err, ℕ, ◌+◌, ◌/◌, Bool, cond, ◌&&◌, List, [], length, get_or, drop}
use Rattle.base_common.specs.Upto.{all}
use Rattle.line_digits.specs.Number.{is_number}
use Rattle.line_fields.specs.Split.{lines_of}
use Rattle.line_input.specs.declared.Two.{Two}
use Rattle.line_input.specs.declared.Missing.{Missing}
use Rattle.line_input.specs.declared.Missing.TheVariants.{NoUnit, NoAnswers}
use Rattle.line_input.specs.declared.Tables.{Tables}
use Rattle.line_input.specs.declared.Asked.{Asked}
use Rattle.line_input.specs.declared.Unread.{Unread}
use Rattle.line_forms.specs.Forms.{lettered, rest, numbers_of, is_numbers, fits}
use Rattle.line_input.specs.Format.{unread, first_of, Room, read_input}

abbrev pub is_u : List ℕ → Bool
is_u l = is_numbers 85 1 l

abbrev pub unit_in : List ℕ → ℕ
unit_in l = get_or (numbers_of (rest l)) 0 0

-- just "A" is no answers
unfoldable pub is_a : ℕ → List ℕ → Bool
is_a room l = lettered 65 l && (all is_number (rest l) && fits (length (rest l)) 1 room)

-- what the first two of some lines say
abbrev pub two_in : List ℕ → List ℕ → Two
two_in u a = record { unit = unit_in u; answers = length (rest a) }

unfoldable pub two_of : ℕ → List (List ℕ) → Result Two Missing
two_of room ls = cond (is_u (first_of ls)) (cond (is_a room (first_of (drop 1 ls))) (Ok (two_in (first_of ls) (first_of (drop 1 ls)))) (Err NoAnswers)) (Err NoUnit)

unfoldable pub two_answers : ℕ → List (List ℕ) → List ℕ
two_answers room ls = cond (is_u (first_of ls)) (cond (is_a room (first_of (drop 1 ls))) (numbers_of (rest (first_of (drop 1 ls)))) []) []

-- what is answered, and what stands at the front of the answers' slice
pub record Asking : Type 0 where
  pub answer : Result Asked Unread
  pub answers : List ℕ

abbrev pub unasked : ℕ → Asking
unasked k = record { answer = Err (unread k); answers = [] }

-- the U line follows the J line, a line for each scope and node, and the X line
abbrev pub lines_before : ℕ → ℕ → ℕ
lines_before nodes scopes = 2 + scopes / 3 + nodes / 10

-- with the U line and the A line
abbrev pub asked : Tables → List ℕ → List ℕ → Asking
asked t u a = record { answer = Ok (record { tables = t; unit = unit_in u; answers = length (rest a) }); answers = numbers_of (rest a) }

unfoldable pub asked_by : ℕ → List (List ℕ) → Result Tables Unread → Asking
asked_by room ls (Err e) = unasked e.line
asked_by room ls (Ok t) =
    cond (is_u (get_or ls (lines_before t.nodes t.scopes) []))
    (cond (is_a room (get_or ls (lines_before t.nodes t.scopes + 1) []))
    (asked t (get_or ls (lines_before t.nodes t.scopes) []) (get_or ls (lines_before t.nodes t.scopes + 1) []))
    (unasked (lines_before t.nodes t.scopes + 2)))
    (unasked (lines_before t.nodes t.scopes + 1))

abbrev pub read_route : Room → ℕ → List ℕ → Asking
read_route room answers b = asked_by answers (lines_of b) (read_input room b).answer

-- So many bytes of an input are ever read: 2,052 lines (J, 1,024 scopes, 1,024 nodes, X, U, A) of up to 2,100 bytes, each with its end.
-- What stands behind them changes nothing (Whole.input_whole, route_whole).
abbrev pub enough : ℕ
enough = 4311252
