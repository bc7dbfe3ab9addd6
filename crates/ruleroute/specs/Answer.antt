-- What `ruleroute` answers for the bytes that it reads, and the lines that it prints of that: a line L for each entry of the route and a line Z with its
-- end, the number of entries and the answers taken, or only R with number and place.
use Rattle.std.specs.Prelude.{Result, Ok, Err, ℕ, List, [], ◌∷◌, ◌++◌, length, take}
use Rattle.refusal_verdict.specs.declared.Refusal.TheVariants as refusal
use Rattle.refusal_verdict.specs.declared.Refused.TheVariants.{At}
use Rattle.route_viewer.specs.Shown.{Routed}
use Rattle.check_dispatch.specs.Rule.{rule}
use Rattle.code_length.specs.Most.{most_length}
use Rattle.call_routes.specs.Calls.{route_answer, route_slice}
use Rattle.line_input.specs.declared.Asked.{Asked}
use Rattle.line_input.specs.declared.Unread.{Unread}
use Rattle.line_input.specs.Format.{Reading, lent, read_input}
use Rattle.line_input.specs.Route.{read_route}
use Rattle.line_print.specs.Print.{line_of}
use Rattle.line_answers.specs.Answer.{refusal_text}

abbrev pub entry_line : ℕ → List ℕ
entry_line node = line_of 76 (node ∷ [])

-- the last line; a route that finds no room is refusal 12, place 0, and a code 11
unfoldable pub last_line : Routed → List ℕ
last_line (Ok r) = line_of 90 (r.end ∷ r.entries ∷ r.taken ∷ [])
last_line (Err e) = refusal_text e

-- room for a line: a letter, three numbers of at most 20 digits, each behind a comma, and the line's end take 65 bytes
abbrev pub line_room : ℕ
line_room = 256

-- "up to 1,024 answers"
abbrev pub answers_room : ℕ
answers_room = 1024

-- the code's room: the most that a code takes in a tree of 1,024 nodes, the most that are read
abbrev pub code_room : ℕ
code_room = most_length 1024

-- the option on async bodies is off; what was read, the answers among it, and the length of the slice for the route
unfoldable pub routed_by : Result Asked Unread → Reading → List ℕ → ℕ → Routed
routed_by (Err e) d given room = Err (At refusal.Unread e.line)
routed_by (Ok a) d given room = route_answer (rule a.tables.kind 0 d.nodes d.scopes d.source d.names) a.unit given code_room room

unfoldable pub entries_by : Result Asked Unread → Reading → List ℕ → List ℕ → List ℕ
entries_by (Err e) d given out = out
entries_by (Ok a) d given out = route_slice (rule a.tables.kind 0 d.nodes d.scopes d.source d.names) a.unit given code_room out

-- the answer for the bytes b, and what the slice for the route holds then
unfoldable pub routed_of : List ℕ → ℕ → Routed
routed_of b room = routed_by (read_route lent answers_room b).answer (read_input lent b) (read_route lent answers_room b).answers room

unfoldable pub entries_of : List ℕ → List ℕ → List ℕ
entries_of b out = entries_by (read_route lent answers_room b).answer (read_input lent b) (read_route lent answers_room b).answers out

-- what is printed: a line for each entry
unfoldable pub lines_for : List ℕ → List ℕ
lines_for [] = []
lines_for (node ∷ nodes) = entry_line node ++ lines_for nodes

-- how many of the numbers in the slice for the route are entries
abbrev pub listed : Routed → ℕ
listed (Ok r) = r.entries
listed (Err e) = 0

-- .. and the last line; of an answer and what the slice holds, and for the bytes b
abbrev pub text_of : Routed → List ℕ → List ℕ
text_of answer out = lines_for (take (listed answer) out) ++ last_line answer

abbrev pub printed : List ℕ → List ℕ → List ℕ
printed b out = text_of (routed_of b (length out)) (entries_of b out)
