-- The lines that `rulecheck` reads (document 01, "The reader program"), in their order, and what they give.
use Rattle.std.specs.Prelude.{Option, Some, None, Result, Ok, Err, ℕ, ◌+◌, ◌-◌, min, ◌≡◌, Bool, cond, List, [], ◌∷◌, ◌++◌, leb, eqb, length, get_or, take, drop}
use Rattle.line_fields.specs.Split.{lines_of}
use Rattle.line_forms.specs.Forms.{rest, numbers_of, kind_in, nodes_in, scopes_in, is_j, is_s, is_n, name_of, source_of, is_x}
use Rattle.line_input.specs.declared.Head.{Head}
use Rattle.line_input.specs.declared.Tables.{Tables}
use Rattle.line_input.specs.declared.Unread.{Unread}

-- the lines before the first that fails a test
unfoldable pub leading : (List ℕ → Bool) → List (List ℕ) → List (List ℕ)
leading p [] = []
leading p (l ∷ ls) = cond (p l) (l ∷ leading p ls) []

-- the lines before the first whose name finds no room behind the names before it
unfoldable pub named : ℕ → List (List ℕ) → List (List ℕ)
named room [] = []
named room (l ∷ ls) = cond (leb (length (name_of l)) room) (l ∷ named (room - length (name_of l)) ls) []

-- of the next n lines, those that are read as scopes and as nodes; names have at most 1,024 bytes in all
unfoldable pub scope_lines : ℕ → List (List ℕ) → List (List ℕ)
scope_lines n ls = leading is_s (take n ls)

unfoldable pub node_lines : ℕ → ℕ → List (List ℕ) → List (List ℕ)
node_lines room n ls = named room (leading is_n (take n ls))

-- what they give: the scope table, the names one after another, and the node table, in which a name starts where the names so far end
unfoldable pub scopes_of : List (List ℕ) → List ℕ
scopes_of [] = []
scopes_of (l ∷ ls) = numbers_of (rest l) ++ scopes_of ls

unfoldable pub names_of : List (List ℕ) → List ℕ
names_of [] = []
names_of (l ∷ ls) = name_of l ++ names_of ls

abbrev pub node_of : ℕ → List ℕ → List ℕ
node_of start l = numbers_of (take 8 (rest l)) ++ start ∷ length (name_of l) ∷ []

unfoldable pub nodes_of : ℕ → List (List ℕ) → List ℕ
nodes_of start [] = []
nodes_of start (l ∷ ls) = node_of start l ++ nodes_of (start + length (name_of l)) ls

-- the line that can't be read or is missing
abbrev pub unread : ℕ → Unread
unread k = record { line = k }

-- what is answered, and what stands at the front of each slice afterwards
pub record Reading : Type 0 where
  pub answer : Result Tables Unread
  pub nodes : List ℕ
  pub scopes : List ℕ
  pub source : List ℕ
  pub names : List ℕ

-- a line can't be read or is missing: its number, from 1; the lines before it are read
abbrev pub stopped : ℕ → List (List ℕ) → List (List ℕ) → Reading
stopped k ss ns = record { answer = Err (unread k); nodes = nodes_of 0 ns; scopes = scopes_of ss; source = []; names = names_of ns }

-- all lines are read: the source type, and how much of each slice is used
abbrev pub sizes : ℕ → List (List ℕ) → List (List ℕ) → List ℕ → Tables
sizes kind ss ns x = record {
  kind = kind;
  nodes = length (nodes_of 0 ns);
  scopes = length (scopes_of ss);
  source = length (source_of x);
  names = length (names_of ns);
}

abbrev pub tables : ℕ → List (List ℕ) → List (List ℕ) → List ℕ → Reading
tables kind ss ns x = record {
  answer = Ok (sizes kind ss ns x);
  nodes = nodes_of 0 ns;
  scopes = scopes_of ss;
  source = source_of x;
  names = names_of ns;
}

-- how long the lent slices are
pub record Room : Type 0 where
  pub nodes : ℕ
  pub scopes : ℕ
  pub source : ℕ
  pub names : ℕ

abbrev pub room_of : List ℕ → List ℕ → List ℕ → List ℕ → Room
room_of nodes scopes source names = record { nodes = length nodes; scopes = length scopes; source = length source; names = length names }

-- the programs' slices: "at most 1,024 nodes, scopes and bytes of names and of source"
abbrev pub lent : Room
lent = record { nodes = 10240; scopes = 3072; source = 1024; names = 1024 }

-- the first of some lines; a missing line is empty, and can't be read
abbrev pub first_of : List (List ℕ) → List ℕ
first_of ls = get_or ls 0 []

-- What stands behind the J line: as many S lines and then N lines as it says, and the X line. What follows isn't read. A missing line is
-- taken as an empty one, which can't be read.
module _ (room : Room) (kind nodes scopes : ℕ) (ls : List (List ℕ)) where
  abbrev pub ss_in : List (List ℕ)
  ss_in = scope_lines scopes ls

  abbrev pub ns_in : List (List ℕ)
  ns_in = node_lines (min 1024 room.names) nodes (drop scopes ls)

  abbrev pub x_in : List ℕ
  x_in = get_or (drop nodes (drop scopes ls)) 0 []

  unfoldable pub read_behind : Reading
  read_behind =
      cond (eqb (length ss_in) scopes)
      (cond (eqb (length ns_in) nodes)
      (cond (is_x room.source x_in) (tables kind ss_in ns_in x_in) (stopped (2 + scopes + nodes) ss_in ns_in))
      (stopped (2 + scopes + length ns_in) ss_in ns_in))
      (stopped (2 + length ss_in) ss_in [])

-- what the J line says
abbrev pub head_in : List ℕ → Head
head_in l = record { kind = kind_in l; nodes = nodes_in l; scopes = scopes_in l }

unfoldable pub head_of : ℕ → ℕ → List ℕ → Option Head
head_of nodes scopes l = cond (is_j nodes scopes l) (Some (head_in l)) None

unfoldable pub read_lines : Room → List (List ℕ) → Reading
read_lines room [] = stopped 1 [] []
read_lines room (j ∷ ls) = cond (is_j room.nodes room.scopes j) (read_behind room (kind_in j) (nodes_in j) (scopes_in j) ls) (stopped 1 [] [])

abbrev pub read_input : Room → List ℕ → Reading
read_input room b = read_lines room (lines_of b)

-- a slice that holds a list at its front, and is as it was behind that
abbrev pub front : List ℕ → List ℕ → List ℕ
front l f = l ++ drop (length l) f

-- what the slices hold: n₀ .. m₀ before, n .. m after
pub record Given (d : Reading) (n₀ s₀ x₀ m₀ n s x m : List ℕ) : Type 0 where
  pub nodes : n ≡ front d.nodes n₀
  pub scopes : s ≡ front d.scopes s₀
  pub source : x ≡ front d.source x₀
  pub names : m ≡ front d.names m₀

-- what the answer and the slices must be
pub record Gives (d : Reading) (r : Result Tables Unread) (n₀ s₀ x₀ m₀ n s x m : List ℕ) : Type 0 where
  pub answer : r ≡ d.answer
  pub nodes : n ≡ front d.nodes n₀
  pub scopes : s ≡ front d.scopes s₀
  pub source : x ≡ front d.source x₀
  pub names : m ≡ front d.names m₀

-- all that is read of node lines: how many there are, their names' bytes, and both slices
pub record NodesRead (ns : List (List ℕ)) (n₀ m₀ : List ℕ) (lines bytes : ℕ) (n m : List ℕ) : Type 0 where
  pub count : lines ≡ length ns
  pub size : bytes ≡ length (names_of ns)
  pub nodes : n ≡ front (nodes_of 0 ns) n₀
  pub names : m ≡ front (names_of ns) m₀
