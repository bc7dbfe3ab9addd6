-- Document 01, "Rows to prove": "a table proved by a lone statement". A row is a whole input as a tree maker gives it; `rows_hold_lem` (RowsHold.antt) is the statement.
use Rattle.std.specs.Prelude.{ℕ, ◌/◌, ◌≤◌, ◌≡◌, List, [], ◌∷◌, ◌++◌, length, drop, Ok}
use Prim.Native.Char.{code}
use Prim.Native.String.{String, [] as []ˢ, ◌∷◌ as ◌∷ˢ◌}
use Rattle.check_diagnostics.specs.Finding.{flat}
use Rattle.check_dispatch.specs.Rule.{rule}
use Rattle.check_dispatch.specs.Reported.{reported}
use Rattle.call_check.specs.Check.{check_answer, check_slice}
use Rattle.route_completion.specs.Route.{Route, route as ruledRoute}
use Rattle.code_flat.specs.Code.{unit}
use Rattle.code_flat.specs.Machine.{code_route}
use Rattle.code_tree.specs.Statements.{unit_of}
use Rattle.code_length.specs.Length.{code_length}
use Rattle.route_viewer.specs.Shown.{routed}
use Rattle.call_routes.specs.Calls.{route_answer, route_slice}

-- a text as bytes; each of its characters is one
abbrev pub bytes : String → List ℕ
bytes []ˢ = []
bytes (c ∷ˢ t) = code c ∷ bytes t

-- what `check` is given, and the numbers of the findings: code, node, first span, second span, context
pub record CheckRow : Type 0 where
  pub source_type : ℕ
  pub nodes : List ℕ
  pub scopes : List ℕ
  pub source : List ℕ
  pub names : List ℕ
  pub finds : List ℕ

-- what `route` is given, and the route: the nodes listed, the end and the answers taken
pub record RouteRow : Type 0 where
  pub source_type : ℕ
  pub nodes : List ℕ
  pub scopes : List ℕ
  pub source : List ℕ
  pub names : List ℕ
  pub unit : ℕ
  pub answers : List ℕ
  pub shows : Route

pub data Row : Type 0 where
  check : CheckRow → Row
  route : RouteRow → Row

-- these are the findings, the option on async bodies off; the call refuses nothing where it has room, answers how many there are, and writes them from the slice's start
pub record Checks (r : CheckRow) : Type 0 where
  pub found : flat (reported (rule r.source_type 0 r.nodes r.scopes r.source r.names)) ≡ r.finds
  pub answer : (s : List ℕ) → length r.finds ≤ length s → check_answer (rule r.source_type 0 r.nodes r.scopes r.source r.names) (length s) ≡ Ok (length r.finds / 7)
  pub slice : (s : List ℕ) → length r.finds ≤ length s → check_slice (rule r.source_type 0 r.nodes r.scopes r.source r.names) s ≡ r.finds ++ drop (length r.finds) s

-- this is the route by the completion rules and by the flat code; the call refuses nothing where it has room, answers with it, and writes its list from the slice's start
pub record Shows (r : RouteRow) : Type 0 where
  pub ruled : ruledRoute (unit_of r.nodes r.names r.unit) r.answers ≡ r.shows
  pub coded : code_route (unit (unit_of r.nodes r.names r.unit)) r.answers ≡ r.shows
  pub answer : (c s : List ℕ) → code_length r.nodes r.unit ≤ length c → length r.shows.list ≤ length s
      → route_answer (rule r.source_type 0 r.nodes r.scopes r.source r.names) r.unit r.answers (length c) (length s)
      ≡ routed r.shows.end (length r.shows.list) r.shows.taken
  pub slice : (c s : List ℕ) → code_length r.nodes r.unit ≤ length c → length r.shows.list ≤ length s
      → route_slice (rule r.source_type 0 r.nodes r.scopes r.source r.names) r.unit r.answers (length c) s ≡ r.shows.list ++ drop (length r.shows.list) s

abbrev pub Holds : Row → Type 0
Holds (check r) = Checks r
Holds (route r) = Shows r

-- a statement of each row of a table
abbrev pub Each : (Row → Type 0) → List Row → Type 0
Each P [] = Unit {0}
Each P (r ∷ rs) = P r × Each P rs

-- Ten numbers to a line of nodes: kind, parent, role, span, scope, flags, extra, name start and length.

-- "strict where literals": modules, whose code is strict
-- `'\0'`: none
abbrev pub nul : CheckRow
nul =
    record {
      source_type = 1;
      nodes =
          0 ∷ 0 ∷ 0 ∷ 0 ∷ 4 ∷ 0 ∷ 0 ∷ 0 ∷ 0 ∷ 0
          ∷ 23 ∷ 0 ∷ 0 ∷ 0 ∷ 4 ∷ 0 ∷ 0 ∷ 0 ∷ 0 ∷ 2
          ∷ 36 ∷ 1 ∷ 1 ∷ 0 ∷ 4 ∷ 0 ∷ 0 ∷ 1 ∷ 2 ∷ 0
          ∷ [];
      scopes = 0 ∷ 3 ∷ 0 ∷ [];
      source = bytes "'\\0'";
      names = bytes "\\0";
      finds = [];
    }

-- `'\08'`: 9
abbrev pub nul_eight : CheckRow
nul_eight =
    record {
      source_type = 1;
      nodes =
          0 ∷ 0 ∷ 0 ∷ 0 ∷ 5 ∷ 0 ∷ 0 ∷ 0 ∷ 0 ∷ 0
          ∷ 23 ∷ 0 ∷ 0 ∷ 0 ∷ 5 ∷ 0 ∷ 0 ∷ 0 ∷ 0 ∷ 3
          ∷ 36 ∷ 1 ∷ 1 ∷ 0 ∷ 5 ∷ 0 ∷ 0 ∷ 2 ∷ 3 ∷ 0
          ∷ [];
      scopes = 0 ∷ 3 ∷ 0 ∷ [];
      source = bytes "'\\08'";
      names = bytes "\\08";
      finds = 9 ∷ 2 ∷ 0 ∷ 5 ∷ 1 ∷ 3 ∷ 0 ∷ [];
    }

-- `'\8'`: 11
abbrev pub eight : CheckRow
eight =
    record {
      source_type = 1;
      nodes =
          0 ∷ 0 ∷ 0 ∷ 0 ∷ 4 ∷ 0 ∷ 0 ∷ 0 ∷ 0 ∷ 0
          ∷ 23 ∷ 0 ∷ 0 ∷ 0 ∷ 4 ∷ 0 ∷ 0 ∷ 0 ∷ 0 ∷ 2
          ∷ 36 ∷ 1 ∷ 1 ∷ 0 ∷ 4 ∷ 0 ∷ 0 ∷ 1 ∷ 2 ∷ 0
          ∷ [];
      scopes = 0 ∷ 3 ∷ 0 ∷ [];
      source = bytes "'\\8'";
      names = bytes "\\8";
      finds = 11 ∷ 2 ∷ 0 ∷ 4 ∷ 1 ∷ 3 ∷ 0 ∷ [];
    }

-- `'\\1'`: none
abbrev pub backslash_one : CheckRow
backslash_one =
    record {
      source_type = 1;
      nodes =
          0 ∷ 0 ∷ 0 ∷ 0 ∷ 5 ∷ 0 ∷ 0 ∷ 0 ∷ 0 ∷ 0
          ∷ 23 ∷ 0 ∷ 0 ∷ 0 ∷ 5 ∷ 0 ∷ 0 ∷ 0 ∷ 0 ∷ 3
          ∷ 36 ∷ 1 ∷ 1 ∷ 0 ∷ 5 ∷ 0 ∷ 0 ∷ 2 ∷ 3 ∷ 0
          ∷ [];
      scopes = 0 ∷ 3 ∷ 0 ∷ [];
      source = bytes "'\\\\1'";
      names = bytes "\\\\1";
      finds = [];
    }

-- `07`: 9
abbrev pub octal : CheckRow
octal =
    record {
      source_type = 1;
      nodes =
          0 ∷ 0 ∷ 0 ∷ 0 ∷ 2 ∷ 0 ∷ 0 ∷ 0 ∷ 0 ∷ 0
          ∷ 22 ∷ 0 ∷ 3 ∷ 0 ∷ 2 ∷ 0 ∷ 0 ∷ 0 ∷ 0 ∷ 0
          ∷ 35 ∷ 1 ∷ 0 ∷ 0 ∷ 2 ∷ 0 ∷ 0 ∷ 3 ∷ 0 ∷ 0
          ∷ [];
      scopes = 0 ∷ 3 ∷ 0 ∷ [];
      source = bytes "07";
      names = [];
      finds = 9 ∷ 2 ∷ 0 ∷ 2 ∷ 0 ∷ 0 ∷ 0 ∷ [];
    }

-- `08`: 10
abbrev pub leading_zero : CheckRow
leading_zero =
    record {
      source_type = 1;
      nodes =
          0 ∷ 0 ∷ 0 ∷ 0 ∷ 2 ∷ 0 ∷ 0 ∷ 0 ∷ 0 ∷ 0
          ∷ 22 ∷ 0 ∷ 3 ∷ 0 ∷ 2 ∷ 0 ∷ 0 ∷ 0 ∷ 0 ∷ 0
          ∷ 35 ∷ 1 ∷ 0 ∷ 0 ∷ 2 ∷ 0 ∷ 0 ∷ 0 ∷ 0 ∷ 0
          ∷ [];
      scopes = 0 ∷ 3 ∷ 0 ∷ [];
      source = bytes "08";
      names = [];
      finds = 10 ∷ 2 ∷ 0 ∷ 2 ∷ 0 ∷ 0 ∷ 0 ∷ [];
    }

-- `0.5`: none
abbrev pub fraction : CheckRow
fraction =
    record {
      source_type = 1;
      nodes =
          0 ∷ 0 ∷ 0 ∷ 0 ∷ 3 ∷ 0 ∷ 0 ∷ 0 ∷ 0 ∷ 0
          ∷ 22 ∷ 0 ∷ 3 ∷ 0 ∷ 3 ∷ 0 ∷ 0 ∷ 0 ∷ 0 ∷ 0
          ∷ 35 ∷ 1 ∷ 0 ∷ 0 ∷ 3 ∷ 0 ∷ 0 ∷ 1 ∷ 0 ∷ 0
          ∷ [];
      scopes = 0 ∷ 3 ∷ 0 ∷ [];
      source = bytes "0.5";
      names = [];
      finds = [];
    }

-- private get and set of one name, same static and differing
-- `class A { get #x() {} set #x(v) {} }`: none
abbrev pub both_plain : CheckRow
both_plain =
    record {
      source_type = 0;
      nodes =
          0 ∷ 0 ∷ 0 ∷ 0 ∷ 36 ∷ 0 ∷ 0 ∷ 0 ∷ 0 ∷ 0
          ∷ 26 ∷ 0 ∷ 3 ∷ 0 ∷ 36 ∷ 0 ∷ 544 ∷ 1 ∷ 0 ∷ 0
          ∷ 31 ∷ 1 ∷ 0 ∷ 6 ∷ 7 ∷ 1 ∷ 0 ∷ 0 ∷ 0 ∷ 1
          ∷ 27 ∷ 1 ∷ 3 ∷ 8 ∷ 36 ∷ 1 ∷ 0 ∷ 0 ∷ 1 ∷ 0
          ∷ 28 ∷ 3 ∷ 0 ∷ 10 ∷ 21 ∷ 1 ∷ 4 ∷ 2 ∷ 1 ∷ 0
          ∷ 34 ∷ 4 ∷ 2 ∷ 14 ∷ 16 ∷ 1 ∷ 0 ∷ 0 ∷ 1 ∷ 1
          ∷ 1 ∷ 4 ∷ 1 ∷ 16 ∷ 21 ∷ 1 ∷ 1024 ∷ 0 ∷ 2 ∷ 0
          ∷ 55 ∷ 6 ∷ 0 ∷ 16 ∷ 18 ∷ 2 ∷ 0 ∷ 0 ∷ 2 ∷ 0
          ∷ 4 ∷ 6 ∷ 3 ∷ 19 ∷ 21 ∷ 2 ∷ 0 ∷ 0 ∷ 2 ∷ 0
          ∷ 28 ∷ 3 ∷ 0 ∷ 22 ∷ 34 ∷ 1 ∷ 4 ∷ 3 ∷ 2 ∷ 0
          ∷ 34 ∷ 9 ∷ 2 ∷ 26 ∷ 28 ∷ 1 ∷ 0 ∷ 0 ∷ 2 ∷ 1
          ∷ 1 ∷ 9 ∷ 1 ∷ 28 ∷ 34 ∷ 1 ∷ 1024 ∷ 0 ∷ 3 ∷ 0
          ∷ 55 ∷ 11 ∷ 0 ∷ 28 ∷ 31 ∷ 3 ∷ 0 ∷ 0 ∷ 3 ∷ 0
          ∷ 49 ∷ 12 ∷ 0 ∷ 29 ∷ 30 ∷ 3 ∷ 0 ∷ 0 ∷ 3 ∷ 0
          ∷ 31 ∷ 13 ∷ 0 ∷ 29 ∷ 30 ∷ 3 ∷ 0 ∷ 0 ∷ 3 ∷ 1
          ∷ 4 ∷ 11 ∷ 3 ∷ 32 ∷ 34 ∷ 3 ∷ 0 ∷ 0 ∷ 4 ∷ 0
          ∷ [];
      scopes = 0 ∷ 2 ∷ 0 ∷ 0 ∷ 1 ∷ 1 ∷ 1 ∷ 5 ∷ 6 ∷ 1 ∷ 5 ∷ 11 ∷ [];
      source = bytes "class A { get #x() {} set #x(v) {} }";
      names = bytes "Axxv";
      finds = [];
    }

-- `class A { static get #x() {} static set #x(v) {} }`: none
abbrev pub both_static : CheckRow
both_static =
    record {
      source_type = 0;
      nodes =
          0 ∷ 0 ∷ 0 ∷ 0 ∷ 50 ∷ 0 ∷ 0 ∷ 0 ∷ 0 ∷ 0
          ∷ 26 ∷ 0 ∷ 3 ∷ 0 ∷ 50 ∷ 0 ∷ 544 ∷ 1 ∷ 0 ∷ 0
          ∷ 31 ∷ 1 ∷ 0 ∷ 6 ∷ 7 ∷ 1 ∷ 0 ∷ 0 ∷ 0 ∷ 1
          ∷ 27 ∷ 1 ∷ 3 ∷ 8 ∷ 50 ∷ 1 ∷ 0 ∷ 0 ∷ 1 ∷ 0
          ∷ 28 ∷ 3 ∷ 0 ∷ 10 ∷ 28 ∷ 1 ∷ 6 ∷ 2 ∷ 1 ∷ 0
          ∷ 34 ∷ 4 ∷ 2 ∷ 21 ∷ 23 ∷ 1 ∷ 0 ∷ 0 ∷ 1 ∷ 1
          ∷ 1 ∷ 4 ∷ 1 ∷ 23 ∷ 28 ∷ 1 ∷ 1024 ∷ 0 ∷ 2 ∷ 0
          ∷ 55 ∷ 6 ∷ 0 ∷ 23 ∷ 25 ∷ 2 ∷ 0 ∷ 0 ∷ 2 ∷ 0
          ∷ 4 ∷ 6 ∷ 3 ∷ 26 ∷ 28 ∷ 2 ∷ 0 ∷ 0 ∷ 2 ∷ 0
          ∷ 28 ∷ 3 ∷ 0 ∷ 29 ∷ 48 ∷ 1 ∷ 6 ∷ 3 ∷ 2 ∷ 0
          ∷ 34 ∷ 9 ∷ 2 ∷ 40 ∷ 42 ∷ 1 ∷ 0 ∷ 0 ∷ 2 ∷ 1
          ∷ 1 ∷ 9 ∷ 1 ∷ 42 ∷ 48 ∷ 1 ∷ 1024 ∷ 0 ∷ 3 ∷ 0
          ∷ 55 ∷ 11 ∷ 0 ∷ 42 ∷ 45 ∷ 3 ∷ 0 ∷ 0 ∷ 3 ∷ 0
          ∷ 49 ∷ 12 ∷ 0 ∷ 43 ∷ 44 ∷ 3 ∷ 0 ∷ 0 ∷ 3 ∷ 0
          ∷ 31 ∷ 13 ∷ 0 ∷ 43 ∷ 44 ∷ 3 ∷ 0 ∷ 0 ∷ 3 ∷ 1
          ∷ 4 ∷ 11 ∷ 3 ∷ 46 ∷ 48 ∷ 3 ∷ 0 ∷ 0 ∷ 4 ∷ 0
          ∷ [];
      scopes = 0 ∷ 2 ∷ 0 ∷ 0 ∷ 1 ∷ 1 ∷ 1 ∷ 5 ∷ 6 ∷ 1 ∷ 5 ∷ 11 ∷ [];
      source = bytes "class A { static get #x() {} static set #x(v) {} }";
      names = bytes "Axxv";
      finds = [];
    }

-- `class A { static get #x() {} set #x(v) {} }`: 1
abbrev pub getter_static : CheckRow
getter_static =
    record {
      source_type = 0;
      nodes =
          0 ∷ 0 ∷ 0 ∷ 0 ∷ 43 ∷ 0 ∷ 0 ∷ 0 ∷ 0 ∷ 0
          ∷ 26 ∷ 0 ∷ 3 ∷ 0 ∷ 43 ∷ 0 ∷ 544 ∷ 1 ∷ 0 ∷ 0
          ∷ 31 ∷ 1 ∷ 0 ∷ 6 ∷ 7 ∷ 1 ∷ 0 ∷ 0 ∷ 0 ∷ 1
          ∷ 27 ∷ 1 ∷ 3 ∷ 8 ∷ 43 ∷ 1 ∷ 0 ∷ 0 ∷ 1 ∷ 0
          ∷ 28 ∷ 3 ∷ 0 ∷ 10 ∷ 28 ∷ 1 ∷ 6 ∷ 2 ∷ 1 ∷ 0
          ∷ 34 ∷ 4 ∷ 2 ∷ 21 ∷ 23 ∷ 1 ∷ 0 ∷ 0 ∷ 1 ∷ 1
          ∷ 1 ∷ 4 ∷ 1 ∷ 23 ∷ 28 ∷ 1 ∷ 1024 ∷ 0 ∷ 2 ∷ 0
          ∷ 55 ∷ 6 ∷ 0 ∷ 23 ∷ 25 ∷ 2 ∷ 0 ∷ 0 ∷ 2 ∷ 0
          ∷ 4 ∷ 6 ∷ 3 ∷ 26 ∷ 28 ∷ 2 ∷ 0 ∷ 0 ∷ 2 ∷ 0
          ∷ 28 ∷ 3 ∷ 0 ∷ 29 ∷ 41 ∷ 1 ∷ 4 ∷ 3 ∷ 2 ∷ 0
          ∷ 34 ∷ 9 ∷ 2 ∷ 33 ∷ 35 ∷ 1 ∷ 0 ∷ 0 ∷ 2 ∷ 1
          ∷ 1 ∷ 9 ∷ 1 ∷ 35 ∷ 41 ∷ 1 ∷ 1024 ∷ 0 ∷ 3 ∷ 0
          ∷ 55 ∷ 11 ∷ 0 ∷ 35 ∷ 38 ∷ 3 ∷ 0 ∷ 0 ∷ 3 ∷ 0
          ∷ 49 ∷ 12 ∷ 0 ∷ 36 ∷ 37 ∷ 3 ∷ 0 ∷ 0 ∷ 3 ∷ 0
          ∷ 31 ∷ 13 ∷ 0 ∷ 36 ∷ 37 ∷ 3 ∷ 0 ∷ 0 ∷ 3 ∷ 1
          ∷ 4 ∷ 11 ∷ 3 ∷ 39 ∷ 41 ∷ 3 ∷ 0 ∷ 0 ∷ 4 ∷ 0
          ∷ [];
      scopes = 0 ∷ 2 ∷ 0 ∷ 0 ∷ 1 ∷ 1 ∷ 1 ∷ 5 ∷ 6 ∷ 1 ∷ 5 ∷ 11 ∷ [];
      source = bytes "class A { static get #x() {} set #x(v) {} }";
      names = bytes "Axxv";
      finds = 1 ∷ 0 ∷ 21 ∷ 23 ∷ 33 ∷ 35 ∷ 0 ∷ [];
    }

-- `class A { get #x() {} static set #x(v) {} }`: 1
abbrev pub setter_static : CheckRow
setter_static =
    record {
      source_type = 0;
      nodes =
          0 ∷ 0 ∷ 0 ∷ 0 ∷ 43 ∷ 0 ∷ 0 ∷ 0 ∷ 0 ∷ 0
          ∷ 26 ∷ 0 ∷ 3 ∷ 0 ∷ 43 ∷ 0 ∷ 544 ∷ 1 ∷ 0 ∷ 0
          ∷ 31 ∷ 1 ∷ 0 ∷ 6 ∷ 7 ∷ 1 ∷ 0 ∷ 0 ∷ 0 ∷ 1
          ∷ 27 ∷ 1 ∷ 3 ∷ 8 ∷ 43 ∷ 1 ∷ 0 ∷ 0 ∷ 1 ∷ 0
          ∷ 28 ∷ 3 ∷ 0 ∷ 10 ∷ 21 ∷ 1 ∷ 4 ∷ 2 ∷ 1 ∷ 0
          ∷ 34 ∷ 4 ∷ 2 ∷ 14 ∷ 16 ∷ 1 ∷ 0 ∷ 0 ∷ 1 ∷ 1
          ∷ 1 ∷ 4 ∷ 1 ∷ 16 ∷ 21 ∷ 1 ∷ 1024 ∷ 0 ∷ 2 ∷ 0
          ∷ 55 ∷ 6 ∷ 0 ∷ 16 ∷ 18 ∷ 2 ∷ 0 ∷ 0 ∷ 2 ∷ 0
          ∷ 4 ∷ 6 ∷ 3 ∷ 19 ∷ 21 ∷ 2 ∷ 0 ∷ 0 ∷ 2 ∷ 0
          ∷ 28 ∷ 3 ∷ 0 ∷ 22 ∷ 41 ∷ 1 ∷ 6 ∷ 3 ∷ 2 ∷ 0
          ∷ 34 ∷ 9 ∷ 2 ∷ 33 ∷ 35 ∷ 1 ∷ 0 ∷ 0 ∷ 2 ∷ 1
          ∷ 1 ∷ 9 ∷ 1 ∷ 35 ∷ 41 ∷ 1 ∷ 1024 ∷ 0 ∷ 3 ∷ 0
          ∷ 55 ∷ 11 ∷ 0 ∷ 35 ∷ 38 ∷ 3 ∷ 0 ∷ 0 ∷ 3 ∷ 0
          ∷ 49 ∷ 12 ∷ 0 ∷ 36 ∷ 37 ∷ 3 ∷ 0 ∷ 0 ∷ 3 ∷ 0
          ∷ 31 ∷ 13 ∷ 0 ∷ 36 ∷ 37 ∷ 3 ∷ 0 ∷ 0 ∷ 3 ∷ 1
          ∷ 4 ∷ 11 ∷ 3 ∷ 39 ∷ 41 ∷ 3 ∷ 0 ∷ 0 ∷ 4 ∷ 0
          ∷ [];
      scopes = 0 ∷ 2 ∷ 0 ∷ 0 ∷ 1 ∷ 1 ∷ 1 ∷ 5 ∷ 6 ∷ 1 ∷ 5 ∷ 11 ∷ [];
      source = bytes "class A { get #x() {} static set #x(v) {} }";
      names = bytes "Axxv";
      finds = 1 ∷ 0 ∷ 14 ∷ 16 ∷ 33 ∷ 35 ∷ 0 ∷ [];
    }

-- jumps
-- `a: { continue a; }`: 22
abbrev pub block : CheckRow
block =
    record {
      source_type = 0;
      nodes =
          0 ∷ 0 ∷ 0 ∷ 0 ∷ 18 ∷ 0 ∷ 0 ∷ 0 ∷ 0 ∷ 0
          ∷ 6 ∷ 0 ∷ 3 ∷ 0 ∷ 18 ∷ 0 ∷ 0 ∷ 0 ∷ 0 ∷ 0
          ∷ 33 ∷ 1 ∷ 6 ∷ 0 ∷ 1 ∷ 0 ∷ 0 ∷ 0 ∷ 0 ∷ 1
          ∷ 5 ∷ 1 ∷ 3 ∷ 3 ∷ 18 ∷ 0 ∷ 0 ∷ 0 ∷ 1 ∷ 0
          ∷ 19 ∷ 3 ∷ 3 ∷ 5 ∷ 16 ∷ 1 ∷ 0 ∷ 0 ∷ 1 ∷ 0
          ∷ 33 ∷ 4 ∷ 6 ∷ 14 ∷ 15 ∷ 1 ∷ 0 ∷ 0 ∷ 1 ∷ 1
          ∷ [];
      scopes = 0 ∷ 2 ∷ 0 ∷ 0 ∷ 0 ∷ 3 ∷ [];
      source = bytes "a: { continue a; }";
      names = bytes "aa";
      finds = 22 ∷ 4 ∷ 0 ∷ 1 ∷ 14 ∷ 15 ∷ 0 ∷ [];
    }

-- `switch (s) { case c: continue; }`: 21
abbrev pub switch : CheckRow
switch =
    record {
      source_type = 0;
      nodes =
          0 ∷ 0 ∷ 0 ∷ 0 ∷ 32 ∷ 0 ∷ 0 ∷ 0 ∷ 0 ∷ 0
          ∷ 14 ∷ 0 ∷ 3 ∷ 0 ∷ 32 ∷ 0 ∷ 0 ∷ 0 ∷ 0 ∷ 0
          ∷ 32 ∷ 1 ∷ 0 ∷ 8 ∷ 9 ∷ 0 ∷ 0 ∷ 0 ∷ 0 ∷ 1
          ∷ 15 ∷ 1 ∷ 3 ∷ 13 ∷ 30 ∷ 1 ∷ 0 ∷ 0 ∷ 1 ∷ 0
          ∷ 32 ∷ 3 ∷ 0 ∷ 18 ∷ 19 ∷ 1 ∷ 0 ∷ 0 ∷ 1 ∷ 1
          ∷ 19 ∷ 3 ∷ 3 ∷ 21 ∷ 30 ∷ 1 ∷ 0 ∷ 0 ∷ 2 ∷ 0
          ∷ [];
      scopes = 0 ∷ 2 ∷ 0 ∷ 0 ∷ 0 ∷ 1 ∷ [];
      source = bytes "switch (s) { case c: continue; }";
      names = bytes "sc";
      finds = 21 ∷ 5 ∷ 21 ∷ 30 ∷ 0 ∷ 0 ∷ 0 ∷ [];
    }

-- "Slips seen in such checkers": searching past a same-named label on a block; reporting a third constructor
-- `a: while (t) { a: { continue a; } }`: 23, and 22 by the inner label
abbrev pub label_twice : CheckRow
label_twice =
    record {
      source_type = 0;
      nodes =
          0 ∷ 0 ∷ 0 ∷ 0 ∷ 35 ∷ 0 ∷ 0 ∷ 0 ∷ 0 ∷ 0
          ∷ 6 ∷ 0 ∷ 3 ∷ 0 ∷ 35 ∷ 0 ∷ 0 ∷ 0 ∷ 0 ∷ 0
          ∷ 33 ∷ 1 ∷ 6 ∷ 0 ∷ 1 ∷ 0 ∷ 0 ∷ 0 ∷ 0 ∷ 1
          ∷ 10 ∷ 1 ∷ 3 ∷ 3 ∷ 35 ∷ 0 ∷ 0 ∷ 0 ∷ 1 ∷ 0
          ∷ 32 ∷ 3 ∷ 0 ∷ 10 ∷ 11 ∷ 0 ∷ 0 ∷ 0 ∷ 1 ∷ 1
          ∷ 5 ∷ 3 ∷ 3 ∷ 13 ∷ 35 ∷ 0 ∷ 0 ∷ 0 ∷ 2 ∷ 0
          ∷ 6 ∷ 5 ∷ 3 ∷ 15 ∷ 33 ∷ 1 ∷ 0 ∷ 0 ∷ 2 ∷ 0
          ∷ 33 ∷ 6 ∷ 6 ∷ 15 ∷ 16 ∷ 1 ∷ 0 ∷ 0 ∷ 2 ∷ 1
          ∷ 5 ∷ 6 ∷ 3 ∷ 18 ∷ 33 ∷ 1 ∷ 0 ∷ 0 ∷ 3 ∷ 0
          ∷ 19 ∷ 8 ∷ 3 ∷ 20 ∷ 31 ∷ 2 ∷ 0 ∷ 0 ∷ 3 ∷ 0
          ∷ 33 ∷ 9 ∷ 6 ∷ 29 ∷ 30 ∷ 2 ∷ 0 ∷ 0 ∷ 3 ∷ 1
          ∷ [];
      scopes = 0 ∷ 2 ∷ 0 ∷ 0 ∷ 0 ∷ 5 ∷ 1 ∷ 0 ∷ 8 ∷ [];
      source = bytes "a: while (t) { a: { continue a; } }";
      names = bytes "ataa";
      finds = 23 ∷ 6 ∷ 0 ∷ 1 ∷ 15 ∷ 16 ∷ 0 ∷ 22 ∷ 9 ∷ 15 ∷ 16 ∷ 29 ∷ 30 ∷ 0 ∷ [];
    }

-- `class A { constructor() {} constructor() {} constructor() {} }`: 27, once
abbrev pub three_constructors : CheckRow
three_constructors =
    record {
      source_type = 0;
      nodes =
          0 ∷ 0 ∷ 0 ∷ 0 ∷ 62 ∷ 0 ∷ 0 ∷ 0 ∷ 0 ∷ 0
          ∷ 26 ∷ 0 ∷ 3 ∷ 0 ∷ 62 ∷ 0 ∷ 544 ∷ 1 ∷ 0 ∷ 0
          ∷ 31 ∷ 1 ∷ 0 ∷ 6 ∷ 7 ∷ 1 ∷ 0 ∷ 0 ∷ 0 ∷ 1
          ∷ 27 ∷ 1 ∷ 3 ∷ 8 ∷ 62 ∷ 1 ∷ 0 ∷ 0 ∷ 1 ∷ 0
          ∷ 28 ∷ 3 ∷ 0 ∷ 10 ∷ 26 ∷ 1 ∷ 0 ∷ 0 ∷ 1 ∷ 0
          ∷ 55 ∷ 4 ∷ 2 ∷ 10 ∷ 21 ∷ 1 ∷ 0 ∷ 0 ∷ 1 ∷ 11
          ∷ 1 ∷ 4 ∷ 1 ∷ 21 ∷ 26 ∷ 1 ∷ 1024 ∷ 0 ∷ 12 ∷ 0
          ∷ 55 ∷ 6 ∷ 0 ∷ 21 ∷ 23 ∷ 2 ∷ 0 ∷ 0 ∷ 12 ∷ 0
          ∷ 4 ∷ 6 ∷ 3 ∷ 24 ∷ 26 ∷ 2 ∷ 0 ∷ 0 ∷ 12 ∷ 0
          ∷ 28 ∷ 3 ∷ 0 ∷ 27 ∷ 43 ∷ 1 ∷ 0 ∷ 0 ∷ 12 ∷ 0
          ∷ 55 ∷ 9 ∷ 2 ∷ 27 ∷ 38 ∷ 1 ∷ 0 ∷ 0 ∷ 12 ∷ 11
          ∷ 1 ∷ 9 ∷ 1 ∷ 38 ∷ 43 ∷ 1 ∷ 1024 ∷ 0 ∷ 23 ∷ 0
          ∷ 55 ∷ 11 ∷ 0 ∷ 38 ∷ 40 ∷ 3 ∷ 0 ∷ 0 ∷ 23 ∷ 0
          ∷ 4 ∷ 11 ∷ 3 ∷ 41 ∷ 43 ∷ 3 ∷ 0 ∷ 0 ∷ 23 ∷ 0
          ∷ 28 ∷ 3 ∷ 0 ∷ 44 ∷ 60 ∷ 1 ∷ 0 ∷ 0 ∷ 23 ∷ 0
          ∷ 55 ∷ 14 ∷ 2 ∷ 44 ∷ 55 ∷ 1 ∷ 0 ∷ 0 ∷ 23 ∷ 11
          ∷ 1 ∷ 14 ∷ 1 ∷ 55 ∷ 60 ∷ 1 ∷ 1024 ∷ 0 ∷ 34 ∷ 0
          ∷ 55 ∷ 16 ∷ 0 ∷ 55 ∷ 57 ∷ 4 ∷ 0 ∷ 0 ∷ 34 ∷ 0
          ∷ 4 ∷ 16 ∷ 3 ∷ 58 ∷ 60 ∷ 4 ∷ 0 ∷ 0 ∷ 34 ∷ 0
          ∷ [];
      scopes = 0 ∷ 2 ∷ 0 ∷ 0 ∷ 1 ∷ 1 ∷ 1 ∷ 5 ∷ 6 ∷ 1 ∷ 5 ∷ 11 ∷ 1 ∷ 5 ∷ 16 ∷ [];
      source = bytes "class A { constructor() {} constructor() {} constructor() {} }";
      names = bytes "Aconstructorconstructorconstructor";
      finds = 27 ∷ 1 ∷ 10 ∷ 21 ∷ 27 ∷ 38 ∷ 0 ∷ [];
    }

-- Route of `a: while(t){ switch(s){ case c: continue a; } x; }`: 3 is the while, 6 the switch, 10 the continue, 12 the x.
abbrev pub loop : List ℕ → Route → RouteRow
loop answers shows =
    record {
      source_type = 0;
      nodes =
          0 ∷ 0 ∷ 0 ∷ 0 ∷ 50 ∷ 0 ∷ 0 ∷ 0 ∷ 0 ∷ 0
          ∷ 6 ∷ 0 ∷ 3 ∷ 0 ∷ 50 ∷ 0 ∷ 0 ∷ 0 ∷ 0 ∷ 0
          ∷ 33 ∷ 1 ∷ 6 ∷ 0 ∷ 1 ∷ 0 ∷ 0 ∷ 0 ∷ 0 ∷ 1
          ∷ 10 ∷ 1 ∷ 3 ∷ 3 ∷ 50 ∷ 0 ∷ 0 ∷ 0 ∷ 1 ∷ 0
          ∷ 32 ∷ 3 ∷ 0 ∷ 9 ∷ 10 ∷ 0 ∷ 0 ∷ 0 ∷ 1 ∷ 1
          ∷ 5 ∷ 3 ∷ 3 ∷ 11 ∷ 50 ∷ 0 ∷ 0 ∷ 0 ∷ 2 ∷ 0
          ∷ 14 ∷ 5 ∷ 3 ∷ 13 ∷ 45 ∷ 1 ∷ 0 ∷ 0 ∷ 2 ∷ 0
          ∷ 32 ∷ 6 ∷ 0 ∷ 20 ∷ 21 ∷ 1 ∷ 0 ∷ 0 ∷ 2 ∷ 1
          ∷ 15 ∷ 6 ∷ 3 ∷ 24 ∷ 43 ∷ 2 ∷ 0 ∷ 0 ∷ 3 ∷ 0
          ∷ 32 ∷ 8 ∷ 0 ∷ 29 ∷ 30 ∷ 2 ∷ 0 ∷ 0 ∷ 3 ∷ 1
          ∷ 19 ∷ 8 ∷ 3 ∷ 32 ∷ 43 ∷ 2 ∷ 0 ∷ 0 ∷ 4 ∷ 0
          ∷ 33 ∷ 10 ∷ 6 ∷ 41 ∷ 42 ∷ 2 ∷ 0 ∷ 0 ∷ 4 ∷ 1
          ∷ 22 ∷ 5 ∷ 3 ∷ 46 ∷ 48 ∷ 1 ∷ 0 ∷ 0 ∷ 5 ∷ 0
          ∷ 32 ∷ 12 ∷ 0 ∷ 46 ∷ 47 ∷ 1 ∷ 0 ∷ 0 ∷ 5 ∷ 1
          ∷ [];
      scopes = 0 ∷ 2 ∷ 0 ∷ 0 ∷ 0 ∷ 5 ∷ 1 ∷ 0 ∷ 6 ∷ [];
      source = bytes "a: while(t){ switch(s){ case c: continue a; } x; }";
      names = bytes "atscax";
      unit = 0;
      answers = answers;
      shows = shows;
    }

abbrev pub listed : List ℕ → ℕ → ℕ → Route
listed list end taken = record { list = list; end = end; taken = taken }

unfoldable pub rows : List Row
rows =
    check nul
    ∷ check nul_eight
    ∷ check eight
    ∷ check backslash_one
    ∷ check octal
    ∷ check leading_zero
    ∷ check fraction
    ∷ check both_plain
    ∷ check both_static
    ∷ check getter_static
    ∷ check setter_static
    ∷ check block
    ∷ check switch
    ∷ check label_twice
    ∷ check three_constructors
    -- "answers 1,0,0 list while, switch, continue, while, end 0; 1,5,0 list while, switch, x, while, end 0; 1 lists while, end 3"
    ∷ route (loop (1 ∷ 0 ∷ 0 ∷ []) (listed (3 ∷ 6 ∷ 10 ∷ 3 ∷ []) 0 3))
    ∷ route (loop (1 ∷ 5 ∷ 0 ∷ []) (listed (3 ∷ 6 ∷ 12 ∷ 3 ∷ []) 0 3))
    ∷ route (loop (1 ∷ []) (listed (3 ∷ []) 3 1))
    ∷ []
