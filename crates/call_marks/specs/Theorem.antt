-- MARKS IN A ROUTE, over the calls: "For a mark taken up on the tables and unit of all its stops, the list so far followed by what comes after, if not
-- stopped again, equals the route, its end too, for the answers taken so far joined with the further ones."
use Rattle.std.specs.Prelude.{ℕ, ◌+◌, length, take}
use Rattle.std.proofs.Math.Path.{◌≡◌}
use mathlib.Core.List.{List, [], ◌++◌, map}
use Rattle.std.proofs.Math.Bool.{true}
use Rattle.std.proofs.Math.Dec.{leb}
use Rattle.check_dispatch.specs.Rule.{Rule}
use Rattle.refusal_verdict.specs.Verdict.{Verdict, Passed}
use Rattle.refusal_state.specs.Targets.{refused_or}
use Rattle.route_completion.specs.Sem.{Entry}
use Rattle.route_completion.specs.Route.{node_of, route}
use Rattle.route_viewer.specs.Shown.{routed}
use Rattle.code_flat.specs.Machine.{room, Pos, pos}
use Rattle.code_tree.specs.Statements.{unit_of}
use Rattle.code_length.specs.Length.{code_length}
use Rattle.code_marks.specs.Stop.{Stop, held, stopped, Call}
use Rattle.code_machine.specs.Halted.{stopped_end, route_to}
use Rattle.route_marks.specs.Marks.{is_set, mark_at}
use Rattle.route_marks.specs.Taken.{stop_of, gone_on}
use Rattle.route_marks.specs.declared.Begin.{Begin}
use Rattle.route_marks.specs.declared.Begin.TheVariants.{Start, Mark}
use Rattle.call_routes.specs.Calls.{code_refusal}
use Rattle.call_marks.specs.Marked.{code_of, from_refusal, place_refusal, sixteen_of, seventeen_of, mark_answer, mark_slice, marks_left}

-- An array of all eight parts.
abbrev pub all_parts : ℕ
all_parts = 8208

-- A call on the array M that begins at the start or at a mark, and is to be stopped under the mark `to` behind so many answers: what it answers and leaves.
module _ (r : Rule) (u : ℕ) (M : List ℕ) (begin : Begin) (to stop : ℕ) (answers : List ℕ) (codeLen : ℕ) (out : List ℕ) where
  -- It was stopped: end 4, with n entries.
  abbrev pub Stopped : ℕ → ℕ → Type 0
  Stopped n t =
      mark_answer r u (sixteen_of M begin to) (seventeen_of M (code_of r u) begin) (stop_of M (code_of r u) answers begin stop) codeLen (length out) ≡ routed stopped_end n t

  -- The array that it leaves, and the list that it has written.
  abbrev pub array_after : List ℕ
  array_after = marks_left r u (sixteen_of M begin to) (seventeen_of M (code_of r u) begin) (stop_of M (code_of r u) answers begin stop) codeLen (length out) M to

  abbrev pub listed : ℕ → List ℕ
  listed n = take n (mark_slice r u (sixteen_of M begin to) (seventeen_of M (code_of r u) begin) (stop_of M (code_of r u) answers begin stop) codeLen out)

-- "a mark taken up on the tables and unit of all its stops": the mark m of the array N, the answers taken so far, and the list so far.
pub data History (r : Rule) (u : ℕ) : List ℕ → ℕ → List ℕ → List ℕ → Type 0 where
  -- It was set by a route from the start,
  first : (N : List ℕ) (m : ℕ) (qs l M : List ℕ) (stop : ℕ) (answers : List ℕ) (codeLen : ℕ) (out : List ℕ) (n t : ℕ) → length M ≡ all_parts
      → Stopped r u M Start m stop answers codeLen out n t → N ≡ array_after r u M Start m stop answers codeLen out → qs ≡ take stop answers
      → l ≡ listed r u M Start m stop answers codeLen out n → History r u N m qs l
  -- by one taken up at a mark and stopped again,
  again : (N : List ℕ) (m : ℕ) (qs l M : List ℕ) (from : ℕ) (ps k : List ℕ) → History r u M from ps k → (stop : ℕ) (answers : List ℕ) (codeLen : ℕ) (out : List ℕ) (n t : ℕ)
      → Stopped r u M (Mark from) m stop answers codeLen out n t → N ≡ array_after r u M (Mark from) m stop answers codeLen out → qs ≡ ps ++ take stop answers
      → l ≡ k ++ listed r u M (Mark from) m stop answers codeLen out n → History r u N m qs l
  -- or the array was changed since, and holds this mark as it did.
  kept : (N : List ℕ) (m : ℕ) (qs l M : List ℕ) → History r u M m qs l → length N ≡ all_parts → is_set N m ≡ true → mark_at N m ≡ mark_at M m → History r u N m qs l

-- What is known of a call that was stopped.
pub record Reached (r : Rule) (u : ℕ) (v w : Verdict) (s : Stop) (codeLen len n : ℕ) : Type 0 where
  pub before : refused_or (code_refusal r u) v ≡ Passed
  pub roomy : leb (code_length r.nodes u) codeLen ≡ true
  pub behind : w ≡ Passed
  pub fits : leb (length (route_to s).list) len ≡ true
  pub end : (route_to s).end ≡ stopped_end
  pub many : n ≡ length (route_to s).list

-- No run ends with 4 by itself.
pub record HeldAt (s : Stop) : Type 0 where
  pub entries : List Entry
  pub place : Pos
  pub left : List ℕ
  pub is : s ≡ held entries place left

-- What the history of a mark comes to: one stop behind all the answers taken so far.
pub record Standing (r : Rule) (u : ℕ) (M : List ℕ) (m : ℕ) (qs l : List ℕ) : Type 0 where
  pub whole : length M ≡ all_parts
  pub set : is_set M m ≡ true
  pub passed : code_refusal r u ≡ Passed
  pub entries : List Entry
  pub stands : stopped room (code_of r u) (length qs) (pos 0 []) qs ≡ held entries (mark_at M m) []
  pub list : map node_of entries ≡ l

abbrev pub one : List ℕ → Call
one qs = record { number = length qs; answers = qs }

-- What comes of taking up such a mark with further answers.
pub record TakenUp (r : Rule) (u : ℕ) (M : List ℕ) (m : ℕ) (qs l more : List ℕ) : Type 0 where
  -- It is never turned down by 16 or 17,
  pub sixteen : from_refusal M m ≡ Passed
  pub seventeen : place_refusal M (code_of r u) m ≡ Passed
  -- .. and the list so far followed by what comes after is the route for the answers joined, its end too, and its count of answers taken.
  pub list : (route (unit_of r.nodes r.names u) (qs ++ more)).list ≡ l ++ (route_to (gone_on M (code_of r u) more m)).list
  pub end : (route (unit_of r.nodes r.names u) (qs ++ more)).end ≡ (route_to (gone_on M (code_of r u) more m)).end
  pub taken : (route (unit_of r.nodes r.names u) (qs ++ more)).taken ≡ length qs + (route_to (gone_on M (code_of r u) more m)).taken
