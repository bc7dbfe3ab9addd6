-- SHORTER CODE, of the calls (document 02, request 10/13): what is true of a slice that the shorten call doesn't refuse, and of the code that the code call writes.
use Rattle.std.specs.Prelude.{ℕ, ◌+◌, ◌≤◌, ◌≡◌, List, length, take, drop, Ok}
use Rattle.route_completion.specs.Sem.{execs}
use Rattle.code_flat.specs.Machine.{room, started, result}
use Rattle.code_tree.specs.Statements.{unit_of}
use Rattle.code_length.specs.Length.{code_length}
use Rattle.check_dispatch.specs.Rule.{Rule}
use Rattle.code_shorten.specs.Short.{shorter}
use Rattle.code_shorten.specs.Claims.{RingStays}
use Rattle.code_shorten.specs.Same.{Forward}
use Rattle.call_routes.specs.Calls.{route_answer, route_slice}
use Rattle.call_walk.specs.Walked.{walk_answer, walk_slice}
use Rattle.call_run.specs.Run.{shown_by, run_answer, run_slice}
use Rattle.call_shorten.specs.Shorten.{shorten_answer, shorten_slice, freed}

-- Of any slice C, whoever wrote it, of which the shorten call says that n numbers are left.
pub record ShorterSlice (C : List ℕ) (n : ℕ) : Type 0 where
  -- The first n entries are the shorter code, those behind are as they were.
  pub front : take n (shorten_slice C) ≡ shorter C
  pub behind : drop n (shorten_slice C) ≡ drop n C
  -- "The pass never lengthens code": "old length less new length" is the room freed, to the last number.
  pub longer : n + freed (length C) n ≡ length C
  -- ".. and a second pass changes nothing": the shorter code is not refused, and stays.
  pub again : shorten_answer (shorter C) ≡ Ok n
  pub twice : shorten_slice (shorter C) ≡ shorter C
  -- "reached jumps that form or lead into a ring stay"
  pub rings : RingStays C
  -- "A code slice that the code call could not have written may come in: then the sameness of routes is not promised". It is so, entries, end and answers
  -- taken, where control goes forward between answers, or back to an ASK.
  pub same : (answers : List ℕ) → Forward room C answers → (len : ℕ) → run_answer (shorter C) answers len ≡ run_answer C answers len
  pub left : (answers : List ℕ) → Forward room C answers → (s : List ℕ) → run_slice (shorter C) answers s ≡ run_slice C answers s

-- Of the code `made` of the unit u, as the code call wrote it.
pub record ShorterRoute (r : Rule) (u : ℕ) (made answers : List ℕ) : Type 0 where
  -- The code call's code is never refused by 18.
  pub taken : shorten_answer made ≡ Ok (length (shorter made))
  -- "The route of the shorter code is the old route for all answers": the run, its entries, its end and the answers that it leaves; and the same by the completion rules.
  pub run : started (shorter made) answers ≡ started made answers
  pub rules : started (shorter made) answers ≡ result (execs (unit_of r.nodes r.names u) answers)
  -- So the run call answers and leaves for the shorter code what it does for the old one, with route slices of any length; ..
  pub same : (len : ℕ) → run_answer (shorter made) answers len ≡ run_answer made answers len
  pub left : (s : List ℕ) → run_slice (shorter made) answers s ≡ run_slice made answers s
  -- .. and what the route call does with every code slice that has room, ..
  pub routed : (codeLen : ℕ) → code_length r.nodes u ≤ codeLen → (len : ℕ) → run_answer (shorter made) answers len ≡ shown_by (route_answer r u answers codeLen len)
  pub routes : (codeLen : ℕ) → code_length r.nodes u ≤ codeLen → (s : List ℕ) → run_slice (shorter made) answers s ≡ route_slice r u answers codeLen s
  -- .. and the second engine, without code.
  pub walked : (len : ℕ) → run_answer (shorter made) answers len ≡ shown_by (walk_answer r u answers len)
  pub walks : (s : List ℕ) → run_slice (shorter made) answers s ≡ walk_slice r u answers s
