-- Document 02, request 12, "Labels renamed": two rules, of which one is the other with its labels renamed, and what is equal then.
use Rattle.std.specs.Prelude.{ℕ, ◌≡◌, List}
use Rattle.check_dispatch.specs.Rule.{Rule, rule}
use Rattle.check_dispatch.specs.Reported.{reported}
use Rattle.refusal_verdict.specs.Verdict.{Verdict, Passed}
use Rattle.refusal_input.specs.Input.{input_refusal}
use Rattle.code_tree.specs.Statements.{unit_of}
use Rattle.code_length.specs.Length.{code_length}
use Rattle.call_check.specs.Check.{check_answer, check_slice}
use Rattle.call_routes.specs.Calls.{code_refusal, code_answer, code_slice, route_answer, route_slice}
use Rattle.call_walk.specs.Walked.{walk_answer, walk_slice}
use Rattle.call_marks.specs.Calls.{stop_answer, stop_code, stop_slice, stop_marks, resume_answer, resume_code, resume_slice, resume_stop_answer, resume_stop_code, resume_stop_slice, resume_stop_marks}
use Rattle.call_shared.specs.Shared.{shared_answer}
use Rattle.table_renamed.specs.Renamed.{Renamed}
use Rattle.check_renamed.specs.Unreserved.{Unreserved}

-- a rule with another node table and other names
abbrev pub with_tables : Rule → List ℕ → List ℕ → Rule
with_tables x ms mnames = rule x.source_type x.async_bodies ms x.scopes x.source mnames

-- refusals 1 to 6 and 13 to 15
abbrev pub refused_input : Rule → Verdict
refused_input x = input_refusal x.source_type x.nodes x.scopes x.source x.names

-- "If every label name .. is replaced by a name, one to one over the whole tree, the tables stay well-formed, and no old or new name is one that the reserved-word check looks for"
pub record LabelsRenamed (x : Rule) (ms mnames : List ℕ) : Type 0 where
  pub renamed : Renamed x.nodes x.names ms mnames
  pub formed : refused_input x ≡ Passed
  pub stays : refused_input (with_tables x ms mnames) ≡ Passed
  pub old : Unreserved x.nodes x.names
  pub new : Unreserved ms mnames

-- What a call reads of a rule and of its unit u: a call whose answer and slices are by these alone answers and writes the same.
pub record Read (x y : Rule) : Type 0 where
  pub input : refused_input x ≡ refused_input y
  -- "findings are equal in code, node, spans and context"
  pub findings : reported x ≡ reported y
  -- the refusals before 11, which the calls on units give
  pub refusal : (u : ℕ) → code_refusal x u ≡ code_refusal y u
  pub long : (u : ℕ) → code_length x.nodes u ≡ code_length y.nodes u
  -- the unit's statements, of which its code and its routes are made
  pub unit : (u : ℕ) → unit_of x.nodes x.names u ≡ unit_of y.nodes y.names u

-- ".. then findings are equal .., and routes of units are equal too": what each call answers and leaves of each slice
pub record Same (x y : Rule) : Type 0 where
  pub read : Read x y
  pub check : (len : ℕ) → check_answer x len ≡ check_answer y len
  pub checks : (s : List ℕ) → check_slice x s ≡ check_slice y s
  pub code : (u len : ℕ) → code_answer x u len ≡ code_answer y u len
  pub codes : (u : ℕ) (s : List ℕ) → code_slice x u s ≡ code_slice y u s
  pub route : (u : ℕ) (answers : List ℕ) (codeLen len : ℕ) → route_answer x u answers codeLen len ≡ route_answer y u answers codeLen len
  pub routes : (u : ℕ) (answers : List ℕ) (codeLen : ℕ) (s : List ℕ) → route_slice x u answers codeLen s ≡ route_slice y u answers codeLen s
  pub walk : (u : ℕ) (answers : List ℕ) (len : ℕ) → walk_answer x u answers len ≡ walk_answer y u answers len
  pub walks : (u : ℕ) (answers s : List ℕ) → walk_slice x u answers s ≡ walk_slice y u answers s
  -- the calls of marks, with the array M
  pub stop : (u : ℕ) (answers : List ℕ) (mark stop : ℕ) (M : List ℕ) (codeLen len : ℕ) → stop_answer x u answers mark stop M codeLen len ≡ stop_answer y u answers mark stop M codeLen len
  pub stop_codes : (u : ℕ) (mark : ℕ) (k : List ℕ) → stop_code x u mark k ≡ stop_code y u mark k
  pub stop_routes : (u : ℕ) (answers : List ℕ) (mark stop : ℕ) (M : List ℕ) (codeLen : ℕ) (o : List ℕ) → stop_slice x u answers mark stop M codeLen o ≡ stop_slice y u answers mark stop M codeLen o
  pub stop_arrays : (u : ℕ) (answers : List ℕ) (mark stop : ℕ) (M : List ℕ) (codeLen len : ℕ) → stop_marks x u answers mark stop M codeLen len ≡ stop_marks y u answers mark stop M codeLen len
  pub resume : (u : ℕ) (mark : ℕ) (answers M : List ℕ) (codeLen len : ℕ) → resume_answer x u mark answers M codeLen len ≡ resume_answer y u mark answers M codeLen len
  pub resume_codes : (u : ℕ) (mark : ℕ) (M k : List ℕ) → resume_code x u mark M k ≡ resume_code y u mark M k
  pub resume_routes : (u : ℕ) (mark : ℕ) (answers M : List ℕ) (codeLen : ℕ) (o : List ℕ) → resume_slice x u mark answers M codeLen o ≡ resume_slice y u mark answers M codeLen o
  pub again : (u : ℕ) (from : ℕ) (answers : List ℕ) (to stop : ℕ) (M : List ℕ) (codeLen len : ℕ) → resume_stop_answer x u from answers to stop M codeLen len ≡ resume_stop_answer y u from answers to stop M codeLen len
  pub again_codes : (u : ℕ) (from to : ℕ) (M k : List ℕ) → resume_stop_code x u from to M k ≡ resume_stop_code y u from to M k
  pub again_routes : (u : ℕ) (from : ℕ) (answers : List ℕ) (to stop : ℕ) (M : List ℕ) (codeLen : ℕ) (o : List ℕ) → resume_stop_slice x u from answers to stop M codeLen o ≡ resume_stop_slice y u from answers to stop M codeLen o
  pub again_arrays : (u : ℕ) (from : ℕ) (answers : List ℕ) (to stop : ℕ) (M : List ℕ) (codeLen len : ℕ) → resume_stop_marks x u from answers to stop M codeLen len ≡ resume_stop_marks y u from answers to stop M codeLen len
  pub shared : (u : ℕ) (first second : List ℕ) (codeLen : ℕ) → shared_answer x u first second codeLen ≡ shared_answer y u first second codeLen
