-- The calls on two rules of which they read the same: each is one line, by `check_reads` or by `unit_reads`.
use Rattle.std.specs.Prelude.{ℕ, ◌≡◌, List}
use Rattle.check_dispatch.specs.Rule.{Rule}
use Rattle.check_dispatch.specs.Reported.{reported}
use Rattle.code_tree.specs.Statements.{unit_of}
use Rattle.code_length.specs.Length.{code_length}
use Rattle.call_check.specs.Check.{check_answer, check_slice}
use Rattle.call_routes.specs.Calls.{code_refusal, code_answer, code_slice, route_answer, route_slice}
use Rattle.call_walk.specs.Walked.{walk_answer, walk_slice}
use Rattle.call_marks.specs.Marked.{mark_answer, mark_code, mark_slice, marks_left}
use Rattle.call_marks.specs.Calls.{stop_answer, stop_code, stop_slice, stop_marks, resume_answer, resume_code, resume_slice, resume_stop_answer, resume_stop_code, resume_stop_slice, resume_stop_marks}
use Rattle.call_shared.specs.Shared.{shared_answer}
use Rattle.call_renamed.specs.Same.{refused_input, Read, Same}

module _ (x y : Rule) (r : Read x y) where
  pub input : refused_input x ≡ refused_input y
  input = r.input

  pub findings : reported x ≡ reported y
  findings = r.findings

  pub refusal : (u : ℕ) → code_refusal x u ≡ code_refusal y u
  refusal = r.refusal

  pub long : (u : ℕ) → code_length x.nodes u ≡ code_length y.nodes u
  long = r.long

  pub unit : (u : ℕ) → unit_of x.nodes x.names u ≡ unit_of y.nodes y.names u
  unit = r.unit

-- with an entry for `Read`, which fills their argument: simp (unit_reads, r)
pub ruleset check_reads = (input, findings)

pub ruleset unit_reads = (refusal, long, unit)

module _ (x y : Rule) (r : Read x y) where
  check_answer_lem : (len : ℕ) → check_answer x len ≡ check_answer y len
  unfolding check_answer
  check_answer_lem len = simp (check_reads, r)

  check_slice_lem : (s : List ℕ) → check_slice x s ≡ check_slice y s
  unfolding check_slice
  check_slice_lem s = simp (check_reads, r)

  code_answer_lem : (u len : ℕ) → code_answer x u len ≡ code_answer y u len
  unfolding code_answer
  code_answer_lem u len = simp (unit_reads, r)

  code_slice_lem : (u : ℕ) (s : List ℕ) → code_slice x u s ≡ code_slice y u s
  unfolding code_slice
  code_slice_lem u s = simp (unit_reads, r)

  route_answer_lem : (u : ℕ) (answers : List ℕ) (codeLen len : ℕ) → route_answer x u answers codeLen len ≡ route_answer y u answers codeLen len
  unfolding route_answer
  route_answer_lem u answers codeLen len = simp (unit_reads, r)

  route_slice_lem : (u : ℕ) (answers : List ℕ) (codeLen : ℕ) (s : List ℕ) → route_slice x u answers codeLen s ≡ route_slice y u answers codeLen s
  unfolding route_slice
  route_slice_lem u answers codeLen s = simp (unit_reads, r)

  walk_answer_lem : (u : ℕ) (answers : List ℕ) (len : ℕ) → walk_answer x u answers len ≡ walk_answer y u answers len
  unfolding walk_answer
  walk_answer_lem u answers len = simp (unit_reads, r)

  walk_slice_lem : (u : ℕ) (answers s : List ℕ) → walk_slice x u answers s ≡ walk_slice y u answers s
  unfolding walk_slice
  walk_slice_lem u answers s = simp (unit_reads, r)

  stop_answer_lem : (u : ℕ) (answers : List ℕ) (mark stop : ℕ) (M : List ℕ) (codeLen len : ℕ) → stop_answer x u answers mark stop M codeLen len ≡ stop_answer y u answers mark stop M codeLen len
  unfolding mark_answer
  stop_answer_lem u answers mark stop M codeLen len = simp (unit_reads, r)

  stop_code_lem : (u : ℕ) (mark : ℕ) (k : List ℕ) → stop_code x u mark k ≡ stop_code y u mark k
  unfolding mark_code
  stop_code_lem u mark k = simp (unit_reads, r)

  stop_slice_lem : (u : ℕ) (answers : List ℕ) (mark stop : ℕ) (M : List ℕ) (codeLen : ℕ) (o : List ℕ) → stop_slice x u answers mark stop M codeLen o ≡ stop_slice y u answers mark stop M codeLen o
  unfolding mark_slice
  stop_slice_lem u answers mark stop M codeLen o = simp (unit_reads, r)

  stop_marks_lem : (u : ℕ) (answers : List ℕ) (mark stop : ℕ) (M : List ℕ) (codeLen len : ℕ) → stop_marks x u answers mark stop M codeLen len ≡ stop_marks y u answers mark stop M codeLen len
  unfolding marks_left
  stop_marks_lem u answers mark stop M codeLen len = simp (unit_reads, r)

  resume_answer_lem : (u : ℕ) (mark : ℕ) (answers M : List ℕ) (codeLen len : ℕ) → resume_answer x u mark answers M codeLen len ≡ resume_answer y u mark answers M codeLen len
  unfolding mark_answer
  resume_answer_lem u mark answers M codeLen len = simp (unit_reads, r)

  resume_code_lem : (u : ℕ) (mark : ℕ) (M k : List ℕ) → resume_code x u mark M k ≡ resume_code y u mark M k
  unfolding mark_code
  resume_code_lem u mark M k = simp (unit_reads, r)

  resume_slice_lem : (u : ℕ) (mark : ℕ) (answers M : List ℕ) (codeLen : ℕ) (o : List ℕ) → resume_slice x u mark answers M codeLen o ≡ resume_slice y u mark answers M codeLen o
  unfolding mark_slice
  resume_slice_lem u mark answers M codeLen o = simp (unit_reads, r)

  again_answer : (u : ℕ) (from : ℕ) (answers : List ℕ) (to stop : ℕ) (M : List ℕ) (codeLen len : ℕ) → resume_stop_answer x u from answers to stop M codeLen len ≡ resume_stop_answer y u from answers to stop M codeLen len
  unfolding mark_answer
  again_answer u from answers to stop M codeLen len = simp (unit_reads, r)

  again_code : (u : ℕ) (from to : ℕ) (M k : List ℕ) → resume_stop_code x u from to M k ≡ resume_stop_code y u from to M k
  unfolding mark_code
  again_code u from to M k = simp (unit_reads, r)

  again_slice : (u : ℕ) (from : ℕ) (answers : List ℕ) (to stop : ℕ) (M : List ℕ) (codeLen : ℕ) (o : List ℕ) → resume_stop_slice x u from answers to stop M codeLen o ≡ resume_stop_slice y u from answers to stop M codeLen o
  unfolding mark_slice
  again_slice u from answers to stop M codeLen o = simp (unit_reads, r)

  again_marks : (u : ℕ) (from : ℕ) (answers : List ℕ) (to stop : ℕ) (M : List ℕ) (codeLen len : ℕ) → resume_stop_marks x u from answers to stop M codeLen len ≡ resume_stop_marks y u from answers to stop M codeLen len
  unfolding marks_left
  again_marks u from answers to stop M codeLen len = simp (unit_reads, r)

  shared_answer_lem : (u : ℕ) (first second : List ℕ) (codeLen : ℕ) → shared_answer x u first second codeLen ≡ shared_answer y u first second codeLen
  unfolding shared_answer
  shared_answer_lem u first second codeLen = simp (unit_reads, r)

  pub same_calls : Same x y
  same_calls =
      record {
        read = r;
        check = check_answer_lem;
        checks = check_slice_lem;
        code = code_answer_lem;
        codes = code_slice_lem;
        route = route_answer_lem;
        routes = route_slice_lem;
        walk = walk_answer_lem;
        walks = walk_slice_lem;
        stop = stop_answer_lem;
        stop_codes = stop_code_lem;
        stop_routes = stop_slice_lem;
        stop_arrays = stop_marks_lem;
        resume = resume_answer_lem;
        resume_codes = resume_code_lem;
        resume_routes = resume_slice_lem;
        again = again_answer;
        again_codes = again_code;
        again_routes = again_slice;
        again_arrays = again_marks;
        shared = shared_answer_lem;
      }
