-- What is known where 16 is not given; what is made by whether there is room; and a route taken up that is not stopped again.
use Rattle.std.specs.Prelude.{ℕ, ◌≤◌, ◌<◌, ◌≡◌, refl, List, Bool, true, false, cond, ◌&&◌, ltb, leb, length, Ok, Err}
use Rattle.std.proofs.Common.{ap, ltb-true, le-leb}
use Rattle.std.proofs.lemmas.Bool.{lt-leb}
use Rattle.base_common.proofs.UptoLaws.{and_left_lem}
use Rattle.refusal_verdict.specs.declared.Refusal.TheVariants as refusal
use Rattle.refusal_verdict.specs.declared.Refusal.{Refusal}
use Rattle.refusal_verdict.specs.declared.Refused.{Refused}
use Rattle.refusal_verdict.specs.declared.Refused.TheVariants.{At}
use Rattle.refusal_verdict.specs.Verdict.{Verdict, Passed, unless}
use Rattle.refusal_verdict.proofs.VerdictLaws.{no_pass}
use Rattle.refusal_state.specs.Targets.{refused_or}
use Rattle.check_dispatch.specs.Rule.{Rule}
use Rattle.code_flat.specs.Machine.{Res}
use Rattle.code_length.specs.Length.{code_length}
use Rattle.code_marks.specs.Stop.{Stop, over}
use Rattle.code_machine.specs.Halted.{route_to}
use Rattle.code_assemble.specs.Assembled.{assembled_slice}
use Rattle.code_assemble.specs.Ready as Units
use Rattle.route_list.specs.Over.{over as onto}
use Rattle.route_viewer.specs.Shown.{shown_answer, shown_slice}
use Rattle.code_assemble.specs.Assembled.{short as code_short}
use Rattle.route_marks.specs.Marks.{marks, first_of, is_set}
use Rattle.route_marks.specs.Taken.{CanBegin, Tested, marks_shown}
use Rattle.route_marks.proofs.TakenLaws.{none_set}
use Rattle.route_marks.specs.declared.Begin.{Begin}
use Rattle.route_marks.specs.declared.Begin.TheVariants.{Start, Mark}
use Rattle.route_marks.specs.declared.Section.{Section}
use Rattle.call_routes.specs.Calls.{code_refusal, if_room}
use Rattle.call_routes.proofs.CallsLaws.{both, ready, exact, by_room}
use Rattle.call_marks.specs.Marked.{to_refusal, from_refusal, sixteen_of, code_of, mark_answer, mark_code, mark_slice, marks_left}
use Rattle.call_marks.specs.Made.{shown_or, list_or, marks_or, made_answer, made_slice, made_marks, section_answer, section_code, section_slice, section_marks}

tested : (b : Bool) (k : Refusal) (p : ℕ) → cond b Passed (Err (At k p)) ≡ Passed → b ≡ true
tested true k p e = refl
tested false k p e = no_pass (At k p) e

-- A mark that is taken up is set, and there is one of the number under which the route is to be stopped.
pub sixteen_passed : (M : List ℕ) (begin : Begin) (to : ℕ) → sixteen_of M begin to ≡ Passed → CanBegin M begin × (to < marks)
sixteen_passed M Start to e = (tt, ltb-true to marks (tested (ltb to marks) refusal.Mark to e))
sixteen_passed M (Mark m) to e =
    let p = both (from_refusal M m) (to_refusal to) e in
    (tested (is_set M m) refusal.Mark m p.0, ltb-true to marks (tested (ltb to marks) refusal.Mark to p.1))

-- A mark that is set has one of the eight numbers.
pub sixteen_same : (M : List ℕ) (m : ℕ) → sixteen_of M (Mark m) m ≡ from_refusal M m
sixteen_same M m = go (is_set M m) refl
  where
    go : (b : Bool) → is_set M m ≡ b → refused_or (cond b Passed (Err (At refusal.Mark m))) (to_refusal m) ≡ cond b Passed (Err (At refusal.Mark m))
    go true e = ap (λ x. cond x Passed (Err (At refusal.Mark m))) (and_left_lem (ltb m marks) (leb 1 (first_of M m) && leb (first_of M m) 513) e)
    go false e = refl

module _ (C M : List ℕ) (s : Section) (codeLen : ℕ) where
  pub made_room : length C ≤ codeLen → (len : ℕ) → made_answer C M s codeLen len ≡ shown_or C M s len
  unfolding made_answer
  made_room h len = rw (le-leb (length C) codeLen h)

  pub list_room_lem : length C ≤ codeLen → (o : List ℕ) → made_slice C M s codeLen o ≡ list_or C M s o
  unfolding made_slice
  list_room_lem h o = rw (le-leb (length C) codeLen h)

  pub marks_room : length C ≤ codeLen → (len : ℕ) → made_marks C M s codeLen len ≡ marks_or C M s len
  unfolding made_marks
  marks_room h len = rw (le-leb (length C) codeLen h)

  pub made_short : codeLen < length C → (len : ℕ) → made_answer C M s codeLen len ≡ code_short (length C)
  unfolding made_answer
  made_short h len = rw (lt-leb (length C) codeLen h)

  pub list_short : codeLen < length C → (o : List ℕ) → made_slice C M s codeLen o ≡ o
  unfolding made_slice
  list_short h o = rw (lt-leb (length C) codeLen h)

  pub marks_short : codeLen < length C → (len : ℕ) → made_marks C M s codeLen len ≡ M
  unfolding made_marks
  marks_short h len = rw (lt-leb (length C) codeLen h)

-- A route that is not stopped again sets no mark.
pub never_set : (r : Rule) (u : ℕ) (sixteen seventeen : Verdict) (x : Res) (codeLen len : ℕ) (M : List ℕ) (to : ℕ) → marks_left r u sixteen seventeen (over x) codeLen len M to ≡ M
unfolding marks_left
never_set r u sixteen seventeen x codeLen len M to = go (refused_or (code_refusal r u) sixteen) (leb (code_length r.nodes u) codeLen) seventeen
  where
    go : (v : Verdict) (b : Bool) (w : Verdict) → unless v (λ e. M) (cond b (unless w (λ e. M) (marks_shown M to (over x) len)) M) ≡ M
    go (Err e) b w = refl
    go (Ok v) false w = refl
    go (Ok v) true (Err e) = refl
    go (Ok v) true (Ok w) = none_set M to len x

-- A refusal before 11.
module _ (r : Rule) (u : ℕ) (sixteen : Verdict) (f : Refused) (e : Err f ≡ refused_or (code_refusal r u) sixteen) where
  pub refused_answer : (seventeen : Verdict) (s : Stop) (codeLen len : ℕ) → Err f ≡ mark_answer r u sixteen seventeen s codeLen len
  unfolding mark_answer
  refused_answer seventeen s codeLen len =
      ap (λ (v : Verdict). unless v Err (if_room r u codeLen (unless seventeen Err (shown_answer (route_to s) len)) (code_short (code_length r.nodes u)))) e

  pub refused_code : (k : List ℕ) → k ≡ mark_code r u sixteen k
  unfolding mark_code
  refused_code k = ap (λ (v : Verdict). unless v (λ e. k) (if_room r u (length k) (onto (code_of r u) k) k)) e

  pub refused_slice : (seventeen : Verdict) (s : Stop) (codeLen : ℕ) (o : List ℕ) → o ≡ mark_slice r u sixteen seventeen s codeLen o
  unfolding mark_slice
  refused_slice seventeen s codeLen o =
      ap (λ (v : Verdict). unless v (λ e. o) (if_room r u codeLen (unless seventeen (λ e. o) (shown_slice (route_to s) o)) o)) e

  pub refused_marks : (seventeen : Verdict) (s : Stop) (codeLen len : ℕ) (M : List ℕ) (to : ℕ) → M ≡ marks_left r u sixteen seventeen s codeLen len M to
  unfolding marks_left
  refused_marks seventeen s codeLen len M to =
      ap (λ (v : Verdict). unless v (λ e. M) (if_room r u codeLen (unless seventeen (λ e. M) (marks_shown M to s len)) M)) e

-- No refusal before 11.
module _ (r : Rule) (u : ℕ) (M : List ℕ) (s : Section) (e : refused_or (code_refusal r u) (sixteen_of M s.begin s.to) ≡ Passed) where
  passed : code_refusal r u ≡ Passed
  passed = (both (code_refusal r u) (sixteen_of M s.begin s.to) e).0

  pub unit_ready : Units.Ready r.nodes r.names u
  unit_ready = ready r.source_type r.async_bodies r.nodes r.scopes r.source r.names u passed

  pub section_tested : Tested M s
  section_tested =
      let t = sixteen_passed M s.begin s.to (both (code_refusal r u) (sixteen_of M s.begin s.to) e).1 in
      record { begin = t.0; to = t.1 }

  long : length (code_of r u) ≡ code_length r.nodes u
  long = exact r.source_type r.async_bodies r.nodes r.scopes r.source r.names u passed

  pub passed_answer : (codeLen len : ℕ) → made_answer (code_of r u) M s codeLen len ≡ section_answer r u M s codeLen len
  unfolding made_answer mark_answer
  passed_answer codeLen len =
      by_room (refused_or (code_refusal r u) (sixteen_of M s.begin s.to)) e (length (code_of r u)) (code_length r.nodes u) codeLen long Err
      (shown_or (code_of r u) M s len) code_short

  pub passed_code : (k : List ℕ) → assembled_slice (code_of r u) k ≡ section_code r u M s k
  unfolding assembled_slice mark_code
  passed_code k =
      by_room (refused_or (code_refusal r u) (sixteen_of M s.begin s.to)) e (length (code_of r u)) (code_length r.nodes u) (length k) long (λ e. k)
      (onto (code_of r u) k) (λ n. k)

  pub passed_slice : (codeLen : ℕ) (o : List ℕ) → made_slice (code_of r u) M s codeLen o ≡ section_slice r u M s codeLen o
  unfolding made_slice mark_slice
  passed_slice codeLen o =
      by_room (refused_or (code_refusal r u) (sixteen_of M s.begin s.to)) e (length (code_of r u)) (code_length r.nodes u) codeLen long (λ e. o)
      (list_or (code_of r u) M s o) (λ n. o)

  pub passed_marks : (codeLen len : ℕ) → made_marks (code_of r u) M s codeLen len ≡ section_marks r u M s codeLen len
  unfolding made_marks marks_left
  passed_marks codeLen len =
      by_room (refused_or (code_refusal r u) (sixteen_of M s.begin s.to)) e (length (code_of r u)) (code_length r.nodes u) codeLen long (λ e. M)
      (marks_or (code_of r u) M s len) (λ n. M)
