-- The theorems of `code_shorten` (specs/Claims.antt), of the calls.
use Rattle.std.specs.Prelude.{ℕ, ◌≡◌, List, ◌++◌, length, take, drop, Result, Ok, Err}
use Rattle.std.proofs.Math.Path.{refl}
use Rattle.std.proofs.Common.{sym, ◌∙◌, ap, subst, arith, take_at, drop_at, drop_of_length-le}
use Rattle.std.proofs.lemmas.List.{append-nil}
use Rattle.code_flat.specs.Code.{unit}
use Rattle.code_flat.specs.Machine.{Res, started, code_route}
use Rattle.route_completion.specs.Route.{Route, route_of}
use Rattle.code_valid.specs.Valid.{check, Valid}
use Rattle.code_shorten.specs.Short.{shorter}
use Rattle.code_shorten.specs.Claims.{Pass, pass, Shortened, claims}
use Rattle.code_tree.specs.Statements.{unit_of}
use Rattle.code_tree.proofs.RoomLaws.{unit_room_lem}
use Rattle.check_dispatch.specs.Rule.{Rule}
use Rattle.route_viewer.specs.Shown.{shown_answer, shown_slice}
use Rattle.refusal_verdict.specs.Verdict.{Passed}
use Rattle.call_routes.specs.Calls.{code_refusal, code_answer, code_slice}
use Rattle.call_routes.proofs.CallsLaws.{ready}
use Rattle.call_shared.proofs.SharedLaws.{told, begins}
use Rattle.call_walk.specs.Walked.{walk_answer, walk_slice}
use Rattle.call_walk.specs.Theorem.{BothEngines, both_engines}
use Rattle.call_run.specs.Run.{shown_by, answer_by, slice_by, run_answer, run_slice}
use Rattle.call_shorten.specs.Shorten.{by, shorten_answer, shorten_slice}
use Rattle.call_shorten_laws.specs.Shortened.{ShorterSlice, ShorterRoute}

-- What `shorten` and `run` say of a slice that 18 doesn't turn down.
module _ (C : List ℕ) (v : Valid C) where
  valid_answer : shorten_answer C ≡ Ok (length (shorter C))
  unfolding shorten_answer
  valid_answer = ap (λ x. by x (Ok (length (shorter C))) Err) v

  valid_slice : shorten_slice C ≡ shorter C ++ drop (length (shorter C)) C
  unfolding shorten_slice
  valid_slice = ap (λ x. by x (shorter C ++ drop (length (shorter C)) C) (λ p. C)) v

  valid_run : (answers : List ℕ) (len : ℕ) → run_answer C answers len ≡ shown_by (shown_answer (code_route C answers) len)
  unfolding run_answer
  valid_run answers len = ap (λ x. answer_by x (shown_answer (code_route C answers) len)) v

  valid_left : (answers s : List ℕ) → run_slice C answers s ≡ shown_slice (code_route C answers) s
  unfolding run_slice
  valid_left answers s = ap (λ x. slice_by x (shown_slice (code_route C answers) s) s) v

-- Where there is an answer, 18 doesn't turn the slice down.
answered : (C : List ℕ) (n : ℕ) → shorten_answer C ≡ Ok n → (Valid C) × (n ≡ length (shorter C))
unfolding shorten_answer
answered C n h = go (check C) refl h
  where
    go : (v : Result (Unit {0}) ℕ) → check C ≡ v → by v (Ok (length (shorter C))) Err ≡ Ok n → (Valid C) × (n ≡ length (shorter C))
    go (Ok tt) q h = (q, cc)
    go (Err p) q h = let x : ◌≡◌ {A = ℕ} 0 1 = cc in absurd (omega arith)

-- Runs that are one give one route.
routed_as : (C D answers : List ℕ) → started C answers ≡ started D answers → code_route C answers ≡ code_route D answers
routed_as C D answers h = ap (λ (x : Res). route_of x.nodes x.end) h

module _ (C D answers : List ℕ) (c : Valid C) (d : Valid D) (h : code_route C answers ≡ code_route D answers) where
  same_answer : (len : ℕ) → run_answer C answers len ≡ run_answer D answers len
  same_answer len = valid_run C c answers len ∙ ap (λ (x : Route). shown_by (shown_answer x len)) h ∙ sym (valid_run D d answers len)

  same_slice : (s : List ℕ) → run_slice C answers s ≡ run_slice D answers s
  same_slice s = valid_left C c answers s ∙ ap (λ (x : Route). shown_slice x s) h ∙ sym (valid_left D d answers s)

-- THE THEOREM, of any slice
pub shorter_slice : (C : List ℕ) (n : ℕ) → shorten_answer C ≡ Ok n → ShorterSlice C n
shorter_slice C n h =
    let (v, q) = answered C n h in
    let p : Pass C = pass C v in
    let s : shorten_slice C ≡ shorter C ++ drop n C = valid_slice C v ∙ ap (λ m. shorter C ++ drop m C) (sym q) in
    let m : length (shorter (shorter C)) ≡ n = ap length p.twice ∙ sym q in
    record {
      front = ap (take n) s ∙ take_at (shorter C) (drop n C) n (sym q);
      behind = ap (drop n) s ∙ drop_at (shorter C) (drop n C) n (sym q);
      longer = omega (arith, q, p.longer);
      again = valid_answer (shorter C) p.valid ∙ ap Ok m;
      twice = valid_slice (shorter C) p.valid ∙ whole (shorter C) p.twice;
      rings = p.rings;
      same = λ answers w. same_answer (shorter C) C answers p.valid v (routed_as (shorter C) C answers (p.same answers w));
      left = λ answers w. same_slice (shorter C) C answers p.valid v (routed_as (shorter C) C answers (p.same answers w));
    }
  where
    whole : (D : List ℕ) → shorter D ≡ D → shorter D ++ drop (length (shorter D)) D ≡ D
    whole D e = ap (λ x. x ++ drop (length x) D) e ∙ ap (λ r. D ++ r) (drop_of_length-le D (omega arith)) ∙ append-nil D

-- THE THEOREM, of the code that the code call wrote
pub shorter_route : (r : Rule) (u : ℕ) (s : List ℕ) (n : ℕ) → code_answer r u (length s) ≡ Ok n → (answers : List ℕ) → ShorterRoute r u (take n (code_slice r u s)) answers
shorter_route r u s n h answers = subst (λ c. ShorterRoute r u c answers) (sym (begins r u n s (sym h))) made
  where
    C : List ℕ
    C = unit (unit_of r.nodes r.names u)

    passed : code_refusal r u ≡ Passed
    passed = (told r u n s (sym h)).0

    c : Shortened (unit_of r.nodes r.names u) answers
    c = claims (unit_of r.nodes r.names u) (unit_room_lem r.nodes r.names (ready r.source_type r.async_bodies r.nodes r.scopes r.source r.names u passed).tree u) answers

    p : Pass C
    p = pass C c.valid

    b : BothEngines r u answers
    b = both_engines r u answers

    shown : code_route (shorter C) answers ≡ code_route C answers
    shown = routed_as (shorter C) C answers c.same

    by_walk : (len : ℕ) → run_answer (shorter C) answers len ≡ shown_by (walk_answer r u answers len)
    by_walk len =
        valid_run (shorter C) p.valid answers len ∙ ap (λ (x : Route). shown_by (shown_answer x len)) shown ∙ sym (ap shown_by (b.shown passed len))

    left_by_walk : (t : List ℕ) → run_slice (shorter C) answers t ≡ walk_slice r u answers t
    left_by_walk t = valid_left (shorter C) p.valid answers t ∙ ap (λ (x : Route). shown_slice x t) shown ∙ sym (b.left passed t)

    made : ShorterRoute r u C answers
    made =
        record {
          taken = valid_answer C c.valid;
          run = c.same;
          rules = c.rules;
          same = same_answer (shorter C) C answers p.valid c.valid shown;
          left = same_slice (shorter C) C answers p.valid c.valid shown;
          routed = λ codeLen l len. by_walk len ∙ sym (ap shown_by (b.answer codeLen l len));
          routes = λ codeLen l t. left_by_walk t ∙ sym (b.slice codeLen l t);
          walked = by_walk;
          walks = left_by_walk;
        }
