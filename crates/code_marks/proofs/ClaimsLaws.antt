-- The law of marks: "For a mark taken up on the tables and unit of all its stops, the list so far followed by what comes after, if not
-- stopped again, equals the route, its end too, for the answers taken so far joined with the further ones."
use Rattle.std.specs.Prelude.{ℕ, ◌+◌, ◌≤◌, ◌≡◌, List, [], ◌++◌, map, ◌↔◌, length}
use Rattle.std.proofs.Common.{sym, ◌∙◌, ap, subst, arith}
use Rattle.std.proofs.lemmas.List.{map-append}
use Rattle.route_completion.specs.Tree.{Stmts}
use Rattle.route_completion.specs.Sem.{Entry, execs}
use Rattle.route_completion.specs.Route.{asks, node_of}
use Rattle.route_completion.proofs.TakenLaws.{asks_append}
use Rattle.code_flat.specs.Code.{unit, RoomAll}
use Rattle.code_flat.specs.Machine.{Res, pre, Pos, pos, result}
use Rattle.code_flat.proofs.ClaimsLaws.{unit_runs}
use Rattle.code_marks.specs.Stop.{Stop, held, over, stopped, taken_up, Call, calls, so_far}
use Rattle.code_marks.proofs.StopLaws.{finished, given, listed_in, Held, Took, stopped_law, split_law, took, other_answers, calls_law, calls_took}
use Rattle.code_marks.proofs.Direct.{calls_direct}
use Rattle.code_marks.proofs.RoomLaws.{StopRoom, stops_room}
use Rattle.code_marks.specs.Begins.{Begins}
use Rattle.code_marks.proofs.Sound.{unit_leads, unit_begins}
use Rattle.code_marks.proofs.Kept.{StopAt, stops_at}
use Rattle.code_marks.specs.Claims.{Stopped, Ended, Marked, MarkedRoute, MarkKept}

pub stop_is : (lim : ℕ) (C : List ℕ) (n : ℕ) (p : Pos) (qs : List ℕ) (es : List Entry) (m : Pos) (left : List ℕ)
    → stopped lim C n p qs ≡ held es m left → Stopped lim C n p qs es m left
stop_is lim C n p qs es m left e =
    record {
      split = λ more. split_law lim C n p qs more (subst Held (sym e) tt) ∙ ap (λ s. finished lim C (given more s)) e;
      again = λ more. other_answers lim C n (length C) p.pc p.stack qs more (subst Held (sym e) tt) ∙ ap (given more) e;
      taken = t.0;
      others = t.1;
    }
  where
    t : Took n qs (held es m left)
    t = subst (Took n qs) e (took lim C n (length C) p.pc p.stack qs)

pub end_is : (lim : ℕ) (C : List ℕ) (n : ℕ) (p : Pos) (qs : List ℕ) (r : Res) → stopped lim C n p qs ≡ over r → Ended lim C n p qs r
end_is lim C n p qs r e =
    record {
      whole = stopped_law lim C n p qs ∙ ap (finished lim C) e;
      fewer = (subst (Took n qs) e (took lim C n (length C) p.pc p.stack qs)).0;
    }

-- "A route that ends before the named number sets no mark": a stop is reached exactly where the run takes as many answers.
pub reached : (lim : ℕ) (C : List ℕ) (n : ℕ) (p : Pos) (qs : List ℕ) → Held (stopped lim C n p qs) ↔ (n ≤ asks (taken_up lim C p qs).nodes)
reached lim C n p qs = (
  go (stopped lim C n p qs) (took lim C n (length C) p.pc p.stack qs) (stopped_law lim C n p qs),
  back (stopped lim C n p qs) (took lim C n (length C) p.pc p.stack qs) (stopped_law lim C n p qs),
)
  where
    go : (s : Stop) → Took n qs s → taken_up lim C p qs ≡ finished lim C s → Held s → n ≤ asks (taken_up lim C p qs).nodes
    go (held es m r) t e h = omega (arith, t.0, asks_append es (taken_up lim C m r).nodes, ap (λ x. asks x.nodes) e)
    go (over r) t e h = absurd h

    back : (s : Stop) → Took n qs s → taken_up lim C p qs ≡ finished lim C s → n ≤ asks (taken_up lim C p qs).nodes → Held s
    back (held es m r) t e h = tt
    back (over r) t e h = absurd (omega (arith, t.0, ap (λ x. asks x.nodes) e))

-- THE THEOREM
pub marked : (lim : ℕ) (C : List ℕ) (p : Pos) (cs : List Call) (es : List Entry) (m : Pos) (left : List ℕ) → calls lim C p cs ≡ held es m left → Marked lim C p cs es m
marked lim C p cs es m left e =
    record {
      split = λ more. calls_law lim C cs p more (subst Held (sym e) tt) ∙ ap (λ s. finished lim C (given more s)) e;
      taken = ap (λ s. asks (listed_in s)) (sym e) ∙ calls_took lim C cs p (subst Held (sym e) tt);
      direct = calls_direct lim C cs p (subst Held (sym e) tt) ∙ ap (given []) e;
    }

pub marked_route : (lim : ℕ) (ss : Stmts) → RoomAll ss lim → (cs : List Call) (es : List Entry) (m : Pos) (left : List ℕ)
    → calls lim (unit ss) (pos 0 []) cs ≡ held es m left → (more : List ℕ) → MarkedRoute lim ss cs es m more
marked_route lim ss w cs es m left e more =
    record {
      list = ap (λ r. map node_of r.nodes) is ∙ map-append node_of es (taken_up lim (unit ss) m more).nodes;
      end = ap (λ r. r.end) is;
      taken = omega (arith, ap (λ r. asks r.nodes) is, asks_append es (taken_up lim (unit ss) m more).nodes, k.taken);
    }
  where
    k : Marked lim (unit ss) (pos 0 []) cs es m
    k = marked lim (unit ss) (pos 0 []) cs es m left e

    is : result (execs ss (so_far cs ++ more)) ≡ pre es (taken_up lim (unit ss) m more)
    is = sym (unit_runs lim ss w (so_far cs ++ more)) ∙ k.split more

pub mark_kept : (lim : ℕ) (ss : Stmts) (cs : List Call) (es : List Entry) (m : Pos) (left : List ℕ) → calls lim (unit ss) (pos 0 []) cs ≡ held es m left → MarkKept lim ss m
mark_kept lim ss cs es m left e =
    let d = (marked lim (unit ss) (pos 0 []) cs es m left e).direct in
    record {
      place = (subst (StopAt (Begins (unit ss))) d (stops_at (Begins (unit ss)) lim (unit ss) (unit_leads ss) (length (so_far cs)) (length (unit ss)) 0 [] (so_far cs) (unit_begins ss) tt)).0;
      room = subst (StopRoom lim) d (stops_room lim (unit ss) (length (so_far cs)) (length (unit ss)) 0 [] (so_far cs) (omega arith));
    }
