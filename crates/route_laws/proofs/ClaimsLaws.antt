-- One answer changed, the laws: "Let two answer lists of one length differ only at position k, from 0. The two routes are equal up to and including the
-- entry that takes answer k. If the first route takes k answers or fewer, they are equal to the end. Each route has at most (answers taken + 1)
-- × (nodes of the unit) entries."
use Rattle.std.specs.Prelude.{ℕ, List, [], length}
use Rattle.std.proofs.Common.{sym, ◌∙◌, ap, subst, subst₂, arith}
use Rattle.std.proofs.lemmas.List.{length-map}
use Rattle.route_completion.specs.Tree.{Stmts}
use Rattle.route_completion.specs.Sem.{execs}
use Rattle.route_completion.specs.Route.{node_of, route_of, end_of, route, Once, nodes_of_all}
use Rattle.route_completion.proofs.Parts.{parts_once}
use Rattle.code_flat.specs.Code.{unit, sizes, RoomAll}
use Rattle.code_flat.specs.Machine.{Frame, room, run, started, code_route, result}
use Rattle.code_flat.proofs.ClaimsLaws.{claims, every_unit}
use Rattle.route_laws.specs.Changed.{OneChanged, Agree}
use Rattle.route_laws.proofs.ChangedLaws.{alike, agree, same_take, same_share}
use Rattle.route_laws.proofs.InsideLaws.{execs_in}
use Rattle.route_laws.proofs.FitsLaws.{entries_fit}
use Rattle.route_laws.specs.Claims.{Compared, ComparedRuns, Short}

-- Of the run from any place, with room for any number of pending ends.
pub changed_run : (lim : ℕ) (C : List ℕ) (b pc : ℕ) (K : List Frame) (k : ℕ) (qs ps : List ℕ) → OneChanged k qs ps → Agree k (run lim C b pc K qs) (run lim C b pc K ps)
changed_run lim C b pc K k qs ps h = agree lim C k qs ps (alike k qs ps h.long h.others) b pc K

pub changed_code : (C : List ℕ) (k : ℕ) (qs ps : List ℕ) → OneChanged k qs ps → ComparedRuns C k qs ps
changed_code C k qs ps h =
    let a = changed_run room C (length C) 0 [] k qs ps h in
    record {
      entries = a.first;
      lists = same_take k (started C qs).nodes (started C ps).nodes a.first;
      shares = same_share k (started C qs).nodes (started C ps).nodes a.first;
      same = λ p. let w = a.whole p in ap (λ l. route_of l (started C qs).end) w.0 ∙ ap (route_of (started C ps).nodes) w.1;
    }

pub changed_route : (ss : Stmts) (k : ℕ) (qs ps : List ℕ) → OneChanged k qs ps → Compared ss k qs ps
changed_route ss k qs ps h =
    record {
      entries = a.first;
      lists = same_take k (execs ss qs).nodes (execs ss ps).nodes a.first;
      shares = same_share k (execs ss qs).nodes (execs ss ps).nodes a.first;
      same = λ p. let w = a.whole p in ap (λ l. route_of l (end_of (execs ss qs).comp)) w.0 ∙ ap (route_of (execs ss ps).nodes) w.1;
    }
  where
    a : Agree k (result (execs ss qs)) (result (execs ss ps))
    a =
        subst₂ (Agree k) (every_unit ss (sizes ss) (omega arith) qs) (every_unit ss (sizes ss) (omega arith) ps)
        (changed_run (sizes ss) (unit ss) (length (unit ss)) 0 [] k qs ps h)

-- The length of a route, by the completion rules, with try and without. Only nodes that can be listed are counted.
pub short_route : (ss : Stmts) (qs : List ℕ) → Once (nodes_of_all ss) → Short (length (nodes_of_all ss)) (route ss qs)
short_route ss qs d =
    rw (length-map (execs ss qs).nodes node_of) (entries_fit (nodes_of_all ss) (execs ss qs).nodes (parts_once ss d qs) (execs_in ss qs))

-- .. and of the run of its code.
pub short_run : (ss : Stmts) → RoomAll ss room → (qs : List ℕ) → Once (nodes_of_all ss) → Short (length (nodes_of_all ss)) (code_route (unit ss) qs)
short_run ss w qs d = subst (Short (length (nodes_of_all ss))) (sym (claims ss w qs).same) (short_route ss qs d)
