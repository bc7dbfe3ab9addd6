-- ONE ANSWER CHANGED, over tables: "Let two answer lists of one length differ only at position k, from 0. The two routes are equal up to and including the
-- entry that takes answer k. If the first route takes k answers or fewer, they are equal to the end. Each route has at most (answers taken + 1) ×
-- (nodes of the unit) entries." Of the routes by both engines: by the completion rules, and by the run of the unit's code.
use Rattle.std.specs.Prelude.{ℕ, ◌≡◌, List, length}
use Rattle.std.proofs.Common.{sym, subst}
use Rattle.std.proofs.lemmas.List.{length-map}
use Rattle.code_flat.specs.Code.{unit}
use Rattle.code_flat.specs.Machine.{code_route}
use Rattle.table_records.specs.Table.{kind_of}
use Rattle.refusal_verdict.specs.Verdict.{Passed}
use Rattle.refusal_input.specs.Input.{input_refusal}
use Rattle.refusal_input.proofs.InputLaws.{input_well_formed}
use Rattle.refusal_state.specs.Targets.{state_answer}
use Rattle.refusal_state.proofs.TargetsLaws.{state_passed}
use Rattle.check_dispatch.specs.Rule.{rule}
use Rattle.route_completion.specs.Sem.{execs}
use Rattle.route_completion.specs.Route.{node_of, route}
use Rattle.route_completion.proofs.Parts.{parts_once}
use Rattle.route_completion.proofs.EntriesLaws.{execs_each}
use Rattle.route_laws.specs.Changed.{OneChanged}
use Rattle.route_laws.specs.Inside.{In}
use Rattle.route_laws.proofs.FitsLaws.{entries_fit}
use Rattle.route_laws.specs.Shared.{shared, Longest}
use Rattle.route_laws.proofs.SharedLaws.{longest}
use Rattle.route_laws.specs.Claims.{Compared, ComparedRuns, Short}
use Rattle.route_laws.proofs.ClaimsLaws.{changed_route, changed_code}
use Rattle.code_tree.specs.Statements.{unit_of}
use Rattle.code_length.specs.UnitNodes.{unit_nodes}
use Rattle.code_length.proofs.UnitNodesLaws.{unit_nodes_lem}
use Rattle.code_once.proofs.Once.{unit_once}
use Rattle.code_wellformed.proofs.Parts.{good}
use Rattle.code_wellformed.proofs.Holder.{holder_in_lem}
use Rattle.call_routes.proofs.CallsLaws.{unit_kind_lem}
use Rattle.call_routes.proofs.TheoremLaws.{routes}

-- What holds of the unit u.
pub record OneAnswerChanged (ns names : List ℕ) (u : ℕ) : Type 0 where
  -- Of two lists of one length that differ only at k: equal up to and including the entry that takes answer k, so that what `shared` gives is at least that;
  -- and equal to the end if the first takes k answers or fewer; by the completion rules,
  pub compared : (k : ℕ) (first second : List ℕ) → OneChanged k first second → Compared (unit_of ns names u) k first second
  -- .. and by the code.
  pub compared_code : (k : ℕ) (first second : List ℕ) → OneChanged k first second → ComparedRuns (unit (unit_of ns names u)) k first second
  -- Of every list: the nodes of the unit are counted over the table, without the unit's own.
  pub short : (answers : List ℕ) → Short (length (unit_nodes ns u)) (route (unit_of ns names u) answers)
  pub short_code : (answers : List ℕ) → Short (length (unit_nodes ns u)) (code_route (unit (unit_of ns names u)) answers)
  -- Of any two lists: what `shared` counts is "the length of the longest beginning that their routes share", and both engines give the same.
  pub longest_shared : (first second : List ℕ)
      → Longest (route (unit_of ns names u) first).list (route (unit_of ns names u) second).list
      (shared (route (unit_of ns names u) first).list (route (unit_of ns names u) second).list)
  pub shared_code : (first second : List ℕ)
      → shared (code_route (unit (unit_of ns names u)) first).list (code_route (unit (unit_of ns names u)) second).list
      ≡ shared (route (unit_of ns names u) first).list (route (unit_of ns names u) second).list

module _ (source_type async_bodies : ℕ) (ns ss source names : List ℕ) (u : ℕ)
    -- the tables are well-formed (1 to 6, 13 to 15), u is a unit (7), and the tree has no findings (9)
    (formed : input_refusal source_type ns ss source names ≡ Passed) (passed : state_answer (rule source_type async_bodies ns ss source names) u ≡ Passed)
  where
    by_same : (answers : List ℕ) → code_route (unit (unit_of ns names u)) answers ≡ route (unit_of ns names u) answers
    by_same answers = (routes source_type async_bodies ns ss source names u formed passed answers).same

    bounded : (answers : List ℕ) → Short (length (unit_nodes ns u)) (route (unit_of ns names u) answers)
    bounded answers =
        let w = input_well_formed source_type ns ss source names formed in
        let s = state_passed source_type async_bodies ns ss source names u passed in
        let t = unit_of ns names u in
        let o = unit_once ns names (good ns w.input.tree w.listed w.shaped.placed w.shaped.counted) u (holder_in_lem ns u s.below (unit_kind_lem (kind_of ns u) s.unit)) in
        let l = unit_nodes_lem ns w.input.tree w.listed w.shaped.placed w.shaped.counted u s.below s.unit names in
        rw (length-map (execs t answers).nodes node_of)
        (entries_fit (unit_nodes ns u) (execs t answers).nodes (parts_once t o answers) (execs_each (In (unit_nodes ns u)) t l answers))

    -- THE THEOREM
    pub one_answer_changed_lem : OneAnswerChanged ns names u
    one_answer_changed_lem =
        record {
          compared = λ k first second h. changed_route (unit_of ns names u) k first second h;
          compared_code = λ k first second h. changed_code (unit (unit_of ns names u)) k first second h;
          short = bounded;
          short_code = λ answers. subst (Short (length (unit_nodes ns u))) (sym (by_same answers)) (bounded answers);
          longest_shared = λ first second. longest (route (unit_of ns names u) first).list (route (unit_of ns names u) second).list;
          shared_code = λ first second i. shared (by_same first i).list (by_same second i).list;
        }
