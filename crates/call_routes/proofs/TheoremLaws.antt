-- THE CLAIM OF ROUTES, over tables: for every tree and unit that is not refused, and every list of answers, the flat code, made before any answer
-- is known, gives the list, the answers taken and the end of the standard's completion rules.
use Rattle.std.specs.Prelude.{ℕ, ◌≡◌, List}
use Rattle.std.proofs.Common.{sym, subst}
use Rattle.table_records.specs.Table.{kind_of}
use Rattle.refusal_verdict.specs.Verdict.{Passed}
use Rattle.refusal_input.specs.Input.{input_refusal}
use Rattle.refusal_input.proofs.InputLaws.{input_well_formed}
use Rattle.route_completion.specs.Entries.{Each}
use Rattle.route_completion.proofs.EntriesLaws.{execs_each}
use Rattle.code_flat.specs.Code.{unit}
use Rattle.code_flat.proofs.ClaimsLaws.{claims}
use Rattle.code_tree.specs.Statements.{unit_of}
use Rattle.code_tree.proofs.RoomLaws.{unit_room_lem}
use Rattle.code_length.proofs.LengthLaws.{code_length_lem}
use Rattle.code_once.proofs.Once.{unit_once}
use Rattle.code_wellformed.proofs.Parts.{good}
use Rattle.code_wellformed.proofs.Holder.{holder_in_lem}
use Rattle.code_jump_scope.specs.UnitScoped.{Targeted}
use Rattle.code_jump_scope.proofs.UnitScopedLaws.{unit_scoped}
use Rattle.code_entries.specs.Asking.{ByKind}
use Rattle.code_entries.proofs.AskingLaws.{unit_by_kind}
use Rattle.check_dispatch.specs.Rule.{rule}
use Rattle.refusal_state.specs.Targets.{state_answer}
use Rattle.refusal_state.proofs.TargetsLaws.{state_passed, targets_found}
use Rattle.call_routes.proofs.CallsLaws.{unit_kind_lem}
use Rattle.call_routes.specs.Theorem.{Routes}

module _ (source_type async_bodies : ℕ) (ns ss source names : List ℕ) (u : ℕ)
    -- the tables are well-formed (1 to 6, 13 to 15), u is a unit (7), and the tree has no findings (9)
    (formed : input_refusal source_type ns ss source names ≡ Passed) (passed : state_answer (rule source_type async_bodies ns ss source names) u ≡ Passed)
  where
    -- With no findings every break and continue has its target inside its nearest unit: the second half of refusal 9 is never met.
    pub targeted : Targeted ns names
    targeted =
        let w = input_well_formed source_type ns ss source names formed in
        let s = state_passed source_type async_bodies ns ss source names u passed in
        targets_found source_type ns ss source names w.input.tree s.clear

    -- THE THEOREM
    pub routes : (answers : List ℕ) → Routes ns names u answers
    routes answers =
        let w = input_well_formed source_type ns ss source names formed in
        let s = state_passed source_type async_bodies ns ss source names u passed in
        let c = claims (unit_of ns names u) (unit_room_lem ns names w.input.tree u) answers in
        record {
          same = c.same;
          entries = c.entries;
          asking = subst (Each (ByKind ns)) (sym c.entries) (execs_each (ByKind ns) (unit_of ns names u) (unit_by_kind ns names u) answers);
          left = c.left;
          ends = c.ends (unit_scoped ns names w.input.tree w.listed w.shaped.placed w.shaped.counted targeted u s.below s.unit);
          once = c.once (unit_once ns names (good ns w.input.tree w.listed w.shaped.placed w.shaped.counted) u (holder_in_lem ns u s.below (unit_kind_lem (kind_of ns u) s.unit)));
          long = c.long;
          small = c.small;
          rows = code_length_lem ns w.input.tree w.listed w.shaped.placed w.shaped.counted u s.below s.unit names w.input.named;
        }
