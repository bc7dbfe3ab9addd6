-- Every row of document 01's table holds.
use Rattle.std.specs.Prelude.{ℕ, ◌*◌, ◌/◌, ◌≤◌, ◌≡◌, refl, drop, Ok, Err}
use Rattle.std.proofs.Math.Path.{ap}
use Rattle.std.proofs.Common.{sym, ◌∙◌}
use mathlib.Core.List.{List, [], ◌∷◌, ◌++◌, flat_map}
use Rattle.std.proofs.Math.Bool.{xor}
use native.Mathlib.Omega.{arith}
use borrow.Author.Tests.{le-leb}
use Rattle.std.proofs.Math.ListN.{length}
use Rattle.base_common.specs.Upto.{range, upto}
use Rattle.base_walk.specs.Above.{climb, above}
use Rattle.table_names.specs.Name.{same, name_of}
use Rattle.refusal_verdict.specs.First.{first}
use Rattle.table_children.specs.Children.{keep, children, how_many, is_child, first_node}
use Rattle.table_ancestry.specs.Ancestry.{nearest_of}
use Rattle.check_diagnostics.specs.Finding.{flat}
use Rattle.refusal_fields.specs.Fields.{wrong_table, wrong_sizes, own_flag, listed_flags, most_extra, listed_extra, unlisted_at, stray_at}
use Rattle.refusal_tree.specs.Tree.{misplaced_at}
use Rattle.refusal_scopes.specs.Scopes.{broken_at, chain_on, misscoped_at}
use Rattle.refusal_standing.specs.Standing.{is_statement, may_be_statement, is_holder, stray_statement, stray_held, stray_alternate, stray_in_switch, stray_case, stray_in_try, stray_clause, stray_in_clause, stray_function_body, stray_class_body, stray_element, stray_value, misplaced_statement, misplaced_part, misplaced_element, misplaced, misplaced_child_at}
use Rattle.refusal_counts.specs.Counts.{is_default, defaults, wrong_body, wrong_alternate, wrong_default, wrong_try, wrong_clause, wrong_label, wrong_function, wrong_class, wrong_value, wrong_element, wrong_statement, wrong_part, wrong_home, wrong_count_at}
use Rattle.refusal_return.specs.Return.{return_in_static}
use Rattle.refusal_input.specs.Input.{tables_or, shape_refusal, input_refusal}
use Rattle.refusal_input.proofs.InputLaws.{input_well_formed}
use Rattle.check_literals.specs.Escapes.{escape_of, bad_escape}
use Rattle.check_literals.specs.Literals.{source_text, check_string_literal, check_number_literal}
use Rattle.check_identifiers.specs.Identifiers.{is_strict_word, check_identifier, check_binding_identifier, check_identifier_reference, check_directive}
use Rattle.check_jumps.specs.Jumps.{walk_up, same_label, under, plain_continue_at, continue_to, labelled_continue_at, labeled_at}
use Rattle.check_statements.specs.Statements.{check_function_declaration, check_labeled_item}
use Rattle.check_class_table.specs.Classes.{current_class, classes_of}
use Rattle.check_class_table.specs.Elements.{element_name, element_span, has_body, fixed_name, enters, elements, compared}
use Rattle.check_duplicates.specs.Duplicates.{last_of, side_of, previous_on, previous_of, clashes, clash_code, redeclaration, duplicate_by, duplicates_in, duplicate_elements}
use Rattle.check_classes.specs.ClassChecks.{references, undeclared_in, require_class_name, constructors, constructor_span, check_class}
use Rattle.check_supers.specs.Super.{fails_at}
use Rattle.check_dispatch.specs.Findings.{findings_at}
use Rattle.check_dispatch.specs.Rule.{Rule, rule}
use Rattle.check_dispatch.specs.Reported.{reported_at, reported}
use Rattle.check_diagnostics.proofs.FindingLaws.{length_flat_lem}
use Rattle.check_diagnostics.specs.declared.Finding.{Finding}
use Rattle.refusal_verdict.specs.Verdict.{Verdict, Passed, unless}
use Rattle.call_check.specs.Check.{report_answer, report_slice, check_answer, check_slice}
use Rattle.call_check.proofs.CheckLaws.{answer_room}
use Rattle.table_records.specs.Facts.{Tree}
use Rattle.route_completion.specs.Sem.{exec, turns, rounds}
use Rattle.route_completion.specs.Route.{Route, asks, route as ruledRoute}
use Rattle.code_length.specs.Length.{code_length}
use Rattle.code_tree.specs.Labels.{name_id}
use Rattle.code_tree.specs.Parts.{up_of, shape_by, is_part, parts, order}
use Rattle.code_tree.specs.Statements.{leaf_at, stmt_at, body_of, holder_of, unit_of}
use Rattle.route_viewer.specs.Shown.{shown_answer, shown_slice}
use Rattle.route_viewer.specs.Shown.{routed}
use Rattle.refusal_state.specs.Targets.{names_unit, seek, plain_break, named_break, plain_continue, named_continue, has_target, lost_at, state_place, unit_refusal, refused_or, state_answer}
use Rattle.call_routes.specs.Calls.{code_refusal, route_answer, route_slice}
use Rattle.call_routes.proofs.CallsLaws.{code_route_lem}
use Rattle.call_rows.specs.Rows.{CheckRow, RouteRow, Row, check, route, Checks, Shows, Holds, Each, rows}

-- what the call does with a row that no refusal turns down
module _ (r : CheckRow) (passed : input_refusal r.source_type r.nodes r.scopes r.source r.names ≡ Passed)
    (found : flat (reported (rule r.source_type 0 r.nodes r.scopes r.source r.names)) ≡ r.finds)
  where
    abbrev fs : List Finding
    fs = reported (rule r.source_type 0 r.nodes r.scopes r.source r.names)

    many : length r.finds ≡ 7 * length fs
    many = ap length (sym found) ∙ length_flat_lem fs

    answers : (s : List ℕ) → length r.finds ≤ length s → check_answer (rule r.source_type 0 r.nodes r.scopes r.source r.names) (length s) ≡ Ok (length r.finds / 7)
    unfolding check_answer
    answers s h =
        let m = many in
        let e : length fs ≡ length r.finds / 7 = omega arith in
        ap (λ (v : Verdict). unless v Err (report_answer fs (length s))) passed ∙ answer_room fs s (omega arith) ∙ (λ i. Ok (e i))

    writes : (s : List ℕ) → length r.finds ≤ length s → check_slice (rule r.source_type 0 r.nodes r.scopes r.source r.names) s ≡ r.finds ++ drop (length r.finds) s
    unfolding check_slice report_slice
    writes s h =
        let m = many in
        let room : 7 * length fs ≤ length s = omega arith in
        ap (λ (v : Verdict). unless v (λ e. s) (report_slice fs s)) passed ∙ rw (le-leb (7 * length fs) (length s) room, found, ← m)

    checks : Checks r
    checks = record { found = found; answer = answers; slice = writes }

-- what the call does with a route row that no refusal turns down
module _ (r : RouteRow) (passed : input_refusal r.source_type r.nodes r.scopes r.source r.names ≡ Passed)
    (sound : state_answer (rule r.source_type 0 r.nodes r.scopes r.source r.names) r.unit ≡ Passed)
    (ruled : ruledRoute (unit_of r.nodes r.names r.unit) r.answers ≡ r.shows)
  where
    abbrev given : Rule
    given = rule r.source_type 0 r.nodes r.scopes r.source r.names

    unrefused : code_refusal given r.unit ≡ Passed
    unfolding code_refusal
    unrefused = ap (λ (v : Verdict). refused_or v (state_answer given r.unit)) passed ∙ sound

    told : (c s : List ℕ) → code_length r.nodes r.unit ≤ length c → length r.shows.list ≤ length s
        → route_answer given r.unit r.answers (length c) (length s) ≡ routed r.shows.end (length r.shows.list) r.shows.taken
    unfolding route_answer shown_answer
    told c s h g =
        rw (unrefused, le-leb (code_length r.nodes r.unit) (length c) h)
        (ap (λ (x : Route). shown_answer x (length s)) ruled ∙ rw (le-leb (length r.shows.list) (length s) g))

    kept : (c s : List ℕ) → code_length r.nodes r.unit ≤ length c → length r.shows.list ≤ length s
        → route_slice given r.unit r.answers (length c) s ≡ r.shows.list ++ drop (length r.shows.list) s
    unfolding route_slice shown_slice
    kept c s h g =
        rw (unrefused, le-leb (code_length r.nodes r.unit) (length c) h)
        (ap (λ (x : Route). shown_slice x s) ruled ∙ rw (le-leb (length r.shows.list) (length s) g))

    tree : Tree r.nodes
    tree = (input_well_formed r.source_type r.nodes r.scopes r.source r.names passed).input.tree

    shows : Shows r
    shows = record { ruled = ruled; coded = code_route_lem r.nodes r.names tree r.unit r.answers ∙ ruled; answer = told; slice = kept }

-- what is computed of a row
abbrev Computed : Row → Type 0
Computed (check r) =
    (input_refusal r.source_type r.nodes r.scopes r.source r.names ≡ Passed)
    × (flat (reported (rule r.source_type 0 r.nodes r.scopes r.source r.names)) ≡ r.finds)
Computed (route r) =
    (input_refusal r.source_type r.nodes r.scopes r.source r.names ≡ Passed)
    × (state_answer (rule r.source_type 0 r.nodes r.scopes r.source r.names) r.unit ≡ Passed)
    × (ruledRoute (unit_of r.nodes r.names r.unit) r.answers ≡ r.shows)

holds : (r : Row) → Computed r → Holds r
holds (check r) c = checks r c.0 c.1
holds (route r) c = shows r c.0 c.1 c.2

each : (rs : List Row) → Each Computed rs → Each Holds rs
each [] c = tt
each (r ∷ rs) c = (holds r c.0, each rs c.1)

computed : Each Computed rows
unfolding rows upto range above climb first keep children how_many is_child wrong_table wrong_sizes own_flag listed_flags most_extra listed_extra unlisted_at stray_at misplaced_at broken_at chain_on misscoped_at is_statement may_be_statement is_holder stray_statement stray_held stray_alternate stray_in_switch stray_case stray_in_try stray_clause stray_in_clause stray_function_body stray_class_body stray_element stray_value misplaced_statement misplaced_part misplaced_element misplaced misplaced_child_at is_default defaults wrong_body wrong_alternate wrong_default wrong_try wrong_clause wrong_label wrong_function wrong_class wrong_value wrong_element wrong_statement wrong_part wrong_home wrong_count_at fails_at return_in_static tables_or shape_refusal input_refusal same name_of first_node nearest_of flat flat_map xor escape_of bad_escape source_text check_string_literal check_number_literal is_strict_word check_identifier check_binding_identifier check_identifier_reference check_directive walk_up same_label under plain_continue_at continue_to labelled_continue_at labeled_at check_function_declaration check_labeled_item current_class classes_of element_name element_span has_body fixed_name enters elements compared last_of side_of previous_on previous_of clashes clash_code redeclaration duplicate_by duplicates_in duplicate_elements references undeclared_in require_class_name constructors constructor_span check_class findings_at reported_at reported exec turns rounds asks up_of shape_by is_part parts order name_id leaf_at stmt_at body_of holder_of unit_of names_unit seek plain_break named_break plain_continue named_continue has_target lost_at state_place unit_refusal state_answer
computed =
    ((refl, refl), ((refl, refl), ((refl, refl), ((refl, refl), ((refl, refl), ((refl, refl), ((refl, refl), ((refl, refl), ((refl, refl), ((refl, refl), ((refl, refl), ((refl, refl), ((refl, refl), ((refl, refl), ((refl, refl), ((refl, refl, refl), ((refl, refl, refl), ((refl, refl, refl), tt))))))))))))))))))

pub rows_hold_lem : Each Holds rows
rows_hold_lem = each rows computed
