-- A table for which all conditions hold: it is well-formed and its scopes are the tree's, so that the theorems apply. It is that of
-- `class C { constructor() { super(); } constructor() {} #p; #p; m() { super(); this.#q; } } class { } a.#b; function f() { super.x; } ({ __proto__: 1, __proto__: 2 });
-- class E extends C { *constructor() { super(); } static constructor() { super(); } } ({ constructor() { super(); } })`.
use Rattle.std.specs.Prelude.{ℕ, ◌≡◌, refl, Bool, true, false, not, ◌&&◌, ◌||◌, ◌⊎◌, eqb}
use Rattle.std.proofs.Common.{sym, ◌∙◌, ⊎_elim, arith, eq-eqb, eqb-true}
use mathlib.Core.List.{List, [], ◌∷◌, flat_map}
use Rattle.std.proofs.Math.Bool.{xor}
use Rattle.base_common.specs.Upto.{upto, range, all}
use Rattle.base_common.proofs.UptoLaws.{all_upto}
use Rattle.base_common.proofs.Bools.{never, either}
use Rattle.table_records.specs.Table.{kind_of, parent_of, count}
use Rattle.table_records.specs.Kinds as k
use Rattle.table_names.specs.Name.{same, name_of}
use Rattle.refusal_fields.specs.Fields.{wrong_table, wrong_sizes, own_flag, listed_flags, most_extra, listed_extra, unlisted_at, stray_at}
use Rattle.refusal_tree.specs.Tree.{misplaced_at, depth_from, depth_if}
use Rattle.refusal_scopes.specs.Scopes.{broken_at, chain_on, misscoped_at}
use Rattle.refusal_standing.specs.Standing.{is_statement, may_be_statement, is_holder, stray_statement, stray_held, stray_alternate, stray_in_switch, stray_case, try_part, stray_in_try, stray_clause, stray_in_clause, stray_function_body, stray_class_body, stray_element, stray_value, misplaced_statement, misplaced_part, misplaced_element, misplaced, misplaced_child_at}
use Rattle.refusal_counts.specs.Counts.{is_default, defaults, wrong_body, wrong_alternate, wrong_default, wrong_try, wrong_clause, wrong_label, wrong_function, wrong_class, wrong_value, wrong_element, wrong_statement, wrong_part, wrong_home, wrong_count_at}
use Rattle.refusal_return.specs.Return.{return_in_static}
use Rattle.refusal_input.specs.Input.{tables_or, shape_refusal, input_refusal}
use Rattle.refusal_input.specs.WellFormed.{WellFormed}
use Rattle.refusal_verdict.specs.First.{first}
use Rattle.table_children.specs.Children.{keep, children, how_many, is_child, first_node}
use Rattle.base_walk.specs.Above as a
use Rattle.base_walk.specs.On.{on}
use Rattle.table_ancestry.specs.Ancestry.{nearest_of}
use Rattle.check_supers.specs.Super.{is_value_of, part_of, place_of, object_use, method_use, function_use, step_at, reach_from, reach_of, fails_at}
use Rattle.refusal_verdict.specs.Verdict.{Passed}
use Rattle.refusal_input.proofs.InputLaws.{input_well_formed}
use Rattle.check_diagnostics.specs.declared.Finding.{Finding}
use Rattle.check_dispatch.specs.Findings.{findings_of}
use Rattle.ecma_dispatch.specs.WithCode.{with_code}
use Rattle.ecma_trees.specs.Rose.{kids, others, forest, parts_of}
use Rattle.ecma_trees.specs.Walk.{walk}
use Rattle.ecma_trees.specs.Trail.{trail, climb}
use Rattle.ecma_dispatch.specs.NodesOf.{raised}
use Rattle.ecma_elements.specs.ClassElements.{key_name, prop_name, names_constructor, is_constructor_kind, constructor_method, is_first_constructor, class_elements, name_missing}
use Rattle.ecma_privates.specs.PrivateNames.{is_private_bound, entries, matched, invalid}
use Rattle.ecma_privates.specs.Raised.{body_around}
use Rattle.ecma_supers.specs.Supers.{is_super_call, begins, is_method, is_object_method, is_constructor_method, has_heritage, is_bare, is_super_property, bars_call, bars_property, super_error, standard_stray}
use Rattle.ecma_elements.specs.Changed.{is_constructor, called_constructor, built_twice, is_keyed_proto, proto_again, is_table_constructor}
use Rattle.ecma_privates.specs.Changed.{is_entered, private_entered, clash_in, private_again, is_table_use, is_outside}
use Rattle.ecma_supers.specs.Changed.{is_table_call, is_table_property, SupersStand, MethodsNamed}
use Rattle.ecma_base.specs.Contains.{contains, contains_any}
use Rattle.ecma_base.specs.Telling.{Telling, async_or_generator, ordinary}
use Rattle.ecma_base.specs.Scopes.{follows_at, flagged_at, class_at, scopes_follow}
use Rattle.ecma_classes.specs.Theorems.{code1, code7, code8, code26, code27, code28, code29, code29_standard, code30}

abbrev pub table : List ℕ
table =
    0 ∷ 0 ∷ 0 ∷ 0 ∷ 282 ∷ 0 ∷ 0 ∷ 0 ∷ 0 ∷ 0 ∷
    26 ∷ 0 ∷ 3 ∷ 0 ∷ 89 ∷ 0 ∷ 544 ∷ 1 ∷ 0 ∷ 0 ∷
    31 ∷ 1 ∷ 0 ∷ 6 ∷ 7 ∷ 1 ∷ 0 ∷ 0 ∷ 0 ∷ 1 ∷
    27 ∷ 1 ∷ 3 ∷ 8 ∷ 89 ∷ 1 ∷ 0 ∷ 0 ∷ 0 ∷ 0 ∷
    28 ∷ 3 ∷ 0 ∷ 10 ∷ 36 ∷ 1 ∷ 0 ∷ 0 ∷ 0 ∷ 0 ∷
    55 ∷ 4 ∷ 2 ∷ 10 ∷ 21 ∷ 1 ∷ 0 ∷ 0 ∷ 1 ∷ 11 ∷
    1 ∷ 4 ∷ 1 ∷ 21 ∷ 36 ∷ 1 ∷ 1024 ∷ 0 ∷ 0 ∷ 0 ∷
    55 ∷ 6 ∷ 0 ∷ 21 ∷ 23 ∷ 2 ∷ 0 ∷ 0 ∷ 0 ∷ 0 ∷
    4 ∷ 6 ∷ 3 ∷ 24 ∷ 36 ∷ 2 ∷ 0 ∷ 0 ∷ 0 ∷ 0 ∷
    22 ∷ 8 ∷ 3 ∷ 26 ∷ 34 ∷ 2 ∷ 0 ∷ 0 ∷ 0 ∷ 0 ∷
    38 ∷ 9 ∷ 0 ∷ 26 ∷ 33 ∷ 2 ∷ 0 ∷ 0 ∷ 0 ∷ 0 ∷
    37 ∷ 10 ∷ 0 ∷ 26 ∷ 31 ∷ 2 ∷ 0 ∷ 0 ∷ 0 ∷ 0 ∷
    28 ∷ 3 ∷ 0 ∷ 37 ∷ 53 ∷ 1 ∷ 0 ∷ 0 ∷ 0 ∷ 0 ∷
    55 ∷ 12 ∷ 2 ∷ 37 ∷ 48 ∷ 1 ∷ 0 ∷ 0 ∷ 12 ∷ 11 ∷
    1 ∷ 12 ∷ 1 ∷ 48 ∷ 53 ∷ 1 ∷ 1024 ∷ 0 ∷ 0 ∷ 0 ∷
    55 ∷ 14 ∷ 0 ∷ 48 ∷ 50 ∷ 3 ∷ 0 ∷ 0 ∷ 0 ∷ 0 ∷
    4 ∷ 14 ∷ 3 ∷ 51 ∷ 53 ∷ 3 ∷ 0 ∷ 0 ∷ 0 ∷ 0 ∷
    29 ∷ 3 ∷ 0 ∷ 54 ∷ 57 ∷ 1 ∷ 4 ∷ 0 ∷ 0 ∷ 0 ∷
    34 ∷ 17 ∷ 2 ∷ 54 ∷ 56 ∷ 1 ∷ 0 ∷ 0 ∷ 23 ∷ 1 ∷
    29 ∷ 3 ∷ 0 ∷ 58 ∷ 61 ∷ 1 ∷ 4 ∷ 0 ∷ 0 ∷ 0 ∷
    34 ∷ 19 ∷ 2 ∷ 58 ∷ 60 ∷ 1 ∷ 0 ∷ 0 ∷ 24 ∷ 1 ∷
    28 ∷ 3 ∷ 0 ∷ 62 ∷ 87 ∷ 1 ∷ 0 ∷ 1 ∷ 0 ∷ 0 ∷
    55 ∷ 21 ∷ 2 ∷ 62 ∷ 63 ∷ 1 ∷ 0 ∷ 0 ∷ 25 ∷ 1 ∷
    1 ∷ 21 ∷ 1 ∷ 63 ∷ 87 ∷ 1 ∷ 1024 ∷ 0 ∷ 0 ∷ 0 ∷
    55 ∷ 23 ∷ 0 ∷ 63 ∷ 65 ∷ 4 ∷ 0 ∷ 0 ∷ 0 ∷ 0 ∷
    4 ∷ 23 ∷ 3 ∷ 66 ∷ 87 ∷ 4 ∷ 0 ∷ 0 ∷ 0 ∷ 0 ∷
    22 ∷ 25 ∷ 3 ∷ 68 ∷ 76 ∷ 4 ∷ 0 ∷ 0 ∷ 0 ∷ 0 ∷
    38 ∷ 26 ∷ 0 ∷ 68 ∷ 75 ∷ 4 ∷ 0 ∷ 0 ∷ 0 ∷ 0 ∷
    37 ∷ 27 ∷ 0 ∷ 68 ∷ 73 ∷ 4 ∷ 0 ∷ 0 ∷ 0 ∷ 0 ∷
    22 ∷ 25 ∷ 3 ∷ 77 ∷ 85 ∷ 4 ∷ 0 ∷ 0 ∷ 0 ∷ 0 ∷
    41 ∷ 29 ∷ 0 ∷ 77 ∷ 84 ∷ 4 ∷ 0 ∷ 0 ∷ 0 ∷ 0 ∷
    55 ∷ 30 ∷ 0 ∷ 77 ∷ 81 ∷ 4 ∷ 0 ∷ 0 ∷ 0 ∷ 0 ∷
    34 ∷ 30 ∷ 0 ∷ 82 ∷ 84 ∷ 4 ∷ 0 ∷ 0 ∷ 26 ∷ 1 ∷
    26 ∷ 0 ∷ 3 ∷ 90 ∷ 99 ∷ 0 ∷ 32 ∷ 5 ∷ 0 ∷ 0 ∷
    27 ∷ 33 ∷ 3 ∷ 96 ∷ 99 ∷ 5 ∷ 0 ∷ 0 ∷ 0 ∷ 0 ∷
    22 ∷ 0 ∷ 3 ∷ 100 ∷ 105 ∷ 0 ∷ 0 ∷ 0 ∷ 0 ∷ 0 ∷
    41 ∷ 35 ∷ 0 ∷ 100 ∷ 104 ∷ 0 ∷ 0 ∷ 0 ∷ 0 ∷ 0 ∷
    32 ∷ 36 ∷ 0 ∷ 100 ∷ 101 ∷ 0 ∷ 0 ∷ 0 ∷ 27 ∷ 1 ∷
    34 ∷ 36 ∷ 0 ∷ 102 ∷ 104 ∷ 0 ∷ 0 ∷ 0 ∷ 28 ∷ 1 ∷
    1 ∷ 0 ∷ 3 ∷ 106 ∷ 131 ∷ 0 ∷ 1568 ∷ 0 ∷ 0 ∷ 0 ∷
    31 ∷ 39 ∷ 0 ∷ 115 ∷ 116 ∷ 6 ∷ 0 ∷ 0 ∷ 29 ∷ 1 ∷
    55 ∷ 39 ∷ 0 ∷ 116 ∷ 118 ∷ 6 ∷ 0 ∷ 0 ∷ 0 ∷ 0 ∷
    4 ∷ 39 ∷ 3 ∷ 119 ∷ 131 ∷ 6 ∷ 0 ∷ 0 ∷ 0 ∷ 0 ∷
    22 ∷ 42 ∷ 3 ∷ 121 ∷ 129 ∷ 6 ∷ 0 ∷ 0 ∷ 0 ∷ 0 ∷
    40 ∷ 43 ∷ 0 ∷ 121 ∷ 128 ∷ 6 ∷ 0 ∷ 0 ∷ 0 ∷ 0 ∷
    37 ∷ 44 ∷ 0 ∷ 121 ∷ 126 ∷ 6 ∷ 0 ∷ 0 ∷ 0 ∷ 0 ∷
    55 ∷ 44 ∷ 0 ∷ 127 ∷ 128 ∷ 6 ∷ 0 ∷ 0 ∷ 0 ∷ 0 ∷
    22 ∷ 0 ∷ 3 ∷ 132 ∷ 165 ∷ 0 ∷ 0 ∷ 0 ∷ 0 ∷ 0 ∷
    55 ∷ 47 ∷ 0 ∷ 132 ∷ 164 ∷ 0 ∷ 0 ∷ 1 ∷ 0 ∷ 0 ∷
    43 ∷ 48 ∷ 1 ∷ 133 ∷ 163 ∷ 0 ∷ 0 ∷ 0 ∷ 0 ∷ 0 ∷
    44 ∷ 49 ∷ 0 ∷ 135 ∷ 147 ∷ 0 ∷ 0 ∷ 0 ∷ 0 ∷ 0 ∷
    55 ∷ 50 ∷ 2 ∷ 135 ∷ 144 ∷ 0 ∷ 0 ∷ 0 ∷ 30 ∷ 9 ∷
    35 ∷ 50 ∷ 1 ∷ 146 ∷ 147 ∷ 0 ∷ 0 ∷ 0 ∷ 0 ∷ 0 ∷
    44 ∷ 49 ∷ 0 ∷ 149 ∷ 161 ∷ 0 ∷ 0 ∷ 0 ∷ 0 ∷ 0 ∷
    55 ∷ 53 ∷ 2 ∷ 149 ∷ 158 ∷ 0 ∷ 0 ∷ 0 ∷ 39 ∷ 9 ∷
    35 ∷ 53 ∷ 1 ∷ 160 ∷ 161 ∷ 0 ∷ 0 ∷ 0 ∷ 0 ∷ 0 ∷
    26 ∷ 0 ∷ 3 ∷ 166 ∷ 249 ∷ 0 ∷ 608 ∷ 7 ∷ 0 ∷ 0 ∷
    31 ∷ 56 ∷ 0 ∷ 172 ∷ 173 ∷ 7 ∷ 0 ∷ 0 ∷ 48 ∷ 1 ∷
    32 ∷ 56 ∷ 0 ∷ 182 ∷ 183 ∷ 7 ∷ 0 ∷ 0 ∷ 49 ∷ 1 ∷
    27 ∷ 56 ∷ 3 ∷ 184 ∷ 249 ∷ 7 ∷ 0 ∷ 0 ∷ 0 ∷ 0 ∷
    28 ∷ 59 ∷ 0 ∷ 186 ∷ 213 ∷ 7 ∷ 0 ∷ 1 ∷ 0 ∷ 0 ∷
    55 ∷ 60 ∷ 2 ∷ 187 ∷ 198 ∷ 7 ∷ 0 ∷ 0 ∷ 50 ∷ 11 ∷
    1 ∷ 60 ∷ 1 ∷ 198 ∷ 213 ∷ 7 ∷ 1024 ∷ 0 ∷ 0 ∷ 0 ∷
    55 ∷ 62 ∷ 0 ∷ 198 ∷ 200 ∷ 8 ∷ 0 ∷ 0 ∷ 0 ∷ 0 ∷
    4 ∷ 62 ∷ 3 ∷ 201 ∷ 213 ∷ 8 ∷ 0 ∷ 0 ∷ 0 ∷ 0 ∷
    22 ∷ 64 ∷ 3 ∷ 203 ∷ 211 ∷ 8 ∷ 0 ∷ 0 ∷ 0 ∷ 0 ∷
    38 ∷ 65 ∷ 0 ∷ 203 ∷ 210 ∷ 8 ∷ 0 ∷ 0 ∷ 0 ∷ 0 ∷
    37 ∷ 66 ∷ 0 ∷ 203 ∷ 208 ∷ 8 ∷ 0 ∷ 0 ∷ 0 ∷ 0 ∷
    28 ∷ 59 ∷ 0 ∷ 214 ∷ 247 ∷ 7 ∷ 2 ∷ 1 ∷ 0 ∷ 0 ∷
    55 ∷ 68 ∷ 2 ∷ 221 ∷ 232 ∷ 7 ∷ 0 ∷ 0 ∷ 61 ∷ 11 ∷
    1 ∷ 68 ∷ 1 ∷ 232 ∷ 247 ∷ 7 ∷ 1024 ∷ 0 ∷ 0 ∷ 0 ∷
    55 ∷ 70 ∷ 0 ∷ 232 ∷ 234 ∷ 9 ∷ 0 ∷ 0 ∷ 0 ∷ 0 ∷
    4 ∷ 70 ∷ 3 ∷ 235 ∷ 247 ∷ 9 ∷ 0 ∷ 0 ∷ 0 ∷ 0 ∷
    22 ∷ 72 ∷ 3 ∷ 237 ∷ 245 ∷ 9 ∷ 0 ∷ 0 ∷ 0 ∷ 0 ∷
    38 ∷ 73 ∷ 0 ∷ 237 ∷ 244 ∷ 9 ∷ 0 ∷ 0 ∷ 0 ∷ 0 ∷
    37 ∷ 74 ∷ 0 ∷ 237 ∷ 242 ∷ 9 ∷ 0 ∷ 0 ∷ 0 ∷ 0 ∷
    22 ∷ 0 ∷ 3 ∷ 250 ∷ 282 ∷ 0 ∷ 0 ∷ 0 ∷ 0 ∷ 0 ∷
    55 ∷ 76 ∷ 0 ∷ 250 ∷ 282 ∷ 0 ∷ 0 ∷ 1 ∷ 0 ∷ 0 ∷
    43 ∷ 77 ∷ 1 ∷ 251 ∷ 281 ∷ 0 ∷ 0 ∷ 0 ∷ 0 ∷ 0 ∷
    44 ∷ 78 ∷ 0 ∷ 253 ∷ 279 ∷ 0 ∷ 128 ∷ 0 ∷ 0 ∷ 0 ∷
    55 ∷ 79 ∷ 2 ∷ 253 ∷ 264 ∷ 0 ∷ 0 ∷ 0 ∷ 72 ∷ 11 ∷
    1 ∷ 79 ∷ 1 ∷ 264 ∷ 279 ∷ 0 ∷ 1024 ∷ 0 ∷ 0 ∷ 0 ∷
    55 ∷ 81 ∷ 0 ∷ 264 ∷ 266 ∷ 10 ∷ 0 ∷ 0 ∷ 0 ∷ 0 ∷
    4 ∷ 81 ∷ 3 ∷ 267 ∷ 279 ∷ 10 ∷ 0 ∷ 0 ∷ 0 ∷ 0 ∷
    22 ∷ 83 ∷ 3 ∷ 269 ∷ 277 ∷ 10 ∷ 0 ∷ 0 ∷ 0 ∷ 0 ∷
    38 ∷ 84 ∷ 0 ∷ 269 ∷ 276 ∷ 10 ∷ 0 ∷ 0 ∷ 0 ∷ 0 ∷
    37 ∷ 85 ∷ 0 ∷ 269 ∷ 274 ∷ 10 ∷ 0 ∷ 0 ∷ 0 ∷ 0 ∷ []

abbrev pub scopes : List ℕ
scopes = 0 ∷ 2 ∷ 0 ∷ 0 ∷ 1 ∷ 1 ∷ 1 ∷ 5 ∷ 6 ∷ 1 ∷ 5 ∷ 14 ∷ 1 ∷ 5 ∷ 23 ∷ 0 ∷ 1 ∷ 33 ∷ 0 ∷ 4 ∷ 39 ∷ 0 ∷ 1 ∷ 56 ∷ 7 ∷ 5 ∷ 62 ∷ 7 ∷ 5 ∷ 70 ∷ 0 ∷ 4 ∷ 81 ∷ []

abbrev pub bytes : List ℕ
bytes = 67 ∷ 99 ∷ 111 ∷ 110 ∷ 115 ∷ 116 ∷ 114 ∷ 117 ∷ 99 ∷ 116 ∷ 111 ∷ 114 ∷ 99 ∷ 111 ∷ 110 ∷ 115 ∷ 116 ∷ 114 ∷ 117 ∷ 99 ∷ 116 ∷ 111 ∷ 114 ∷ 112 ∷ 112 ∷ 109 ∷ 113 ∷ 97 ∷ 98 ∷ 102 ∷ 95 ∷ 95 ∷ 112 ∷ 114 ∷ 111 ∷ 116 ∷ 111 ∷ 95 ∷ 95 ∷ 95 ∷ 95 ∷ 112 ∷ 114 ∷ 111 ∷ 116 ∷ 111 ∷ 95 ∷ 95 ∷ 69 ∷ 67 ∷ 99 ∷ 111 ∷ 110 ∷ 115 ∷ 116 ∷ 114 ∷ 117 ∷ 99 ∷ 116 ∷ 111 ∷ 114 ∷ 99 ∷ 111 ∷ 110 ∷ 115 ∷ 116 ∷ 114 ∷ 117 ∷ 99 ∷ 116 ∷ 111 ∷ 114 ∷ 99 ∷ 111 ∷ 110 ∷ 115 ∷ 116 ∷ 114 ∷ 117 ∷ 99 ∷ 116 ∷ 111 ∷ 114 ∷ []

abbrev pub source : List ℕ
source = 99 ∷ 108 ∷ 97 ∷ 115 ∷ 115 ∷ 32 ∷ 67 ∷ 32 ∷ 123 ∷ 32 ∷ 99 ∷ 111 ∷ 110 ∷ 115 ∷ 116 ∷ 114 ∷ 117 ∷ 99 ∷ 116 ∷ 111 ∷ 114 ∷ 40 ∷ 41 ∷ 32 ∷ 123 ∷ 32 ∷ 115 ∷ 117 ∷ 112 ∷ 101 ∷ 114 ∷ 40 ∷ 41 ∷ 59 ∷ 32 ∷ 125 ∷ 32 ∷ 99 ∷ 111 ∷ 110 ∷ 115 ∷ 116 ∷ 114 ∷ 117 ∷ 99 ∷ 116 ∷ 111 ∷ 114 ∷ 40 ∷ 41 ∷ 32 ∷ 123 ∷ 125 ∷ 32 ∷ 35 ∷ 112 ∷ 59 ∷ 32 ∷ 35 ∷ 112 ∷ 59 ∷ 32 ∷ 109 ∷ 40 ∷ 41 ∷ 32 ∷ 123 ∷ 32 ∷ 115 ∷ 117 ∷ 112 ∷ 101 ∷ 114 ∷ 40 ∷ 41 ∷ 59 ∷ 32 ∷ 116 ∷ 104 ∷ 105 ∷ 115 ∷ 46 ∷ 35 ∷ 113 ∷ 59 ∷ 32 ∷ 125 ∷ 32 ∷ 125 ∷ 32 ∷ 99 ∷ 108 ∷ 97 ∷ 115 ∷ 115 ∷ 32 ∷ 123 ∷ 32 ∷ 125 ∷ 32 ∷ 97 ∷ 46 ∷ 35 ∷ 98 ∷ 59 ∷ 32 ∷ 102 ∷ 117 ∷ 110 ∷ 99 ∷ 116 ∷ 105 ∷ 111 ∷ 110 ∷ 32 ∷ 102 ∷ 40 ∷ 41 ∷ 32 ∷ 123 ∷ 32 ∷ 115 ∷ 117 ∷ 112 ∷ 101 ∷ 114 ∷ 46 ∷ 120 ∷ 59 ∷ 32 ∷ 125 ∷ 32 ∷ 40 ∷ 123 ∷ 32 ∷ 95 ∷ 95 ∷ 112 ∷ 114 ∷ 111 ∷ 116 ∷ 111 ∷ 95 ∷ 95 ∷ 58 ∷ 32 ∷ 49 ∷ 44 ∷ 32 ∷ 95 ∷ 95 ∷ 112 ∷ 114 ∷ 111 ∷ 116 ∷ 111 ∷ 95 ∷ 95 ∷ 58 ∷ 32 ∷ 50 ∷ 32 ∷ 125 ∷ 41 ∷ 59 ∷ 32 ∷ 99 ∷ 108 ∷ 97 ∷ 115 ∷ 115 ∷ 32 ∷ 69 ∷ 32 ∷ 101 ∷ 120 ∷ 116 ∷ 101 ∷ 110 ∷ 100 ∷ 115 ∷ 32 ∷ 67 ∷ 32 ∷ 123 ∷ 32 ∷ 42 ∷ 99 ∷ 111 ∷ 110 ∷ 115 ∷ 116 ∷ 114 ∷ 117 ∷ 99 ∷ 116 ∷ 111 ∷ 114 ∷ 40 ∷ 41 ∷ 32 ∷ 123 ∷ 32 ∷ 115 ∷ 117 ∷ 112 ∷ 101 ∷ 114 ∷ 40 ∷ 41 ∷ 59 ∷ 32 ∷ 125 ∷ 32 ∷ 115 ∷ 116 ∷ 97 ∷ 116 ∷ 105 ∷ 99 ∷ 32 ∷ 99 ∷ 111 ∷ 110 ∷ 115 ∷ 116 ∷ 114 ∷ 117 ∷ 99 ∷ 116 ∷ 111 ∷ 114 ∷ 40 ∷ 41 ∷ 32 ∷ 123 ∷ 32 ∷ 115 ∷ 117 ∷ 112 ∷ 101 ∷ 114 ∷ 40 ∷ 41 ∷ 59 ∷ 32 ∷ 125 ∷ 32 ∷ 125 ∷ 32 ∷ 40 ∷ 123 ∷ 32 ∷ 99 ∷ 111 ∷ 110 ∷ 115 ∷ 116 ∷ 114 ∷ 117 ∷ 99 ∷ 116 ∷ 111 ∷ 114 ∷ 40 ∷ 41 ∷ 32 ∷ 123 ∷ 32 ∷ 115 ∷ 117 ∷ 112 ∷ 101 ∷ 114 ∷ 40 ∷ 41 ∷ 59 ∷ 32 ∷ 125 ∷ 32 ∷ 125 ∷ 41 ∷ []

passes : input_refusal 0 table scopes source bytes ≡ Passed
unfolding wrong_table wrong_sizes own_flag listed_flags most_extra listed_extra unlisted_at stray_at misplaced_at depth_from depth_if broken_at chain_on misscoped_at is_statement may_be_statement is_holder stray_statement stray_held stray_alternate stray_in_switch stray_case try_part stray_in_try stray_clause stray_in_clause stray_function_body stray_class_body stray_element stray_value misplaced_statement misplaced_part misplaced_element misplaced misplaced_child_at is_default defaults wrong_body wrong_alternate wrong_default wrong_try wrong_clause wrong_label wrong_function wrong_class wrong_value wrong_element wrong_statement wrong_part wrong_home wrong_count_at return_in_static tables_or shape_refusal input_refusal first keep children how_many is_child first_node a.climb a.above on nearest_of is_value_of part_of place_of object_use method_use function_use step_at reach_from reach_of fails_at upto range
passes = refl

pub well : WellFormed 0 table scopes source bytes
well = input_well_formed 0 table scopes source bytes passes

pub fit : scopes_follow table scopes ≡ true
unfolding scopes_follow follows_at flagged_at class_at upto range
fit = refl

-- the theorems at this table
abbrev findings : List Finding
findings = findings_of 0 table scopes source bytes

pub found26 : raised 26 findings ≡ 33 ∷ []
unfolding name_missing first_node upto range is_child keep
found26 = code26 0 (omega arith) table scopes source bytes well

pub found27 : raised 27 findings ≡ 1 ∷ []
unfolding built_twice class_elements is_constructor children first_node upto range is_child keep
found27 = code27 0 (omega arith) table scopes source bytes well

pub found1 : raised 1 findings ≡ 0 ∷ 49 ∷ []
unfolding private_again private_entered is_private_bound is_entered clash_in entries key_name matched proto_again is_keyed_proto children first_node upto range is_child keep flat_map same name_of xor
found1 = code1 0 (omega arith) table scopes source bytes well

pub found7 : raised 7 findings ≡ 38 ∷ []
unfolding is_outside body_around a.climb a.above upto range keep
found7 = code7 0 (omega arith) table scopes source bytes well

pub found8 : with_code 8 findings ≡ record { code = 8; node = record { 0 = 1 }; start = 82; end = 84; start2 = 0; end2 = 0; context = 0 } ∷ []
unfolding invalid is_table_use private_entered is_private_bound is_entered key_name body_around walk parts_of forest kids others children first_node upto range is_child keep flat_map same name_of a.climb a.above
found8 = code8 0 (omega arith) table scopes source bytes well

pub found28 : raised 28 findings ≡ 11 ∷ []
unfolding is_bare is_table_call is_constructor_method is_method has_heritage begins trail climb first_node upto range is_child keep
found28 = code28 0 (omega arith) table scopes source bytes well fit

pub found29 : raised 29 findings ≡ 28 ∷ 67 ∷ 75 ∷ 86 ∷ []
unfolding is_table_call is_constructor_method is_method begins trail climb first_node upto range is_child keep
found29 = code29 0 (omega arith) table scopes source bytes well fit

pub found30 : raised 30 findings ≡ 45 ∷ []
unfolding is_table_property bars_property is_method is_object_method begins trail climb first_node upto range is_child keep
found30 = code30 0 (omega arith) table scopes source bytes well fit

-- the standard's rules: of the two constructors of C the first is asked of its SuperCall; a static method and an object's method are none, whatever their names
pub first28 : keep (is_first_constructor table bytes) (upto 0 87) ≡ 4 ∷ 60 ∷ []
unfolding is_first_constructor constructor_method is_constructor_kind names_constructor prop_name key_name children first_node upto range is_child keep same name_of
first28 = refl

-- 62 is the generator
abbrev pub told : Telling
told = record { async = λ f. false; generator = λ f. eqb f 62 }

pub standard29 : keep (standard_stray told table bytes) (upto 0 87) ≡ 28 ∷ 67 ∷ 75 ∷ 86 ∷ []
unfolding is_super_call bars_call is_method is_object_method names_constructor prop_name key_name begins trail climb children first_node upto range is_child keep same name_of
standard29 = refl

-- were it none, its SuperCall would be no error
pub ordinary29 : keep (standard_stray ordinary table bytes) (upto 0 87) ≡ 28 ∷ 75 ∷ 86 ∷ []
unfolding is_super_call bars_call is_method is_object_method names_constructor prop_name key_name begins trail climb children first_node upto range is_child keep same name_of
ordinary29 = refl

-- the units that break some rule on `super`, by Contains: the first constructor of C, m, f, the constructors of E and that of the object
pub broken : keep (super_error told table bytes) (upto 0 87) ≡ 6 ∷ 23 ∷ 39 ∷ 62 ∷ 70 ∷ 81 ∷ []
unfolding is_bare is_constructor_method is_first_constructor constructor_method is_constructor_kind has_heritage is_super_call is_super_property bars_call bars_property is_method is_object_method names_constructor prop_name key_name begins contains contains_any parts_of forest kids others children first_node upto range is_child keep same name_of
broken = refl

-- the conditions of 29 and 30 hold, so that theorem applies
stand_test : all (λ n. not (eqb (kind_of table n) k.Super) || (eqb (kind_of table (parent_of table n)) k.Call || eqb (kind_of table (parent_of table n)) k.OtherMember)) (upto 0 (count table)) ≡ true
unfolding upto range
stand_test = refl

pub stand : SupersStand table
stand n h = (λ e q. never (sym (stands e) ∙ no_new q), λ e. ⊎_elim (λ q. rw (eqb-true (kind_of table (parent_of table n)) k.Call q)) (λ q. rw (eqb-true (kind_of table (parent_of table n)) k.OtherMember q)) (either (eqb (kind_of table (parent_of table n)) k.Call) (eqb (kind_of table (parent_of table n)) k.OtherMember) (stands e)))
  where
    stands : kind_of table n ≡ k.Super → (eqb (kind_of table (parent_of table n)) k.Call || eqb (kind_of table (parent_of table n)) k.OtherMember) ≡ true
    stands e =
        sym (rw (eq-eqb (kind_of table n) k.Super e))
        ∙ all_upto (λ n. not (eqb (kind_of table n) k.Super) || (eqb (kind_of table (parent_of table n)) k.Call || eqb (kind_of table (parent_of table n)) k.OtherMember)) 0 (count table) stand_test n (omega arith) h

    no_new : kind_of table (parent_of table n) ≡ k.New → (eqb (kind_of table (parent_of table n)) k.Call || eqb (kind_of table (parent_of table n)) k.OtherMember) ≡ false
    no_new q = rw q

abbrev alike : ℕ → Bool
alike u = not (is_method table u) || not (xor (is_table_constructor table (parent_of table u)) (called_constructor table bytes (parent_of table u) && not (async_or_generator told u)))

named_test : all alike (upto 0 (count table)) ≡ true
unfolding is_method called_constructor first_node upto range is_child same name_of xor
named_test = refl

pub named : MethodsNamed told table bytes
unfolding xor
named u h e = go (is_table_constructor table (parent_of table u)) (called_constructor table bytes (parent_of table u) && not (async_or_generator told u)) (sym (rw e) ∙ all_upto alike 0 (count table) named_test u (omega arith) h)
  where
    go : (a b : Bool) → not (xor a b) ≡ true → a ≡ b
    go true true x = refl
    go true false x = never (sym x)
    go false true x = never (sym x)
    go false false x = refl

pub applies : raised 29 findings ≡ keep (standard_stray told table bytes) (upto 0 (count table))
applies = code29_standard 0 (omega arith) table scopes source bytes well fit stand told named
