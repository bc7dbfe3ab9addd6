-- THE THREE DEMANDS AS ONE STATEMENT. Each field is a sentence of the demands with its theorem; docs/CLAIMS.md says the same in words. What is not here is not claimed.
-- `statement` of a call is its contract as it stands above the function in crates/exports/src/lib.rt: that the call, on any memory, ends, does nothing undefined and meets its `ensures`.
-- The calls for C are those of crates/velkunshe, each of which calls the one of its name there, under the same clauses (tests/source.sh).
use Rattle.std.specs.Prelude.{ℕ, ◌≤◌, ◌≡◌, false, eqb, length, take, Ok}
use mathlib.Core.List.{List, flat_map}
use Rattle.refusal_verdict.specs.Verdict.{Passed}
use Rattle.refusal_input.specs.Input.{input_refusal}
use Rattle.check_dispatch.specs.Findings.{findings_of}
use Rattle.check_class_table.specs.Classes.{classes_of}
use Rattle.check_duplicates.specs.Duplicates.{duplicate_elements}
use Rattle.check_pairs.specs.Pairs.{clash_findings}
use Rattle.check_pairs.proofs.PairsLaws.{each_clash}
use Rattle.check_dispatch.specs.Former as Former
use Rattle.check_dispatch.proofs.FormerLaws.{former_of}
use Rattle.check_dispatch.specs.Rule.{Rule, rule}
use Rattle.check_dispatch.specs.Reported.{reported}
use Rattle.check_dispatch.proofs.ReportedLaws as option
use Rattle.refusal_state.specs.Targets.{state_answer}
use Rattle.call_renamed.specs.Same.{LabelsRenamed, Same, with_tables}
use Rattle.call_renamed.proofs.Theorem.{labels_renamed}
use Rattle.ecma_base.specs.Telling.{Telling}
use Rattle.ecma_dispatch.proofs.TypescriptLaws.{typescript}
use Rattle.ecma_dispatch.specs.Typescript.{Typescript}
use Rattle.ecma_standard.specs.Standard.{Standard, standard262}
use Rattle.ecma_standard.specs.Findings.{Broken, findings262}
use Rattle.ecma_standard.specs.AsyncBodies.{OptionOn, option_on}
use Rattle.code_jump_scope.specs.UnitScoped.{Targeted}
use Rattle.call_routes.specs.Calls.{code_answer, code_slice}
use Rattle.call_routes.specs.Theorem.{Routes}
use Rattle.call_routes.proofs.TheoremLaws.{routes, targeted}
use Rattle.call_shared.specs.Theorem.{OneAnswerChanged, one_answer_changed_lem}
use Rattle.call_walk.specs.Theorem.{BothEngines, both_engines}
use Rattle.call_marks.specs.Theorem.{History, TakenUp}
use Rattle.call_marks.proofs.TheoremLaws.{marks_in_a_route}
use Rattle.call_rows.specs.Rows.{rows, Each, Holds}
use Rattle.call_rows.proofs.RowsHold.{rows_hold_lem}
use Rattle.call_labels.specs.Written.{nodes_renamed, names_renamed}
use Rattle.call_rename_laws.specs.Output.{renaming_of, Output}
use Rattle.call_rename_laws.proofs.OutputLaws.{output}
use Rattle.call_shorten.specs.Shorten.{shorten_answer}
use Rattle.call_shorten_laws.specs.Shortened.{ShorterSlice, ShorterRoute}
use Rattle.call_shorten_laws.proofs.ShortenedLaws.{shorter_slice, shorter_route}
use Rattle.exports.proofs.velkunshe_check.Statement as check-call
use Rattle.exports.proofs.velkunshe_check.Met as check-proved
use Rattle.exports.proofs.velkunshe_code.Statement as code_call
use Rattle.exports.proofs.velkunshe_code.Met as code-proved
use Rattle.exports.proofs.velkunshe_route.Statement as route-call
use Rattle.exports.proofs.velkunshe_route.Met as route-proved
use Rattle.exports.proofs.velkunshe_shared.Statement as shared-call
use Rattle.exports.proofs.velkunshe_shared.Met as shared-proved
use Rattle.exports.proofs.velkunshe_walk.Statement as walk_call
use Rattle.exports.proofs.velkunshe_walk.Met as walk-proved
use Rattle.exports.proofs.velkunshe_route_stop.Statement as stop-call
use Rattle.exports.proofs.velkunshe_route_stop.Met as stop-proved
use Rattle.exports.proofs.velkunshe_route_resume.Statement as resume-call
use Rattle.exports.proofs.velkunshe_route_resume.Met as resume-proved
use Rattle.exports.proofs.velkunshe_route_resume_stop.Statement as resume-stop-call
use Rattle.exports.proofs.velkunshe_route_resume_stop.Met as resume-stop-proved
use Rattle.exports.proofs.velkunshe_rename.Statement as rename-call
use Rattle.exports.proofs.velkunshe_rename.Met as rename-proved
use Rattle.exports.proofs.velkunshe_run.Statement as lent-run-call
use Rattle.exports.proofs.velkunshe_run.Met as lent-run-proved
use Rattle.exports.proofs.velkunshe_shorten.Statement as shorten-call
use Rattle.exports.proofs.velkunshe_shorten.Met as shorten-proved
use Rattle.code_machine.proofs.run.Statement as machine-run
use Rattle.code_machine.proofs.run.Met as run-proved

pub record Demands : Type 2 where
  -- 1. "If the tables, texts, answers and lent slices hold any numbers at all, then every public call ends and does nothing undefined": no contract here has a `requires`;
  -- "document 01's refusals come on their conditions and not otherwise, and what each leaves is fixed there": the answers and slices are equal to `check_answer`, `check_slice`
  -- (crates/call_check/specs/Check.antt), `code_answer`, `code_slice`, `route_answer` and `route_slice` (crates/call_routes/specs/Calls.antt), to the last number.
  pub check : {M : Type 1} → check-call.statement M
  pub code : {M : Type 1} → code_call.statement M
  pub route : {M : Type 1} → route-call.statement M
  -- "A call that gives, for two answer lists of any kind, the length of the longest beginning that their routes share; it writes the code alone and gives the code call's refusals" (document 02,
  -- request 11): equal to `shared_answer` (crates/call_shared/specs/Shared.antt), and `code_slice` is what it leaves.
  pub shared : {M : Type 1} → shared-call.statement M
  -- The second engine (document 02, request 6): `walk_answer`, `walk_slice` (crates/call_walk/specs/Walked.antt).
  pub walk : {M : Type 1} → walk_call.statement M
  -- The calls of marks (document 02, request 7), on any array of marks (crates/call_marks/specs/Calls.antt).
  pub stop : {M : Type 1} → stop-call.statement M
  pub resume : {M : Type 1} → resume-call.statement M
  pub resume_stop : {M : Type 1} → resume-stop-call.statement M
  -- .. and of the renaming call to `renaming` (crates/call_rename/specs/Rename.antt; document 02, request 12).
  pub rename : {M : Type 1} → rename-call.statement M
  -- "A call that runs a lent code slice; .. It gives 18, then 12" (document 02, request 10): `run_answer`, `run_slice` (crates/call_run/specs/Run.antt); and the pass "over the finished code", 18 "checked
  -- before anything is changed", with the room that it frees: `shorten_answer`, `shorten_slice`, `freed` (crates/call_shorten/specs/Shorten.antt).
  pub lent_run : {M : Type 1} → lent-run-call.statement M
  pub shorten : {M : Type 1} → shorten-call.statement M
  -- "A run reads the code and the answers, never the tables": the machine is lent nothing else, and is total on any list of numbers as code.
  pub machine : {M : Type 1} → machine-run.statement M
  -- 2. "On well-formed tables .. the findings .. save on the conditions listed in docs/DIFFERENCES.md, are proved against definitions from ECMA-262 with Annex B: one where a rule is
  -- broken, none elsewhere": each code by the standard's own rule, for every telling of the functions that are async or generators, in scripts and modules of JavaScript (types 0 and 1); ..
  pub standard : (told : Telling) (t : ℕ) → t ≤ 1 → (ns ss source names : List ℕ) → input_refusal t ns ss source names ≡ Passed → Standard told t ns ss source names
  -- .. and by the changed rule of DIFFERENCES.md, of all well-formed tables.
  pub changed : (t : ℕ) → t ≤ 1 → (ns ss source names : List ℕ) → input_refusal t ns ss source names ≡ Passed → Broken t ns ss source names
  -- With the option on async and generator bodies off, the findings are the Rust's, of all tables; with it on, 34 is added and nothing else, and 15, 16 and 34 keep the standard's rules
  -- without a condition on what an if or a label holds (document 02, request 8).
  pub off : (t : ℕ) (ns ss source names : List ℕ) → reported (rule t 0 ns ss source names) ≡ findings_of t ns ss source names
  pub on : (told : Telling) (r : Rule) → input_refusal r.source_type r.nodes r.scopes r.source r.names ≡ Passed → eqb r.async_bodies 0 ≡ false → OptionOn told r
  -- "For types 0 and 1 findings are what they were"; in TypeScript "each clash, and nothing else, gives its one finding .. over both kinds of key"; what else differs there (document 02, request 13).
  pub before : (t : ℕ) → t ≤ 1 → (ns ss source names : List ℕ) → findings_of t ns ss source names ≡ Former.findings_of t ns ss source names
  pub clashes : (t : ℕ) (ns names : List ℕ) → duplicate_elements t ns names ≡ flat_map (clash_findings t ns names) (classes_of ns)
  pub typescript : (ns ss source names : List ℕ) → Typescript ns ss source names
  -- "If every label name .. is replaced by a name, one to one over the whole tree, .. then findings are equal in code, node, spans and context, and routes of units are equal too" (document 02, request 12):
  -- what the calls answer and leave of every slice.
  pub renamed : (x : Rule) (ms mnames : List ℕ) → LabelsRenamed x ms mnames → Same x (with_tables x ms mnames)
  -- What the renaming call writes is such a renaming, with the names length that it answers, and "Renaming twice gives the bytes of renaming once."
  pub written : (x : Rule) (s u : List ℕ) (n : ℕ) → (renaming_of x s u).answer ≡ Ok n → Output x s u n (nodes_renamed x.nodes x.names) (names_renamed x.nodes x.names)
  -- 3. "For every well-formed tree without findings, whose breaks and continues all have the target that ECMA-262 asks for inside their own unit": those without findings have it.
  pub targets : (t async_bodies : ℕ) (ns ss source names : List ℕ) (u : ℕ) → input_refusal t ns ss source names ≡ Passed → state_answer (rule t async_bodies ns ss source names) u ≡ Passed → Targeted ns names
  -- "every unit of it .. and every list of answers, empty, too short or too long included", with `try` (document 02, request 1) and static blocks (request 5): "the flat jump code .. lists the same statements in the same order, takes the same
  -- answers and no more, and ends with the same number as a run of that unit on those answers by the standard's completion rules .. no part, the first and the last included, has a
  -- statement twice."
  pub routes : (t async_bodies : ℕ) (ns ss source names : List ℕ) (u : ℕ) → input_refusal t ns ss source names ≡ Passed → state_answer (rule t async_bodies ns ss source names) u ≡ Passed
      → (answers : List ℕ) → Routes ns names u answers
  -- One answer changed (document 02, request 11): "two answer lists of one length differ only at position k .. equal up to and including the entry that takes answer k. If the first route takes k answers
  -- or fewer, they are equal to the end. Each route has at most (answers taken + 1) × (nodes of the unit) entries", by the completion rules and by the code.
  pub one_answer_changed : (t async_bodies : ℕ) (ns ss source names : List ℕ) (u : ℕ) → input_refusal t ns ss source names ≡ Passed → state_answer (rule t async_bodies ns ss source names) u ≡ Passed
      → OneAnswerChanged ns names u
  -- "For every tree, unit and answer list it gives the list, end and count of answers of the code engine .. It gives the refusals of the route call except 11" (document 02, request 6).
  pub engines : (r : Rule) (u : ℕ) (answers : List ℕ) → BothEngines r u answers
  -- "For a mark taken up on the tables and unit of all its stops, the list so far followed by what comes after, if not stopped again, equals the route, its end too, for the answers taken so far joined
  -- with the further ones" (document 02, request 7).
  pub marks : (r : Rule) (u : ℕ) (M : List ℕ) (m : ℕ) (qs l : List ℕ) → History r u M m qs l → (more : List ℕ) → TakenUp r u M m qs l more
  -- "The route of the shorter code is the old route for all answers" (document 02, request 10), of the n numbers that the code call wrote to the slice s; ..
  pub shorter_route : (r : Rule) (u : ℕ) (s : List ℕ) (n : ℕ) → code_answer r u (length s) ≡ Ok n → (answers : List ℕ) → ShorterRoute r u (take n (code_slice r u s)) answers
  -- .. "The pass never lengthens code, and a second pass changes nothing .. reached jumps that form or lead into a ring stay", of every slice that isn't refused.
  pub shorter_slice : (C : List ℕ) (n : ℕ) → shorten_answer C ≡ Ok n → ShorterSlice C n
  -- Document 01's rows, of the calls.
  pub rows_hold : Each Holds rows

pub demands : Demands
demands = record {
  check = check-proved.met;
  code = code-proved.met;
  route = route-proved.met;
  shared = shared-proved.met;
  walk = walk-proved.met;
  stop = stop-proved.met;
  resume = resume-proved.met;
  resume_stop = resume-stop-proved.met;
  rename = rename-proved.met;
  lent_run = lent-run-proved.met;
  shorten = shorten-proved.met;
  machine = run-proved.met;
  standard = standard262;
  changed = findings262;
  off = option.off;
  on = option_on;
  before = λ t s ns ss source names. former_of t s ns names ss source;
  clashes = each_clash;
  typescript = typescript;
  renamed = labels_renamed;
  written = output;
  targets = λ t async_bodies ns ss source names u f p. targeted t async_bodies ns ss source names u f p;
  routes = λ t async_bodies ns ss source names u f p. routes t async_bodies ns ss source names u f p;
  one_answer_changed = λ t async_bodies ns ss source names u f p. one_answer_changed_lem t async_bodies ns ss source names u f p;
  engines = both_engines;
  marks = marks_in_a_route;
  shorter_route = shorter_route;
  shorter_slice = shorter_slice;
  rows_hold = rows_hold_lem;
}
