-- THE FINDINGS BY THE RULES THAT THE RUST KEEPS, all codes together: of well-formed tables, the nodes that raise each code, in order, are those at which the rule is
-- broken, one finding for each breach. 4, 15, 17, 18, 23, 26 and 31 are the standard's own rules; the others are the changed rules that docs/DIFFERENCES.md names with what differs. Standard.antt states the
-- same by the standard's rules. 28 to 30 are stated of all such tables by the Rust's search through the scopes, and by the units in the tree where the scopes follow the tree.
-- The second span of 9 and 11 at a string is stated by the standard too (`strict.string_spans`). Other spans, contexts and the order between codes are those of `findings_of` (crates/check_dispatch), which the calls equal to the last number.
use Rattle.std.specs.Prelude.{ℕ, ◌≤◌, ◌≡◌, true, not, ◌&&◌}
use mathlib.Core.List.{List, ◌++◌, flat_map}
use Rattle.base_common.specs.Upto.{upto}
use Rattle.table_records.specs.Table.{count}
use Rattle.table_children.specs.Children.{keep}
use Rattle.refusal_verdict.specs.Verdict.{Passed}
use Rattle.refusal_input.specs.Input.{input_refusal}
use Rattle.refusal_input.proofs.InputLaws.{input_well_formed}
use Rattle.check_dispatch.specs.Findings.{findings_of}
use Rattle.ecma_dispatch.specs.WithCode.{with_code}
use Rattle.ecma_dispatch.specs.NodesOf.{raised}
use Rattle.ecma_labels.specs.Breaches.{duplicate_label_at, break_not_nested_at}
use Rattle.ecma_labels.specs.Changed.{plain_continue_not_nested_at, no_label_at, no_loop_at, in_program}
use Rattle.ecma_labels.proofs.Theorems as labels
use Rattle.ecma_strict.specs.Theorems.{EarlyErrors, early_errors}
use Rattle.ecma_elements.specs.ClassElements.{name_missing}
use Rattle.ecma_privates.specs.PrivateNames.{is_class_body}
use Rattle.ecma_elements.specs.Changed.{built_twice, proto_again}
use Rattle.ecma_privates.specs.Changed.{private_entered, private_again, is_outside, invalid_in_table}
use Rattle.ecma_supers.specs.Changed.{table_bare, table_stray, table_property}
use Rattle.ecma_supers.specs.SupersByScopes.{bare_by_scopes, stray_by_scopes, property_by_scopes}
use Rattle.ecma_elements.specs.Raised.{times}
use Rattle.ecma_privates.specs.Raised.{reported}
use Rattle.ecma_base.specs.Scopes.{scopes_follow}
use Rattle.ecma_classes.specs.Theorems as classes

pub record Broken (t : ℕ) (ns ss source names : List ℕ) : Type 0 where
  -- 2 to 6, 9 to 17, 24, 25, 31 to 33; the theorems code2 .. code33 of ecma_strict/specs/Theorems.antt say which rules are changed
  pub strict : EarlyErrors t ns ss source names
  -- 14.9.1: a break without a label in no loop or switch
  pub code18 : raised 18 (findings_of t ns ss source names) ≡ keep (break_not_nested_at ns names) (upto 0 (count ns))
  -- 8.3.2, and 8.3.3 changed: a label that no statement around has, in program code and elsewhere
  pub code19 : raised 19 (findings_of t ns ss source names) ≡ keep (λ j. no_label_at ns names j && in_program ns names j) (upto 0 (count ns))
  pub code20 : raised 20 (findings_of t ns ss source names) ≡ keep (λ j. no_label_at ns names j && not (in_program ns names j)) (upto 0 (count ns))
  -- 14.8.1 changed: a continue without a label in no loop
  pub code21 : raised 21 (findings_of t ns ss source names) ≡ keep (plain_continue_not_nested_at ns names) (upto 0 (count ns))
  -- 8.3.3 changed: a continue whose label is on no loop
  pub code22 : raised 22 (findings_of t ns ss source names) ≡ keep (no_loop_at ns names) (upto 0 (count ns))
  -- 8.3.1: a label within itself
  pub code23 : raised 23 (findings_of t ns ss source names) ≡ keep (duplicate_label_at ns names) (upto 0 (count ns))
  -- 15.7.1 changed: PrivateBoundIdentifiers of a class, at node 0; 13.2.5.1 changed: `__proto__` of an object
  pub code1 : raised 1 (findings_of t ns ss source names)
      ≡ flat_map (λ b. times 0 (private_again ns names (private_entered ns b))) (keep (is_class_body ns) (upto 0 (count ns))) ++ flat_map (λ n. times n (proto_again ns names n)) (upto 0 (count ns))
  -- 15.7.7 AllPrivateIdentifiersValid, changed: outside of classes; in them, at the class whose body is nearest
  pub code7 : raised 7 (findings_of t ns ss source names) ≡ keep (is_outside ns) (upto 0 (count ns))
  pub code8 : with_code 8 (findings_of t ns ss source names) ≡ reported ns (invalid_in_table ns names)
  -- 15.7: a declaration that lacks its name
  pub code26 : raised 26 (findings_of t ns ss source names) ≡ keep (name_missing ns) (upto 0 (count ns))
  -- 15.7.1 changed: a second constructor
  pub code27 : raised 27 (findings_of t ns ss source names) ≡ keep (built_twice ns) (upto 0 (count ns))
  -- `super`, changed, whatever the scopes are: by the checker's own search (`reach_of`), so this says only which code each of its answers gives
  pub code28_scopes : raised 28 (findings_of t ns ss source names) ≡ keep (bare_by_scopes ns ss) (upto 0 (count ns))
  pub code29_scopes : raised 29 (findings_of t ns ss source names) ≡ keep (stray_by_scopes ns ss) (upto 0 (count ns))
  pub code30_scopes : raised 30 (findings_of t ns ss source names) ≡ keep (property_by_scopes ns ss) (upto 0 (count ns))
  -- `super` where an early error forbids it (HasDirectSuper, Contains), changed, where the scopes follow the tree
  pub code28 : scopes_follow ns ss ≡ true → raised 28 (findings_of t ns ss source names) ≡ keep (table_bare ns) (upto 0 (count ns))
  pub code29 : scopes_follow ns ss ≡ true → raised 29 (findings_of t ns ss source names) ≡ keep (table_stray ns) (upto 0 (count ns))
  pub code30 : scopes_follow ns ss ≡ true → raised 30 (findings_of t ns ss source names) ≡ keep (table_property ns) (upto 0 (count ns))

-- THE THEOREM
pub findings262 : (t : ℕ) → t ≤ 1 → (ns ss source names : List ℕ) → input_refusal t ns ss source names ≡ Passed → Broken t ns ss source names
findings262 t js ns ss source names e =
    let w = input_well_formed t ns ss source names e in
    record {
      strict = early_errors t js ns ss source names w;
      code18 = labels.all18_are t ns ss source names w;
      code19 = labels.all19_are t ns ss source names w;
      code20 = labels.all20_are t ns ss source names w;
      code21 = labels.all21_are t ns ss source names w;
      code22 = labels.all22_are t ns ss source names w;
      code23 = labels.all23_are t ns ss source names w;
      code1 = classes.code1 t js ns ss source names w;
      code7 = classes.code7 t js ns ss source names w;
      code8 = classes.code8 t js ns ss source names w;
      code26 = classes.code26 t js ns ss source names w;
      code27 = classes.code27 t js ns ss source names w;
      code28_scopes = classes.code28_scopes t js ns ss source names w;
      code29_scopes = classes.code29_scopes t js ns ss source names w;
      code30_scopes = classes.code30_scopes t js ns ss source names w;
      code28 = λ f. classes.code28 t js ns ss source names w f;
      code29 = λ f. classes.code29 t js ns ss source names w f;
      code30 = λ f. classes.code30 t js ns ss source names w f;
    }
