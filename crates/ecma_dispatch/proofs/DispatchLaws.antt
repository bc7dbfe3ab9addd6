-- The dispatch is its table (Dispatch.antt), and with it the findings of a node with a code.
use Rattle.std.specs.Prelude.{ℕ, ◌≤◌, ◌≡◌, true, false, cond, eqb}
use Rattle.std.proofs.Math.Path.{refl, ap}
use Rattle.std.proofs.Common.{sym, subst, ◌∙◌}
use mathlib.Core.List.{List, [], ◌∷◌, ◌++◌, flat_map}
use Rattle.base_common.specs.Upto.{upto, all}
use Rattle.base_common.specs.Tests.{within}
use Rattle.base_walk.specs.On.{member}
use Rattle.table_records.specs.Table.{kind_of, count}
use Rattle.check_diagnostics.specs.declared.Finding.{Finding}
use Rattle.check_diagnostics.specs.Finding.{listed}
use Rattle.check_statements.specs.Statements.{check_body, check_consequent, check_alternate, check_function_declaration_in_labeled_statement}
use Rattle.check_identifiers.specs.Identifiers.{check_identifier}
use Rattle.check_expressions.specs.Expressions.{in_parameter, in_block}
use Rattle.check_classes.specs.ClassChecks.{check_class}
use Rattle.check_duplicates.specs.Duplicates.{duplicate_elements}
use Rattle.check_dispatch.specs.Findings.{findings_at, findings_of}
use Rattle.ecma_dispatch.specs.WithCode.{with_code}
use Rattle.ecma_dispatch.proofs.WithCodeLaws.{with_append, with_flat_map, coded_none, coded_all, coded_append, coded_flat_map, coded_more, each_code}
use Rattle.ecma_dispatch.specs.Coded.{Coded}
use Rattle.ecma_dispatch.specs.CheckCodes.{of_clash}
use Rattle.ecma_dispatch.proofs.CheckCodesLaws.{duplicate_codes, former_duplicates}
use Rattle.ecma_dispatch.specs.Table.{of_kind, by_code}
use Rattle.ecma_dispatch.proofs.TableLaws.{by_code_is, coded_table}
use Rattle.ecma_dispatch.proofs.ByKind.{any_name, await_or_yield, holders}
use Rattle.ecma_dispatch.specs.Dispatch.{listed_codes}
use Rattle.ecma_dispatch.proofs.Dispatch.{table}

module _ (t : ℕ) (ns ss source names : List ℕ) (n : ℕ) where
  -- it is the definition
  is_table : findings_at t ns ss source names n ≡ of_kind (kind_of ns n) (table t ns ss source names n)
  unfolding findings_at check_class
  is_table = refl

-- THE FINDINGS OF A NODE WITH A CODE
pub at_code : (c t : ℕ) (ns ss source names : List ℕ) (n : ℕ) → with_code c (findings_at t ns ss source names n) ≡ by_code c (kind_of ns n) (table t ns ss source names n)
at_code c t ns ss source names n = ap (with_code c) (is_table t ns ss source names n) ∙ by_code_is c (kind_of ns n) (table t ns ss source names n) refl

-- the same, where kinds that stand together have one check
module _ (t : ℕ) (ns ss source names : List ℕ) (n : ℕ) where
  pub at2 : with_code 2 (findings_at t ns ss source names n) ≡ cond (within (kind_of ns n) 31 33) (with_code 2 (listed (check_identifier t ns ss names n))) []
  at2 = at_code 2 t ns ss source names n ∙ any_name (kind_of ns n) (with_code 2 (listed (check_identifier t ns ss names n))) []

  pub at3 : with_code 3 (findings_at t ns ss source names n) ≡ cond (within (kind_of ns n) 31 33) (with_code 3 (listed (check_identifier t ns ss names n))) (cond (eqb (kind_of ns n) 47) (listed (in_block ns ss n)) [])
  at3 = at_code 3 t ns ss source names n ∙ any_name (kind_of ns n) (with_code 3 (listed (check_identifier t ns ss names n))) (cond (eqb (kind_of ns n) 47) (listed (in_block ns ss n)) [])

  -- of 15 and 16, for the statements that hold another
  abbrev pub held : (c : ℕ) → List Finding
  held c =
      cond (eqb (kind_of ns n) 6) (with_code c (listed (check_function_declaration_in_labeled_statement ns ss n)))
      (cond (eqb (kind_of ns n) 12) (with_code c (listed (check_consequent ns ss n)) ++ with_code c (listed (check_alternate ns ss n))) (cond (within (kind_of ns n) 7 13) (with_code c (listed (check_body ns ss n))) []))

  pub at15 : with_code 15 (findings_at t ns ss source names n) ≡ held 15
  at15 = at_code 15 t ns ss source names n ∙ holders (kind_of ns n) (with_code 15 (listed (check_body ns ss n))) (with_code 15 (listed (check_consequent ns ss n)) ++ with_code 15 (listed (check_alternate ns ss n))) (with_code 15 (listed (check_function_declaration_in_labeled_statement ns ss n)))

  pub at16 : with_code 16 (findings_at t ns ss source names n) ≡ held 16
  at16 = at_code 16 t ns ss source names n ∙ holders (kind_of ns n) (with_code 16 (listed (check_body ns ss n))) (with_code 16 (listed (check_consequent ns ss n)) ++ with_code 16 (listed (check_alternate ns ss n))) (with_code 16 (listed (check_function_declaration_in_labeled_statement ns ss n)))

  pub at33 : with_code 33 (findings_at t ns ss source names n) ≡ cond (within (kind_of ns n) 47 48) (listed (in_parameter ns n)) []
  at33 = at_code 33 t ns ss source names n ∙ await_or_yield (kind_of ns n) (listed (in_parameter ns n))

-- The findings of the tree with a code, node by node; duplicate class elements have code 1, and in TypeScript 35.
module _ (t : ℕ) (ns ss source names : List ℕ) where
  whole : (c : ℕ) → with_code c (findings_of t ns ss source names) ≡ with_code c (duplicate_elements t ns names) ++ flat_map (λ j. with_code c (findings_at t ns ss source names j)) (upto 0 (count ns))
  unfolding findings_of
  whole c =
      with_append c (duplicate_elements t ns names) (flat_map (findings_at t ns ss source names) (upto 0 (count ns)))
      ∙ ap (λ l. with_code c (duplicate_elements t ns names) ++ l) (with_flat_map c (findings_at t ns ss source names) (upto 0 (count ns)))

  whole_but : (cs : List ℕ) → Coded cs (duplicate_elements t ns names) → (c : ℕ) → member c cs ≡ false → with_code c (findings_of t ns ss source names) ≡ flat_map (λ j. with_code c (findings_at t ns ss source names j)) (upto 0 (count ns))
  whole_but cs d c e = whole c ∙ ap (λ l. l ++ flat_map (λ j. with_code c (findings_at t ns ss source names j)) (upto 0 (count ns))) (coded_none c cs (duplicate_elements t ns names) e d)

  pub whole_other : (c : ℕ) → member c of_clash ≡ false → with_code c (findings_of t ns ss source names) ≡ flat_map (λ j. with_code c (findings_at t ns ss source names j)) (upto 0 (count ns))
  whole_other c e = whole_but of_clash (duplicate_codes t ns names) c e

  -- NO OTHER CODE: every finding's code is one of those that the documents list
  pub coded_at : (n : ℕ) → Coded listed_codes (findings_at t ns ss source names n)
  coded_at n = subst (Coded listed_codes) (sym (is_table t ns ss source names n)) (coded_table listed_codes (kind_of ns n) (table t ns ss source names n) refl)

  -- of types 0 and 1
  module _ (s : t ≤ 1) where
    pub whole_one : with_code 1 (findings_of t ns ss source names) ≡ duplicate_elements t ns names ++ flat_map (λ j. with_code 1 (findings_at t ns ss source names j)) (upto 0 (count ns))
    whole_one = whole 1 ∙ ap (λ l. l ++ flat_map (λ j. with_code 1 (findings_at t ns ss source names j)) (upto 0 (count ns))) (coded_all 1 (duplicate_elements t ns names) (former_duplicates t s ns names))

    pub whole_script : (c : ℕ) → member c (1 ∷ []) ≡ false → with_code c (findings_of t ns ss source names) ≡ flat_map (λ j. with_code c (findings_at t ns ss source names j)) (upto 0 (count ns))
    whole_script c e = whole_but (1 ∷ []) (former_duplicates t s ns names) c e

    pub codes_listed : all (λ f. within f.code 1 33) (findings_of t ns ss source names) ≡ true
    unfolding findings_of
    codes_listed =
        each_code (λ c. within c 1 33) listed_codes refl
        (coded_append listed_codes (duplicate_elements t ns names) (flat_map (findings_at t ns ss source names) (upto 0 (count ns))) (coded_more (1 ∷ []) listed_codes refl (former_duplicates t s ns names))
        (coded_flat_map listed_codes (findings_at t ns ss source names) coded_at (upto 0 (count ns))))
