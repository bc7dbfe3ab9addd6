-- WHAT A TYPESCRIPT MODULE HAS DIFFERENT FROM A MODULE OF JAVASCRIPT (document 02, request 13), of all tables: 1 at classes, 8, 17, the spans of 27, and 35. All else is the same, to the last number.
use Rattle.table_records.specs.declared.NodeId.{NodeId}
use Rattle.std.specs.Prelude.{ℕ, ◌≡◌, refl, Bool, true, false, cond, ◌||◌, eqb, Option, Some, None}
use Rattle.std.proofs.Common.{ap, sym, ◌∙◌, eqb-true}
use mathlib.Core.List.{List, [], ◌∷◌, ◌++◌}
use Rattle.base_common.specs.Upto.{upto}
use Rattle.base_common.proofs.Bools.{or3, or5}
use Rattle.base_walk.specs.On.{member}
use Rattle.table_records.specs.Table.{kind_of, count}
use Rattle.table_records.specs.Kinds as k
use Rattle.table_children.specs.Children.{class_body_of}
use Rattle.check_diagnostics.specs.Finding.{listed}
use Rattle.check_diagnostics.proofs.Gather.{flat_same_lem}
use Rattle.check_identifiers.specs.Identifiers.{await_finding, strict_context, check_identifier, check_binding_identifier, check_identifier_reference}
use Rattle.check_statements.specs.Statements.{check_body, check_with_statement, check_using}
use Rattle.check_classes.specs.ClassChecks.{private_undeclared, require_class_name, constructors, first_pair, second_by, second_constructor, check_class}
use Rattle.check_dispatch.specs.Findings.{findings_at, findings_of}
use Rattle.check_dispatch.specs.Rule.{rule}
use Rattle.ecma_dispatch.specs.WithCode.{with_code}
use Rattle.ecma_dispatch.proofs.WithCodeLaws.{with_append, coded_none}
use Rattle.ecma_dispatch.specs.NodesOf.{nodes_of, raised}
use Rattle.ecma_dispatch.proofs.NodesOfLaws.{raised_again}
use Rattle.ecma_dispatch.specs.CheckCodes.{of_clash}
use Rattle.ecma_dispatch.proofs.CheckCodesLaws.{with_codes, undeclared_codes, constructor_codes, duplicate_codes}
use Rattle.ecma_dispatch.proofs.DispatchLaws.{at_code, whole_other}
use Rattle.ecma_dispatch.proofs.OptionLaws.{at34}
use Rattle.ecma_dispatch.specs.Typescript.{Typescript}

-- a TypeScript module is a module
same_name : (ns ss names : List ℕ) (n : ℕ) → check_identifier 2 ns ss names n ≡ check_identifier 1 ns ss names n
unfolding check_identifier await_finding strict_context
same_name ns ss names n = refl

same_binding : (ns ss names : List ℕ) (n : ℕ) → check_binding_identifier 2 ns ss names n ≡ check_binding_identifier 1 ns ss names n
unfolding check_binding_identifier strict_context
same_binding ns ss names n = refl

same_reference : (ns ss names : List ℕ) (n : ℕ) → check_identifier_reference 2 ns ss names n ≡ check_identifier_reference 1 ns ss names n
unfolding check_identifier_reference strict_context
same_reference ns ss names n = refl

same_using : (ns ss : List ℕ) (n : ℕ) → check_using 2 ns ss n ≡ check_using 1 ns ss n
unfolding check_using
same_using ns ss n = refl

same_pair : (ns : List ℕ) (n : ℕ) (l : List ℕ) → raised 27 (listed (first_pair 2 ns n l)) ≡ raised 27 (listed (first_pair 1 ns n l))
unfolding nodes_of with_code
same_pair ns n [] = refl
same_pair ns n (a ∷ []) = refl
same_pair ns n (a ∷ b ∷ l) = refl

same_second : (ns : List ℕ) (n : ℕ) (f : Option NodeId) → raised 27 (listed (second_by 2 ns n f)) ≡ raised 27 (listed (second_by 1 ns n f))
same_second ns n (Some b) = same_pair ns n (constructors ns b.0)
same_second ns n None = refl

alone : (b : Bool) → b ≡ false → (b || false) ≡ false
alone b e = rw e

module _ (ns ss source names : List ℕ) where
  -- the two kinds of node at which something differs
  at_with_lem : (t n : ℕ) → kind_of ns n ≡ k.With → findings_at t ns ss source names n ≡ listed (check_body ns ss n) ++ listed (check_with_statement t ns ss n)
  unfolding findings_at
  at_with_lem t n e = rw e

  at_class_lem : (t n : ℕ) → kind_of ns n ≡ k.Class → findings_at t ns ss source names n ≡ private_undeclared t ns names n ++ (listed (require_class_name ns n) ++ listed (second_constructor t ns n))
  unfolding findings_at check_class
  at_class_lem t n e = rw e

  at_other : (n : ℕ) → eqb (kind_of ns n) k.With ≡ false → eqb (kind_of ns n) k.Class ≡ false → findings_at 2 ns ss source names n ≡ findings_at 1 ns ss source names n
  unfolding findings_at
  at_other n e f = rw (e, f, same_name ns ss names n, same_binding ns ss names n, same_reference ns ss names n, same_using ns ss n)

  -- without the codes that differ
  module _ (c : ℕ) (h : member c (8 ∷ 17 ∷ 27 ∷ []) ≡ false) where
    apart : (eqb c 8 ≡ false) × (eqb c 17 ≡ false) × ((eqb c 27 || false) ≡ false)
    apart = or3 (eqb c 8) (eqb c 17) (eqb c 27 || false) h

    with_part : (t n : ℕ) → kind_of ns n ≡ k.With → with_code c (findings_at t ns ss source names n) ≡ with_code c (listed (check_body ns ss n)) ++ []
    with_part t n e =
        ap (with_code c) (at_with_lem t n e)
        ∙ with_append c (listed (check_body ns ss n)) (listed (check_with_statement t ns ss n))
        ∙ ap (λ l. with_code c (listed (check_body ns ss n)) ++ l) (coded_none c (17 ∷ []) (listed (check_with_statement t ns ss n)) (alone (eqb c 17) apart.1) (with_codes t ns ss n))

    class_part_lem : (t n : ℕ) → kind_of ns n ≡ k.Class → with_code c (findings_at t ns ss source names n) ≡ with_code c (listed (require_class_name ns n)) ++ []
    class_part_lem t n e =
        ap (with_code c) (at_class_lem t n e)
        ∙ with_append c (private_undeclared t ns names n) (listed (require_class_name ns n) ++ listed (second_constructor t ns n))
        ∙ rw (coded_none c (8 ∷ []) (private_undeclared t ns names n) (alone (eqb c 8) apart.0) (undeclared_codes t ns names n))
        (with_append c (listed (require_class_name ns n)) (listed (second_constructor t ns n))
        ∙ ap (λ l. with_code c (listed (require_class_name ns n)) ++ l) (coded_none c (27 ∷ []) (listed (second_constructor t ns n)) apart.2 (constructor_codes t ns n)))

    others : (n : ℕ) → with_code c (findings_at 2 ns ss source names n) ≡ with_code c (findings_at 1 ns ss source names n)
    others n = go (eqb (kind_of ns n) k.With) refl (eqb (kind_of ns n) k.Class) refl
      where
        go : (x : Bool) → eqb (kind_of ns n) k.With ≡ x → (y : Bool) → eqb (kind_of ns n) k.Class ≡ y → with_code c (findings_at 2 ns ss source names n) ≡ with_code c (findings_at 1 ns ss source names n)
        go true e y f = let q = eqb-true (kind_of ns n) k.With e in with_part 2 n q ∙ sym (with_part 1 n q)
        go false e true f = let q = eqb-true (kind_of ns n) k.Class f in class_part_lem 2 n q ∙ sym (class_part_lem 1 n q)
        go false e false f = ap (with_code c) (at_other n e f)

  built : (n : ℕ) → raised 27 (findings_at 2 ns ss source names n) ≡ raised 27 (findings_at 1 ns ss source names n)
  built n =
      sym (raised_again 27 (findings_at 2 ns ss source names n))
      ∙ ap (raised 27) (at_code 27 2 ns ss source names n)
      ∙ go (eqb (kind_of ns n) k.Class)
      ∙ sym (ap (raised 27) (at_code 27 1 ns ss source names n))
      ∙ raised_again 27 (findings_at 1 ns ss source names n)
    where
      go : (b : Bool) → raised 27 (cond b (listed (second_constructor 2 ns n)) []) ≡ raised 27 (cond b (listed (second_constructor 1 ns n)) [])
      go true = same_second ns n (class_body_of ns n)
      go false = refl

  whole : (c : ℕ) → member c (1 ∷ 8 ∷ 17 ∷ 27 ∷ 35 ∷ []) ≡ false → with_code c (findings_of 2 ns ss source names) ≡ with_code c (findings_of 1 ns ss source names)
  whole c h =
      let w = or5 (eqb c 1) (eqb c 8) (eqb c 17) (eqb c 27) (eqb c 35 || false) h in
      let a : member c of_clash ≡ false = rw (w.0, w.4) in
      let b : member c (8 ∷ 17 ∷ 27 ∷ []) ≡ false = rw (w.1, w.2, w.3) in
      whole_other 2 ns ss source names c a
      ∙ flat_same_lem (λ j. with_code c (findings_at 2 ns ss source names j)) (λ j. with_code c (findings_at 1 ns ss source names j)) (others c b) (upto 0 (count ns))
      ∙ sym (whole_other 1 ns ss source names c a)

  -- THE THEOREM
  pub typescript : Typescript ns ss source names
  typescript = record {
    others = others;
    second_constructors = built;
    bodies = λ async_bodies n. at34 (rule 2 async_bodies ns ss source names) n ∙ sym (at34 (rule 1 async_bodies ns ss source names) n);
    classes = duplicate_codes 2 ns names;
    whole = whole;
  }
