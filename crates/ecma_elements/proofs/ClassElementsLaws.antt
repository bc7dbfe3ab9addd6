-- THE FINDINGS ON THE ELEMENTS OF ONE CLASS OR OBJECT ARE BREACHES OF 15.7 AND 13.2.5.1: codes 26 and 27 at a Class, 1 at an Object.
use Rattle.table_records.specs.declared.NodeId.{NodeId}
use Rattle.std.specs.Prelude.{ℕ, ◌+◌, ◌<◌, ◌≡◌, List, [], ◌∷◌, Bool, cond, not, ◌&&◌, ◌||◌, length, Option, Some, None, is_some}
use Rattle.std.proofs.Math.Path.{refl, sym}
use Rattle.std.proofs.Common.{ap, ◌∙◌, ⊎_elim, eq-or-lt_of_le, arith, lt-ltb, ne_eqb, eqb-true}
use Rattle.std.proofs.Math.Bool.{true, false}
use Rattle.std.proofs.lemmas.Bool.{eqb-false}
use Rattle.std.proofs.Math.Dec.{eqb, ltb}
use Rattle.base_common.proofs.Bools.{never, in_range_lem, range_of}
use Rattle.base_common.specs.Tests.{within}
use Rattle.base_walk.specs.On.{member}
use Rattle.table_records.specs.Table.{kind_of, parent_of, span_start_of, flags_of, has_flag}
use Rattle.table_records.specs.Kinds as k
use Rattle.table_records.specs.NodeFlag as flag
use Rattle.table_names.specs.Name.{same, name_of}
use Rattle.table_children.specs.Children.{keep, children, first_child, key_of, inner_of, value_of, function_body_of, class_body_of}
use Rattle.ecma_trees.specs.Walk.{only}
use Rattle.check_diagnostics.specs.Finding.{listed, error_span}
use Rattle.check_diagnostics.specs.Codes as code
use Rattle.check_diagnostics.specs.Contexts as context
use Rattle.check_class_table.specs.Elements.{has_body, has_body_at}
use Rattle.check_class_table.specs.Elements as e
use Rattle.check_classes.specs.ClassChecks.{require_class_name, constructors, first_pair, second_by, second_constructor}
use Rattle.check_dispatch.specs.Findings.{findings_at}
use Rattle.ecma_dispatch.specs.WithCode.{with_code}
use Rattle.ecma_dispatch.proofs.DispatchLaws.{at_code}
use Rattle.ecma_dispatch.specs.NodesOf.{nodes_of, raised}
use Rattle.table_lists.proofs.ListLaws.{keep_alike}
use Rattle.ecma_elements.proofs.RaisingLaws.{keep_same}
use Rattle.ecma_dispatch.proofs.NodesOfLaws.{raised_again}
use Rattle.ecma_elements.specs.ClassElements.{name_found, key_name, literal_name, prop_name, is_definition, is_static, constructor_word, elements_in, class_elements, names_constructor, constructor_twice, name_missing}
use Rattle.ecma_elements.specs.Changed.{body_in, is_constructor, written_key, keyed_constructor, called_constructor, built_twice, ConstructorsNamed}

pub body_in_lem : (ns : List ℕ) (f : Option NodeId) → has_body_at ns f ≡ body_in ns f
body_in_lem ns (Some m) = refl
body_in_lem ns None = refl

pairs : (t : ℕ) (ns : List ℕ) (n : ℕ) (l : List ℕ) → raised 27 (listed (first_pair t ns n l)) ≡ only (ltb 1 (length l)) n
unfolding nodes_of with_code
pairs t ns n [] = refl
pairs t ns n (a ∷ []) = refl
pairs t ns n (a ∷ b ∷ l) = rw (lt-ltb 1 (length (a ∷ b ∷ l)) (omega arith))

-- what the check counts
counted : (ns : List ℕ) (l : List ℕ) → keep (λ x. e.is_constructor ns x && has_body ns x) l ≡ keep (is_constructor ns) l
unfolding is_constructor has_body
counted ns l = keep_same (λ x. e.is_constructor ns x && has_body ns x) (is_constructor ns) (λ x. ap (λ (b : Bool). e.is_constructor ns x && b) (body_in_lem ns (value_of ns x))) l

second_by_lem : (t : ℕ) (ns : List ℕ) (n : ℕ) (f : Option NodeId) → raised 27 (listed (second_by t ns n f)) ≡ only (ltb 1 (length (keep (is_constructor ns) (elements_in ns f)))) n
unfolding constructors keep nodes_of with_code
second_by_lem t ns n (Some b) = pairs t ns n (constructors ns b.0) ∙ rw (counted ns (children ns b.0))
second_by_lem t ns n None = refl

require_by : (ns : List ℕ) (n : ℕ) → eqb (kind_of ns n) k.Class ≡ true → raised 26 (listed (require_class_name ns n)) ≡ only (name_missing ns n) n
unfolding require_class_name name_missing nodes_of with_code
require_by ns n h =
    rw h
    (go (has_flag (flags_of ns n) flag.Declaration) (is_some (first_child ns n k.BindingIdentifier k.BindingIdentifier 0 7)) (eqb (kind_of ns (parent_of ns n)) k.ExportDefault))
  where
    go : (a b x : Bool)
        → raised 26 (listed (cond (a && (not b && not x)) (error_span code.require_class_name n (span_start_of ns n) (span_start_of ns n + 5) context.none) None)) ≡ only (a && not (b || x)) n
    go true true x = refl
    go true false true = refl
    go true false false = refl
    go false b x = refl

no_class : (ns : List ℕ) (n : ℕ) → eqb (kind_of ns n) k.Class ≡ false → name_missing ns n ≡ false
unfolding name_missing
no_class ns n e = rw e

module _ (t : ℕ) (ns ss source names : List ℕ) (n : ℕ) where
  -- 26: one finding at a class declaration that lacks its name
  pub class_name_lem : raised 26 (findings_at t ns ss source names n) ≡ only (name_missing ns n) n
  unfolding nodes_of with_code
  class_name_lem = sym (raised_again 26 (findings_at t ns ss source names n)) ∙ rw (at_code 26 t ns ss source names n) (go (eqb (kind_of ns n) k.Class) refl)
    where
      go : (b : Bool) → eqb (kind_of ns n) k.Class ≡ b → raised 26 (cond b (listed (require_class_name ns n)) []) ≡ only (name_missing ns n) n
      go true e = require_by ns n e
      go false e = sym (ap (λ (x : Bool). only x n) (no_class ns n e))

  -- 27: one finding at a class with more than one constructor that has a body
  pub second_constructor_lem : raised 27 (findings_at t ns ss source names n) ≡ only (built_twice ns n) n
  unfolding built_twice class_elements nodes_of with_code
  second_constructor_lem = sym (raised_again 27 (findings_at t ns ss source names n)) ∙ rw (at_code 27 t ns ss source names n) (go (eqb (kind_of ns n) k.Class))
    where
      go : (b : Bool) → raised 27 (cond b (listed (second_constructor t ns n)) []) ≡ only (b && ltb 1 (length (keep (is_constructor ns) (elements_in ns (class_body_of ns n))))) n
      go true = second_by_lem t ns n (class_body_of ns n)
      go false = refl

-- what is no definition is neither
neither : (ns names : List ℕ) (e : ℕ) → is_definition ns e ≡ false → is_constructor ns e ≡ names_constructor ns names e
unfolding is_constructor names_constructor
neither ns names e d = rw (d, ne_eqb (kind_of ns e) k.MethodDefinition (λ (q : kind_of ns e ≡ k.MethodDefinition). never (sym (rw q) ∙ d)))

-- the two numbers of a range of two
pub range_two : (a lo : ℕ) → within a lo (lo + 1) ≡ (eqb a lo || eqb a (lo + 1))
range_two a lo = go (within a lo (lo + 1)) refl (eqb a lo) refl (eqb a (lo + 1)) refl
  where
    go : (w : Bool) → within a lo (lo + 1) ≡ w → (x : Bool) → eqb a lo ≡ x → (y : Bool) → eqb a (lo + 1) ≡ y → w ≡ (x || y)
    go true w true x y z = refl
    go true w false x true z = refl
    go true w false x false z =
        let r = range_of a lo (lo + 1) w in
        let r0 = r.0 in
        let r1 = r.1 in
        ⊎_elim (λ (q : lo ≡ a). absurd (eqb-false a lo x (sym q))) (λ (q : lo < a). absurd (eqb-false a (lo + 1) z (omega arith))) (eq-or-lt_of_le r0)
    go false w true x y z = let q = eqb-true a lo x in never (sym (in_range_lem a lo (lo + 1) (omega arith) (omega arith)) ∙ w)
    go false w false x true z = let q = eqb-true a (lo + 1) z in never (sym (in_range_lem a lo (lo + 1) (omega arith) (omega arith)) ∙ w)
    go false w false x false z = refl

-- a LiteralPropertyName is a key that the table has written so
pub literal_written : (ns : List ℕ) (f : Option NodeId) → literal_name ns f ≡ written_key ns f
literal_written ns (Some m) = ap (λ (b : Bool). b || (eqb (kind_of ns m.0) k.AnythingElse && not (is_some (inner_of ns m.0)))) (range_two (kind_of ns m.0) 35)
literal_written ns None = refl

-- an element names "constructor" where the table says that it is called so
pub names_called : (ns names : List ℕ) (e : ℕ) → is_definition ns e ≡ true → names_constructor ns names e ≡ called_constructor ns names e
unfolding names_constructor called_constructor prop_name key_name same
names_called ns names e d = rw d (ap (λ (b : Bool). not (is_static ns e) && b) (go (key_of ns e) (has_flag (flags_of ns e) flag.PrivateKey)))
  where
    by : (c : Bool) (l : List ℕ) → same (cond c l []) constructor_word ≡ (c && same l constructor_word)
    by true l = refl
    by false l = refl

    go : (f : Option NodeId) (p : Bool) → same (cond (not p && literal_name ns f) (name_found ns names f) []) constructor_word ≡ (not p && keyed_constructor ns names f)
    go (Some m) true = refl
    go (Some m) false = by (literal_name ns (Some m)) (name_of ns names m.0) ∙ ap (λ (b : Bool). b && same (name_of ns names m.0) constructor_word) (literal_written ns (Some m))
    go None true = refl
    go None false = refl

-- where the elements called so are the constructors, ..
named_alike : (ns names : List ℕ) (n : ℕ) → ConstructorsNamed ns names n → (e : ℕ) → member e (class_elements ns n) ≡ true → is_constructor ns e ≡ names_constructor ns names e
named_alike ns names n w e m = go (is_definition ns e) refl
  where
    either_way : (a b : Bool) → (a ≡ true → b ≡ true) → (b ≡ true → a ≡ true) → a ≡ b
    either_way true b f g = sym (f refl)
    either_way false true f g = g refl
    either_way false false f g = refl

    go : (b : Bool) → is_definition ns e ≡ b → is_constructor ns e ≡ names_constructor ns names e
    go true d = either_way (is_constructor ns e) (called_constructor ns names e) (w.called e m) (w.alone e m d) ∙ sym (names_called ns names e d)
    go false d = neither ns names e d

-- .. that is the standard's rule
pub constructors_agree : (ns names : List ℕ) (n : ℕ) → ConstructorsNamed ns names n → built_twice ns n ≡ constructor_twice ns names n
unfolding built_twice constructor_twice
constructors_agree ns names n w = rw (keep_alike (is_constructor ns) (names_constructor ns names) (class_elements ns n) (named_alike ns names n w))
