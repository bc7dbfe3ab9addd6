-- "FOR TYPES 0 AND 1 FINDINGS ARE WHAT THEY WERE" (document 02, request 13): of all tables, to the last number.
use Rattle.table_records.specs.declared.ClassId.{ClassId}
use Rattle.table_records.specs.declared.NodeId.{NodeId}
use Rattle.std.specs.Prelude.{ℕ, ◌-◌, ◌≤◌, ◌≡◌, Bool, not, ◌&&◌, ◌||◌, ltb, Option, Some, None}
use Rattle.std.proofs.Math.Path.{refl, ap, sym}
use Rattle.std.proofs.Common.{◌∙◌, eqb-true}
use mathlib.Core.List.{List, [], ◌∷◌, ◌++◌, foldl, flat_map}
use Rattle.std.proofs.Math.Bool.{true, false, cond, xor}
use Rattle.std.proofs.Math.Dec.{eqb}
use Rattle.base_common.specs.Upto.{upto, any}
use Rattle.table_source.proofs.SourceTypeLaws.{no_typescript}
use Rattle.table_records.specs.Table.{kind_of, extra_of, count}
use Rattle.table_records.specs.Kinds as k
use Rattle.table_names.specs.Name.{same, name_of}
use Rattle.table_children.specs.Children.{keep, children, class_body_of}
use Rattle.check_diagnostics.specs.declared.Finding.{Finding}
use Rattle.check_diagnostics.specs.Finding.{listed}
use Rattle.check_diagnostics.proofs.Gather.{flat_keep, flat_same_lem}
use Rattle.check_statements.specs.Statements.{check_with_statement}
use Rattle.check_class_table.specs.Classes.{current_class, outer_classes, classes_of}
use Rattle.check_class_table.specs.Elements.{element_name, is_static, is_private, is_getter, is_setter, is_definition, fixed_name, enters, elements, privates, is_compared, compared, has_private, is_declared}
use Rattle.check_class_table.proofs.ElementsLaws.{keep_same, any_same}
use Rattle.check_classes.specs.ClassChecks.{references, constructors, undeclared_at, undeclared_in, undeclared_by, private_undeclared, constructor_span, first_pair, second_by, check_class}
use Rattle.check_duplicates.specs.declared.Place.{Place}
use Rattle.check_duplicates.specs.Duplicates.{nowhere, here, number, step, last_of, side_of, is_earlier, previous_on, previous_of, is_pair, clashes, clash_code, redeclaration, duplicate_by, duplicate_at, duplicates_in, duplicate_elements}
use Rattle.check_duplicates.proofs.DuplicatesLaws.{last_keep}
use Rattle.check_dispatch.specs.Findings.{findings_at, findings_of}
use Rattle.check_dispatch.specs.Former as former

-- what an element is: a getter, a setter, or neither
pub data Sort (ns : List ℕ) (e : ℕ) : Type 0 where
  gets : is_getter ns e ≡ true → is_setter ns e ≡ false → extra_of ns e ≡ 2 → Sort ns e
  sets : is_getter ns e ≡ false → is_setter ns e ≡ true → extra_of ns e ≡ 3 → Sort ns e
  neither : is_getter ns e ≡ false → is_setter ns e ≡ false → Sort ns e

pub sort : (ns : List ℕ) (e : ℕ) → Sort ns e
sort ns e = go (eqb (kind_of ns e) k.MethodDefinition) refl (eqb (extra_of ns e) 2) refl (eqb (extra_of ns e) 3) refl
  where
    go : (a : Bool) → eqb (kind_of ns e) k.MethodDefinition ≡ a → (b : Bool) → eqb (extra_of ns e) 2 ≡ b → (c : Bool) → eqb (extra_of ns e) 3 ≡ c → Sort ns e
    go true p true q c r = let x = eqb-true (extra_of ns e) 2 q in gets (rw (p, q)) (rw (p, x)) x
    go true p false q true r = sets (rw (p, q)) (rw (p, r)) (eqb-true (extra_of ns e) 3 r)
    go true p false q false r = neither (rw (p, q)) (rw (p, r))
    go false p b q c r = neither (rw p) (rw p)

turned : (x y : Bool) → xor x y ≡ xor y x
unfolding xor
turned true true = refl
turned true false = refl
turned false true = refl
turned false false = refl

-- two private elements of one name clash just where they did
pub same_clash : (ns : List ℕ) (d e : ℕ) → is_private ns e ≡ true → clashes ns d e ≡ former.is_duplicate ns d e
unfolding clashes former.is_duplicate
same_clash ns d e h = rw h (go (sort ns d) (sort ns e))
  where
    go : Sort ns d → Sort ns e → (not (is_pair ns d e) || xor (is_static ns d) (is_static ns e)) ≡ former.is_duplicate ns d e
    go (gets p q x) (gets r s y) = rw (p, q, r, s, x, y)
    go (gets p q x) (sets r s y) = rw (p, q, r, s, x, y) (turned (is_static ns d) (is_static ns e))
    go (gets p q x) (neither r s) = rw (p, q, r, s)
    go (sets p q x) (gets r s y) = rw (p, q, r, x, y) (turned (is_static ns d) (is_static ns e))
    go (sets p q x) (sets r s y) = rw (p, q, r, s, x, y)
    go (sets p q x) (neither r s) = rw (p, q, r, s)
    go (neither p q) (gets r s y) = rw (p, q, r)
    go (neither p q) (sets r s y) = rw (p, q, r, s)
    go (neither p q) (neither r s) = rw (p, q, r, s)

-- the last of a list, by tests that agree
last_same : (q r : ℕ → Bool) → ((d : ℕ) → q d ≡ r d) → (l : List ℕ) (p : Place) → foldl (step q) p l ≡ foldl (step r) p l
last_same q r h [] p = refl
last_same q r h (d ∷ l) p = ap (λ (b : Bool). foldl (step q) (cond b (here d) p) l) (h d) ∙ last_same q r h l (step r p d)

module _ (t : ℕ) (s : t ≤ 1) (ns : List ℕ) where
  same_enters : (e : ℕ) → enters t ns e ≡ former.enters ns e
  unfolding enters fixed_name former.enters
  same_enters e = rw (no_typescript t s)

  same_elements : (c : ℕ) → elements t ns c ≡ former.elements ns c
  unfolding elements former.elements
  same_elements c = keep_same (enters t ns) (former.enters ns) same_enters (keep (is_definition ns) (children ns c))

  pub same_privates : (c : ℕ) → privates t ns c ≡ former.privates ns c
  unfolding privates former.privates
  same_privates c = ap (keep (is_private ns)) (same_elements c)

  same_compared : (c : ℕ) → compared t ns c ≡ former.privates ns c
  unfolding compared former.privates
  same_compared c = keep_same (is_compared t ns) (is_private ns) (λ e. rw (no_typescript t s)) (elements t ns c) ∙ ap (keep (is_private ns)) (same_elements c)

  same_span : (e : ℕ) → constructor_span t ns e ≡ former.constructor_span ns e
  unfolding constructor_span fixed_name former.constructor_span
  same_span e = rw (no_typescript t s)

  same_pair : (n : ℕ) (l : List ℕ) → first_pair t ns n l ≡ former.first_pair ns n l
  same_pair n [] = refl
  same_pair n (a ∷ []) = refl
  same_pair n (a ∷ b ∷ l) = rw (same_span a, same_span b)

  same_second : (n : ℕ) (f : Option NodeId) → second_by t ns n f ≡ former.second_by ns n f
  same_second n (Some b) = same_pair n (constructors ns b.0)
  same_second n None = refl

  pub same_with : (ss : List ℕ) (n : ℕ) → check_with_statement t ns ss n ≡ former.check_with_statement ns ss n
  unfolding check_with_statement former.check_with_statement
  same_with ss n = rw (no_typescript t s)

  module _ (names : List ℕ) where
    same_has : (c : ℕ) (name : List ℕ) → has_private t ns names c name ≡ former.has_private ns names c name
    unfolding has_private former.has_private
    same_has c name = ap (any (λ e. same (element_name ns names e) name)) (same_privates c)

    same_declared : (c : ℕ) (name : List ℕ) → is_declared t ns names c name ≡ former.is_declared ns names c name
    unfolding is_declared former.is_declared
    same_declared c name = any_same (λ d. has_private t ns names d name) (λ d. former.has_private ns names d name) (λ d. same_has d name) (c ∷ outer_classes ns c)

    same_at : (n c m : ℕ) → undeclared_at t ns names n c m ≡ former.undeclared_at ns names n c m
    unfolding undeclared_at former.undeclared_at
    same_at n c m = rw (same_declared c (name_of ns names m))

    same_by_lem : (n : ℕ) (c : Option ClassId) → undeclared_by t ns names n c ≡ former.undeclared_by ns names n c
    unfolding undeclared_in former.undeclared_in
    same_by_lem n (Some c) = flat_same_lem (λ m. listed (undeclared_at t ns names n c.0 m)) (λ m. listed (former.undeclared_at ns names n c.0 m)) (λ m. ap listed (same_at n c.0 m)) (references ns c.0)
    same_by_lem n None = refl

    pub same_undeclared : (n : ℕ) → private_undeclared t ns names n ≡ former.private_undeclared ns names n
    same_undeclared n = same_by_lem n (current_class ns n)

    same_class : (n : ℕ) → check_class t ns names n ≡ former.check_class ns names n
    unfolding check_class former.check_class
    same_class n = rw (same_undeclared n, same_second n (class_body_of ns n))

    -- of a private element: its side and the earlier ones
    module _ (c e : ℕ) (h : is_private ns e ≡ true) where
      same_side : side_of ns e ≡ former.side_of ns e
      unfolding side_of former.side_of
      same_side = rw h

      earlier : (side d : ℕ) → is_earlier ns names e side d ≡ (is_private ns d && former.is_earlier ns names e side d)
      unfolding side_of former.side_of
      earlier side d = rw h (go (ltb d e) (is_private ns d) (same (element_name ns names d) (element_name ns names e)) (is_setter ns d))
        where
          go : (l p n q : Bool) → (l && ((p && n) && eqb (cond (p && q) 1 0) side)) ≡ (p && (l && (n && eqb (cond q 1 0) side)))
          go true true n q = refl
          go true false n q = refl
          go false true n q = refl
          go false false n q = refl

      same_on : (side : ℕ) → previous_on t ns names c e side ≡ former.previous_on ns names c e side
      unfolding previous_on last_of former.previous_on former.privates
      same_on side =
          ap (foldl (step (is_earlier ns names e side)) nowhere) (same_elements c)
          ∙ last_same (is_earlier ns names e side) (λ d. is_private ns d && former.is_earlier ns names e side d) (earlier side) (former.elements ns c) nowhere
          ∙ sym (last_keep (former.is_earlier ns names e side) (is_private ns) (former.elements ns c) nowhere)

      same_previous : previous_of t ns names c e ≡ former.previous_of ns names c e
      unfolding previous_of former.previous_of
      same_previous = rw (same_side, same_on (former.side_of ns e), same_on (1 - former.side_of ns e))

      same_redeclared : (d : ℕ) → redeclaration t ns d e ≡ former.redeclaration ns d e
      unfolding redeclaration clash_code former.redeclaration
      same_redeclared d = rw (no_typescript t s)

      same_raised : duplicate_at t ns names c e ≡ former.duplicate_at ns names c e
      unfolding duplicate_by former.duplicate_by
      same_raised = rw (same_previous, same_clash ns (number (former.previous_of ns names c e)) e h, same_redeclared (number (former.previous_of ns names c e)))

    abbrev raises_now : ℕ → ℕ → List Finding
    raises_now c e = listed (duplicate_at t ns names c e)

    abbrev raised_then : ℕ → ℕ → List Finding
    raised_then c e = listed (former.duplicate_at ns names c e)

    pub same_in : (c : ℕ) → duplicates_in t ns names c ≡ former.duplicates_in ns names c
    unfolding duplicates_in former.duplicates_in former.privates
    same_in c =
        ap (flat_map (raises_now c)) (same_compared c)
        ∙ flat_keep (raises_now c) (is_private ns) (former.elements ns c)
        ∙ flat_same_lem (λ e. cond (is_private ns e) (raises_now c e) []) (λ e. cond (is_private ns e) (raised_then c e) []) (λ e. go e (is_private ns e) refl) (former.elements ns c)
        ∙ sym (flat_keep (raised_then c) (is_private ns) (former.elements ns c))
      where
        go : (e : ℕ) (b : Bool) → is_private ns e ≡ b → cond b (raises_now c e) [] ≡ cond b (raised_then c e) []
        go e true h = ap listed (same_raised c e h)
        go e false h = refl

    pub same_duplicates : duplicate_elements t ns names ≡ former.duplicate_elements ns names
    unfolding duplicate_elements former.duplicate_elements
    same_duplicates = flat_same_lem (duplicates_in t ns names) (former.duplicates_in ns names) same_in (classes_of ns)

    module _ (ss source : List ℕ) where
      pub former_at : (n : ℕ) → findings_at t ns ss source names n ≡ former.findings_at t ns ss source names n
      unfolding findings_at former.findings_at
      former_at n = rw (same_with ss n, same_class n)

      -- THE THEOREM
      pub former_of : findings_of t ns ss source names ≡ former.findings_of t ns ss source names
      unfolding findings_of former.findings_of
      former_of = rw (same_duplicates) (ap (λ (l : List Finding). former.duplicate_elements ns names ++ l) (flat_same_lem (findings_at t ns ss source names) (former.findings_at t ns ss source names) former_at (upto 0 (count ns))))
