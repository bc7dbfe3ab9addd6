-- Laws of the checks at a Class: references and constructors as scans of the nodes after a ClassBody meet them.
use Rattle.table_records.specs.declared.ClassId.{ClassId}
use Rattle.std.specs.Prelude.{ℕ, ◌+◌, ◌*◌, ◌≤◌, ◌<◌, ◌≡◌, Bool, cond, ◌&&◌, eqb, length, Option, Some, None}
use Rattle.std.proofs.Math.Path.{refl, sym}
use Rattle.std.proofs.Common.{ap, ◌∙◌, ne_eqb, eqb-true}
use mathlib.Core.List.{List, [], ◌∷◌, ◌++◌, flat_map}
use Rattle.std.proofs.Math.Bool.{true, false}
use native.Mathlib.Omega.{arith}
use Rattle.std.proofs.Math.ListN.{length-append}
use Rattle.base_common.specs.Upto.{upto}
use Rattle.base_common.proofs.UptoLaws.{and_left_lem, and_right_lem}
use Rattle.base_common.specs.Tests.{within}
use Rattle.base_walk.specs.On.{on}
use Rattle.base_walk.proofs.PreorderLaws.{interval, leaves, no_child}
use Rattle.table_records.specs.Table.{count, kind_of, parent_of}
use Rattle.table_records.specs.Facts.{Tree}
use Rattle.table_records.specs.Kinds as k
use Rattle.table_children.specs.Children.{keep, children}
use Rattle.table_children.proofs.ChildrenLaws.{keep_keep, no_node}
use Rattle.check_diagnostics.specs.declared.Finding.{Finding}
use Rattle.check_diagnostics.specs.Finding.{listed, sink}
use Rattle.check_diagnostics.proofs.FindingLaws.{sink_append}
use Rattle.check_class_table.specs.Classes.{class_at, body_above, current_class}
use Rattle.check_class_table.proofs.ClassesLaws.{over, class_found}
use Rattle.check_diagnostics.proofs.Gather.{flat_turn, flat_end, flat_none, flat_keep, flat_same_lem, listed_cond, kept_first_lem, kept_none}
use Rattle.check_classes.specs.ClassChecks.{is_class, is_reference, references, undeclared_at, undeclared_in, constructors, first_pair, private_undeclared, require_class_name, second_constructor, check_class, is_reference_of, raised_at, is_constructor_of, next_constructor}

-- what the nodes from i on raise as references of class c
unfoldable pub undeclared_from : ℕ → List ℕ → List ℕ → ℕ → ℕ → ℕ → List Finding
undeclared_from t ns names n c i = flat_map (λ m. listed (raised_at t ns names n c m)) (upto i (count ns))

-- the class current at a PrivateIdentifier is the nearest ClassBody above
current_name : (ns : List ℕ) (m : ℕ) → kind_of ns m ≡ k.PrivateIdentifier → current_class ns m ≡ class_at (body_above ns m)
unfolding current_class
current_name ns m e = rw (e)

is_class_lem : (c : ℕ) (r : Option ClassId) → is_class c r ≡ true → r ≡ Some (record { 0 = c })
is_class_lem c (Some d) e = ap (λ (x : ℕ). Some (record { 0 = x })) (eqb-true d.0 c e)
is_class_lem c None e = let z : ◌≡◌ {A = ℕ} 0 1 = cc in absurd (omega arith)

-- a reference of class c is below its body
reference_on : (ns : List ℕ) → Tree ns → (c m : ℕ) → m < count ns → is_reference_of ns c m ≡ true → on (parent_of ns) c m ≡ true
unfolding is_reference_of
reference_on ns t c m h e =
    let a = and_left_lem (is_reference ns m) (is_class c (current_class ns m)) e in
    let b = and_right_lem (is_reference ns m) (is_class c (current_class ns m)) e in
    let q : kind_of ns m ≡ k.PrivateIdentifier = eqb-true (kind_of ns m) k.PrivateIdentifier (and_left_lem (eqb (kind_of ns m) k.PrivateIdentifier) (within (kind_of ns (parent_of ns m)) k.OtherMember k.PrivateIn) a) in
    (over ns t k.ClassBody k.ClassBody m c h (class_found (body_above ns m) c (sym (current_name ns m q) ∙ is_class_lem c (current_class ns m) b))).over

module _ (t : ℕ) (ns names : List ℕ) (n c : ℕ) where
  pub from_start_lem : undeclared_from t ns names n c (c + 1) ≡ undeclared_in t ns names n c
  unfolding undeclared_from undeclared_in raised_at references is_reference_of
  from_start_lem =
      flat_same_lem _ _ (λ m. listed_cond (is_reference ns m && is_class c (current_class ns m)) (undeclared_at t ns names n c m)) (upto (c + 1) (count ns))
      ∙ sym (flat_keep (λ m. listed (undeclared_at t ns names n c m)) (λ m. is_reference ns m && is_class c (current_class ns m)) (upto (c + 1) (count ns)))

  pub from_turn : (i : ℕ) → i < count ns → undeclared_from t ns names n c i ≡ listed (raised_at t ns names n c i) ++ undeclared_from t ns names n c (i + 1)
  unfolding undeclared_from
  from_turn i h = flat_turn (λ m. listed (raised_at t ns names n c m)) i (count ns) h

  pub from_end_lem : (i : ℕ) → count ns ≤ i → undeclared_from t ns names n c i ≡ []
  unfolding undeclared_from
  from_end_lem i h = flat_end (λ m. listed (raised_at t ns names n c m)) i (count ns) h

  raised_none : (j : ℕ) → (is_reference_of ns c j ≡ true → ⊥) → listed (raised_at t ns names n c j) ≡ []
  unfolding raised_at
  raised_none j e = go (is_reference_of ns c j) refl
    where
      go : (b : Bool) → is_reference_of ns c j ≡ b → listed (cond b (undeclared_at t ns names n c j) None) ≡ []
      go true x = absurd (e x)
      go false x = refl

  -- past the nodes below the body there is none
  pub from_out : Tree ns → (i : ℕ) → c < i → i < count ns → parent_of ns i < c → undeclared_from t ns names n c i ≡ []
  unfolding undeclared_from
  from_out v i h l u =
      flat_none (λ m. listed (raised_at t ns names n c m)) i (count ns)
      (λ j x y. raised_none j (λ e. leaves (parent_of ns) (count ns) v.order c i h l u (interval (parent_of ns) (count ns) v.order c i j y (reference_on ns v c j y e) (omega arith) x)))

module _ (ns : List ℕ) (c : ℕ) where
  constructors_scan : constructors ns c ≡ keep (is_constructor_of ns c) (upto (c + 1) (count ns))
  unfolding constructors children is_constructor_of
  constructors_scan = keep_keep _ _ (upto (c + 1) (count ns))

  other : (j : ℕ) → (parent_of ns j ≡ c → ⊥) → is_constructor_of ns c j ≡ false
  unfolding is_constructor_of
  other j e = rw (ne_eqb (parent_of ns j) c e)

  pub constructor_out : Tree ns → (i : ℕ) → c < i → i < count ns → parent_of ns i < c → next_constructor ns c i ≡ None
  constructor_out t i h l u = no_node (is_constructor_of ns c) (count ns) i (λ j x y. other j (λ e. no_child (parent_of ns) (count ns) t.order c i j h u x y e))

-- what the two searches say of the first pair
module _ (t : ℕ) (ns : List ℕ) (c : ℕ) where
  pub none_found : (n : ℕ) → next_constructor ns c (c + 1) ≡ None → first_pair t ns n (constructors ns c) ≡ None
  none_found n e = rw (constructors_scan ns c, kept_none (is_constructor_of ns c) (count ns) (c + 1) e)

  pub one_found : (n a : ℕ) → next_constructor ns c (c + 1) ≡ Some (record { 0 = a }) → next_constructor ns c (a + 1) ≡ None → first_pair t ns n (constructors ns c) ≡ None
  one_found n a e f = rw (constructors_scan ns c, kept_first_lem (is_constructor_of ns c) (count ns) (c + 1) a e, kept_none (is_constructor_of ns c) (count ns) (a + 1) f)

  pub two_found : (n a b : ℕ) → next_constructor ns c (c + 1) ≡ Some (record { 0 = a }) → next_constructor ns c (a + 1) ≡ Some (record { 0 = b })
      → first_pair t ns n (constructors ns c) ≡ first_pair t ns n (a ∷ b ∷ [])
  two_found n a b e f = rw (constructors_scan ns c, kept_first_lem (is_constructor_of ns c) (count ns) (c + 1) a e, kept_first_lem (is_constructor_of ns c) (count ns) (a + 1) b f)

-- the three parts of check_class in the slice
module _ (t : ℕ) (ns names : List ℕ) (n : ℕ) (s s1 s2 : List ℕ) (w w1 w2 : ℕ)
    (e1 : w1 ≡ w + 7 * length (private_undeclared t ns names n)) (x1 : s1 ≡ sink s w (private_undeclared t ns names n))
    (e2 : w2 ≡ w1 + 7 * length (listed (require_class_name ns n))) (x2 : s2 ≡ sink s1 w1 (listed (require_class_name ns n)))
  where
    pub check_place : w2 + 7 * length (listed (second_constructor t ns n)) ≡ w + 7 * length (check_class t ns names n)
    unfolding check_class
    check_place =
        let a = length-append (private_undeclared t ns names n) (listed (require_class_name ns n) ++ listed (second_constructor t ns n)) in
        let b = length-append (listed (require_class_name ns n)) (listed (second_constructor t ns n)) in
        omega arith

    pub check_sink : sink s2 w2 (listed (second_constructor t ns n)) ≡ sink s w (check_class t ns names n)
    unfolding check_class
    check_sink =
        rw (sink_append s w (private_undeclared t ns names n) (listed (require_class_name ns n) ++ listed (second_constructor t ns n)), ← x1, ← e1, sink_append s1 w1 (listed (require_class_name ns n)) (listed (second_constructor t ns n)), ← x2, ← e2)
