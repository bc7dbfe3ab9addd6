-- WHERE NO CLASS HAS TWO CONSTRUCTORS, ConstructorMethod of ClassBody (15.7.3) is each: the rule of 28 is the standard's.
use Rattle.std.specs.Prelude.{ℕ, ◌+◌, ◌≤◌, ◌<◌, ◌≡◌, Bool, cond, ◌&&◌, ◌||◌, length, Some}
use Rattle.std.proofs.Math.Path.{refl, ap, sym, subst}
use Rattle.std.proofs.Common.{◌∙◌, ⊎_elim, eq-or-lt_of_le, arith}
use mathlib.Core.List.{List, [], ◌∷◌}
use Rattle.std.proofs.Math.Bool.{true, false}
use borrow.Author.Tests.{eq-eqb, eqb-true, lt-ltb}
use Rattle.std.proofs.Math.Dec.{eqb, ltb}
use Rattle.base_common.specs.Upto.{upto}
use Rattle.base_common.proofs.UptoLaws.{and_right_lem}
use Rattle.base_common.proofs.Bools.{never}
use Rattle.base_walk.specs.On.{member}
use Rattle.table_records.specs.Table.{kind_of, parent_of, count}
use Rattle.table_records.specs.Facts.{Tree}
use Rattle.table_records.specs.Kinds as k
use Rattle.table_children.specs.Children.{keep, children, is_node}
use Rattle.table_ancestry.proofs.AncestryLaws.{parent_in}
use Rattle.refusal_fields.specs.Fields.{Listed}
use Rattle.refusal_input.specs.WellFormed.{Shaped}
use Rattle.ecma_trees.specs.Trail.{unit_of}
use Rattle.table_lists.proofs.ListLaws.{in_kept, upto_in}
use Rattle.ecma_elements.specs.ClassElements.{elements_in, class_elements, names_constructor, constructor_twice, is_constructor_kind, constructor_method, is_first_constructor}
use Rattle.ecma_supers.specs.Supers.{begins, is_method, is_constructor_method, is_bare, standard_bare}
use Rattle.ecma_supers.specs.Changed.{OneInClass, OneConstructor, each_bare}
use Rattle.ecma_privates.proofs.PrivateNamesLaws.{class_above_lem, body_of_class}
use Rattle.ecma_supers.proofs.SupersLaws.{unit_is_lem, method_kind}

holds_one : (l : List ℕ) (p : ℕ) → member p l ≡ true → 1 ≤ length l
holds_one [] p m = never (sym m)
holds_one (x ∷ l) p m = omega arith

module _ (ns names : List ℕ) where
  kind_names : (e : ℕ) → is_constructor_kind ns names e ≡ true → names_constructor ns names e ≡ true
  unfolding is_constructor_kind
  kind_names e q = and_right_lem (eqb (kind_of ns e) k.MethodDefinition) (names_constructor ns names e) q

  no_kind : (e : ℕ) → names_constructor ns names e ≡ false → is_constructor_kind ns names e ≡ false
  unfolding is_constructor_kind
  no_kind e q = rw q (go (eqb (kind_of ns e) k.MethodDefinition))
    where
      go : (b : Bool) → (b && false) ≡ false
      go true = refl
      go false = refl

  -- ConstructorMethod of a list is of its kind ..
  first_kind : (l : List ℕ) (p : ℕ) → is_node (constructor_method ns names l) p ≡ true → is_constructor_kind ns names p ≡ true
  unfolding constructor_method
  first_kind [] p e = never (sym e)
  first_kind (x ∷ l) p e = go (is_constructor_kind ns names x) refl e (λ z. first_kind l p z)
    where
      go : (b : Bool) → is_constructor_kind ns names x ≡ b → is_node (cond b (Some (record { 0 = x })) (constructor_method ns names l)) p ≡ true
          → (is_node (constructor_method ns names l) p ≡ true → is_constructor_kind ns names p ≡ true) → is_constructor_kind ns names p ≡ true
      go true q z r = subst (λ (y : ℕ). is_constructor_kind ns names y ≡ true) (eqb-true x p z) q
      go false q z r = r z

  -- .. and the only one there, if no second element has the name
  only_first : (l : List ℕ) (p : ℕ) → member p l ≡ true → is_constructor_kind ns names p ≡ true → ltb 1 (length (keep (names_constructor ns names) l)) ≡ false
      → is_node (constructor_method ns names l) p ≡ true
  unfolding constructor_method keep
  only_first [] p m c o = never (sym m)
  only_first (x ∷ l) p m c o = go (eqb p x) refl m (names_constructor ns names x) refl o (λ z y. only_first l p z c y)
    where
      go : (a : Bool) → eqb p x ≡ a → (a || member p l) ≡ true → (b : Bool) → names_constructor ns names x ≡ b
          → ltb 1 (length (cond b (x ∷ keep (names_constructor ns names) l) (keep (names_constructor ns names) l))) ≡ false
          → (member p l ≡ true → ltb 1 (length (keep (names_constructor ns names) l)) ≡ false → is_node (constructor_method ns names l) p ≡ true)
          → is_node (cond (is_constructor_kind ns names x) (Some (record { 0 = x })) (constructor_method ns names l)) p ≡ true
      go true q z b r o y = let e : p ≡ x = eqb-true p x q in rw (subst (λ (j : ℕ). is_constructor_kind ns names j ≡ true) e c) (eq-eqb x p (sym e))
      go false q z true r o y =
          let s = holds_one (keep (names_constructor ns names) l) p (in_kept (names_constructor ns names) l p z (kind_names p c)) in
          never (sym (lt-ltb 1 (length (x ∷ keep (names_constructor ns names) l)) (omega arith)) ∙ o)
      go false q z false r o y = rw (no_kind x r) (y z o)

module _ (ns names : List ℕ) (tree : Tree ns) (listed : Listed ns) (shaped : Shaped ns) where
  module _ (p : ℕ) (h : p < count ns) (e : kind_of ns p ≡ k.MethodDefinition) where
    abbrev body : ℕ
    body = parent_of ns p

    below : body < p
    below = ⊎_elim (λ (q : 0 ≡ p). absurd (let z : kind_of ns 0 ≡ k.MethodDefinition = subst (λ (x : ℕ). kind_of ns x ≡ k.MethodDefinition) (sym q) e in let y = tree.root in omega arith)) (λ (q : 0 < p). tree.falls p q h) (eq-or-lt_of_le (omega arith))

    in_table_lem : body < count ns
    in_table_lem = parent_in ns tree p h

    is_body : kind_of ns body ≡ k.ClassBody
    is_body = shaped.placed.element p h (omega arith) (omega arith)

    elements_are : class_elements ns (parent_of ns body) ≡ children ns body
    unfolding class_elements
    elements_are = ap (elements_in ns) (body_of_class ns tree listed shaped body in_table_lem is_body)

    twice_is_lem : constructor_twice ns names (parent_of ns body) ≡ ltb 1 (length (keep (names_constructor ns names) (children ns body)))
    unfolding constructor_twice
    twice_is_lem = rw (eq-eqb (kind_of ns (parent_of ns body)) k.Class (class_above_lem ns tree listed shaped body in_table_lem is_body), elements_are)

    in_body : member p (children ns body) ≡ true
    unfolding children
    in_body = let z = below in in_kept (λ j. eqb (parent_of ns j) body) (upto (body + 1) (count ns)) p (upto_in (body + 1) (count ns) p (omega arith) h) (eq-eqb body body refl)

    of_kind_lem : names_constructor ns names p ≡ true → is_constructor_kind ns names p ≡ true
    unfolding is_constructor_kind
    of_kind_lem q = rw (eq-eqb (kind_of ns p) k.MethodDefinition e) q

    pub first_only : constructor_twice ns names (parent_of ns body) ≡ false → is_first_constructor ns names p ≡ names_constructor ns names p
    unfolding is_first_constructor
    first_only once = go (names_constructor ns names p) refl (is_node (constructor_method ns names (children ns body)) p) refl
      where
        go : (b : Bool) → names_constructor ns names p ≡ b → (a : Bool) → is_node (constructor_method ns names (children ns body)) p ≡ a → a ≡ b
        go true q a r = sym r ∙ only_first ns names (children ns body) p in_body (of_kind_lem q) (sym twice_is_lem ∙ once)
        go false q true r = never (sym (kind_names ns names p (first_kind ns names (children ns body) p r)) ∙ q)
        go false q false r = refl

  module _ (n : ℕ) (h : n < count ns) where
    abbrev u : ℕ
    u = unit_of ns (begins ns) n

    -- no class has two, so that of this unit has not
    pub one_here : OneConstructor ns names → OneInClass ns names u
    one_here once m =
        once (parent_of ns (parent_of ns (parent_of ns u))) (parent_in ns tree (parent_of ns (parent_of ns u)) (parent_in ns tree (parent_of ns u) (parent_in ns tree u (unit_is_lem ns tree n h).below)))

    constructor_first : OneInClass ns names u → is_constructor_method ns (names_constructor ns names) u ≡ is_constructor_method ns (is_first_constructor ns names) u
    unfolding is_constructor_method
    constructor_first once = go (is_method ns u) refl
      where
        go : (b : Bool) → is_method ns u ≡ b → (b && names_constructor ns names (parent_of ns u)) ≡ (b && is_first_constructor ns names (parent_of ns u))
        go true q = sym (first_only (parent_of ns u) (parent_in ns tree u (unit_is_lem ns tree n h).below) (method_kind ns u q) (once q))
        go false q = refl

    -- THE LAW
    pub first_same : OneInClass ns names u → each_bare ns names n ≡ standard_bare ns names n
    unfolding is_bare
    first_same once = rw (constructor_first once)
