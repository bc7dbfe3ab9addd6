-- THE RULES AT A NODE BY THE WAY UP: an operation of a node above comes to n exactly if the nearest place on the way up where one begins or ends is one where it begins.
use Rattle.std.specs.Prelude.{ℕ, ◌<◌, ◌≡◌, refl, List, [], ◌∷◌, Bool, true, false, cond, not, ◌&&◌, ◌||◌, ◌↔◌, eqb}
use Rattle.std.proofs.Common.{ap, sym, ◌∙◌, ⊎_elim, eq-or-lt_of_le, arith, eq-eqb, ne_eqb, eqb-true}
use Rattle.std.proofs.lemmas.Bool.{not-true}
use Rattle.base_common.specs.Upto.{any}
use Rattle.base_common.proofs.UptoLaws.{and_left_lem}
use Rattle.base_common.specs.Tests.{within}
use Rattle.base_common.proofs.Bools.{never, or_first, or_second, either, in_range_lem, range_of}
use Rattle.table_records.specs.Table.{kind_of, parent_of, count, extra_of, ancestors}
use Rattle.table_records.specs.Facts.{Tree}
use Rattle.table_records.specs.Extras as extra
use Rattle.table_children.specs.Children.{value_of, is_node}
use Rattle.ecma_trees.specs.Trail.{unit_of}
use Rattle.table_ancestry.proofs.AncestryLaws.{ancestors_up}
use Rattle.ecma_trees.proofs.TrailLaws.{handed_law, handed_root}
use Rattle.ecma_base.specs.Contains.{initializer, comes, static_block}
use Rattle.ecma_contains.specs.Contains.{contains_into, block_begin, arguments_begin, arguments_into, parameter, parameter_begin, lexical_declaration, bound_begin, unbound, bound_into, reached}
use Rattle.ecma_contains.specs.Changed.{await_edge, arguments_edge, arguments_home, parameter_edge, bound_edge}
use Rattle.ecma_base.proofs.ContainsLaws.{upward, unit_up, unit_root, comes_home, positive}

-- some member of a list passes a test
any_hit : (p : ℕ → Bool) (u : ℕ) → p u ≡ true → (l : List ℕ) → any (λ a. eqb a u) l ≡ true → any p l ≡ true
any_hit p u q [] e = e
any_hit p u q (a ∷ l) e = ⊎_elim (λ x. ap (λ (b : Bool). b || any p l) (ap p (eqb-true a u x) ∙ q)) (λ x. ap (λ (b : Bool). p a || b) (any_hit p u q l x) ∙ or_true (p a)) (either (eqb a u) (any (λ a. eqb a u) l) e)
  where
    or_true : (b : Bool) → (b || true) ≡ true
    or_true true = refl
    or_true false = refl

any_find : (p : ℕ → Bool) (Q : Type 0) → ((u : ℕ) → p u ≡ true → Q) → (l : List ℕ) → any p l ≡ true → Q
any_find p Q f [] e = never (sym e)
any_find p Q f (a ∷ l) e = ⊎_elim (λ x. f a x) (λ x. any_find p Q f l x) (either (p a) (any p l) e)

-- an operation that begins at a node of which `home` holds comes to n
pub record Reached (ns : List ℕ) (into begin : ℕ → ℕ → Bool) (home : ℕ → Bool) (n : ℕ) : Type 0 where
  pub at : ℕ
  pub here : home at ≡ true
  pub to : comes ns begin into at n ≡ true

module _ (ns : List ℕ) (t : Tree ns) (into begin edge : ℕ → ℕ → Bool) (home : ℕ → Bool)
    (first : (u j : ℕ) → home u ≡ true → begin u j ≡ true → edge u j ≡ true)
    (on' : (i j : ℕ) → (kind_of ns i ≡ 0 → ⊥) → into i j ≡ true → edge i j ≡ true → home i ≡ true)
    (back : (u j : ℕ) → home u ≡ true → edge u j ≡ true → begin u j ≡ true)
    (through : (i j : ℕ) → edge i j ≡ false → into i j ≡ true)
    (program : home 0 ≡ false)
  where
    -- the first edge on the way up is at a node above
    before : (j : ℕ) → j < count ns → 0 < j → unit_of ns edge j < j
    before = upward ns t (λ j. 0 < j → unit_of ns edge j < j) (λ z. absurd (omega arith)) step
      where
        step : (j : ℕ) → 0 < j → j < count ns → (0 < parent_of ns j → unit_of ns edge (parent_of ns j) < parent_of ns j) → 0 < j → unit_of ns edge j < j
        step j z h r y = go (edge (parent_of ns j) j) refl
          where
            f : parent_of ns j < j
            f = t.falls j z h

            go : (b : Bool) → edge (parent_of ns j) j ≡ b → unit_of ns edge j < j
            go true e = let u : unit_of ns edge j ≡ parent_of ns j = unit_up ns t edge j z h ∙ rw e in let g = f in omega arith
            go false e =
                let u : unit_of ns edge j ≡ unit_of ns edge (parent_of ns j) = unit_up ns t edge j z h ∙ rw e in
                let g = f in
                ⊎_elim (λ (q : 0 ≡ parent_of ns j). let v : unit_of ns edge (parent_of ns j) ≡ 0 = ap (λ (x : ℕ). unit_of ns edge x) (sym q) ∙ unit_root ns t edge in omega arith)
                (λ (q : 0 < parent_of ns j). let v = r q in omega arith) (eq-or-lt_of_le (omega arith))

    comes_back : (u : ℕ) → home u ≡ true → (j : ℕ) → j < count ns → 0 < j → unit_of ns edge j ≡ u → comes ns begin into u j ≡ true
    comes_back u a = upward ns t (λ j. 0 < j → unit_of ns edge j ≡ u → comes ns begin into u j ≡ true) (λ z. absurd (omega arith)) step
      where
        law : (j : ℕ) → 0 < j → j < count ns → comes ns begin into u j ≡ cond (eqb (parent_of ns j) u) (begin (parent_of ns j) j) (comes ns begin into u (parent_of ns j) && into (parent_of ns j) j)
        law j z h = handed_law ns (λ i k r. cond (eqb i u) (begin i k) (r && into i k)) false t j z h

        step : (j : ℕ) → 0 < j → j < count ns → (0 < parent_of ns j → unit_of ns edge (parent_of ns j) ≡ u → comes ns begin into u (parent_of ns j) ≡ true) → 0 < j → unit_of ns edge j ≡ u → comes ns begin into u j ≡ true
        step j z h r y e = law j z h ∙ go (edge (parent_of ns j) j) refl
          where
            -- the way up ends at the program, where nothing begins
            later : unit_of ns edge (parent_of ns j) ≡ u → 0 < parent_of ns j
            later q =
                ⊎_elim (λ (o : 0 ≡ parent_of ns j).
                let v : 0 ≡ u = sym (unit_root ns t edge) ∙ ap (λ (x : ℕ). unit_of ns edge x) o ∙ q in
                never (sym a ∙ ap home (sym v) ∙ program))
                (λ (o : 0 < parent_of ns j). o) (eq-or-lt_of_le (omega arith))

            go : (b : Bool) → edge (parent_of ns j) j ≡ b → cond (eqb (parent_of ns j) u) (begin (parent_of ns j) j) (comes ns begin into u (parent_of ns j) && into (parent_of ns j) j) ≡ true
            go true b =
                let q : parent_of ns j ≡ u = sym (unit_up ns t edge j z h ∙ rw b) ∙ e in
                rw (eq-eqb (parent_of ns j) u q) (back (parent_of ns j) j (ap home q ∙ a) b)
            go false b =
                let q : unit_of ns edge (parent_of ns j) ≡ u = sym (unit_up ns t edge j z h ∙ rw b) ∙ e in
                let p = later q in
                let f = t.falls j z h in
                let v = before (parent_of ns j) (omega arith) p in
                rw (ne_eqb (parent_of ns j) u (λ x. omega arith), r p q, through (parent_of ns j) j b)

    pub node_rule : (n : ℕ) → n < count ns → (home (unit_of ns edge n) ≡ true) ↔ Reached ns into begin home n
    node_rule n h = (up, down)
      where
        up : home (unit_of ns edge n) ≡ true → Reached ns into begin home n
        up e = record { at = unit_of ns edge n; here = e; to = comes_back (unit_of ns edge n) e n h later refl }
          where
            later : 0 < n
            later = ⊎_elim (λ (o : 0 ≡ n). never (sym e ∙ ap home (ap (λ (x : ℕ). unit_of ns edge x) (sym o) ∙ unit_root ns t edge) ∙ program)) (λ (o : 0 < n). o) (eq-or-lt_of_le (omega arith))

        down : Reached ns into begin home n → home (unit_of ns edge n) ≡ true
        down r = comes_home ns t into begin edge home r.at r.here (λ j. first r.at j r.here) on' n h r.to

    -- what the operation of u comes to stands below u, and u is where one begins
    law : (u j : ℕ) → 0 < j → j < count ns → comes ns begin into u j ≡ cond (eqb (parent_of ns j) u) (begin (parent_of ns j) j) (comes ns begin into u (parent_of ns j) && into (parent_of ns j) j)
    law u j z h = handed_law ns (λ i k r. cond (eqb i u) (begin i k) (r && into i k)) false t j z h

    none : (u : ℕ) → comes ns begin into u 0 ≡ false
    none u = handed_root ns (λ i k r. cond (eqb i u) (begin i k) (r && into i k)) false

    comes_above : (u n : ℕ) → n < count ns → comes ns begin into u n ≡ true → any (λ a. eqb a u) (ancestors ns n) ≡ true
    comes_above u = upward ns t (λ j. comes ns begin into u j ≡ true → any (λ a. eqb a u) (ancestors ns j) ≡ true) (λ e. never (sym e ∙ none u)) step
      where
        step : (j : ℕ) → 0 < j → j < count ns → (comes ns begin into u (parent_of ns j) ≡ true → any (λ a. eqb a u) (ancestors ns (parent_of ns j)) ≡ true)
            → comes ns begin into u j ≡ true → any (λ a. eqb a u) (ancestors ns j) ≡ true
        step j z h r e = ancestors_up (λ a r. eqb a u || r) false ns t j z h ∙ go (eqb (parent_of ns j) u) refl
          where
            go : (b : Bool) → eqb (parent_of ns j) u ≡ b → (eqb (parent_of ns j) u || any (λ a. eqb a u) (ancestors ns (parent_of ns j))) ≡ true
            go true b = rw b
            go false b =
                ap (λ (x : Bool). x || any (λ a. eqb a u) (ancestors ns (parent_of ns j))) b
                ∙ r (and_left_lem (comes ns begin into u (parent_of ns j)) (into (parent_of ns j) j) (sym (law u j z h ∙ rw b) ∙ e))

    begun : ((u j : ℕ) → begin u j ≡ true → home u ≡ true) → (u n : ℕ) → n < count ns → comes ns begin into u n ≡ true → home u ≡ true
    begun s u = upward ns t (λ j. comes ns begin into u j ≡ true → home u ≡ true) (λ e. never (sym e ∙ none u)) step
      where
        step : (j : ℕ) → 0 < j → j < count ns → (comes ns begin into u (parent_of ns j) ≡ true → home u ≡ true) → comes ns begin into u j ≡ true → home u ≡ true
        step j z h r e = go (eqb (parent_of ns j) u) refl
          where
            go : (b : Bool) → eqb (parent_of ns j) u ≡ b → home u ≡ true
            go true b = ap home (sym (eqb-true (parent_of ns j) u b)) ∙ s (parent_of ns j) j (sym (law u j z h ∙ rw b) ∙ e)
            go false b = r (and_left_lem (comes ns begin into u (parent_of ns j)) (into (parent_of ns j) j) (sym (law u j z h ∙ rw b) ∙ e))

    pub reached_is : ((u j : ℕ) → begin u j ≡ true → home u ≡ true) → (n : ℕ) → n < count ns → reached ns begin into n ≡ home (unit_of ns edge n)
    reached_is s n h = both (reached ns begin into n) (home (unit_of ns edge n)) down up
      where
        both : (a b : Bool) → (a ≡ true → b ≡ true) → (b ≡ true → a ≡ true) → a ≡ b
        both true b f g = sym (f refl)
        both false true f g = g refl
        both false false f g = refl

        down : reached ns begin into n ≡ true → home (unit_of ns edge n) ≡ true
        down e =
            any_find (λ u. comes ns begin into u n) (home (unit_of ns edge n) ≡ true)
            (λ u q. (node_rule n h).1 (record { at = u; here = begun s u n h q; to = q })) (ancestors ns n) e

        up : home (unit_of ns edge n) ≡ true → reached ns begin into n ≡ true
        up e =
            let r = (node_rule n h).0 e in
            any_hit (λ u. comes ns begin into u n) r.at r.to (ancestors ns n) (comes_above r.at n h r.to)

clash : {A : Type 0} → false ≡ true → A
clash e = never (sym e)

fewer : (a lo hi : ℕ) → within a 0 hi ≡ false → within a lo hi ≡ false
fewer a lo hi e = go (within a lo hi) refl
  where
    go : (b : Bool) → within a lo hi ≡ b → b ≡ false
    go true q = let r = range_of a lo hi q in let r1 = r.1 in clash (sym e ∙ in_range_lem a 0 hi (omega arith) r1)
    go false q = refl

-- a kind from 0 on that is not 0
above : (a hi : ℕ) → (a ≡ 0 → ⊥) → within a 0 hi ≡ true → within a 1 hi ≡ true
above a hi n e = let r = range_of a 0 hi e in in_range_lem a 1 hi (positive a n) r.1

module _ (ns : List ℕ) (t : Tree ns) (n : ℕ) (h : n < count ns) where
  -- 15.7.1, Contains
  pub await_up : reached ns (block_begin ns) (contains_into ns) n ≡ static_block ns (unit_of ns (await_edge ns) n)
  await_up = reached_is ns t (contains_into ns) (block_begin ns) (await_edge ns) (static_block ns) first on (λ u j a e. a) through (rw t.root) (λ u j e. e) n h
    where
      first : (u j : ℕ) → static_block ns u ≡ true → block_begin ns u j ≡ true → await_edge ns u j ≡ true
      first u j a e = rw (eqb-true (kind_of ns u) 3 a)

      on : (i j : ℕ) → (kind_of ns i ≡ 0 → ⊥) → contains_into ns i j ≡ true → await_edge ns i j ≡ true → static_block ns i ≡ true
      on i j z x y = clash (sym (not-true (within (kind_of ns i) 1 3 || initializer ns i j) x) ∙ by (within (kind_of ns i) 0 3) refl (initializer ns i j) y)
        where
          by : (a : Bool) → within (kind_of ns i) 0 3 ≡ a → (b : Bool) → (a || b) ≡ true → (within (kind_of ns i) 1 3 || b) ≡ true
          by true q b e = rw (above (kind_of ns i) 3 z q)
          by false q b e = rw (fewer (kind_of ns i) 1 3 q) e

      through : (i j : ℕ) → await_edge ns i j ≡ false → contains_into ns i j ≡ true
      through i j e =
          rw (fewer (kind_of ns i) 1 3 (or_first (within (kind_of ns i) 0 3) (initializer ns i j) e), or_second (within (kind_of ns i) 0 3) (initializer ns i j) e)

  -- 15.7.1, ContainsArguments
  pub arguments_up : reached ns (arguments_begin ns) (arguments_into ns) n ≡ arguments_home ns (unit_of ns (arguments_edge ns) n)
  arguments_up = reached_is ns t (arguments_into ns) (arguments_begin ns) (arguments_edge ns) (arguments_home ns) first on back through (rw t.root) begins n h
    where
      first : (u j : ℕ) → arguments_home ns u ≡ true → arguments_begin ns u j ≡ true → arguments_edge ns u j ≡ true
      first u j a e = by (within (kind_of ns u) 0 1) (eqb (kind_of ns u) 3) (initializer ns u j) e
        where
          by : (x y z : Bool) → (y || z) ≡ true → ((x || y) || z) ≡ true
          by true y z e = refl
          by false y z e = e

      on : (i j : ℕ) → (kind_of ns i ≡ 0 → ⊥) → arguments_into ns i j ≡ true → arguments_edge ns i j ≡ true → arguments_home ns i ≡ true
      on i j z x y = by (within (kind_of ns i) 0 1) refl (eqb (kind_of ns i) 3) (within (kind_of ns i) 29 30) (is_node (value_of ns i) j) y
        where
          by : (a : Bool) → within (kind_of ns i) 0 1 ≡ a → (b c d : Bool) → ((a || b) || (c && d)) ≡ true → (b || c) ≡ true
          by true q b c d e =
              let r = range_of (kind_of ns i) 0 1 q in
              let r1 = r.1 in
              let p = positive (kind_of ns i) z in
              clash (sym (not-true (eqb (kind_of ns i) 1) x) ∙ eq-eqb (kind_of ns i) 1 (omega arith))
          by false q true c d e = refl
          by false q false true d e = refl
          by false q false false d e = e

      begins : (u j : ℕ) → arguments_begin ns u j ≡ true → arguments_home ns u ≡ true
      begins u j e = by (eqb (kind_of ns u) 3) (within (kind_of ns u) 29 30) (is_node (value_of ns u) j) e
        where
          by : (x y z : Bool) → (x || (y && z)) ≡ true → (x || y) ≡ true
          by true y z e = refl
          by false true z e = refl
          by false false z e = e

      back : (u j : ℕ) → arguments_home ns u ≡ true → arguments_edge ns u j ≡ true → arguments_begin ns u j ≡ true
      back u j a e = by (within (kind_of ns u) 0 1) refl (eqb (kind_of ns u) 3) refl (initializer ns u j) e
        where
          by : (x : Bool) → within (kind_of ns u) 0 1 ≡ x → (y : Bool) → eqb (kind_of ns u) 3 ≡ y → (z : Bool) → ((x || y) || z) ≡ true → (y || z) ≡ true
          by true p true q z e = refl
          by true p false q z e =
              let r = range_of (kind_of ns u) 0 1 p in
              let r1 = r.1 in
              let s = range_of (kind_of ns u) 29 30 (⊎_elim (λ v. clash (sym q ∙ v)) (λ v. v) (either (eqb (kind_of ns u) 3) (within (kind_of ns u) 29 30) a)) in
              let s0 = s.0 in
              absurd (omega arith)
          by false p y q z e = e

      through : (i j : ℕ) → arguments_edge ns i j ≡ false → arguments_into ns i j ≡ true
      through i j e =
          let o = or_first (within (kind_of ns i) 0 1 || eqb (kind_of ns i) 3) (initializer ns i j) e in
          rw (ne_eqb (kind_of ns i) 1 (λ q. clash (sym (or_first (within (kind_of ns i) 0 1) (eqb (kind_of ns i) 3) o) ∙ in_range_lem (kind_of ns i) 0 1 (omega arith) (omega arith))))

  -- 15.3.1 and others, Contains
  pub parameter_up : reached ns (parameter_begin ns) (contains_into ns) n ≡ parameter ns (unit_of ns (parameter_edge ns) n)
  parameter_up = reached_is ns t (contains_into ns) (parameter_begin ns) (parameter_edge ns) (parameter ns) first on (λ u j a e. a) through (rw t.root) (λ u j e. e) n h
    where
      first : (u j : ℕ) → parameter ns u ≡ true → parameter_begin ns u j ≡ true → parameter_edge ns u j ≡ true
      first u j a e = by (within (kind_of ns u) 0 3) (parameter ns u) (initializer ns u j) a
        where
          by : (x y z : Bool) → y ≡ true → ((x || y) || z) ≡ true
          by true y z e = refl
          by false true z e = refl
          by false false z e = clash e

      on : (i j : ℕ) → (kind_of ns i ≡ 0 → ⊥) → contains_into ns i j ≡ true → parameter_edge ns i j ≡ true → parameter ns i ≡ true
      on i j z x y = by (within (kind_of ns i) 0 3) refl (parameter ns i) (initializer ns i j) (not-true (within (kind_of ns i) 1 3 || initializer ns i j) x) y
        where
          by : (a : Bool) → within (kind_of ns i) 0 3 ≡ a → (b c : Bool) → (within (kind_of ns i) 1 3 || c) ≡ false → ((a || b) || c) ≡ true → b ≡ true
          by true q b c o e = clash (sym (or_first (within (kind_of ns i) 1 3) c o) ∙ above (kind_of ns i) 3 z q)
          by false q true c o e = refl
          by false q false c o e = clash (sym (or_second (within (kind_of ns i) 1 3) c o) ∙ e)

      through : (i j : ℕ) → parameter_edge ns i j ≡ false → contains_into ns i j ≡ true
      through i j e =
          let o = or_first (within (kind_of ns i) 0 3 || parameter ns i) (initializer ns i j) e in
          rw (fewer (kind_of ns i) 1 3 (or_first (within (kind_of ns i) 0 3) (parameter ns i) o), or_second (within (kind_of ns i) 0 3 || parameter ns i) (initializer ns i j) e)

  -- 14.3.1.1, BoundNames
  pub let_up : reached ns (bound_begin ns) (bound_into ns) n ≡ lexical_declaration ns (unit_of ns (bound_edge ns) n)
  let_up = reached_is ns t (bound_into ns) (bound_begin ns) (bound_edge ns) (lexical_declaration ns) first on (λ u j a e. a) through (rw t.root) (λ u j e. e) n h
    where
      first : (u j : ℕ) → lexical_declaration ns u ≡ true → bound_begin ns u j ≡ true → bound_edge ns u j ≡ true
      first u j a e = by (within (kind_of ns u) 0 2) (eqb (kind_of ns u) 24) (unbound ns u j) (and_left_lem (eqb (kind_of ns u) 24) (not (eqb (extra_of ns u) extra.Var)) a)
        where
          by : (x y z : Bool) → y ≡ true → ((x || y) || z) ≡ true
          by true y z e = refl
          by false true z e = refl
          by false false z e = never (sym e)

      on : (i j : ℕ) → (kind_of ns i ≡ 0 → ⊥) → bound_into ns i j ≡ true → bound_edge ns i j ≡ true → lexical_declaration ns i ≡ true
      on i j z x y =
          clash (sym (not-true ((within (kind_of ns i) 1 2 || eqb (kind_of ns i) 24) || unbound ns i j) x) ∙ by (within (kind_of ns i) 0 2) refl (eqb (kind_of ns i) 24) (unbound ns i j) y)
        where
          by : (a : Bool) → within (kind_of ns i) 0 2 ≡ a → (b c : Bool) → ((a || b) || c) ≡ true → ((within (kind_of ns i) 1 2 || b) || c) ≡ true
          by true q b c e = rw (above (kind_of ns i) 2 z q)
          by false q b c e = rw (fewer (kind_of ns i) 1 2 q) e

      through : (i j : ℕ) → bound_edge ns i j ≡ false → bound_into ns i j ≡ true
      through i j e =
          let o = or_first (within (kind_of ns i) 0 2 || eqb (kind_of ns i) 24) (unbound ns i j) e in
          rw (fewer (kind_of ns i) 1 2 (or_first (within (kind_of ns i) 0 2) (eqb (kind_of ns i) 24) o), or_second (within (kind_of ns i) 0 2) (eqb (kind_of ns i) 24) o, or_second (within (kind_of ns i) 0 2 || eqb (kind_of ns i) 24) (unbound ns i j) e)
