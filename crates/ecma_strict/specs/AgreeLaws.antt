-- Where the rules of the Rust for codes 3, 5, 6, 14, 25 and 33 are the standard's.
use Rattle.std.specs.Prelude.{ℕ, ◌≤◌, ◌<◌, ◌≡◌, refl, List, Bool, false, not, ◌&&◌, ◌||◌, ◌⊎◌, eqb}
use Rattle.std.proofs.Math.Path.{ap, sym}
use Rattle.std.proofs.Common.{◌∙◌, inl, inr, ⊎_elim, eq-or-lt_of_le, arith, eq-eqb, eqb-true}
use Rattle.std.proofs.Math.Bool.{true}
use Rattle.std.proofs.lemmas.Bool.{eqb-false}
use Rattle.base_common.specs.Tests.{within}
use Rattle.base_common.proofs.Bools.{never, or_second, in_range_lem, range_of}
use Rattle.table_records.specs.Table.{kind_of, parent_of, count, scope_of, scope_parent_of}
use Rattle.table_records.specs.Facts.{Tree, Chained, Scoped}
use Rattle.table_records.specs.Kinds as k
use Rattle.table_children.specs.Children.{value_of, is_node}
use Rattle.table_scoping.specs.Scoping.{in_static_block}
use Rattle.table_scoping.proofs.ScopingLaws.{static_here, static_function, static_up, static_root}
use Rattle.ecma_trees.specs.Trail.{unit_of}
use Rattle.ecma_base.specs.Strict.{strict_code}
use Rattle.ecma_names.specs.Identifiers.{assigns_eval}
use Rattle.ecma_base.specs.Contains.{initializer, static_block}
use Rattle.ecma_contains.specs.Contains.{arguments_reference, parameter, unbound, await_in_block, arguments_in_class, await_in_parameter, let_bound}
use Rattle.ecma_contains.specs.NodeRules.{await_up, arguments_up, parameter_up, let_up}
use Rattle.ecma_base.specs.Scopes.{block_scope, function_scope}
use Rattle.ecma_base.proofs.ContainsLaws.{upward, unit_root, unit_here, unit_pass}
use Rattle.ecma_contains.specs.Changed.{await_edge, arguments_edge, arguments_home, parameter_edge, bound_edge, class_part, scoped_in_block, let_edge, let_bound_said, field_edge, field_home, arguments_said, through_class_edge, await_in_parameter_said}

-- two sets of edges, one larger: where the nearest of the larger set is none of the surplus, it is the nearest of the smaller too
module _ (ns : List ℕ) (t : Tree ns) (large small : ℕ → ℕ → Bool) (surplus : ℕ → Bool)
    (sub : (i j : ℕ) → small i j ≡ true → large i j ≡ true) (more : (i j : ℕ) → large i j ≡ true → small i j ≡ false → surplus i ≡ true)
  where
    units_agree : (j : ℕ) → j < count ns → surplus (unit_of ns large j) ≡ false → unit_of ns large j ≡ unit_of ns small j
    units_agree = upward ns t (λ j. surplus (unit_of ns large j) ≡ false → unit_of ns large j ≡ unit_of ns small j) (λ e. unit_root ns t large ∙ sym (unit_root ns t small)) step
      where
        step : (j : ℕ) → 0 < j → j < count ns → (surplus (unit_of ns large (parent_of ns j)) ≡ false → unit_of ns large (parent_of ns j) ≡ unit_of ns small (parent_of ns j))
            → surplus (unit_of ns large j) ≡ false → unit_of ns large j ≡ unit_of ns small j
        step j z h p e = go (large (parent_of ns j) j) refl (small (parent_of ns j) j) refl
          where
            go : (x : Bool) → large (parent_of ns j) j ≡ x → (y : Bool) → small (parent_of ns j) j ≡ y → unit_of ns large j ≡ unit_of ns small j
            go true x true y = unit_here ns t large j z h x ∙ sym (unit_here ns t small j z h y)
            go true x false y = never (sym (more (parent_of ns j) j x y) ∙ ap surplus (sym (unit_here ns t large j z h x)) ∙ e)
            go false x true y = never (sym (sub (parent_of ns j) j y) ∙ x)
            go false x false y =
                let u = unit_pass ns t large j z h (λ c. x) in
                u ∙ p (ap surplus (sym u) ∙ e) ∙ sym (unit_pass ns t small j z h (λ c. y))

or_left : (a b : Bool) → a ≡ true → (a || b) ≡ true
or_left true b e = refl
or_left false b e = never (sym e)

-- of a test of several parts, the part that is left where the others say false
rest : (a b : Bool) → (a || b) ≡ true → a ≡ false → b ≡ true
rest true b e f = never f
rest false b e f = e

and_left : (a b : Bool) → (a && b) ≡ true → a ≡ true
and_left true b e = refl
and_left false b e = never (sym e)

-- CODE 5: in sloppy code, where a declaration comes before any Initializer or PropertyName
pub let_agrees : (ns ss names : List ℕ) (n : ℕ) → Tree ns → n < count ns → strict_code ns ss n ≡ false → eqb (kind_of ns (unit_of ns (bound_edge ns) n)) k.VariableDeclaration ≡ true
    → let_bound_said ns ss names n ≡ let_bound ns names n
unfolding let_bound_said let_bound
let_agrees ns ss names n t h s e = rw (let_up ns t n h, s, units_agree ns t (bound_edge ns) (let_edge ns) (λ u. not (eqb (kind_of ns u) k.VariableDeclaration)) sub more n h (ap not e))
  where
    sub : (i j : ℕ) → let_edge ns i j ≡ true → bound_edge ns i j ≡ true
    sub i j e = or_left (let_edge ns i j) (unbound ns i j) e

    more : (i j : ℕ) → bound_edge ns i j ≡ true → let_edge ns i j ≡ false → not (eqb (kind_of ns i) k.VariableDeclaration) ≡ true
    more i j e f = ap not (or_second (within (kind_of ns i) 0 2) (eqb (kind_of ns i) 24) f)

-- CODE 6: where the reference is no target of an assignment in strict code, and in no auto-accessor
pub arguments_agree : (ns ss names : List ℕ) (n : ℕ) → Tree ns → n < count ns → assigns_eval ns ss names n ≡ false → eqb (kind_of ns (unit_of ns (arguments_edge ns) n)) k.AccessorProperty ≡ false
    → arguments_said ns ss names n ≡ arguments_in_class ns names n
unfolding arguments_said arguments_in_class
arguments_agree ns ss names n t h s e =
    rw (arguments_up ns t n h, s, ← units_agree ns t (arguments_edge ns) (field_edge ns) (λ u. eqb (kind_of ns u) k.AccessorProperty) sub more n h e) (ap (λ b. arguments_reference ns names n && b) (home (unit_of ns (arguments_edge ns) n) e))
  where
    field : (i : ℕ) → eqb (kind_of ns i) k.PropertyDefinition ≡ true → within (kind_of ns i) 29 30 ≡ true
    field i e = let q = eqb-true (kind_of ns i) 29 e in rw q

    accessor : (i : ℕ) → within (kind_of ns i) 29 30 ≡ true → eqb (kind_of ns i) k.PropertyDefinition ≡ false → eqb (kind_of ns i) k.AccessorProperty ≡ true
    accessor i e f =
        let r = range_of (kind_of ns i) 29 30 e in
        let r0 = r.0 in
        let r1 = r.1 in
        let q = eqb-false (kind_of ns i) 29 f in
        eq-eqb (kind_of ns i) 30 (⊎_elim (λ (x : kind_of ns i ≡ 29). absurd (q x)) (λ (x : 30 ≤ kind_of ns i). omega arith) (split (kind_of ns i) r0))
      where
        split : (a : ℕ) → 29 ≤ a → (a ≡ 29) ⊎ (30 ≤ a)
        split a h = ⊎_elim (λ (x : 29 ≡ a). inl (sym x)) (λ (x : 29 < a). inr x) (eq-or-lt_of_le h)

    sub : (i j : ℕ) → field_edge ns i j ≡ true → arguments_edge ns i j ≡ true
    sub i j = by (within (kind_of ns i) 0 1 || eqb (kind_of ns i) 3) (eqb (kind_of ns i) 29) (within (kind_of ns i) 29 30) (is_node (value_of ns i) j) (field i)
      where
        by : (a b c d : Bool) → (b ≡ true → c ≡ true) → (a || (b && d)) ≡ true → (a || (c && d)) ≡ true
        by true b c d f e = refl
        by false true true d f e = e
        by false true false d f e = never (sym (f refl))
        by false false c d f e = never (sym e)

    more : (i j : ℕ) → arguments_edge ns i j ≡ true → field_edge ns i j ≡ false → eqb (kind_of ns i) k.AccessorProperty ≡ true
    more i j = by (within (kind_of ns i) 0 1 || eqb (kind_of ns i) 3) (eqb (kind_of ns i) 29) (within (kind_of ns i) 29 30) (is_node (value_of ns i) j) (accessor i)
      where
        by : (a b c d : Bool) → (c ≡ true → b ≡ false → eqb (kind_of ns i) k.AccessorProperty ≡ true) → (a || (c && d)) ≡ true → (a || (b && d)) ≡ false → eqb (kind_of ns i) k.AccessorProperty ≡ true
        by true b c d f e g = never g
        by false true true d f e g = never (sym e ∙ g)
        by false false true d f e g = f refl refl
        by false b false d f e g = never (sym e)

    home : (u : ℕ) → eqb (kind_of ns u) k.AccessorProperty ≡ false → field_home ns u ≡ arguments_home ns u
    home u e = ap (λ b. eqb (kind_of ns u) 3 || b) (go (eqb (kind_of ns u) 29) refl (within (kind_of ns u) 29 30) refl)
      where
        go : (x : Bool) → eqb (kind_of ns u) 29 ≡ x → (y : Bool) → within (kind_of ns u) 29 30 ≡ y → x ≡ y
        go true x true y = refl
        go true x false y = sym (field u x) ∙ y
        go false x true y = never (sym (accessor u y x) ∙ e)
        go false x false y = refl

-- CODE 33: where neither a static block nor the Initializer of a field stands between
up_to3 : (a : ℕ) → within a 0 3 ≡ (within a 0 2 || eqb a 3)
up_to3 a = go (within a 0 3) refl (within a 0 2) refl (eqb a 3) refl
  where
    go : (x : Bool) → within a 0 3 ≡ x → (y : Bool) → within a 0 2 ≡ y → (z : Bool) → eqb a 3 ≡ z → x ≡ (y || z)
    go true x true y z e = refl
    go true x false y true e = refl
    go true x false y false e =
        let r = range_of a 0 3 x in
        let r1 = r.1 in
        never (sym (in_range_lem a 0 2 (omega arith) (⊎_elim (λ (q : a ≡ 3). absurd (eqb-false a 3 e q)) (λ (q : a < 3). omega arith) (eq-or-lt_of_le r1))) ∙ y)
    go false x true y z e = let r = range_of a 0 2 y in let r1 = r.1 in never (sym (in_range_lem a 0 3 (omega arith) (omega arith)) ∙ x)
    go false x false y true e = let q = eqb-true a 3 e in never (sym (in_range_lem a 0 3 (omega arith) (omega arith)) ∙ x)
    go false x false y false e = refl

pub parameter_agrees : (ns : List ℕ) (n : ℕ) → Tree ns → n < count ns → class_part ns (unit_of ns (parameter_edge ns) n) ≡ false → await_in_parameter_said ns n ≡ await_in_parameter ns n
unfolding await_in_parameter_said await_in_parameter
parameter_agrees ns n t h e = rw (parameter_up ns t n h, units_agree ns t (parameter_edge ns) (through_class_edge ns) (class_part ns) sub more n h e)
  where
    sub : (i j : ℕ) → through_class_edge ns i j ≡ true → parameter_edge ns i j ≡ true
    sub i j e = rw (up_to3 (kind_of ns i)) (by (within (kind_of ns i) 0 2) (eqb (kind_of ns i) 3) (parameter ns i) (initializer ns i j) e)
      where
        by : (a b c d : Bool) → (a || c) ≡ true → (((a || b) || c) || d) ≡ true
        by true b c d e = refl
        by false true c d e = refl
        by false false true d e = refl
        by false false false d e = never (sym e)

    more : (i j : ℕ) → parameter_edge ns i j ≡ true → through_class_edge ns i j ≡ false → class_part ns i ≡ true
    more i j e f = by (within (kind_of ns i) 0 2) (eqb (kind_of ns i) 3) (parameter ns i) (within (kind_of ns i) 29 30) (is_node (value_of ns i) j) (rw (up_to3 (kind_of ns i)) at e) f
      where
        by : (a b c d g : Bool) → (((a || b) || c) || (d && g)) ≡ true → (a || c) ≡ false → (b || d) ≡ true
        by true b c d g e f = never f
        by false true c d g e f = refl
        by false false true d g e f = never f
        by false false false true g e f = refl
        by false false false false g e f = e

-- CODES 3, 14, 25: where the scopes follow the tree, and no Initializer of a field stands between
abbrev pub block_edge : List ℕ → ℕ → ℕ → Bool
block_edge ns i j = within (kind_of ns i) k.Program k.StaticBlock

-- What scopes that follow the tree tell: what stands in a function, an arrow or a static block has a scope that is flagged so; any other part of a node has the node's scope, or one around
-- which is the node's, and which has neither flag.
pub record ScopesTold (ns ss : List ℕ) : Type 0 where
  pub top : scope_of ns 0 ≡ 0
  pub neither : (block_scope ns ss 0 ≡ false) × (function_scope ns ss 0 ≡ false)
  pub inside : (i : ℕ) → 0 < i → i < count ns → within (kind_of ns (parent_of ns i)) k.Function k.StaticBlock ≡ true
      → (block_scope ns ss i ≡ static_block ns (parent_of ns i)) × (function_scope ns ss i ≡ not (static_block ns (parent_of ns i)))
  pub elsewhere : (i : ℕ) → 0 < i → i < count ns → within (kind_of ns (parent_of ns i)) k.Function k.StaticBlock ≡ false
      → (scope_of ns i ≡ scope_of ns (parent_of ns i))
      ⊎ ((0 < scope_of ns i) × (scope_parent_of ss (scope_of ns i) ≡ scope_of ns (parent_of ns i)) × (block_scope ns ss i ≡ false) × (function_scope ns ss i ≡ false))

module _ (ns ss : List ℕ) (t : Tree ns) (c : Chained ss) (s : Scoped ns ss) (w : ScopesTold ns ss) where
  pub scopes_are : (i : ℕ) → i < count ns → in_static_block ss (scope_of ns i) ≡ static_block ns (unit_of ns (block_edge ns) i)
  scopes_are = upward ns t (λ i. in_static_block ss (scope_of ns i) ≡ static_block ns (unit_of ns (block_edge ns) i)) first step
    where
      first : in_static_block ss (scope_of ns 0) ≡ static_block ns (unit_of ns (block_edge ns) 0)
      first =
          static_root ss (scope_of ns 0) w.top w.neither.0 w.neither.1
          ∙ sym (ap (λ (x : ℕ). static_block ns x) (unit_root ns t (block_edge ns)) ∙ rw t.root)

      step : (i : ℕ) → 0 < i → i < count ns → in_static_block ss (scope_of ns (parent_of ns i)) ≡ static_block ns (unit_of ns (block_edge ns) (parent_of ns i)) → in_static_block ss (scope_of ns i) ≡ static_block ns (unit_of ns (block_edge ns) i)
      step i z h p = go (within (kind_of ns (parent_of ns i)) 1 3) refl
        where
          opened : (b : Bool) → static_block ns (parent_of ns i) ≡ b → (block_scope ns ss i ≡ b) × (function_scope ns ss i ≡ not b) → in_static_block ss (scope_of ns i) ≡ b
          opened true q f = static_here ss (scope_of ns i) f.0
          opened false q f = static_function ss (scope_of ns i) f.0 f.1

          out : within (kind_of ns (parent_of ns i)) 1 3 ≡ false → (kind_of ns (parent_of ns i) ≡ 0 → ⊥) → (b : Bool) → within (kind_of ns (parent_of ns i)) 0 3 ≡ b → b ≡ false
          out e n true q =
              let r = range_of (kind_of ns (parent_of ns i)) 0 3 q in
              let r1 = r.1 in
              never (sym (in_range_lem (kind_of ns (parent_of ns i)) 1 3 (⊎_elim (λ (y : 0 ≡ kind_of ns (parent_of ns i)). absurd (n (sym y))) (λ (y : 0 < kind_of ns (parent_of ns i)). y) (eq-or-lt_of_le (omega arith))) r1) ∙ e)
          out e n false q = refl

          go : (b : Bool) → within (kind_of ns (parent_of ns i)) 1 3 ≡ b → in_static_block ss (scope_of ns i) ≡ static_block ns (unit_of ns (block_edge ns) i)
          go true e =
              let r = range_of (kind_of ns (parent_of ns i)) 1 3 e in
              let r1 = r.1 in
              opened (static_block ns (parent_of ns i)) refl (w.inside i z h e)
              ∙ ap (λ (x : ℕ). static_block ns x) (sym (unit_here ns t (block_edge ns) i z h (in_range_lem (kind_of ns (parent_of ns i)) 0 3 (omega arith) r1)))
          go false e =
              ⊎_elim (λ (q : scope_of ns i ≡ scope_of ns (parent_of ns i)). ap (λ (x : ℕ). in_static_block ss x) q)
              (λ q. static_up ss (scope_of ns i) c q.0 (s.scope i h) q.2 q.3 ∙ ap (λ (x : ℕ). in_static_block ss x) q.1)
              (w.elsewhere i z h e)
              ∙ p ∙ ap (λ (x : ℕ). static_block ns x) (sym (unit_pass ns t (block_edge ns) i z h (λ n. out e n (within (kind_of ns (parent_of ns i)) 0 3) refl)))

  pub block_agrees : (n : ℕ) → n < count ns → within (kind_of ns (unit_of ns (await_edge ns) n)) k.PropertyDefinition k.AccessorProperty ≡ false → scoped_in_block ns ss n ≡ await_in_block ns n
  unfolding scoped_in_block await_in_block in_static_block
  block_agrees n h e = scopes_are n h ∙ ap (λ (x : ℕ). static_block ns x) (sym (units_agree ns t (await_edge ns) (block_edge ns) (λ u. within (kind_of ns u) 29 30) sub more n h e)) ∙ sym (await_up ns t n h)
    where
      sub : (i j : ℕ) → block_edge ns i j ≡ true → await_edge ns i j ≡ true
      sub i j e = or_left (within (kind_of ns i) 0 3) (initializer ns i j) e

      more : (i j : ℕ) → await_edge ns i j ≡ true → block_edge ns i j ≡ false → within (kind_of ns i) 29 30 ≡ true
      more i j e f = and_left (within (kind_of ns i) 29 30) (is_node (value_of ns i) j) (rest (within (kind_of ns i) 0 3) (initializer ns i j) e f)
