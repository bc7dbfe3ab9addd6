-- The Rust's search through the scopes, where these are the tree's, ends as the unit says in which the Super is.
use Rattle.table_records.specs.declared.NodeId.{NodeId}
use Rattle.std.specs.Prelude.{ℕ, zero, suc, ◌≤◌, ◌<◌, ◌≡◌, List, ◌∷◌, Bool, ◌&&◌, ◌||◌, ◌⊎◌, eqb, Option, Some, None}
use Rattle.std.proofs.Math.Path.{refl, ap}
use Rattle.std.proofs.Common.{sym, subst, ◌∙◌, inl, inr, eq-or-lt_of_le, arith}
use Rattle.std.proofs.Math.Bool.{true, false, cond}
use Rattle.std.proofs.Math.Logic.{⊎_elim}
use borrow.Author.Tests.{eq-eqb, ne_eqb, eqb-true, eqb-false}
use Rattle.base_common.specs.Tests.{within}
use Rattle.base_common.proofs.Bools.{never, in_range_lem, range_of, either}
use Rattle.base_walk.proofs.AboveLaws.{above_root}
use Rattle.table_records.specs.Table.{kind_of, parent_of, extra_of, scope_of, count, outer, scope_parent_of, scope_node_of}
use Rattle.table_records.specs.Facts.{Tree, Chained, Scoped}
use Rattle.table_records.specs.Kinds as k
use Rattle.table_children.specs.Children.{value_of, is_node}
use Rattle.table_ancestry.proofs.AncestryLaws.{nearest_stop, nearest_on, nearest_root}
use Rattle.check_class_table.proofs.ClassesLaws.{within_one, over}
use Rattle.refusal_standing.specs.Standing.{Placed}
use Rattle.ecma_trees.specs.Trail.{unit_of}
use Rattle.ecma_trees.proofs.TrailLaws.{handed_law, handed_root}
use Rattle.check_class_table.specs.Classes.{body_above}
use Rattle.check_supers.specs.Super.{if_call, is_value_of, part_of, place_of, function_use, is_class_scope, at_class, step_at, reach_from}
use Rattle.check_supers.proofs.SuperLaws.{place_stop, place_on, reach_stop, reach_leave, reach_on, outer_next}
use Rattle.check_supers.specs.declared.ElementPart.TheVariants.{Value, Key}
use Rattle.check_supers.specs.declared.Reach.{Reach}
use Rattle.check_supers.specs.declared.Reach.TheVariants.{Illegal}
use Rattle.check_supers.specs.declared.Step.TheVariants.{On}
use Rattle.ecma_base.specs.Scopes.{Made}
use Rattle.ecma_supers.specs.ScopesFit.{is_block_scope}
use Rattle.ecma_supers.specs.ScopesFit.{is_arrow_scope}
use Rattle.ecma_supers.specs.ScopesFit.{is_function_scope}
use Rattle.ecma_supers.specs.ScopesFit.{ScopesFit, Same}
use Rattle.ecma_supers.specs.Supers.{begins}

-- x is the value of a, in the check's words too
abbrev pub is_value : List ℕ → ℕ → ℕ → Bool
is_value ns a x = is_node (value_of ns a) x

pub value_is : (ns : List ℕ) (a x : ℕ) → is_value_of ns a x ≡ is_value ns a x
unfolding is_value_of
value_is ns a x = refl

-- where a unit begins, and where not
module _ (ns : List ℕ) (i j : ℕ) where
  begins_function : kind_of ns i ≡ k.Function → begins ns i j ≡ true
  unfolding begins
  begins_function e = rw e (go (eqb i 0))
    where
      go : (b : Bool) → (b || true) ≡ true
      go true = refl
      go false = refl

  begins_block : kind_of ns i ≡ k.StaticBlock → begins ns i j ≡ true
  unfolding begins
  begins_block e = rw e (go (eqb i 0))
    where
      go : (b : Bool) → (b || true) ≡ true
      go true = refl
      go false = refl

  begins_field : k.PropertyDefinition ≤ kind_of ns i → kind_of ns i ≤ k.AccessorProperty → is_value ns i j ≡ true → begins ns i j ≡ true
  unfolding begins
  begins_field a b v = rw (ne_eqb (kind_of ns i) 1 (λ q. omega arith), ne_eqb (kind_of ns i) 3 (λ q. omega arith), in_range_lem (kind_of ns i) 29 30 a b, v) (go (eqb i 0))
    where
      go : (b : Bool) → (b || true) ≡ true
      go true = refl
      go false = refl

  begins_arrow : (i ≡ 0 → ⊥) → kind_of ns i ≡ k.Arrow → begins ns i j ≡ false
  unfolding begins
  begins_arrow z e = rw (ne_eqb i 0 z, e)

  begins_class : (i ≡ 0 → ⊥) → (kind_of ns i ≡ k.Class) ⊎ (kind_of ns i ≡ k.ClassBody) → begins ns i j ≡ false
  unfolding begins
  begins_class z w = ⊎_elim (λ (e : kind_of ns i ≡ k.Class). rw (ne_eqb i 0 z, e)) (λ (e : kind_of ns i ≡ k.ClassBody). rw (ne_eqb i 0 z, e)) w

  begins_key : (i ≡ 0 → ⊥) → k.MethodDefinition ≤ kind_of ns i → (within (kind_of ns i) k.PropertyDefinition k.AccessorProperty && is_value ns i j) ≡ false → begins ns i j ≡ false
  unfolding begins
  begins_key z a e = rw (ne_eqb i 0 z, ne_eqb (kind_of ns i) 1 (λ q. omega arith), ne_eqb (kind_of ns i) 3 (λ q. omega arith), e)

  begins_other : (i ≡ 0 → ⊥) → (kind_of ns i ≡ k.Function → ⊥) → (kind_of ns i ≡ k.StaticBlock → ⊥) → within (kind_of ns i) k.PropertyDefinition k.AccessorProperty ≡ false → begins ns i j ≡ false
  unfolding begins
  begins_other z a b e = rw (ne_eqb i 0 z, ne_eqb (kind_of ns i) 1 a, ne_eqb (kind_of ns i) 3 b, e)

module _ (ns ss : List ℕ) (tree : Tree ns) (chained : Chained ss) (scoped : Scoped ns ss) (placed : Placed ns) (fit : ScopesFit ns ss) (n : ℕ) (call : Bool) where
  -- the search from node j
  abbrev from : ℕ → ℕ → Reach
  from j start = reach_from ns ss n call (scope_of ns j ∷ outer ss (scope_of ns j)) (body_above ns j) start

  -- what a unit says
  abbrev pub in_unit : ℕ → Reach
  in_unit u = cond (eqb u 0) Illegal (cond (eqb (kind_of ns u) k.Function) (function_use ns n call (body_above ns u) u) (if_call call))

  abbrev unit : ℕ → ℕ
  unit j = unit_of ns (begins ns) j

  -- the class around a node, one step up
  pub above_other : (j : ℕ) → 0 < j → j < count ns → (kind_of ns (parent_of ns j) ≡ k.ClassBody → ⊥) → body_above ns j ≡ body_above ns (parent_of ns j)
  above_other j z h e = nearest_on ns tree k.ClassBody k.ClassBody j (parent_of ns j) z h refl (within_one (kind_of ns (parent_of ns j)) k.ClassBody ∙ ne_eqb (kind_of ns (parent_of ns j)) k.ClassBody e)

  pub above_body : (j : ℕ) → 0 < j → j < count ns → kind_of ns (parent_of ns j) ≡ k.ClassBody → body_above ns j ≡ Some (record { 0 = parent_of ns j })
  above_body j z h e = nearest_stop ns tree k.ClassBody k.ClassBody j (parent_of ns j) z h refl (within_one (kind_of ns (parent_of ns j)) k.ClassBody ∙ eq-eqb (kind_of ns (parent_of ns j)) k.ClassBody e)

  -- the class that is found above j is a Class, before j, and makes its scope
  record Around (j b : ℕ) : Type 0 where
    less : b < j
    kind : kind_of ns b ≡ k.ClassBody
    parent : kind_of ns (parent_of ns b) ≡ k.Class
    fall : parent_of ns b < b
    maker : scope_node_of ss (extra_of ns (parent_of ns b)) ≡ parent_of ns b

  around : (j b : ℕ) → j < count ns → body_above ns j ≡ Some (record { 0 = b }) → Around j b
  around j b h e =
      let o = over ns tree k.ClassBody k.ClassBody j b h e in
      let l = o.less in
      let q : kind_of ns b ≡ k.ClassBody = eqb-true (kind_of ns b) k.ClassBody (sym (within_one (kind_of ns b) k.ClassBody) ∙ o.kind) in
      let c = placed.class_body b (omega arith) q in
      let z : 0 < b = ⊎_elim (λ (x : 0 ≡ b). absurd (let y : kind_of ns 0 ≡ k.ClassBody = subst (λ (i : ℕ). kind_of ns i ≡ k.ClassBody) (sym x) q in let r = tree.root in omega arith)) (λ (x : 0 < b). x) (eq-or-lt_of_le (omega arith)) in
      let f = tree.falls b z (omega arith) in
      record { less = l; kind = q; parent = c; fall = f; maker = fit.class (parent_of ns b) (omega arith) c }

  -- a scope made by a node that is not the class around is not that class's
  no_class : (j s : ℕ) → j < count ns → ((b : ℕ) → body_above ns j ≡ Some (record { 0 = b }) → scope_node_of ss s ≡ parent_of ns b → ⊥) → is_class_scope ns (body_above ns j) s ≡ false
  no_class j s h w = go (body_above ns j) refl
    where
      go : (f : Option NodeId) → body_above ns j ≡ f → is_class_scope ns f s ≡ false
      go (Some b) e = ne_eqb s (extra_of ns (parent_of ns b.0)) (λ q. w b.0 e (ap (scope_node_of ss) q ∙ (around j b.0 h e).maker))
      go None e = refl

  -- a scope of its own
  module _ (j start : ℕ) (z : 0 < j) (h : j < count ns) (own : Made ns ss j) (c : is_class_scope ns (body_above ns j) (scope_of ns j) ≡ false) where
    next : outer ss (scope_of ns j) ≡ scope_of ns (parent_of ns j) ∷ outer ss (scope_of ns (parent_of ns j))
    next = outer_next ss chained (scope_of ns j) (scope_of ns (parent_of ns j)) (sym own.around) own.later (scoped.scope j h)

    passed : step_at ns ss n call (body_above ns j) start (scope_of ns j) ≡ On → body_above ns j ≡ body_above ns (parent_of ns j) → from j start ≡ from (parent_of ns j) (parent_of ns j)
    passed e a = reach_on ns ss n call (body_above ns j) start (scope_of ns j) e ∙ rw (next, own.whose, a)

    plain_step_lem : is_block_scope ss (scope_of ns j) ≡ false → is_function_scope ss (scope_of ns j) ≡ false → step_at ns ss n call (body_above ns j) start (scope_of ns j) ≡ On
    unfolding step_at
    plain_step_lem b f = rw (c, b, f)

    arrow_step : is_block_scope ss (scope_of ns j) ≡ false → is_function_scope ss (scope_of ns j) ≡ true → is_arrow_scope ss (scope_of ns j) ≡ true → step_at ns ss n call (body_above ns j) start (scope_of ns j) ≡ On
    unfolding step_at
    arrow_step b f a = rw (c, b, f, a)

    function_step : is_block_scope ss (scope_of ns j) ≡ false → is_function_scope ss (scope_of ns j) ≡ true → is_arrow_scope ss (scope_of ns j) ≡ false
        → from j start ≡ function_use ns n call (body_above ns j) (parent_of ns j)
    unfolding step_at
    function_step b f a = reach_stop ns ss n call (body_above ns j) start (scope_of ns j) (function_use ns n call (body_above ns j) (parent_of ns j)) (rw (c, b, f, a, own.whose))

    block_step : is_block_scope ss (scope_of ns j) ≡ true → from j start ≡ if_call call
    unfolding step_at
    block_step b = reach_stop ns ss n call (body_above ns j) start (scope_of ns j) (if_call call) (rw (c, b))

  -- the unit, one step up
  unit_up_lem : (j : ℕ) → 0 < j → j < count ns → unit j ≡ cond (begins ns (parent_of ns j) j) (parent_of ns j) (unit (parent_of ns j))
  unit_up_lem j z h = handed_law ns (λ i j r. cond (begins ns i j) i r) 0 tree j z h

  pub no_root : (i : ℕ) → (kind_of ns i ≡ 0 → ⊥) → 0 < i
  no_root i e = ⊎_elim (λ (q : 0 ≡ i). absurd (e (subst (λ (x : ℕ). kind_of ns x ≡ 0) q tree.root))) (λ (q : 0 < i). q) (eq-or-lt_of_le (omega arith))

  unit_plain : (j : ℕ) → 0 < j → j < count ns → ((parent_of ns j ≡ 0 → ⊥) → begins ns (parent_of ns j) j ≡ false) → unit j ≡ unit (parent_of ns j)
  unit_plain j z h e = unit_up_lem j z h ∙ go (eqb (parent_of ns j) 0) refl (begins ns (parent_of ns j) j) refl
    where
      go : (a : Bool) → eqb (parent_of ns j) 0 ≡ a → (b : Bool) → begins ns (parent_of ns j) j ≡ b → cond b (parent_of ns j) (unit (parent_of ns j)) ≡ unit (parent_of ns j)
      go true q true r =
          let s : parent_of ns j ≡ 0 = eqb-true (parent_of ns j) 0 q in
          s ∙ sym (ap unit s ∙ handed_root ns (λ i j r. cond (begins ns i j) i r) 0)
      go false q true r = never (sym r ∙ e (eqb-false (parent_of ns j) 0 q))
      go a q false r = refl

  unit_begins_lem : (j : ℕ) → 0 < j → j < count ns → begins ns (parent_of ns j) j ≡ true → unit j ≡ parent_of ns j
  unit_begins_lem j z h e = unit_up_lem j z h ∙ rw e

  -- no class's scope
  own_free : (j : ℕ) → 0 < j → j < count ns → (kind_of ns (parent_of ns j) ≡ k.ClassBody → ⊥) → Made ns ss j → is_class_scope ns (body_above ns j) (scope_of ns j) ≡ false
  own_free j z h e own =
      let l = tree.falls j z h in
      no_class j (scope_of ns j) h
      (λ b q r.
      let a = around (parent_of ns j) b (omega arith) (sym (above_other j z h e) ∙ q) in
      let x = a.less in
      let y = a.fall in
      let s : parent_of ns j ≡ parent_of ns b = sym own.whose ∙ r in
      omega arith)

  -- what is known of the nodes above
  abbrev Above : ℕ → Type 0
  Above j = (i start : ℕ) → i < j → within (kind_of ns i) k.ClassBody k.AccessorProperty ≡ false → eqb (kind_of ns i) k.StaticBlock ≡ false → place_of ns start ≡ place_of ns i → from i start ≡ in_unit (unit i)

  module _ (j start : ℕ) (z : 0 < j) (h : j < count ns) (place : place_of ns start ≡ place_of ns j) where
    abbrev p : ℕ
    p = parent_of ns j

    in_function : kind_of ns p ≡ k.Function → from j start ≡ in_unit (unit j)
    in_function e =
        let f = fit.function j z h e in
        let r : 0 < p = no_root p (λ q. omega arith) in
        function_step j start z h f.0 (own_free j z h (λ q. omega arith) f.0) f.1 f.2 f.3
        ∙ rw (unit_begins_lem j z h (begins_function ns p j e), ne_eqb p 0 (λ q. omega arith), e, above_other j z h (λ q. omega arith))

    in_block_lem : kind_of ns p ≡ k.StaticBlock → from j start ≡ in_unit (unit j)
    in_block_lem e =
        let f = fit.block j z h e in
        let r : 0 < p = no_root p (λ q. omega arith) in
        block_step j start z h f.0 (own_free j z h (λ q. omega arith) f.0) f.1
        ∙ rw (unit_begins_lem j z h (begins_block ns p j e), ne_eqb p 0 (λ q. omega arith), e)

    in_arrow : kind_of ns p ≡ k.Arrow → Above j → from j start ≡ in_unit (unit j)
    in_arrow e ih =
        let f = fit.arrow j z h e in
        let l = tree.falls j z h in
        passed j start z h f.0 (own_free j z h (λ q. omega arith) f.0)
        (arrow_step j start z h f.0 (own_free j z h (λ q. omega arith) f.0) f.1 f.2 f.3) (above_other j z h (λ q. omega arith))
        ∙ ih p p l (rw e) (rw e) refl
        ∙ ap in_unit (sym (unit_plain j z h (λ x. begins_arrow ns p j x e)))

    -- a node that makes no function's and no static block's scope, or none
    in_other : within (kind_of ns p) k.Function k.StaticBlock ≡ false → within (kind_of ns p) k.ClassBody k.AccessorProperty ≡ false → Above j → from j start ≡ in_unit (unit j)
    in_other e c ih =
        let l = tree.falls j z h in
        let no1 : kind_of ns p ≡ k.Function → ⊥ = λ q. never (sym (in_range_lem (kind_of ns p) 1 3 (omega arith) (omega arith)) ∙ e) in
        let no3 : kind_of ns p ≡ k.StaticBlock → ⊥ = λ q. never (sym (in_range_lem (kind_of ns p) 1 3 (omega arith) (omega arith)) ∙ e) in
        let no27 : kind_of ns p ≡ k.ClassBody → ⊥ = λ q. never (sym (in_range_lem (kind_of ns p) 27 30 (omega arith) (omega arith)) ∙ c) in
        let u : unit j ≡ unit p = unit_plain j z h (λ x. begins_other ns p j x no1 no3 (narrower (kind_of ns p) 29 c (omega arith))) in
        ⊎_elim
        (λ (s : Same ns j).
        rw (s, above_other j z h no27)
        (ih p start l c (ne_eqb (kind_of ns p) 3 no3) (place ∙ place_on ns tree j p refl z h (narrower (kind_of ns p) 28 c (omega arith))))
        ∙ ap in_unit (sym u))
        (λ o.
        passed j start z h o.0 (own_free j z h no27 o.0)
        (plain_step_lem j start z h o.0 (own_free j z h no27 o.0) o.1 o.2) (above_other j z h no27)
        ∙ ih p p l c (ne_eqb (kind_of ns p) 3 no3) refl
        ∙ ap in_unit (sym u))
        (fit.other j z h e)
      where
        narrower : (x lo : ℕ) → within x 27 30 ≡ false → 27 ≤ lo → within x lo 30 ≡ false
        narrower x lo c m = go (within x lo 30) refl
          where
            go : (b : Bool) → within x lo 30 ≡ b → b ≡ false
            go true q = let r = range_of x lo 30 q in let a = r.0 in never (sym (in_range_lem x 27 30 (omega arith) r.1) ∙ c)
            go false q = refl

    -- a part of a class element
    module _ (e1 : k.MethodDefinition ≤ kind_of ns p) (e2 : kind_of ns p ≤ k.AccessorProperty) where
      abbrev b : ℕ
      b = parent_of ns p

      abbrev c : ℕ
      c = parent_of ns b

      p_later : (0 < p) × (p < j)
      p_later = (no_root p (λ q. omega arith), tree.falls j z h)

      b_kind : kind_of ns b ≡ k.ClassBody
      b_kind = let x = p_later.1 in placed.element p (omega arith) e1 e2

      b_later : (0 < b) × (b < p)
      b_later = let x = p_later.1 in let y = b_kind in (no_root b (λ q. omega arith), tree.falls p p_later.0 (omega arith))

      c_kind : kind_of ns c ≡ k.Class
      c_kind = let x = p_later.1 in let y = b_later.1 in placed.class_body b (omega arith) b_kind

      c_later : c < b
      c_later = let x = p_later.1 in let y = b_later.1 in tree.falls b b_later.0 (omega arith)

      body_scope : Made ns ss b × (scope_of ns b ≡ extra_of ns c)
      body_scope = let x = p_later.1 in let y = b_later.1 in fit.body b (omega arith) b_kind

      the_scope : scope_of ns j ≡ scope_of ns b
      the_scope = let x = p_later.1 in fit.element j z h e1 e2 ∙ (fit.in_body p p_later.0 (omega arith) b_kind).0

      the_class : body_above ns j ≡ Some (record { 0 = b })
      the_class = let x = p_later.1 in above_other j z h (λ q. omega arith) ∙ above_body p p_later.0 (omega arith) b_kind

      step_is : step_at ns ss n call (body_above ns j) start (scope_of ns j) ≡ at_class call (Some (part_of ns p j))
      unfolding step_at
      step_is =
          rw (the_class, eq-eqb (scope_of ns j) (extra_of ns c) (the_scope ∙ body_scope.1))
          (ap (at_class call) (place ∙ place_stop ns tree j p refl z h (in_range_lem (kind_of ns p) 28 30 e1 e2)))

      in_value : part_of ns p j ≡ Value → from j start ≡ if_call call
      in_value e = reach_stop ns ss n call (body_above ns j) start (scope_of ns j) (if_call call) (step_is ∙ ap (λ y. at_class call (Some y)) e)

      in_key : part_of ns p j ≡ Key → from j start ≡ from c c
      in_key e =
          let x = p_later.1 in
          let y = b_later.1 in
          let w = c_kind in
          reach_leave ns ss n call (body_above ns j) start (scope_of ns j) (step_is ∙ ap (λ y. at_class call (Some y)) e)
          ∙ rw (the_scope, the_class, outer_next ss chained (scope_of ns b) (scope_of ns c) (sym body_scope.0.around) body_scope.0.later (scoped.scope b (omega arith)), body_scope.0.whose, above_other b b_later.0 (omega arith) (λ q. omega arith))

      -- its class is in the unit that the class's own node is in
      unit_class : unit p ≡ unit c
      unit_class =
          let x = p_later.1 in
          let y = b_later.1 in
          unit_plain p p_later.0 (omega arith) (λ x. begins_class ns b p x (inr b_kind)) ∙ unit_plain b b_later.0 (omega arith) (λ x. begins_class ns c b x (inl c_kind))

      key_unit : (within (kind_of ns p) k.PropertyDefinition k.AccessorProperty && is_value ns p j) ≡ false → unit j ≡ unit c
      key_unit e = unit_plain j z h (λ x. begins_key ns p j x (omega arith) e) ∙ unit_class

      in_element : Above j → from j start ≡ in_unit (unit j)
      unfolding part_of
      in_element ih = go (eqb (kind_of ns p) 28) refl (is_value ns p j) refl
        where
          out : part_of ns p j ≡ Key → (within (kind_of ns p) k.PropertyDefinition k.AccessorProperty && is_value ns p j) ≡ false → from j start ≡ in_unit (unit j)
          out x y =
              let u = p_later.1 in
              let v = b_later.1 in
              let w = c_later in
              in_key x ∙ ih c c (omega arith) (rw c_kind) (rw c_kind) refl ∙ ap in_unit (sym (key_unit y))

          off : (a : Bool) → (a && false) ≡ false
          off true = refl
          off false = refl

          go : (m : Bool) → eqb (kind_of ns p) 28 ≡ m → (v : Bool) → is_value ns p j ≡ v → from j start ≡ in_unit (unit j)
          go true q v r = out (rw q) (rw (eqb-true (kind_of ns p) 28 q))
          go false q true r =
              let s = eqb-false (kind_of ns p) 28 q in
              in_value (rw (q, value_is ns p j, r))
              ∙ rw (unit_begins_lem j z h (begins_field ns p j (omega arith) e2 r), ne_eqb p 0 (λ q. let x = p_later.0 in omega arith), ne_eqb (kind_of ns p) 1 (λ q. omega arith))
          go false q false r = out (rw (q, value_is ns p j, r)) (rw r (off (within (kind_of ns p) 29 30)))

  in_top : (start : ℕ) → from 0 start ≡ in_unit (unit 0)
  unfolding step_at reach_from
  in_top start =
      rw (fit.top, nearest_root ns k.ClassBody k.ClassBody, fit.top_flags.1, fit.top_flags.0, above_root (scope_parent_of ss), handed_root ns (λ i j r. cond (begins ns i j) i r) 0)

  step_up : (j start : ℕ) → 0 < j → j < count ns → within (kind_of ns j) k.ClassBody k.AccessorProperty ≡ false → eqb (kind_of ns j) k.StaticBlock ≡ false → place_of ns start ≡ place_of ns j → Above j
      → from j start ≡ in_unit (unit j)
  step_up j start z h g1 g2 place ih = go (within (kind_of ns (parent_of ns j)) 1 3) refl (within (kind_of ns (parent_of ns j)) 27 30) refl
    where
      function_like : (x y : Bool) → eqb (kind_of ns (parent_of ns j)) 1 ≡ x → eqb (kind_of ns (parent_of ns j)) 2 ≡ y → 1 ≤ kind_of ns (parent_of ns j) → kind_of ns (parent_of ns j) ≤ 3 → from j start ≡ in_unit (unit j)
      function_like true y q r a b = in_function j start z h place (eqb-true (kind_of ns (parent_of ns j)) 1 q)
      function_like false true q r a b = in_arrow j start z h place (eqb-true (kind_of ns (parent_of ns j)) 2 r) ih
      function_like false false q r a b =
          let s = eqb-false (kind_of ns (parent_of ns j)) 1 q in
          let t = eqb-false (kind_of ns (parent_of ns j)) 2 r in
          in_block_lem j start z h place (omega arith)

      class_like : (x : Bool) → eqb (kind_of ns (parent_of ns j)) 27 ≡ x → 27 ≤ kind_of ns (parent_of ns j) → kind_of ns (parent_of ns j) ≤ 30 → from j start ≡ in_unit (unit j)
      class_like true q a b =
          ⊎_elim (λ (s : within (kind_of ns j) 28 30 ≡ true). let r = range_of (kind_of ns j) 28 30 s in let l = r.0 in never (sym (in_range_lem (kind_of ns j) 27 30 (omega arith) r.1) ∙ g1))
          (λ (s : eqb (kind_of ns j) 3 ≡ true). never (sym s ∙ g2))
          (either (within (kind_of ns j) 28 30) (eqb (kind_of ns j) 3) (fit.in_body j z h (eqb-true (kind_of ns (parent_of ns j)) 27 q)).1)
      class_like false q a b = let s = eqb-false (kind_of ns (parent_of ns j)) 27 q in in_element j start z h place (omega arith) b ih

      go : (x : Bool) → within (kind_of ns (parent_of ns j)) 1 3 ≡ x → (y : Bool) → within (kind_of ns (parent_of ns j)) 27 30 ≡ y → from j start ≡ in_unit (unit j)
      go true q y r =
          let s = range_of (kind_of ns (parent_of ns j)) 1 3 q in
          function_like (eqb (kind_of ns (parent_of ns j)) 1) (eqb (kind_of ns (parent_of ns j)) 2) refl refl s.0 s.1
      go false q true r = let s = range_of (kind_of ns (parent_of ns j)) 27 30 r in class_like (eqb (kind_of ns (parent_of ns j)) 27) refl s.0 s.1
      go false q false r = in_other j start z h place q r ih

  search_by : (f j start : ℕ) → j ≤ f → j < count ns → within (kind_of ns j) k.ClassBody k.AccessorProperty ≡ false → eqb (kind_of ns j) k.StaticBlock ≡ false → place_of ns start ≡ place_of ns j
      → from j start ≡ in_unit (unit j)
  search_by zero j start hf h g1 g2 place =
      let q : 0 ≡ j = omega arith in
      subst (λ (x : ℕ). from x start ≡ in_unit (unit x)) q (in_top start)
  search_by (suc f) j start hf h g1 g2 place =
      ⊎_elim (λ (q : 0 ≡ j). subst (λ (x : ℕ). from x start ≡ in_unit (unit x)) q (in_top start))
      (λ (q : 0 < j). step_up j start q h g1 g2 place (λ i s l a b r. search_by f i s (omega arith) (omega arith) a b r)) (eq-or-lt_of_le (omega arith))

  -- THE SEARCH, from a Super
  pub search_is : n < count ns → kind_of ns n ≡ k.Super → reach_from ns ss n call (scope_of ns n ∷ outer ss (scope_of ns n)) (body_above ns n) n ≡ in_unit (unit n)
  search_is h e = search_by n n n (omega arith) h (rw e) (rw e) refl
