-- A break or a continue that has a target has one in the scope at its node.
use Rattle.table_records.specs.declared.NodeId.{NodeId}
use Rattle.std.specs.Prelude.{ℕ, ◌+◌, ◌<◌, ◌≡◌, ◌⊎◌, List, Bool, ◌||◌, eqb, Option, Some, None, is_some}
use Rattle.std.proofs.Math.Path.{refl, ap}
use Rattle.std.proofs.Common.{sym, ◌∙◌, inl, inr, eq-eqb, eqb-true}
use Rattle.std.proofs.Math.Logic.{⊎_elim}
use Rattle.std.proofs.Math.Bool.{true, false, cond}
use native.Mathlib.Omega.{arith}
use Rattle.std.proofs.lemmas.Bool.{eqb-false}
use Rattle.base_common.proofs.Bools.{never, either}
use Rattle.table_records.specs.Table.{kind_of, parent_of, count}
use Rattle.table_records.specs.Kinds as k
use Rattle.table_records.specs.Roles as role
use Rattle.table_children.specs.Children.{label_of, when_found}
use Rattle.table_children.proofs.ChildrenLaws.{found_child}
use Rattle.table_ancestry.proofs.AncestryLaws.{ancestors_up}
use Rattle.check_jumps.specs.Jumps.{is_unit, is_iteration, is_breakable, same_label, labeled_item}
use Rattle.route_completion.specs.Tree.{near, named}
use Rattle.route_completion.specs.Sem.{Comp, normal, breaks, continues, returns, throws, pick, elem, no_break}
use Rattle.route_completion.specs.Route.{top_scope, loop_scope, label_scope}
use Rattle.refusal_standing.specs.Standing.{Placed}
use Rattle.refusal_state.specs.Targets.{seek, plain_break, named_break, plain_continue, named_continue, has_target}
use Rattle.code_tree.specs.Labels.{name_id, id_at, lab_by, lab_at}
use Rattle.code_tree.specs.Parts.{up_of, shape_at}
use Rattle.code_tree.specs.declared.Shape.{Shape}
use Rattle.code_tree.specs.declared.Shape.TheVariants.{Leaf as Single, Class, If, With, Block, Label, Loop, Switch, Case, Try, Catch}
use Rattle.code_layout.specs.Shaped.{Good}
use Rattle.code_wellformed.proofs.KindsLaws.{switch_shape}
use Rattle.code_jump_scope.proofs.ScopeAt.{Scope, part_scope, scope_at, under, scope_root, scope_up, Member, member_part, member_up, climb}
use Rattle.code_jump_scope.proofs.Labels.{shape_loop, shape_label, label_kind, up_parent, label_test, no_same, item_part, item_loop}

-- b holds the statements of a unit: it is the unit, or its FunctionBody.
pub record Root (ns : List ℕ) (b : ℕ) : Type 0 where
  pub below : b < count ns
  pub block : shape_at ns b ≡ Block
  pub unit : (is_unit (kind_of ns b) ≡ true) ⊎ ((kind_of ns b ≡ k.FunctionBody) × (0 < b) × (is_unit (kind_of ns (parent_of ns b)) ≡ true))

or_right_lem : (x y : Bool) → y ≡ true → (x || y) ≡ true
or_right_lem true y e = refl
or_right_lem false y e = e

or_left_lem : (x y : Bool) → x ≡ true → (x || y) ≡ true
or_left_lem true y e = refl
or_left_lem false y e = never (sym e)

-- What a scope has, the scope of its parts has, but for what a Labeled, a loop and a Switch change.
module _ (ns names : List ℕ) (b p : ℕ) (a : Scope) (c : Comp) where
  kept : (s : Shape) → a.scope c ≡ true → (s ≡ Label → label_scope (id_at ns names p) a.scope c ≡ true) → loop_scope a.labels a.scope c ≡ true → a.scope (no_break c) ≡ true
      → (part_scope ns names b s p a).scope c ≡ true
  kept Single h label loop switch = h
  kept Class h label loop switch = h
  kept If h label loop switch = h
  kept With h label loop switch = h
  kept Block h label loop switch = h
  kept Label h label loop switch = label refl
  kept Loop h label loop switch = loop
  kept Switch h label loop switch = switch
  kept Case h label loop switch = h
  kept Try h label loop switch = h
  kept Catch h label loop switch = h

module _ (ns names : List ℕ) (b : ℕ) (g : Good ns) (pl : Placed ns) (root : Root ns b) where
  abbrev In : ℕ → Type 0
  In p = Member ns names b g.falls p

  abbrev at : ℕ → Scope
  at p = scope_at ns names b p

  abbrev below : ℕ → Comp → Bool
  below p = (under ns names b p).scope

  -- The scope at a node is that of its holder's parts.
  down : (p : ℕ) → b < p → In p → (c : Comp) → (at p).scope c ≡ below (up_of ns p) c
  down p h l c = ap (λ (a : Scope). a.scope c) (scope_up ns names b g.falls p h l.below)

  -- What the top has, and each holder hands on, is everywhere.
  everywhere : (c : Comp) → top_scope c ≡ true → ((p : ℕ) (a : Scope) → a.scope c ≡ true → (part_scope ns names b (shape_at ns p) p a).scope c ≡ true) → (p : ℕ) → In p → (at p).scope c ≡ true
  everywhere c e hands =
      climb ns names b g.falls (λ p. (at p).scope c ≡ true) (ap (λ (a : Scope). a.scope c) (scope_root ns names b) ∙ e)
      (λ p h l r. down p h l c ∙ hands (up_of ns p) (at (up_of ns p)) r)

  pub at_normal : (p : ℕ) → In p → (at p).scope normal ≡ true
  at_normal = everywhere normal refl (λ p a h. kept ns names b p a normal (shape_at ns p) h (λ e. h) refl h)

  pub at_returns : (p : ℕ) → In p → (at p).scope returns ≡ true
  at_returns = everywhere returns refl (λ p a h. kept ns names b p a returns (shape_at ns p) h (λ e. h) h h)

  pub at_throws : (p : ℕ) → In p → (at p).scope throws ≡ true
  at_throws = everywhere throws refl (λ p a h. kept ns names b p a throws (shape_at ns p) h (λ e. h) h h)

  -- What a jump right below p meets on its way up, p first.
  module _ (answer : ℕ → Bool → Bool) where
    abbrev met : ℕ → Bool
    met p = cond (is_unit (kind_of ns p)) false (answer p (seek ns answer p))

    seek_met : (j : ℕ) → 0 < j → j < count ns → seek ns answer j ≡ met (parent_of ns j)
    unfolding seek
    seek_met j h l = ancestors_up _ _ ns g.tree j h l

    -- Nothing from b on.
    met_root : ((r : Bool) → kind_of ns b ≡ k.FunctionBody → answer b r ≡ r) → met b ≡ false
    met_root pass =
        ⊎_elim (λ u. ap (λ (x : Bool). cond x false (answer b (seek ns answer b))) u)
        (λ w.
        ap (λ (x : ℕ). cond (is_unit x) false (answer b (seek ns answer b))) w.0
        ∙ pass (seek ns answer b) w.0 ∙ seek_met b w.1 root.below
        ∙ ap (λ (x : Bool). cond x false (answer (parent_of ns b) (seek ns answer (parent_of ns b)))) w.2)
        root.unit

    -- Nothing at a static block: "a unit is a node of kind 0-3".
    no_static : (p : ℕ) → met p ≡ true → kind_of ns p ≡ k.StaticBlock → ⊥
    no_static p e q = never (sym e ∙ ap (λ (x : ℕ). cond (is_unit x) false (answer p (seek ns answer p))) q)

    -- Past p, where p does not answer.
    met_on : (p : ℕ) → b < p → In p → (kind_of ns p ≡ k.StaticBlock → ⊥) → seek ns answer p ≡ true → met (up_of ns p) ≡ true
    met_on p h l n e = ap met (up_parent ns p n) ∙ sym (seek_met p (omega arith) l.below) ∙ e

    inner : (p : ℕ) → met p ≡ true → answer p (seek ns answer p) ≡ true
    inner p = go (is_unit (kind_of ns p))
      where
        go : (x : Bool) → cond x false (answer p (seek ns answer p)) ≡ true → answer p (seek ns answer p) ≡ true
        go true e = never (sym e)
        go false e = e

  -- A break without a label.
  break_met : (p : ℕ) → In p → met (plain_break ns) p ≡ true → below p (breaks near) ≡ true
  unfolding plain_break
  break_met =
      climb ns names b g.falls (λ p. met (plain_break ns) p ≡ true → below p (breaks near) ≡ true)
      (λ e. never (sym e ∙ met_root (plain_break ns) (λ r q. ap (λ (x : ℕ). cond (is_breakable x) true r) q)))
      (λ p h l r e.
      go p l (λ z. down p h l (breaks near) ∙ r (met_on (plain_break ns) p h l (no_static (plain_break ns) p e) z)) (is_breakable (kind_of ns p)) refl (inner (plain_break ns) p e))
    where
      go : (p : ℕ) → In p → (seek ns (plain_break ns) p ≡ true → (at p).scope (breaks near) ≡ true)
          → (x : Bool) → is_breakable (kind_of ns p) ≡ x → cond x true (seek ns (plain_break ns) p) ≡ true → below p (breaks near) ≡ true
      go p l up true q e =
          ⊎_elim (λ i. ap (λ (s : Shape). (part_scope ns names b s p (at p)).scope (breaks near)) (shape_loop (kind_of ns p) i) ∙ at_normal p l)
          (λ i. ap (λ (s : Shape). (part_scope ns names b s p (at p)).scope (breaks near)) (switch_shape (kind_of ns p) (eqb-true (kind_of ns p) k.Switch i)) ∙ at_normal p l)
          (either (is_iteration (kind_of ns p)) (eqb (kind_of ns p) k.Switch) q)
      go p l up false q e = kept ns names b p (at p) (breaks near) (shape_at ns p) (up e) (λ s. up e) (at_normal p l) (at_normal p l)

  -- A continue without a label.
  continue_met : (p : ℕ) → In p → met (plain_continue ns) p ≡ true → below p (continues near) ≡ true
  unfolding plain_continue
  continue_met =
      climb ns names b g.falls (λ p. met (plain_continue ns) p ≡ true → below p (continues near) ≡ true)
      (λ e. never (sym e ∙ met_root (plain_continue ns) (λ r q. ap (λ (x : ℕ). cond (is_iteration x) true r) q)))
      (λ p h l r e.
      go p l (λ z. down p h l (continues near) ∙ r (met_on (plain_continue ns) p h l (no_static (plain_continue ns) p e) z)) (is_iteration (kind_of ns p)) refl (inner (plain_continue ns) p e))
    where
      go : (p : ℕ) → In p → (seek ns (plain_continue ns) p ≡ true → (at p).scope (continues near) ≡ true)
          → (x : Bool) → is_iteration (kind_of ns p) ≡ x → cond x true (seek ns (plain_continue ns) p) ≡ true → below p (continues near) ≡ true
      go p l up true q e = ap (λ (s : Shape). (part_scope ns names b s p (at p)).scope (continues near)) (shape_loop (kind_of ns p) q)
      go p l up false q e = kept ns names b p (at p) (continues near) (shape_at ns p) (up e) (λ s. up e) refl (up e)

  -- Jumps with the label m.
  module _ (m : ℕ) (lm : m < count ns) where
    abbrev id : ℕ
    id = name_id ns names m

    decide : (p : ℕ) → (kind_of ns p ≡ k.Labeled) ⊎ (kind_of ns p ≡ k.Labeled → ⊥)
    decide p = go (eqb (kind_of ns p) k.Labeled) refl
      where
        go : (x : Bool) → eqb (kind_of ns p) k.Labeled ≡ x → (kind_of ns p ≡ k.Labeled) ⊎ (kind_of ns p ≡ k.Labeled → ⊥)
        go true e = inl (eqb-true (kind_of ns p) k.Labeled e)
        go false e = inr (eqb-false (kind_of ns p) k.Labeled e)

    at_body : kind_of ns b ≡ k.FunctionBody → same_label ns names m b ≡ None
    at_body q = no_same ns names b m (λ z. omega arith)

    -- A Labeled of that name, and one of another.
    same_id : (p : ℕ) → kind_of ns p ≡ k.Labeled → (x : Option NodeId) → same_label ns names m p ≡ x → eqb id (id_at ns names p) ≡ is_some x
    same_id p e x q = label_test ns names p m lm e ∙ ap is_some q

    leave_met : (p : ℕ) → In p → met (named_break ns names m) p ≡ true → below p (breaks (named id)) ≡ true
    unfolding named_break
    leave_met =
        climb ns names b g.falls (λ p. met (named_break ns names m) p ≡ true → below p (breaks (named id)) ≡ true)
        (λ e. never (sym e ∙ met_root (named_break ns names m) (λ r q. ap (λ (x : Option NodeId). when_found x (λ j. true) r) (at_body q))))
        (λ p h l r e.
        go p l (λ z. down p h l (breaks (named id)) ∙ r (met_on (named_break ns names m) p h l (no_static (named_break ns names m) p e) z)) (decide p) (same_label ns names m p) refl
        (inner (named_break ns names m) p e))
      where
        leaves : (p : ℕ) → In p → (at p).scope (breaks (named id)) ≡ true → (x : Bool) → (at p).scope (pick x normal (breaks (named id))) ≡ true
        leaves p l h true = at_normal p l
        leaves p l h false = h

        go : (p : ℕ) → In p → (seek ns (named_break ns names m) p ≡ true → (at p).scope (breaks (named id)) ≡ true) → (kind_of ns p ≡ k.Labeled) ⊎ (kind_of ns p ≡ k.Labeled → ⊥)
            → (x : Option NodeId) → same_label ns names m p ≡ x → when_found x (λ j. true) (seek ns (named_break ns names m) p) ≡ true → below p (breaks (named id)) ≡ true
        go p l up (inl y) (Some j) q e =
            ap (λ (s : Shape). (part_scope ns names b s p (at p)).scope (breaks (named id))) (shape_label (kind_of ns p) y)
            ∙ ap (λ (x : Bool). (at p).scope (pick x normal (breaks (named id)))) (same_id p y (Some j) q) ∙ at_normal p l
        go p l up (inr y) (Some j) q e = never (sym (ap is_some q) ∙ ap is_some (no_same ns names p m y))
        go p l up d None q e =
            kept ns names b p (at p) (breaks (named id)) (shape_at ns p) (up e) (λ s. leaves p l (up e) (eqb id (id_at ns names p))) (up e) (up e)

    -- At a Labeled of that name a continue has no target yet: the loop below gives it one.
    abbrev Pending : ℕ → Type 0
    Pending p = (kind_of ns p ≡ k.Labeled) × (elem id (under ns names b p).labels ≡ true) × (is_iteration (kind_of ns (labeled_item ns p)) ≡ true)

    abbrev Next : ℕ → Type 0
    Next p = (below p (continues (named id)) ≡ true) ⊎ Pending p

    next_met : (p : ℕ) → In p → met (named_continue ns names m) p ≡ true → Next p
    unfolding named_continue
    next_met =
        climb ns names b g.falls (λ p. met (named_continue ns names m) p ≡ true → Next p)
        (λ e. never (sym e ∙ met_root (named_continue ns names m) (λ r q. ap (λ (x : Option NodeId). when_found x (λ j. is_iteration (kind_of ns (labeled_item ns b))) r) (at_body q))))
        (λ p h l r e.
        go p h l (λ z. r (met_on (named_continue ns names m) p h l (no_static (named_continue ns names m) p e) z)) (decide p) (same_label ns names m p) refl (inner (named_continue ns names m) p e))
      where
        -- From the holder of p to p, where p has no such name.
        labels : (p : ℕ) → b < p → In p → elem id (under ns names b (up_of ns p)).labels ≡ true → elem id (at p).labels ≡ true
        labels p h l e = ap (λ (a : Scope). elem id a.labels) (scope_up ns names b g.falls p h l.below) ∙ e

        on_label : (p : ℕ) → b < p → In p → kind_of ns p ≡ k.Labeled → eqb id (id_at ns names p) ≡ false → Next (up_of ns p) → Next p
        on_label p h l y q (inl s) =
            inl (ap (λ (s : Shape). (part_scope ns names b s p (at p)).scope (continues (named id))) (shape_label (kind_of ns p) y)
            ∙ ap (λ (x : Bool). pick x false ((at p).scope (continues (named id)))) q ∙ down p h l (continues (named id)) ∙ s)
        on_label p h l y q (inr w) =
            inr (
              y,
              ap (λ (s : Shape). elem id (part_scope ns names b s p (at p)).labels) (shape_label (kind_of ns p) y)
                  ∙ or_right_lem (eqb id (id_at ns names p)) (elem id (at p).labels) (labels p h l w.1),
              item_part ns g pl (up_of ns p) (member_up ns names b g.falls p h l).below w.0 p (member_part ns names b g.falls p h l) w.2,
            )

        on_other : (p : ℕ) → b < p → In p → (kind_of ns p ≡ k.Labeled → ⊥) → Next (up_of ns p) → Next p
        on_other p h l y (inl s) =
            let z = down p h l (continues (named id)) ∙ s in
            inl (kept ns names b p (at p) (continues (named id)) (shape_at ns p) z (λ e. absurd (y (label_kind (kind_of ns p) e))) (or_right_lem (elem id (at p).labels) ((at p).scope (continues (named id))) z) z)
        on_other p h l y (inr w) =
            let i = item_loop ns g pl (up_of ns p) (member_up ns names b g.falls p h l).below w.0 p (member_part ns names b g.falls p h l) w.2 y in
            inl (ap (λ (s : Shape). (part_scope ns names b s p (at p)).scope (continues (named id))) (shape_loop (kind_of ns p) i)
            ∙ or_left_lem (elem id (at p).labels) ((at p).scope (continues (named id))) (labels p h l w.1))

        go : (p : ℕ) → b < p → In p → (seek ns (named_continue ns names m) p ≡ true → Next (up_of ns p)) → (kind_of ns p ≡ k.Labeled) ⊎ (kind_of ns p ≡ k.Labeled → ⊥)
            → (x : Option NodeId) → same_label ns names m p ≡ x
            → when_found x (λ j. is_iteration (kind_of ns (labeled_item ns p))) (seek ns (named_continue ns names m) p) ≡ true → Next p
        go p h l up (inl y) (Some j) q e =
            inr (
              y,
              ap (λ (s : Shape). elem id (part_scope ns names b s p (at p)).labels) (shape_label (kind_of ns p) y)
                  ∙ or_left_lem (eqb id (id_at ns names p)) (elem id (at p).labels) (same_id p y (Some j) q),
              e,
            )
        go p h l up (inr y) (Some j) q e = never (sym (ap is_some q) ∙ ap is_some (no_same ns names p m y))
        go p h l up (inl y) None q e = on_label p h l y (same_id p y None q) (up e)
        go p h l up (inr y) None q e = on_other p h l y (up e)

  -- The label of a jump is a node.
  label_in_lem : (j m : ℕ) → label_of ns j ≡ Some (record { 0 = m }) → m < count ns
  label_in_lem j m e = (found_child ns j k.LabelIdentifier k.LabelIdentifier role.Label role.Label (j + 1) m e).below

  module _ (j : ℕ) (h : b < j) (l : In j) (e : has_target ns names j ≡ true) where
    holder : In (up_of ns j)
    holder = member_up ns names b g.falls j h l

    -- A BREAK
    pub reach_break : kind_of ns j ≡ k.Break → (at j).scope (breaks (lab_at ns names j)) ≡ true
    unfolding has_target
    reach_break q = go (label_of ns j) refl (rw (eq-eqb (kind_of ns j) k.Break q) at e)
      where
        plain : kind_of ns j ≡ k.StaticBlock → ⊥
        plain z = omega arith

        go : (x : Option NodeId) → label_of ns j ≡ x → when_found x (λ m. seek ns (named_break ns names m) j) (seek ns (plain_break ns) j) ≡ true → (at j).scope (breaks (lab_by ns names x)) ≡ true
        go (Some m) y z =
            down j h l (breaks (named (name_id ns names m.0)))
            ∙ leave_met m.0 (label_in_lem j m.0 y) (up_of ns j) holder (met_on (named_break ns names m.0) j h l plain z)
        go None y z = down j h l (breaks near) ∙ break_met (up_of ns j) holder (met_on (plain_break ns) j h l plain z)

    -- A CONTINUE: it is no loop itself.
    pub reach_continue : kind_of ns j ≡ k.Continue → (at j).scope (continues (lab_at ns names j)) ≡ true
    unfolding has_target
    reach_continue q = go (label_of ns j) refl (rw q at e)
      where
        plain : kind_of ns j ≡ k.StaticBlock → ⊥
        plain z = omega arith

        from : (m : ℕ) (lm : m < count ns) → Next m lm (up_of ns j) → below (up_of ns j) (continues (named (name_id ns names m))) ≡ true
        from m lm (inl s) = s
        from m lm (inr w) =
            let i = item_loop ns g pl (up_of ns j) holder.below w.0 j (member_part ns names b g.falls j h l) w.2 (λ z. omega arith) in
            never (sym (sym (ap (λ (x : ℕ). is_iteration x) q) ∙ i))

        go : (x : Option NodeId) → label_of ns j ≡ x → when_found x (λ m. seek ns (named_continue ns names m) j) (seek ns (plain_continue ns) j) ≡ true → (at j).scope (continues (lab_by ns names x)) ≡ true
        go (Some m) y z =
            down j h l (continues (named (name_id ns names m.0)))
            ∙ from m.0 (label_in_lem j m.0 y) (next_met m.0 (label_in_lem j m.0 y) (up_of ns j) holder (met_on (named_continue ns names m.0) j h l plain z))
        go None y z = down j h l (continues near) ∙ continue_met (up_of ns j) holder (met_on (plain_continue ns) j h l plain z)
