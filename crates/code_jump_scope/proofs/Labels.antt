-- What the kind of a node says of its shape; a Labeled by its name's number; what a Labeled labels is what its part labels, or its part.
use Rattle.table_records.specs.declared.NodeId.{NodeId}
use Rattle.std.specs.Prelude.{ℕ, ◌+◌, ◌<◌, ◌≡◌, List, [], ◌∷◌, Bool, cond, eqb, Option, Some, None, is_some}
use Rattle.std.proofs.Math.Path.{refl, ap, sym}
use Rattle.std.proofs.Common.{subst, ◌∙◌, inl, inr}
use Rattle.std.proofs.Math.Bool.{true, false}
use native.Mathlib.Omega.{arith}
use borrow.Author.Tests.{eq-eqb, ne_eqb}
use Rattle.base_common.proofs.Bools.{never, range_of}
use Rattle.table_records.specs.Table.{kind_of, parent_of, role_of, count}
use Rattle.table_records.specs.Kinds as k
use Rattle.table_records.specs.Roles as role
use Rattle.table_names.specs.Name.{same_name}
use Rattle.table_children.specs.Children.{label_of, held_of, when_found}
use Rattle.table_children.proofs.ChildrenLaws.{found_child}
use Rattle.check_jumps.specs.Jumps.{is_iteration, same_label, labeled_item}
use Rattle.check_jumps.proofs.JumpsLaws.{item_here, item_none, item_down}
use Rattle.refusal_standing.specs.Standing.{Placed}
use Rattle.code_tree.specs.Labels.{name_id, id_at}
use Rattle.code_tree.proofs.LabelLaws.{named_as, id_test}
use Rattle.code_tree.specs.Parts.{entered_by, up_of, shape_by, shape_at, is_part, part_by}
use Rattle.code_tree.specs.Parts.{Part}
use Rattle.code_tree.specs.declared.Shape.{Shape}
use Rattle.code_tree.specs.declared.Shape.TheVariants.{Leaf as Single, Class, If, With, Block, Label, Loop, Switch, Case, Try, Catch}
use Rattle.code_layout.specs.Shaped.{is_one, Good}
use Rattle.code_layout.proofs.Sums.{In, in_order}
use Rattle.code_wellformed.proofs.KindsLaws.{by_kind}

pub shape_loop : (kind : ℕ) → is_iteration kind ≡ true → shape_by kind ≡ Loop
unfolding shape_by
shape_loop kind e =
    let w = range_of kind k.For k.DoWhile e in
    let a = w.0 in
    let b = w.1 in
    rw (ne_eqb kind k.Program (λ q. omega arith), ne_eqb kind k.StaticBlock (λ q. omega arith), ne_eqb kind k.FunctionBody (λ q. omega arith), ne_eqb kind k.Block (λ q. omega arith), ne_eqb kind k.Labeled (λ q. omega arith), e)

pub shape_label : (kind : ℕ) → kind ≡ k.Labeled → shape_by kind ≡ Label
unfolding shape_by
shape_label kind e = ap shape_by e

abbrev is_label : Shape → Bool
is_label Single = false
is_label Class = false
is_label If = false
is_label With = false
is_label Block = false
is_label Label = true
is_label Loop = false
is_label Switch = false
is_label Case = false
is_label Try = false
is_label Catch = false

pub label_kind : (kind : ℕ) → shape_by kind ≡ Label → kind ≡ k.Labeled
label_kind kind e = label_by (ap is_label e)
  where
    absent : false ≡ true → kind ≡ k.Labeled
    absent q = never (sym q)

    label_by : is_label (shape_by kind) ≡ true → kind ≡ k.Labeled
    label_by =
        by_kind kind (λ s. is_label s ≡ true → kind ≡ k.Labeled) absent (λ q x. q) (λ p q. absent) (λ q. absent) (λ q. absent) (λ q. absent) (λ q. absent) (λ q. absent) (λ q. absent)
        absent absent

-- A node that is no static block is a part of its parent, if of any.
pub up_parent : (ns : List ℕ) (j : ℕ) → (kind_of ns j ≡ k.StaticBlock → ⊥) → up_of ns j ≡ parent_of ns j
unfolding up_of
up_parent ns j n = ap (λ x. cond x (entered_by ns (parent_of ns (parent_of ns j))) (parent_of ns j)) (ne_eqb (kind_of ns j) k.StaticBlock n)

-- A Labeled has the name of the label l just where their numbers are the same.
module _ (ns names : List ℕ) (a : ℕ) where
  pub label_test : (l : ℕ) → l < count ns → kind_of ns a ≡ k.Labeled → eqb (name_id ns names l) (id_at ns names a) ≡ is_some (same_label ns names l a)
  unfolding same_label
  label_test l h e = id_test ns names l h a (label_of ns a) refl ∙ rw (eq-eqb (kind_of ns a) k.Labeled e) (go (label_of ns a))
    where
      by : (m : ℕ) (x : Bool) → x ≡ is_some {T = NodeId} (cond x (Some (record { 0 = m })) None)
      by m true = refl
      by m false = refl

      go : (x : Option NodeId) → named_as ns names l x ≡ is_some {T = NodeId} (when_found x (λ m. cond (same_name ns names m l) (Some (record { 0 = m })) None) None)
      go (Some m) = by m.0 (same_name ns names m.0 l)
      go None = refl

  pub no_same : (l : ℕ) → (kind_of ns a ≡ k.Labeled → ⊥) → same_label ns names l a ≡ None
  unfolding same_label
  no_same l n = rw (ne_eqb (kind_of ns a) k.Labeled n)

module _ (ns : List ℕ) (g : Good ns) (pl : Placed ns) (q : ℕ) (lq : q < count ns) (e : kind_of ns q ≡ k.Labeled) where
  shaped : shape_at ns q ≡ Label
  shaped = shape_label (kind_of ns q) e

  only : (c x y : ℕ) → In x (c ∷ []) → In y (c ∷ []) → x ≡ y
  only c x y (inl u) (inl v) = sym u ∙ v
  only c x y (inl u) (inr v) = absurd v
  only c x y (inr u) v = absurd u

  -- What the Labeled q holds is its part.
  held_part : (m p : ℕ) → held_of ns q ≡ Some (record { 0 = m }) → Part ns q p → m ≡ p
  unfolding is_part
  held_part m p h w =
      let v = found_child ns q 0 55 role.Held role.Held (q + 1) m h in
      let x = v.from in
      let y = v.role_low in
      let z = v.role_high in
      let r : role_of ns m ≡ role.Held = omega arith in
      let u : up_of ns m ≡ q = up_parent ns m (λ i. let j : kind_of ns q ≡ k.ClassBody = sym (ap (kind_of ns) v.parent) ∙ pl.static_block m v.below i in omega arith) ∙ v.parent in
      let s : is_part ns m ≡ true = ap (λ (j : ℕ). part_by (shape_at ns j) (kind_of ns m) (role_of ns m)) u ∙ ap (λ (t : Shape). part_by t (kind_of ns m) (role_of ns m)) shaped ∙ eq-eqb (role_of ns m) role.Held r in
      let (c, o) = g.shaped.one q lq (ap is_one shaped) in
      only c m p (subst (In m) o (in_order ns q m (record { behind = omega arith; inside = v.below; parent = u; part = s }))) (subst (In p) o (in_order ns q p w))

  module _ (p : ℕ) (w : Part ns q p) (it : is_iteration (kind_of ns (labeled_item ns q)) ≡ true) where
    pub item_part : is_iteration (kind_of ns (labeled_item ns p)) ≡ true
    item_part = go (held_of ns q) refl
      where
        go : (x : Option NodeId) → held_of ns q ≡ x → is_iteration (kind_of ns (labeled_item ns p)) ≡ true
        go (Some m) h = subst (λ (j : ℕ). is_iteration (kind_of ns j) ≡ true) (item_down ns q lq m.0 e h ∙ ap (labeled_item ns) (held_part m.0 p h w)) it
        go None h =
            let z : is_iteration k.Labeled ≡ true = subst (λ (y : ℕ). is_iteration y ≡ true) (ap (kind_of ns) (item_none ns q lq e h) ∙ e) it in
            never (sym z)

    -- A part that is no Labeled is the loop.
    pub item_loop : (kind_of ns p ≡ k.Labeled → ⊥) → is_iteration (kind_of ns p) ≡ true
    item_loop n = subst (λ (j : ℕ). is_iteration (kind_of ns j) ≡ true) (item_here ns p w.inside n) item_part
