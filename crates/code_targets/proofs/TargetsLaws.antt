-- One law for each step up.
use Prim.Native.Nat.{ℕ, zero, suc, ◌+◌, ◌<◌}
use Rattle.std.specs.Prelude.{◌≡◌, List, Bool, ◌&&◌, ◌||◌}
use Rattle.std.proofs.Math.Path.{refl, ap}
use Rattle.std.proofs.Common.{sym, ◌∙◌, subst, eqb-true}
use Rattle.std.proofs.Math.Bool.{true, false, cond}
use Rattle.std.proofs.Math.Dec.{eqb}
use Rattle.base_common.proofs.Bools.{never}
use Rattle.base_walk.specs.Above.{Falls}
use Rattle.table_records.specs.Table.{count, role_of}
use Rattle.table_records.specs.Roles as role
use Rattle.route_completion.specs.Tree.{Lab, near, named}
use Rattle.route_completion.specs.Sem.{Comp, normal, breaks, continues, returns, throws, pick, elem}
use Rattle.code_flat.specs.Code.{Stat, at, top, next, in_try}
use Rattle.code_tree.specs.Labels.{id_at}
use Rattle.code_tree.specs.Parts.{up_of, shape_at, is_labeled, order}
use Rattle.code_tree.specs.declared.Shape.{Shape}
use Rattle.code_tree.specs.declared.Shape.TheVariants.{Leaf, Class, If, With, Block, Label, Loop, Switch, Case, Try, Catch}
use Rattle.code_layout.specs.Widths.{has_role, is_try, own_width, width_at}
use Rattle.code_layout.specs.Context.{ifz, before, behind, Context, part_context, context_at, offset_at}
use Rattle.code_layout.proofs.LayoutLaws.{context_root, context_up}
use Rattle.code_targets.specs.Targets.{is_loop, is_breakable, is_catch, some, goes_on_by, next_by, catches_at, target, depth_at, labels_at}

-- In a Try, by whether the part is the finally (x) and whether its throws are caught (y).
module _ (ρ : Comp → Stat) (s : Stat) (e δ : ℕ) where
  abbrev inside : Bool → Bool → Comp → Stat
  inside x y = cond x (next ρ s) (cond y (in_try ρ e δ) ρ)

  pass_normal : (y : Bool) → inside false y normal ≡ ρ normal
  pass_normal true = refl
  pass_normal false = refl

  pass_break : (x y : Bool) (l : Lab) → inside x y (breaks l) ≡ ρ (breaks l)
  pass_break true y l = refl
  pass_break false true l = refl
  pass_break false false l = refl

  pass_continue : (x y : Bool) (l : Lab) → inside x y (continues l) ≡ ρ (continues l)
  pass_continue true y l = refl
  pass_continue false true l = refl
  pass_continue false false l = refl

  pass_return : (x y : Bool) → inside x y returns ≡ ρ returns
  pass_return true y = refl
  pass_return false true = refl
  pass_return false false = refl

  pass_throw : (x y : Bool) → (x ≡ true → y ≡ false) → inside x y throws ≡ cond y (at e δ) (ρ throws)
  pass_throw true true f = never (f refl)
  pass_throw true false f = refl
  pass_throw false true f = refl
  pass_throw false false f = refl

module _ (ns names : List ℕ) (b : ℕ) where
  pub target_root : (c : Comp) → target ns names b b c ≡ top (width_at ns b b) c
  unfolding target
  target_root c = ap (λ a. a.env c) (context_root ns names b)

  pub depth_root : depth_at ns names b b ≡ 0
  unfolding depth_at
  depth_root = ap (λ a. a.depth) (context_root ns names b)

  module _ (t : Falls (up_of ns) (count ns)) (j : ℕ) (hb : b < j) (hc : j < count ns) where
    abbrev p : ℕ
    p = up_of ns j

    abbrev ps : List ℕ
    ps = order ns p

    -- The context of j, and what is to be shown of it, for each shape of its holder.
    by_shape : (P : Shape → Context → Context → Type 0) → ((s : Shape) (a : Context) (o m : ℕ) → m ≡ behind (order ns (up_of ns j)) j → P s a (part_context ns names b s (up_of ns j) (order ns (up_of ns j)) a j o m))
        → P (shape_at ns (up_of ns j)) (context_at ns names b (up_of ns j)) (context_at ns names b j)
    by_shape P f =
        subst (P (shape_at ns p) (context_at ns names b p)) (sym (context_up ns names b t j hb hc))
        (f (shape_at ns p) (context_at ns names b p) ((context_at ns names b p).offset + own_width ns b p + before (width_at ns b) ps j) (behind ps j) refl)

    -- The depth of the pending ends: one more in a Try with a finally.
    pub depth_up : depth_at ns names b j ≡ cond (is_try (shape_at ns (up_of ns j)) && has_role ns role.Finally (order ns (up_of ns j))) (suc (depth_at ns names b (up_of ns j))) (depth_at ns names b (up_of ns j))
    unfolding depth_at
    depth_up = by_shape (λ s a c. c.depth ≡ cond (is_try s && has_role ns role.Finally ps) (suc a.depth) a.depth) go
      where
        go : (s : Shape) (a : Context) (o m : ℕ) → m ≡ behind ps j → (part_context ns names b s p ps a j o m).depth ≡ cond (is_try s && has_role ns role.Finally ps) (suc a.depth) a.depth
        go Leaf a o m e = refl
        go Class a o m e = refl
        go If a o m e = refl
        go With a o m e = refl
        go Block a o m e = refl
        go Label a o m e = refl
        go Loop a o m e = refl
        go Switch a o m e = refl
        go Case a o m e = refl
        go Try a o m e = refl
        go Catch a o m e = refl

    -- Falling through: as the node itself says ..
    pub next_self : goes_on_by (shape_at ns (up_of ns j)) (behind (order ns (up_of ns j)) j) (role_of ns j) ≡ true
        → target ns names b j normal ≡ next_by (shape_at ns (up_of ns j)) (offset_at ns names b (up_of ns j)) (depth_at ns names b (up_of ns j)) (depth_at ns names b j) (offset_at ns names b j + width_at ns b j)
    unfolding target depth_at
    next_self = by_shape (λ s a c. goes_on_by s (behind ps j) (role_of ns j) ≡ true → c.env normal ≡ next_by s a.offset a.depth c.depth (c.offset + width_at ns b j)) (λ s a o m q e. go s a o m (subst (λ k. goes_on_by s k (role_of ns j) ≡ true) (sym q) e))
      where
        there : (m : ℕ) (x y : Stat) → some m ≡ true → ifz m x y ≡ y
        there zero x y e = never (sym e)
        there (suc m) x y e = refl

        go : (s : Shape) (a : Context) (o m : ℕ) → goes_on_by s m (role_of ns j) ≡ true
            → (part_context ns names b s p ps a j o m).env normal ≡ next_by s a.offset a.depth (part_context ns names b s p ps a j o m).depth ((part_context ns names b s p ps a j o m).offset + width_at ns b j)
        go Leaf a o m e = never (sym e)
        go Class a o m e = there m (a.env normal) (at (o + width_at ns b j) a.depth) e
        go If a o m e = never (sym e)
        go With a o m e = never (sym e)
        go Block a o m e = there m (a.env normal) (at (o + width_at ns b j) a.depth) e
        go Label a o m e = never (sym e)
        go Loop a o m e = refl
        go Switch a o m e = there m (a.env normal) (at (o + width_at ns b j) a.depth) e
        go Case a o m e = there m (a.env normal) (at (o + width_at ns b j) a.depth) e
        go Try a o m e = ap (λ x. inside a.env (at 0 (part_context ns names b Try p ps a j o m).depth) (o + width_at ns b j) (part_context ns names b Try p ps a j o m).depth x (eqb (role_of ns j) role.Held && has_role ns role.Alternate ps) normal) e
        go Catch a o m e = never (sym e)

    -- .. or as its holder does.
    pub next_up : goes_on_by (shape_at ns (up_of ns j)) (behind (order ns (up_of ns j)) j) (role_of ns j) ≡ false → target ns names b j normal ≡ target ns names b (up_of ns j) normal
    unfolding target
    next_up = by_shape (λ s a c. goes_on_by s (behind ps j) (role_of ns j) ≡ false → c.env normal ≡ a.env normal) (λ s a o m q e. go s a o m (subst (λ k. goes_on_by s k (role_of ns j) ≡ false) (sym q) e))
      where
        none : (m : ℕ) (x y : Stat) → some m ≡ false → ifz m x y ≡ x
        none zero x y e = refl
        none (suc m) x y e = never e

        go : (s : Shape) (a : Context) (o m : ℕ) → goes_on_by s m (role_of ns j) ≡ false → (part_context ns names b s p ps a j o m).env normal ≡ a.env normal
        go Leaf a o m e = refl
        go Class a o m e = none m (a.env normal) (at (o + width_at ns b j) a.depth) e
        go If a o m e = refl
        go With a o m e = refl
        go Block a o m e = none m (a.env normal) (at (o + width_at ns b j) a.depth) e
        go Label a o m e = refl
        go Loop a o m e = never e
        go Switch a o m e = none m (a.env normal) (at (o + width_at ns b j) a.depth) e
        go Case a o m e = none m (a.env normal) (at (o + width_at ns b j) a.depth) e
        go Try a o m e =
            ap (λ x. inside a.env (at 0 (part_context ns names b Try p ps a j o m).depth) (o + width_at ns b j) (part_context ns names b Try p ps a j o m).depth x (eqb (role_of ns j) role.Held && has_role ns role.Alternate ps) normal) e
            ∙ pass_normal a.env (at 0 (part_context ns names b Try p ps a j o m).depth) (o + width_at ns b j) (part_context ns names b Try p ps a j o m).depth (eqb (role_of ns j) role.Held && has_role ns role.Alternate ps)
        go Catch a o m e = refl

    module _ (a : Context) (o m : ℕ) where
      abbrev δ : ℕ
      δ = (part_context ns names b Try (up_of ns j) (order ns (up_of ns j)) a j o m).depth

      try_break : (l : Lab) → (part_context ns names b Try (up_of ns j) (order ns (up_of ns j)) a j o m).env (breaks l) ≡ a.env (breaks l)
      try_break l = pass_break a.env (at 0 δ) (o + width_at ns b j) δ (eqb (role_of ns j) role.Finally) (eqb (role_of ns j) role.Held && has_role ns role.Alternate (order ns (up_of ns j))) l

      try_continue : (l : Lab) → (part_context ns names b Try (up_of ns j) (order ns (up_of ns j)) a j o m).env (continues l) ≡ a.env (continues l)
      try_continue l = pass_continue a.env (at 0 δ) (o + width_at ns b j) δ (eqb (role_of ns j) role.Finally) (eqb (role_of ns j) role.Held && has_role ns role.Alternate (order ns (up_of ns j))) l

      try_return : (part_context ns names b Try (up_of ns j) (order ns (up_of ns j)) a j o m).env returns ≡ a.env returns
      try_return = pass_return a.env (at 0 δ) (o + width_at ns b j) δ (eqb (role_of ns j) role.Finally) (eqb (role_of ns j) role.Held && has_role ns role.Alternate (order ns (up_of ns j)))

      try_throw : (part_context ns names b Try (up_of ns j) (order ns (up_of ns j)) a j o m).env throws ≡ cond (eqb (role_of ns j) role.Held && has_role ns role.Alternate (order ns (up_of ns j))) (at (o + width_at ns b j) δ) (a.env throws)
      try_throw =
          pass_throw a.env (at 0 δ) (o + width_at ns b j) δ (eqb (role_of ns j) role.Finally) (eqb (role_of ns j) role.Held && has_role ns role.Alternate (order ns (up_of ns j)))
          (λ e. ap (λ r. eqb r role.Held && has_role ns role.Alternate (order ns (up_of ns j))) (eqb-true (role_of ns j) role.Finally e))

    pub break_near : target ns names b j (breaks near) ≡ cond (is_breakable (shape_at ns (up_of ns j))) (target ns names b (up_of ns j) normal) (target ns names b (up_of ns j) (breaks near))
    unfolding target
    break_near = by_shape (λ s a c. c.env (breaks near) ≡ cond (is_breakable s) (a.env normal) (a.env (breaks near))) go
      where
        go : (s : Shape) (a : Context) (o m : ℕ) → m ≡ behind ps j → (part_context ns names b s p ps a j o m).env (breaks near) ≡ cond (is_breakable s) (a.env normal) (a.env (breaks near))
        go Leaf a o m e = refl
        go Class a o m e = refl
        go If a o m e = refl
        go With a o m e = refl
        go Block a o m e = refl
        go Label a o m e = refl
        go Loop a o m e = refl
        go Switch a o m e = refl
        go Case a o m e = refl
        go Try a o m e = try_break a o m near
        go Catch a o m e = refl

    pub break_named : (l : ℕ) → target ns names b j (breaks (named l))
        ≡ cond (is_labeled (shape_at ns (up_of ns j)) && eqb l (id_at ns names (up_of ns j))) (target ns names b (up_of ns j) normal) (target ns names b (up_of ns j) (breaks (named l)))
    unfolding target
    break_named l = by_shape (λ s a c. c.env (breaks (named l)) ≡ cond (is_labeled s && eqb l (id_at ns names p)) (a.env normal) (a.env (breaks (named l)))) go
      where
        lab : (x : Bool) (a : Context) → a.env (pick x normal (breaks (named l))) ≡ cond x (a.env normal) (a.env (breaks (named l)))
        lab true a = refl
        lab false a = refl

        go : (s : Shape) (a : Context) (o m : ℕ) → m ≡ behind ps j → (part_context ns names b s p ps a j o m).env (breaks (named l)) ≡ cond (is_labeled s && eqb l (id_at ns names p)) (a.env normal) (a.env (breaks (named l)))
        go Leaf a o m e = refl
        go Class a o m e = refl
        go If a o m e = refl
        go With a o m e = refl
        go Block a o m e = refl
        go Label a o m e = lab (eqb l (id_at ns names p)) a
        go Loop a o m e = refl
        go Switch a o m e = refl
        go Case a o m e = refl
        go Try a o m e = try_break a o m (named l)
        go Catch a o m e = refl

    pub continue_near : target ns names b j (continues near)
        ≡ cond (is_loop (shape_at ns (up_of ns j))) (at (offset_at ns names b (up_of ns j) + 3) (depth_at ns names b (up_of ns j))) (target ns names b (up_of ns j) (continues near))
    unfolding target depth_at
    continue_near = by_shape (λ s a c. c.env (continues near) ≡ cond (is_loop s) (at (a.offset + 3) a.depth) (a.env (continues near))) go
      where
        go : (s : Shape) (a : Context) (o m : ℕ) → m ≡ behind ps j → (part_context ns names b s p ps a j o m).env (continues near) ≡ cond (is_loop s) (at (a.offset + 3) a.depth) (a.env (continues near))
        go Leaf a o m e = refl
        go Class a o m e = refl
        go If a o m e = refl
        go With a o m e = refl
        go Block a o m e = refl
        go Label a o m e = refl
        go Loop a o m e = refl
        go Switch a o m e = refl
        go Case a o m e = refl
        go Try a o m e = try_continue a o m near
        go Catch a o m e = refl

    pub continue_named : (l : ℕ) → target ns names b j (continues (named l))
        ≡ cond (is_loop (shape_at ns (up_of ns j)) && elem l (labels_at ns names b (up_of ns j))) (at (offset_at ns names b (up_of ns j) + 3) (depth_at ns names b (up_of ns j))) (target ns names b (up_of ns j) (continues (named l)))
    unfolding target depth_at labels_at
    continue_named l = by_shape (λ s a c. c.env (continues (named l)) ≡ cond (is_loop s && elem l a.labels) (at (a.offset + 3) a.depth) (a.env (continues (named l)))) go
      where
        lab : (x : Bool) (s : Stat) (a : Context) → pick x s (a.env (continues (named l))) ≡ cond x s (a.env (continues (named l)))
        lab true s a = refl
        lab false s a = refl

        go : (s : Shape) (a : Context) (o m : ℕ) → m ≡ behind ps j → (part_context ns names b s p ps a j o m).env (continues (named l)) ≡ cond (is_loop s && elem l a.labels) (at (a.offset + 3) a.depth) (a.env (continues (named l)))
        go Leaf a o m e = refl
        go Class a o m e = refl
        go If a o m e = refl
        go With a o m e = refl
        go Block a o m e = refl
        go Label a o m e = refl
        go Loop a o m e = lab (elem l a.labels) (at (a.offset + 3) a.depth) a
        go Switch a o m e = refl
        go Case a o m e = refl
        go Try a o m e = try_continue a o m (named l)
        go Catch a o m e = refl

    pub return_up : target ns names b j returns ≡ target ns names b (up_of ns j) returns
    unfolding target
    return_up = by_shape (λ s a c. c.env returns ≡ a.env returns) go
      where
        go : (s : Shape) (a : Context) (o m : ℕ) → m ≡ behind ps j → (part_context ns names b s p ps a j o m).env returns ≡ a.env returns
        go Leaf a o m e = refl
        go Class a o m e = refl
        go If a o m e = refl
        go With a o m e = refl
        go Block a o m e = refl
        go Label a o m e = refl
        go Loop a o m e = refl
        go Switch a o m e = refl
        go Case a o m e = refl
        go Try a o m e = try_return a o m
        go Catch a o m e = refl

    -- A throw goes to the catch of the Try that holds it in its Block: the catch begins where the Block's words end.
    pub throw_up : target ns names b j throws ≡ cond (catches_at ns (up_of ns j) (role_of ns j)) (at (offset_at ns names b j + width_at ns b j) (depth_at ns names b j)) (target ns names b (up_of ns j) throws)
    unfolding target depth_at
    throw_up = by_shape (λ s a c. c.env throws ≡ cond (is_try s && (eqb (role_of ns j) role.Held && has_role ns role.Alternate ps)) (at (c.offset + width_at ns b j) c.depth) (a.env throws)) go
      where
        go : (s : Shape) (a : Context) (o m : ℕ) → m ≡ behind ps j
            → (part_context ns names b s p ps a j o m).env throws ≡ cond (is_try s && (eqb (role_of ns j) role.Held && has_role ns role.Alternate ps)) (at ((part_context ns names b s p ps a j o m).offset + width_at ns b j) (part_context ns names b s p ps a j o m).depth) (a.env throws)
        go Leaf a o m e = refl
        go Class a o m e = refl
        go If a o m e = refl
        go With a o m e = refl
        go Block a o m e = refl
        go Label a o m e = refl
        go Loop a o m e = refl
        go Switch a o m e = refl
        go Case a o m e = refl
        go Try a o m e = try_throw a o m
        go Catch a o m e = refl

    -- The labels right above a node, with no statement but Labeled between.
    pub labels_up : (l : ℕ) → elem l (labels_at ns names b j) ≡ cond (is_labeled (shape_at ns (up_of ns j))) (eqb l (id_at ns names (up_of ns j)) || elem l (labels_at ns names b (up_of ns j))) (is_catch (shape_at ns (up_of ns j)) && elem l (labels_at ns names b (up_of ns j)))
    unfolding labels_at
    labels_up l = by_shape (λ s a c. elem l c.labels ≡ cond (is_labeled s) (eqb l (id_at ns names p) || elem l a.labels) (is_catch s && elem l a.labels)) go
      where
        go : (s : Shape) (a : Context) (o m : ℕ) → m ≡ behind ps j → elem l (part_context ns names b s p ps a j o m).labels ≡ cond (is_labeled s) (eqb l (id_at ns names p) || elem l a.labels) (is_catch s && elem l a.labels)
        go Leaf a o m e = refl
        go Class a o m e = refl
        go If a o m e = refl
        go With a o m e = refl
        go Block a o m e = refl
        go Label a o m e = refl
        go Loop a o m e = refl
        go Switch a o m e = refl
        go Case a o m e = refl
        go Try a o m e = refl
        go Catch a o m e = refl
