-- The searches of check_super, as loops meet them.
use Rattle.table_records.specs.declared.NodeId.{NodeId}
use Rattle.std.specs.Prelude.{ℕ, ◌+◌, ◌<◌, refl, List, ◌∷◌, Bool, Option, Some, None, eqb, ltb}
use Rattle.std.proofs.Math.Path.{◌≡◌, ap}
use Rattle.std.proofs.Common.{sym, ◌∙◌, eq-eqb, ne_eqb}
use Rattle.std.proofs.Math.Bool.{true, false}
use native.Mathlib.Omega.{arith}
use Rattle.base_common.specs.Tests.{within}
use Rattle.base_walk.proofs.AboveLaws.{above_up, above_root}
use Rattle.table_records.specs.Table.{kind_of, parent_of, count, outer, count_scopes, scope_parent_of, scope_node_of}
use Rattle.table_records.specs.Facts.{Tree, Chained}
use Rattle.table_records.specs.Kinds as k
use Rattle.table_children.specs.Children.{first_node}
use Rattle.table_children.proofs.ChildrenLaws.{node_on, node_stop, node_past}
use Rattle.table_ancestry.proofs.AncestryLaws.{ancestors_up, ancestors_root}
use Rattle.check_supers.specs.Super.{first_class, part_of, part_at, place_of, step_at, class_after, leave_class, or_rest, reach_from}
use Rattle.check_supers.specs.declared.ElementPart.{ElementPart}
use Rattle.check_supers.specs.declared.Reach.{Reach}
use Rattle.check_supers.specs.declared.Reach.TheVariants.{Illegal}
use Rattle.check_supers.specs.declared.Step.{Step}
use Rattle.check_supers.specs.declared.Step.TheVariants.{Stop, Leave, On}

-- the part of a node that is a class element, and of one that isn't
module _ (ns : List ℕ) (a x : ℕ) where
  part_at_lem : within (kind_of ns a) k.MethodDefinition k.AccessorProperty ≡ true → part_at ns a x ≡ Some (part_of ns a x)
  unfolding part_at
  part_at_lem w = rw w

  part_none : within (kind_of ns a) k.MethodDefinition k.AccessorProperty ≡ false → part_at ns a x ≡ None
  unfolding part_at
  part_none w = rw w

-- there is a part, or there is none
apart : (p : ElementPart) → ◌≡◌ {A = Option ElementPart} (Some p) None → ⊥
apart p e = let z : ◌≡◌ {A = ℕ} 0 1 = cc in omega arith

-- the part of the nearest class element: a is the parent of x
module _ (ns : List ℕ) (t : Tree ns) (x a : ℕ) (e : a ≡ parent_of ns x) (h : 0 < x) (l : x < count ns) where
  pub place_stop : within (kind_of ns a) k.MethodDefinition k.AccessorProperty ≡ true → place_of ns x ≡ Some (part_of ns a x)
  unfolding place_of
  place_stop w = rw (← e, w)

  pub place_on : within (kind_of ns a) k.MethodDefinition k.AccessorProperty ≡ false → place_of ns x ≡ place_of ns a
  unfolding place_of
  place_on w = rw (← e, w) (ancestors_up _ _ ns t x h l ∙ rw (← e))

  -- by what the parent says
  pub place_none : part_at ns a x ≡ None → place_of ns x ≡ place_of ns a
  place_none q = go (within (kind_of ns a) k.MethodDefinition k.AccessorProperty) refl
    where
      go : (b : Bool) → within (kind_of ns a) k.MethodDefinition k.AccessorProperty ≡ b → place_of ns x ≡ place_of ns a
      go true w = absurd (apart (part_of ns a x) (sym (part_at_lem ns a x w) ∙ q))
      go false w = place_on w

  pub place_some : (p : ElementPart) → part_at ns a x ≡ Some p → place_of ns x ≡ Some p
  place_some p q = go (within (kind_of ns a) k.MethodDefinition k.AccessorProperty) refl
    where
      go : (b : Bool) → within (kind_of ns a) k.MethodDefinition k.AccessorProperty ≡ b → place_of ns x ≡ Some p
      go true w = place_stop w ∙ sym (part_at_lem ns a x w) ∙ q
      go false w = absurd (apart p (sym q ∙ part_none ns a x w))

pub place_root : (ns : List ℕ) → Tree ns → place_of ns 0 ≡ None
unfolding place_of
place_root ns t = rw (t.top, t.root) (ancestors_root _ _ ns)

-- the search over the scopes: one scope, and the next
module _ (ns ss : List ℕ) (n : ℕ) (call : Bool) (class : Option NodeId) (start s : ℕ) where
  abbrev rest : List ℕ → Reach
  rest l = reach_from ns ss n call l (class_after ns class (step_at ns ss n call class start s)) (scope_node_of ss s)

  pub reach_stop : (r : Reach) → step_at ns ss n call class start s ≡ Stop r → reach_from ns ss n call (s ∷ outer ss s) class start ≡ r
  unfolding reach_from
  reach_stop r e = ap (λ (x : Step). or_rest x (rest (outer ss s))) e

  pub reach_leave : step_at ns ss n call class start s ≡ Leave → reach_from ns ss n call (s ∷ outer ss s) class start ≡ reach_from ns ss n call (outer ss s) (leave_class ns class) (scope_node_of ss s)
  unfolding reach_from
  reach_leave e = ap (λ (x : Step). or_rest x (reach_from ns ss n call (outer ss s) (class_after ns class x) (scope_node_of ss s))) e

  pub reach_on : step_at ns ss n call class start s ≡ On → reach_from ns ss n call (s ∷ outer ss s) class start ≡ reach_from ns ss n call (outer ss s) class (scope_node_of ss s)
  unfolding reach_from
  reach_on e = ap (λ (x : Step). or_rest x (reach_from ns ss n call (outer ss s) (class_after ns class x) (scope_node_of ss s))) e

pub outer_next : (ss : List ℕ) → Chained ss → (s p : ℕ) → p ≡ scope_parent_of ss s → 0 < s → s < count_scopes ss → outer ss s ≡ p ∷ outer ss p
outer_next ss c s p e h l = above_up (scope_parent_of ss) (count_scopes ss) c.falls s h l ∙ rw (← e)

pub reach_end : (ns ss : List ℕ) (n : ℕ) (call : Bool) (class : Option NodeId) (start : ℕ) → reach_from ns ss n call (outer ss 0) class start ≡ Illegal
unfolding reach_from
reach_end ns ss n call class start = rw (above_root (scope_parent_of ss))

-- the search for the first class, from node i on
module _ (ns : List ℕ) where
  unfoldable pub classes_from : ℕ → Option NodeId
  classes_from i = first_node (λ j. eqb (kind_of ns j) k.ClassBody) i (count ns)

  pub classes_start : classes_from 0 ≡ first_class ns
  unfolding classes_from
  classes_start = refl

  pub classes_here : (i : ℕ) → i < count ns → kind_of ns i ≡ k.ClassBody → classes_from i ≡ Some (record { 0 = i })
  unfolding classes_from
  classes_here i h e = node_stop _ i (count ns) h (eq-eqb _ _ e)

  pub classes_on : (i : ℕ) → i < count ns → (kind_of ns i ≡ k.ClassBody → ⊥) → classes_from i ≡ classes_from (i + 1)
  unfolding classes_from
  classes_on i h n = node_on _ i (count ns) h (ne_eqb _ _ n)

  pub classes_past : (i : ℕ) → ltb i (count ns) ≡ false → classes_from i ≡ None
  unfolding classes_from
  classes_past i e = node_past _ i (count ns) e
