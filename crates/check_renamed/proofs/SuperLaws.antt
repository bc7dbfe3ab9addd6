-- The search of `super`, which asks for no name.
use Rattle.table_records.specs.declared.NodeId.{NodeId}
use Rattle.std.specs.Prelude.{ℕ, ◌≡◌, Bool, Option, Some, None}
use Rattle.std.proofs.Common.{◌∙◌}
use Rattle.std.proofs.Math.Path.{refl, ap, fun_ext}
use Rattle.std.proofs.Math.Bool.{cond}
use mathlib.Core.List.{List, [], ◌∷◌, foldr}
use Rattle.base_common.specs.Tests.{within}
use Rattle.table_records.specs.Table.{kind_of, parent_of, ancestors}
use Rattle.table_records.specs.Kinds as k
use Rattle.check_supers.specs.declared.ElementPart.{ElementPart}
use Rattle.check_supers.specs.declared.Reach.{Reach}
use Rattle.check_supers.specs.declared.Reach.TheVariants.{Legal, Illegal, Underived, Fails}
use Rattle.check_supers.specs.declared.Step.{Step}
use Rattle.check_supers.specs.declared.Step.TheVariants.{Stop, Leave, On}
use Rattle.check_supers.specs.Super.{is_value_of, part_of, place_of, dummy_use, derived_use, object_use, method_use, function_use, is_class_scope, step_at, class_after, leave_class, reach_from, reach_of, by_reach, check_super}
use Rattle.table_renamed.specs.Alike.{Fields}
use Rattle.table_renamed.proofs.TableLaws.{tables}

-- a step of `place_of`
step_of : List ℕ → ℕ → Option ElementPart → Option ElementPart
step_of l x r = cond (within (kind_of l (parent_of l x)) k.MethodDefinition k.AccessorProperty) (Some (part_of l (parent_of l x) x)) r

module _ (ns ms : List ℕ) (a : Fields ns ms) where
  part_of_lem : (b n : ℕ) → part_of ns b n ≡ part_of ms b n
  unfolding part_of is_value_of
  part_of_lem b n = simp (tables, a)

  same_step : step_of ns ≡ step_of ms
  unfolding step_of
  same_step = fun_ext (λ x. fun_ext (λ r. simp (part_of_lem, tables, a)))

  place_of_lem : (n : ℕ) → place_of ns n ≡ place_of ms n
  unfolding place_of step_of
  place_of_lem n = ap (λ (f : ℕ → Option ElementPart → Option ElementPart). foldr f None (n ∷ ancestors ns n)) same_step ∙ simp (tables, a)

  dummy : (n : ℕ) (f : Option NodeId) → dummy_use ns n f ≡ dummy_use ms n f
  dummy n (Some b) = simp (tables, a)
  dummy n None = refl

  derived : (n : ℕ) (f : Option NodeId) → derived_use ns n f ≡ derived_use ms n f
  derived n (Some b) = simp (tables, a)
  derived n None = simp (tables, dummy, a)

  function_use_lem : (n : ℕ) (call : Bool) (class : Option NodeId) (f : ℕ) → function_use ns n call class f ≡ function_use ms n call class f
  unfolding function_use object_use method_use is_value_of
  function_use_lem n call class f = simp (tables, derived, a)

  class_scope : (f : Option NodeId) (s : ℕ) → is_class_scope ns f s ≡ is_class_scope ms f s
  class_scope (Some b) s = simp (tables, a)
  class_scope None s = refl

  step : (ss : List ℕ) (n : ℕ) (call : Bool) (class : Option NodeId) (start s : ℕ) → step_at ns ss n call class start s ≡ step_at ms ss n call class start s
  unfolding step_at
  step ss n call class start s = simp (class_scope, place_of_lem, function_use_lem)

  leave : (f : Option NodeId) → leave_class ns f ≡ leave_class ms f
  leave (Some b) = simp (tables, a)
  leave None = refl

  class_after_lem : (f : Option NodeId) (s : Step) → class_after ns f s ≡ class_after ms f s
  class_after_lem f (Stop r) = refl
  class_after_lem f Leave = leave f
  class_after_lem f On = refl

  reach_from_lem : (ss : List ℕ) (n : ℕ) (call : Bool) (l : List ℕ) (class : Option NodeId) (start : ℕ) → reach_from ns ss n call l class start ≡ reach_from ms ss n call l class start
  unfolding reach_from
  reach_from_lem ss n call [] class start = refl
  reach_from_lem ss n call (s ∷ l) class start = simp (step, class_after_lem, reach_from_lem ss n call l)

  pub reach : (ss : List ℕ) (n : ℕ) → reach_of ns ss n ≡ reach_of ms ss n
  unfolding reach_of
  reach ss n = simp (tables, reach_from_lem, a)

  by_reach_lem : (n : ℕ) (r : Reach) → by_reach ns n r ≡ by_reach ms n r
  by_reach_lem n Legal = refl
  by_reach_lem n Illegal = simp (tables, a)
  by_reach_lem n (Underived c) = simp (tables, a)
  by_reach_lem n Fails = refl

  pub super : (ss : List ℕ) (n : ℕ) → check_super ns ss n ≡ check_super ms ss n
  unfolding check_super
  super ss n = simp (reach, by_reach_lem)
