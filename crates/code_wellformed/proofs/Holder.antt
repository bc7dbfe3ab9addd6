-- The node that holds a unit's statements.
use Rattle.std.specs.Prelude.{ℕ, ◌+◌, ◌≤◌, ◌<◌, ◌≡◌, ◌⊎◌, List, Bool, Some}
use Rattle.std.proofs.Math.Path.{refl}
use Rattle.std.proofs.Common.{ap, sym, ◌∙◌, ⊎_elim, eq-or-lt_of_le}
use Rattle.std.proofs.Math.Logic.{inl, inr}
use Rattle.std.proofs.Math.Bool.{true, false, cond}
use native.Mathlib.Omega.{arith}
use Rattle.base_common.specs.Tests.{within}
use Rattle.base_common.proofs.Bools.{never, in_range_lem}
use Rattle.table_records.specs.Table.{kind_of, parent_of, count}
use Rattle.table_records.specs.Kinds as k
use Rattle.table_children.specs.Children.{function_body_of}
use Rattle.table_children.proofs.ChildrenLaws.{found_child, number}
use Rattle.code_tree.specs.Statements.{holder_of}
use Rattle.code_wellformed.specs.Ready.{Holds}

module _ (ns : List ℕ) (u : ℕ) (lu : u < count ns) (eu : kind_of ns u ≤ k.StaticBlock) (b : ℕ) (e : holder_of ns u ≡ Some (record { 0 = b })) where
  -- It is the unit, or its FunctionBody.
  abbrev pub Root : Type 0
  Root = ((b ≡ u) × (within (kind_of ns u) k.Function k.Arrow ≡ false)) ⊎ ((kind_of ns b ≡ k.FunctionBody) × (u < b) × (b < count ns) × (parent_of ns b ≡ u))

  pub holder_root : Root
  unfolding holder_of
  holder_root = go (within (kind_of ns u) k.Function k.Arrow) refl e
    where
      go : (x : Bool) → within (kind_of ns u) k.Function k.Arrow ≡ x → cond x (function_body_of ns u) (Some (record { 0 = u })) ≡ Some (record { 0 = b }) → Root
      go true x q =
          let v = found_child ns u k.FunctionBody k.FunctionBody 0 7 (u + 1) b q in
          let x = v.from in
          let y = v.kind_low in
          let z = v.kind_high in
          inr (omega arith, omega arith, v.below, v.parent)
      go false x q = inl (sym (ap number q), x)

  pub holder_in_lem : b < count ns
  holder_in_lem = ⊎_elim (λ w. let x = w.0 in omega arith) (λ w. w.2) holder_root

  pub holder_holds : Holds (kind_of ns b)
  holder_holds = ⊎_elim (λ w. own w.0 w.1) (λ w. inr (inr w.0)) holder_root
    where
      own : b ≡ u → within (kind_of ns u) k.Function k.Arrow ≡ false → Holds (kind_of ns b)
      own p n =
          let q : kind_of ns b ≡ kind_of ns u = ap (kind_of ns) p in
          ⊎_elim (λ (z : 0 ≡ kind_of ns u). inl (q ∙ sym z))
          (λ (z : 0 < kind_of ns u).
          ⊎_elim (λ (r : kind_of ns u ≡ 3). inr (inl (q ∙ r))) (λ (r : kind_of ns u < 3). never (sym (in_range_lem (kind_of ns u) k.Function k.Arrow (omega arith) (omega arith)) ∙ n)) (eq-or-lt_of_le eu))
          (eq-or-lt_of_le (omega arith))
