-- Well-formed tables are what the code maker asks for.
use Rattle.std.specs.Prelude.{ℕ, ◌≤◌, ◌<◌, ◌≡◌, List, Bool, ◌||◌, ◌⊎◌}
use Rattle.std.proofs.Math.Path.{refl, ap, sym}
use Rattle.std.proofs.Common.{◌∙◌, inl, inr, arith, eqb-true}
use Rattle.std.proofs.Math.Bool.{true, false}
use Rattle.std.proofs.Math.Dec.{eqb}
use Rattle.base_common.proofs.Bools.{never, either}
use Rattle.table_records.specs.Table.{kind_of, parent_of, role_of, count}
use Rattle.table_records.specs.Kinds as k
use Rattle.table_records.specs.Facts.{Tree, Named}
use Rattle.refusal_fields.specs.Fields.{Listed}
use Rattle.refusal_standing.specs.Standing.{try_part, Placed}
use Rattle.refusal_counts.specs.Counts.{Counted}
use Rattle.code_tree.specs.Parts.{up_of, shape_by, shape_at, is_part, part_by}
use Rattle.code_tree.specs.declared.Shape.TheVariants.{Block, Try}
use Rattle.code_layout.specs.Widths.{is_try}
use Rattle.code_contexts.specs.Contexts.{TryParts, Ready}
use Rattle.code_wellformed.proofs.KindsLaws.{try_kind}
use Rattle.code_wellformed.proofs.Parts.{static_up, plain_up, good}
use Rattle.code_wellformed.specs.Ready.{Holds}

pub block_shape : (kind : ℕ) → Holds kind → shape_by kind ≡ Block
unfolding shape_by
block_shape kind (inl e) = ap shape_by e
block_shape kind (inr (inl e)) = ap shape_by e
block_shape kind (inr (inr e)) = ap shape_by e

module _ (ns : List ℕ) (t : Tree ns) (li : Listed ns) (pl : Placed ns) where
  roles : (r : ℕ) → (eqb r 3 || (eqb r 4 || eqb r 5)) ≡ true → (3 ≤ r) × (r ≤ 5)
  roles r e = go (either (eqb r 3) (eqb r 4 || eqb r 5) e)
    where
      last : (eqb r 4 ≡ true) ⊎ (eqb r 5 ≡ true) → (3 ≤ r) × (r ≤ 5)
      last (inl q) = let z = eqb-true r 4 q in (omega arith, omega arith)
      last (inr q) = let z = eqb-true r 5 q in (omega arith, omega arith)

      go : (eqb r 3 ≡ true) ⊎ ((eqb r 4 || eqb r 5) ≡ true) → (3 ≤ r) × (r ≤ 5)
      go (inl q) = let z = eqb-true r 3 q in (omega arith, omega arith)
      go (inr q) = last (either (eqb r 4) (eqb r 5) q)

  -- "Try holds one Block with role 3, at most one CatchClause with role 4, one Block with role 5"
  pub try_parts : TryParts ns
  unfolding is_part try_part
  try_parts j l e q = go (eqb (kind_of ns j) k.StaticBlock) refl
    where
      go : (x : Bool) → eqb (kind_of ns j) k.StaticBlock ≡ x → (kind_of ns j ≡ try_part (role_of ns j)) × (parent_of ns j ≡ up_of ns j)
      go true x = never (sym (ap is_try q) ∙ ap is_try (static_up ns t li pl j l (eqb-true (kind_of ns j) k.StaticBlock x)))
      go false x =
          let u = plain_up ns t li pl j x in
          let p : kind_of ns (parent_of ns j) ≡ k.Try = try_kind (kind_of ns (parent_of ns j)) (ap (shape_at ns) (sym u) ∙ q) in
          let r = roles (role_of ns j) (sym (ap (λ s. part_by s (kind_of ns j) (role_of ns j)) q) ∙ e) in
          (pl.in_try j l p r.0 r.1, sym u)

  -- THE LAW
  pub ready : Counted ns → (names : List ℕ) → Named ns names → (b : ℕ) → b < count ns → Holds (kind_of ns b) → Ready ns names b
  ready co names n b h e = record { held = record { good = good ns t li pl co; named = n; root = h; block = block_shape (kind_of ns b) e }; direct = try_parts }
