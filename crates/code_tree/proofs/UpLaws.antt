-- Steps up go to smaller numbers and to smaller depths.
use Rattle.std.specs.Prelude.{ℕ, suc, ◌≤◌, ◌<◌, ◌≡◌, ◌⊎◌, List, Bool, true, false, cond, ◌&&◌, eqb, length}
use Rattle.std.proofs.Common.{ap, sym, subst, inl, inr, eq-or-lt_of_le, arith}
use Rattle.base_common.specs.Tests.{within}
use Rattle.base_walk.specs.Above.{Falls}
use Rattle.base_walk.proofs.AboveLaws.{above_up}
use Rattle.table_records.specs.Table.{kind_of, parent_of, flags_of, count, depth_of, has_flag}
use Rattle.table_records.specs.Kinds as k
use Rattle.table_records.specs.NodeFlag as flag
use Rattle.table_records.specs.Facts.{Tree}
use Rattle.code_tree.specs.Parts.{up_of}

module _ (ns : List ℕ) (t : Tree ns) where
  -- The parent of any node, node 0 too: no greater number, no greater depth.
  pub record Step (c p : ℕ) : Type 0 where
    pub le : p ≤ c
    pub deep : depth_of ns p ≤ depth_of ns c

  depth_up : (c : ℕ) → 0 < c → c < count ns → depth_of ns c ≡ suc (depth_of ns (parent_of ns c))
  depth_up c h l = ap length (above_up (parent_of ns) (count ns) t.falls c h l)

  pub step_up : (c : ℕ) → c < count ns → Step c (parent_of ns c)
  step_up c l = go (eq-or-lt_of_le {n = 0} {m = c} (omega arith))
    where
      go : (0 ≡ c) ⊎ (0 < c) → Step c (parent_of ns c)
      go (inl e) = subst (λ k. Step k (parent_of ns k)) e (record { le = omega (arith, t.top); deep = subst (λ k. depth_of ns k ≤ depth_of ns 0) (sym t.top) (omega arith) })
      go (inr h) = record { le = omega (arith, t.falls c h l); deep = omega (arith, depth_up c h l) }

  pub record Up (c p : ℕ) : Type 0 where
    pub lower : p < c
    pub deeper : depth_of ns p < depth_of ns c

  pub up_step : (c : ℕ) → 0 < c → c < count ns → Up c (up_of ns c)
  unfolding up_of
  up_step c h l = go (eqb (kind_of ns c) k.StaticBlock)
    where
      one : Up c (parent_of ns c)
      one = record { lower = t.falls c h l; deeper = omega (arith, depth_up c h l) }

      two : Up c (parent_of ns (parent_of ns c))
      two = let s = step_up (parent_of ns c) (omega (arith, one.lower)) in record { lower = omega (arith, one.lower, s.le); deeper = omega (arith, one.deeper, s.deep) }

      three : Up c (parent_of ns (parent_of ns (parent_of ns c)))
      three = let s = step_up (parent_of ns (parent_of ns c)) (omega (arith, two.lower)) in record { lower = omega (arith, two.lower, s.le); deeper = omega (arith, two.deeper, s.deep) }

      by : (x : Bool) → Up c (cond x (parent_of ns (parent_of ns (parent_of ns c))) (parent_of ns (parent_of ns c)))
      by true = three
      by false = two

      go : (x : Bool) → Up c (cond x (cond (within (kind_of ns (parent_of ns (parent_of ns (parent_of ns c)))) k.ExportDefault k.ExportNamed && has_flag (flags_of ns (parent_of ns (parent_of ns c))) flag.Declaration)
          (parent_of ns (parent_of ns (parent_of ns c))) (parent_of ns (parent_of ns c))) (parent_of ns c))
      go true = by (within (kind_of ns (parent_of ns (parent_of ns (parent_of ns c)))) k.ExportDefault k.ExportNamed && has_flag (flags_of ns (parent_of ns (parent_of ns c))) flag.Declaration)
      go false = one

  pub up_falls : Falls (up_of ns) (count ns)
  up_falls c h l = (up_step c h l).lower
