-- Laws of the search for the first part from a node on.
use Rattle.std.specs.Prelude.{ℕ, zero, suc, ◌+◌, ◌≤◌, ◌<◌, ◌≡◌, Bool, true, false, ◌&&◌, eqb, Option, Some, None}
use Rattle.std.proofs.Math.Path.{refl, ap, sym}
use Rattle.std.proofs.Common.{◌∙◌, subst, arith, eqb-true}
use mathlib.Core.List.{List, ◌∷◌}
use Rattle.std.proofs.Math.Bool.{cond}
use Rattle.std.proofs.Math.Decide.{dec_lt}
use Rattle.base_common.proofs.Bools.{never}
use Rattle.base_common.proofs.UptoLaws.{and_left_lem, and_right_lem}
use Rattle.base_common.specs.Tests.{within}
use Rattle.base_walk.specs.On.{on}
use Rattle.base_walk.proofs.OnLaws.{on_self, on_step, on_le, on_trans}
use Rattle.base_walk.proofs.PreorderLaws.{interval, leaves}
use Rattle.table_records.specs.Table.{count, kind_of, parent_of, flags_of, has_flag}
use Rattle.table_records.specs.Kinds as k
use Rattle.table_records.specs.NodeFlag as flag
use Rattle.table_records.specs.Facts.{Tree}
use Rattle.code_tree.specs.Parts.{up_of, entered_by, is_part, parts, Part}
use Rattle.code_tree.proofs.PartsLaws.{parts_end, parts_turn}
use Rattle.code_tree.specs.First.{first_of}
use Rattle.std.specs.Option.{is_some}
use Rattle.table_records.specs.declared.NodeId.{NodeId}

abbrev pub number_of : ℕ → Option NodeId → ℕ
number_of z None = z
number_of z (Some c) = c.0

-- Whose part a node may be stands above it.
up_on : (ns : List ℕ) → Tree ns → (j : ℕ) → 0 < j → j < count ns → on (parent_of ns) (up_of ns j) j ≡ true
unfolding up_of
up_on ns t j h l = go (eqb (kind_of ns j) k.StaticBlock)
  where
    up : ℕ → ℕ
    up = parent_of ns

    -- one step further up, from any node, node 0 too
    step : (a : ℕ) → on up a j ≡ true → on up (up a) j ≡ true
    step a e = on_trans up (count ns) t.falls (up a) a j l (by (dec_lt 0 a)) e
      where
        low : a ≤ j
        low = on_le up (count ns) t.falls a j l e

        by : Dec (0 < a) → on up (up a) a ≡ true
        by (yes x) = on_step up (count ns) t.falls (up a) a x (omega (arith, low)) (on_self up (up a))
        by (no x) = let z : 0 ≡ a = omega arith in subst (λ (b : ℕ). on up (up b) b ≡ true) z (subst (λ (b : ℕ). on up b 0 ≡ true) (sym t.top) (on_self up 0))

    one : on up (up j) j ≡ true
    one = step j (on_self up j)

    two : on up (up (up j)) j ≡ true
    two = step (up j) one

    entered : (x : Bool) → on up (cond x (up (up (up j))) (up (up j))) j ≡ true
    entered true = step (up (up j)) two
    entered false = two

    go : (x : Bool) → on up (cond x (entered_by ns (up (up j))) (up j)) j ≡ true
    go true = entered (within (kind_of ns (up (up (up j)))) k.ExportDefault k.ExportNamed && has_flag (flags_of ns (up (up j))) flag.Declaration)
    go false = one

-- The first part of p from i on.
module _ (ns : List ℕ) (p : ℕ) where
  pub part_stop : (i : ℕ) → i < count ns → (eqb (up_of ns i) p && is_part ns i) ≡ true → Some (record { 0 = i }) ≡ first_of (parts ns p i)
  part_stop i l q = sym (ap first_of (parts_turn ns p i l ∙ ap (λ x. cond x (i ∷ parts ns p (i + 1)) (parts ns p (i + 1))) q))

  pub part_on : (i : ℕ) → i < count ns → (eqb (up_of ns i) p && is_part ns i) ≡ false → first_of (parts ns p (i + 1)) ≡ first_of (parts ns p i)
  part_on i l q = sym (ap first_of (parts_turn ns p i l ∙ ap (λ x. cond x (i ∷ parts ns p (i + 1)) (parts ns p (i + 1))) q))

  pub part_none : (i : ℕ) → count ns ≤ i → None ≡ first_of (parts ns p i)
  part_none i l = sym (ap first_of (parts_end ns p i l))

  pub record Next (i c : ℕ) : Type 0 where
    pub part : Part ns p c
    pub from : i ≤ c
    pub is : parts ns p i ≡ c ∷ parts ns p (c + 1)

  next_from : (f i c : ℕ) → count ns ≤ i + f → p < i → Some (record { 0 = c }) ≡ first_of (parts ns p i) → Next i c
  next_from zero i c g h q = never (ap is_some (q ∙ sym (part_none i (omega arith))))
  next_from (suc f) i c g h q = go (dec_lt i (count ns)) (λ u. next_from f (i + 1) c (omega arith) (omega arith) u)
    where
      by : i < count ns → (x : Bool) → (eqb (up_of ns i) p && is_part ns i) ≡ x → (Some (record { 0 = c }) ≡ first_of (parts ns p (i + 1)) → Next (i + 1) c) → Next i c
      by u true t ih =
          let y : i ≡ c = ap (number_of i) (part_stop i u t ∙ sym q) in
          subst (Next i) y
          (record {
            part = record { behind = h; inside = u; parent = eqb-true (up_of ns i) p (and_left_lem (eqb (up_of ns i) p) (is_part ns i) t); part = and_right_lem (eqb (up_of ns i) p) (is_part ns i) t };
            from = omega arith;
            is = parts_turn ns p i u ∙ ap (λ x. cond x (i ∷ parts ns p (i + 1)) (parts ns p (i + 1))) t;
          })
      by u false t ih =
          let r = ih (q ∙ sym (part_on i u t)) in
          record { part = r.part; from = omega (arith, r.from); is = parts_turn ns p i u ∙ ap (λ x. cond x (i ∷ parts ns p (i + 1)) (parts ns p (i + 1))) t ∙ r.is }

      go : Dec (i < count ns) → (Some (record { 0 = c }) ≡ first_of (parts ns p (i + 1)) → Next (i + 1) c) → Next i c
      go (yes u) ih = by u (eqb (up_of ns i) p && is_part ns i) refl ih
      go (no u) ih = never (ap is_some (q ∙ sym (part_none i (omega arith))))

  pub next_is : (i c : ℕ) → p < i → Some (record { 0 = c }) ≡ first_of (parts ns p i) → Next i c
  next_is i c h q = next_from (count ns) i c (omega arith) h q

  -- past the nodes below p there is no part of p
  pub part_out : Tree ns → (i : ℕ) → p < i → i < count ns → parent_of ns i < p → None ≡ first_of (parts ns p i)
  part_out t i h l u = go (first_of (parts ns p i)) refl
    where
      go : (r : Option NodeId) → r ≡ first_of (parts ns p i) → None ≡ r
      go None e = refl
      go (Some c) e =
          let w = next_is i c.0 h e in
          let s = w.part in
          let above : on (parent_of ns) p c.0 ≡ true = subst (λ q. on (parent_of ns) q c.0 ≡ true) s.parent (up_on ns t c.0 (omega (arith, w.from)) s.inside) in
          absurd (leaves (parent_of ns) (count ns) t.order p i h l u (interval (parent_of ns) (count ns) t.order p i c.0 s.inside above (omega arith) w.from))
