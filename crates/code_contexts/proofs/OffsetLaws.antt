-- The offset of a part in numbers: from its holder's offset, and the widths.
use Rattle.std.specs.Prelude.{ℕ, ◌+◌, ◌-◌, ◌≤◌, ◌<◌, ◌≡◌, List, true, false, get_or}
use Rattle.std.proofs.Common.{ap, sym, ◌∙◌, subst, arith}
use Rattle.table_records.specs.Table.{role_of, count}
use Rattle.code_tree.specs.Parts.{up_of, shape_at, parts}
use Rattle.code_tree.specs.Parts.{Part}
use Rattle.code_tree.specs.declared.Shape.TheVariants.{Try}
use Rattle.code_layout.specs.Widths.{sum, is_try, in_unit, own_width, width_at}
use Rattle.code_layout.specs.Context.{offset_at}
use Rattle.code_widths.specs.Widths.{counted}
use Rattle.code_widths.proofs.WidthsLaws.{fits, root_small}
use Rattle.code_contexts.specs.Contexts.{Ready, Wide}
use Rattle.code_contexts.proofs.PlacesLaws.{above_in_lem, above_low, above_lt, offset_plain, offset_block, offset_finally, offset_catch, block_in}

module _ (ns names : List ℕ) (b : ℕ) (r : Ready ns names b) (widths : List ℕ) (wd : Wide ns b widths) (i : ℕ) (hb : b < i) (hc : i < count ns) (e : in_unit ns b i ≡ true) (p o : ℕ) (ep : p ≡ up_of ns i)
    (eo : o ≡ offset_at ns names b p) where
  pub up_lt : p < i
  up_lt = let l = above_lt ns names b r i hb hc e in omega arith

  pub up_low : b ≤ p
  up_low = let l = above_low ns names b r i hb hc e in omega arith

  pub up_in : in_unit ns b p ≡ true
  up_in = ap (in_unit ns b) ep ∙ above_in_lem ns names b r i hb hc e

  up_wide : get_or widths p 0 ≡ width_at ns b p
  up_wide = let l = up_lt in wd.is p up_low (omega arith) up_in

  own_wide : get_or widths i 0 ≡ width_at ns b i
  own_wide = wd.is i (omega arith) hc e

  pub up_room : o + get_or widths p 0 ≤ 786420
  up_room =
      let l = up_lt in
      let f = fits ns names b r.held p (omega arith) up_in in
      let s = root_small ns names b r.held in
      let t = r.held.good.tree.small in
      let w = up_wide in
      omega arith

  module _ (q : shape_at ns p ≡ Try) where
    tried : shape_at ns (up_of ns i) ≡ Try
    tried = ap (shape_at ns) (sym ep) ∙ q

    finally_end : role_of ns i ≡ 5 → offset_at ns names b i + get_or widths i 0 ≡ o + get_or widths p 0
    finally_end h =
        let a = offset_finally ns names b r i hb hc e tried h in
        let w = up_wide in
        let v = own_wide in
        let x : offset_at ns names b (up_of ns i) ≡ offset_at ns names b p = ap (offset_at ns names b) (sym ep) in
        let y : width_at ns b (up_of ns i) ≡ width_at ns b p = ap (width_at ns b) (sym ep) in
        omega arith

    pub finally_room : role_of ns i ≡ 5 → get_or widths i 0 ≤ o + get_or widths p 0
    finally_room h = let a = finally_end h in omega arith

    pub finally_is : role_of ns i ≡ 5 → o + get_or widths p 0 - get_or widths i 0 ≡ offset_at ns names b i
    finally_is h = let a = finally_end h in omega arith

    pub block_is_lem : role_of ns i ≡ 3 → o + own_width ns b p ≡ offset_at ns names b i
    block_is_lem h =
        let a = offset_block ns names b r i hb hc e tried h in
        let x : offset_at ns names b (up_of ns i) ≡ offset_at ns names b p = ap (offset_at ns names b) (sym ep) in
        let y : own_width ns b (up_of ns i) ≡ own_width ns b p = ap (own_width ns b) (sym ep) in
        omega arith

    module _ (n3 : role_of ns i ≡ 3 → ⊥) (n5 : role_of ns i ≡ 5 → ⊥) (c : ℕ) (w : Part ns p c) (ro : role_of ns c ≡ 3) where
      part_up : Part ns (up_of ns i) c
      part_up = subst (λ k. Part ns k c) ep w

      pub catch_is : o + own_width ns b p + get_or widths c 0 ≡ offset_at ns names b i
      catch_is =
          let a = offset_catch ns names b r i hb hc e tried n3 n5 c part_up ro in
          let l = w.behind in
          let u = up_low in
          let v = wd.is c (omega arith) w.inside (block_in ns names b r i hb hc e tried c part_up) in
          let x : offset_at ns names b (up_of ns i) ≡ offset_at ns names b p = ap (offset_at ns names b) (sym ep) in
          let y : own_width ns b (up_of ns i) ≡ own_width ns b p = ap (own_width ns b) (sym ep) in
          omega arith

      pub catch_room : o + own_width ns b p + get_or widths c 0 ≤ 786420
      catch_room =
          let a = catch_is in
          let f = fits ns names b r.held i hc e in
          let s = root_small ns names b r.held in
          let t = r.held.good.tree.small in
          omega arith

  module _ (q : is_try (shape_at ns p) ≡ false) (d : ℕ) (ed : d ≡ sum (counted ns b) (parts ns p (i + 1))) where
    plain_end : offset_at ns names b i + get_or widths i 0 + d ≡ o + get_or widths p 0
    plain_end =
        let a = offset_plain ns names b r i hb hc e (ap (λ k. is_try (shape_at ns k)) (sym ep) ∙ q) in
        let w = up_wide in
        let v = own_wide in
        let x : offset_at ns names b (up_of ns i) ≡ offset_at ns names b p = ap (offset_at ns names b) (sym ep) in
        let y : width_at ns b (up_of ns i) ≡ width_at ns b p = ap (width_at ns b) (sym ep) in
        let z : sum (counted ns b) (parts ns (up_of ns i) (i + 1)) ≡ sum (counted ns b) (parts ns p (i + 1)) = ap (λ k. sum (counted ns b) (parts ns k (i + 1))) (sym ep) in
        omega arith

    pub plain_room : d ≤ o + get_or widths p 0
    plain_room = let a = plain_end in omega arith

    pub plain_less : get_or widths i 0 ≤ o + get_or widths p 0 - d
    plain_less = let a = plain_end in omega arith

    pub plain_is_lem : o + get_or widths p 0 - d - get_or widths i 0 ≡ offset_at ns names b i
    plain_is_lem = let a = plain_end in omega arith
