-- What the arrays hold of the holder p of the node whose turn it is.
use Rattle.std.specs.Prelude.{ℕ, suc, ◌+◌, ◌≤◌, ◌<◌, ◌≡◌, List, true, get_or}
use Rattle.std.proofs.Common.{ap, sym, ◌∙◌, arith}
use Rattle.code_tree.specs.Parts.{up_of, parts}
use Rattle.code_layout.specs.Widths.{sum, in_unit}
use Rattle.code_layout.specs.Context.{offset_at}
use Rattle.code_targets.specs.Targets.{depth_at}
use Rattle.code_widths.specs.Widths.{counted}
use Rattle.code_contexts.specs.declared.Draft.{Draft}
use Rattle.code_contexts.specs.Contexts.{Follow}
use Rattle.code_contexts.specs.Turn.{Turn}
use Rattle.code_contexts.proofs.PlacesLaws.{above_in_lem, above_low, above_lt, depth_small}

module _ {ns names : List ℕ} {b n : ℕ} {d : Draft} (t : Turn ns names b n d) (p : ℕ) (e : p ≡ up_of ns n) where
  pub holder_lt : p < n
  holder_lt = let l = above_lt ns names b t.ready n t.behind t.inside t.member in omega arith

  pub holder_low : b ≤ p
  holder_low = let l = above_low ns names b t.ready n t.behind t.inside t.member in omega arith

  pub holder_in : in_unit ns b p ≡ true
  holder_in = ap (in_unit ns b) e ∙ above_in_lem ns names b t.ready n t.behind t.inside t.member

  pub holder_level : get_or d.levels.now p 0 ≡ suc (depth_at ns names b p)
  holder_level = t.places.level p holder_low holder_lt holder_in

  -- A level and the next one are numbers of 16 bits.
  pub level_small : get_or d.levels.now p 0 ≤ 65534
  level_small =
      let l = holder_lt in
      let c = t.inside in
      let x = depth_small ns names b t.ready p (omega arith) holder_in in
      let s = t.ready.held.good.tree.small in
      let v = holder_level in
      omega arith

  pub holder_offset : get_or d.offsets.now p 0 ≡ offset_at ns names b p
  holder_offset = t.places.offset p holder_low holder_lt holder_in

  pub behind_is : get_or d.offsets.now n 0 ≡ sum (counted ns b) (parts ns p (n + 1))
  behind_is = t.places.after n (omega arith) t.inside t.member ∙ ap (λ k. sum (counted ns b) (parts ns k (n + 1))) (sym e)

  pub holder_follow : Follow ns names b p (get_or d.follows.now p 0)
  holder_follow = t.places.follow p holder_low holder_lt holder_in
