-- Pieces written one after the other: a turn of the loop, and its end.
use Rattle.std.specs.Prelude.{ℕ, ◌+◌, ◌≤◌, ◌<◌, ◌≡◌, length, take, drop}
use Rattle.std.proofs.Common.{ap, sym, subst, ◌∙◌, arith, length-append, length-take-le}
use mathlib.Core.List.{List, ◌++◌, flat_map}
use Rattle.base_common.specs.Upto.{upto}
use Rattle.base_common.specs.Wrote.{Wrote, put}
use Rattle.base_common.proofs.WroteLaws.{wrote_put, wrote_end}
use Rattle.check_diagnostics.proofs.Gather.{flat_turn, flat_end}

module _ (g : ℕ → List ℕ) (f₀ f : List ℕ) (w i n : ℕ) (whole : List ℕ) (o : Wrote f₀ f w (flat_map g (upto i n)) whole) where
  pub written_length : w ≤ length whole
  written_length =
      let s = o.same in
      let r = o.room in
      let t = length-take-le w f (omega arith) in
      let e = ap length (sym o.head) ∙ length-append (take w f) (flat_map g (upto i n)) in
      omega arith

  pub write_room : i < n → w + length (g i) ≤ length f
  write_room h =
      let s = o.same in
      let r = o.room in
      let e = ap length (flat_turn g i n h) ∙ length-append (g i) (flat_map g (upto (i + 1) n)) in
      omega arith

  pub write_turn : i < n → (f' : List ℕ) (w' : ℕ) → f' ≡ put f w (g i) → w' ≡ w + length (g i) → Wrote f₀ f' w' (flat_map g (upto (i + 1) n)) whole
  write_turn h f' w' e q = rw (e, q) (wrote_put f₀ f w (g i) (flat_map g (upto (i + 1) n)) whole (subst (λ r. Wrote f₀ f w r whole) (flat_turn g i n h) o))

  pub write_end : n ≤ i → f ≡ whole ++ drop (length whole) f₀
  write_end h = wrote_end f₀ f w whole (subst (λ r. Wrote f₀ f w r whole) (flat_end g i n h) o)
