-- Laws of the jump that is read at a place.
use Prim.Native.Nat.{ℕ, suc, ◌+◌, ◌≤◌, ◌<◌, min}
use Rattle.std.specs.Prelude.{◌≡◌, Option, None}
use Rattle.std.proofs.Math.Path.{ap}
use Rattle.std.proofs.Common.{◌∙◌, lt-ltb, le-ltb}
use mathlib.Core.List.{List}
use Rattle.std.proofs.Math.ListN.{length, get_or}
use native.Mathlib.Omega.{arith}
use Rattle.route_completion.specs.Sem.{pick}
use Rattle.code_flat.specs.Machine.{is_zero}
use Rattle.code_machine.specs.declared.Target.{Target}
use Rattle.code_shorten.specs.Short.{to, aim_of, further}
use Rattle.code_pass.specs.Stages.{mark}
use Rattle.code_mark.specs.Read.{read_at, hop_in}
use Rattle.code_gather.specs.Gather.{way, follow, hop_read, entry_read}

-- Hops behind the split.
module _ (f : List ℕ) (split t : ℕ) where
  pub hop_front : t < split → hop_read f split t ≡ None
  hop_front l = ap (λ b. pick b None (pick (is_zero t) None (aim_of (read_at f t)))) (lt-ltb t split l)

  pub hop_on : split ≤ t → hop_read f split t ≡ hop_in f t
  unfolding hop_in
  hop_on l = ap (λ b. pick b None (pick (is_zero t) None (aim_of (read_at f t)))) (le-ltb t split l)

-- One hop of a way.
module _ (h : ℕ → Option Target) where
  pub way_end : (n t d : ℕ) → h t ≡ None → way h (n + 1) t d ≡ to t d
  unfolding way
  way_end n t d e = let z : n + 1 ≡ suc n = omega arith in ap (λ k. way h k t d) z ∙ ap (λ a. further (way h n) a t d) e

  pub way_on : (n t d u e : ℕ) → h t ≡ to u e → way h (n + 1) t d ≡ way h n u (min d e)
  unfolding way
  way_on n t d u e q = let z : n + 1 ≡ suc n = omega arith in ap (λ k. way h k t d) z ∙ ap (λ a. further (way h n) a t d) q

  pub way_out : (n t d : ℕ) → n ≡ 0 → way h n t d ≡ None
  unfolding way
  way_out n t d e = ap (λ k. way h k t d) e

-- An entry.
module _ (f : List ℕ) (split p : ℕ) where
  pub entry_unmarked : get_or f p 0 < mark → entry_read f split p ≡ None
  unfolding entry_read
  entry_unmarked l = ap (λ b. pick b None (follow (way (hop_read f split) (length f + 1)) (aim_of (read_at f p)))) (lt-ltb (get_or f p 0) mark l)

  pub entry_none : mark ≤ get_or f p 0 → aim_of (read_at f p) ≡ None → entry_read f split p ≡ None
  unfolding entry_read
  entry_none l e =
      ap (λ b. pick b None (follow (way (hop_read f split) (length f + 1)) (aim_of (read_at f p)))) (le-ltb (get_or f p 0) mark l)
      ∙ ap (follow (way (hop_read f split) (length f + 1))) e

  pub entry_jump : mark ≤ get_or f p 0 → (u d : ℕ) → aim_of (read_at f p) ≡ to u d → entry_read f split p ≡ way (hop_read f split) (length f + 1) u d
  unfolding entry_read
  entry_jump l u d e =
      ap (λ b. pick b None (follow (way (hop_read f split) (length f + 1)) (aim_of (read_at f p)))) (le-ltb (get_or f p 0) mark l)
      ∙ ap (follow (way (hop_read f split) (length f + 1))) e
