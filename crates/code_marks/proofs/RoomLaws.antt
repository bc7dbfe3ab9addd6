-- Where a run stops, no more ends are pending than there is room for.
use Prim.Native.Nat.{ℕ, zero, suc, ◌+◌, ◌≤◌}
use Rattle.std.specs.Prelude.{◌≡◌, refl, Bool, true, false, ltb}
use mathlib.Core.List.{List, [], ◌∷◌}
use Rattle.std.proofs.Math.ListN.{length}
use Rattle.std.proofs.Common.{ltb-true, arith}
use Rattle.route_completion.specs.Sem.{Entry, plain, asked, pick}
use Rattle.route_completion.specs.Ends as run_end
use Rattle.code_flat.specs.Machine.{Instr, NONE, LIST, LEAVE, ASK, SELECT, OPEN, END, CASE, fetch, Frame, open', pend, Pos, pos, is_zero, unwind}
use Rattle.code_flat.specs.Leg.{Leg, ends, waits, before, leg_jump, leg_step, leg}
use Rattle.code_marks.specs.Stop.{Stop, held, over, after, behind, stops}

-- The pending ends.
unwind_room : (lim : ℕ) (K : List Frame) (t d : ℕ) → length K ≤ lim → length (unwind K t d).stack ≤ lim
unfolding unwind
unwind_room lim [] t d h = h
unwind_room lim (open' f ∷ K) t d h = go (ltb (length K) d)
  where
    go : (b : Bool) → length (pick b (pos t (open' f ∷ K)) (pos f (pend t d ∷ K))).stack ≤ lim
    go true = h
    go false = h
unwind_room lim (pend u v ∷ K) t d h = go (ltb (length K) d) (is_zero t) (unwind_room lim K u v (omega arith)) (unwind_room lim K t d (omega arith))
  where
    go : (b z : Bool) → length (unwind K u v).stack ≤ lim → length (unwind K t d).stack ≤ lim
        → length (pick b (pick z (unwind K u v) (pos t (pend u v ∷ K))) (unwind K t d)).stack ≤ lim
    go true true p q = p
    go true false p q = h
    go false z p q = q

abbrev LegRoom : ℕ → Leg → Type 0
LegRoom lim (ends es e) = Unit {0}
LegRoom lim (waits es n f K) = length K ≤ lim

abbrev pub StopRoom : ℕ → Stop → Type 0
StopRoom lim (held es p r) = length p.stack ≤ lim
StopRoom lim (over r) = Unit {0}

module _ (lim : ℕ) (C : List ℕ) where
  before_room : (es : List Entry) (l : Leg) → LegRoom lim l → LegRoom lim (before es l)
  before_room es (ends fs e) h = tt
  before_room es (waits fs n f K) h = h

  module _ (g : List Entry → ℕ → List Frame → Leg) (ok : (es : List Entry) (t : ℕ) (J : List Frame) → length J ≤ lim → LegRoom lim (g es t J)) where
    jump_room : (p : Pos) → length p.stack ≤ lim → LegRoom lim (leg_jump g p)
    jump_room p h = go (is_zero p.pc)
      where
        go : (z : Bool) → LegRoom lim (pick z (ends [] run_end.Astray) (g [] p.pc p.stack))
        go true = tt
        go false = ok [] p.pc p.stack h

    step_room : (i : Instr) (pc : ℕ) (K : List Frame) → length K ≤ lim → LegRoom lim (leg_step lim C g i pc K)
    step_room NONE pc K h = tt
    step_room (LIST n) pc K h = ok (plain n ∷ []) (pc + 2) K h
    step_room (LEAVE t d) pc K h = jump_room (unwind K t d) (unwind_room lim K t d h)
    step_room (ASK n y z) pc K h = h
    step_room (SELECT n c e) pc K h = h
    step_room (OPEN f) pc K h = go (ltb (length K) lim) refl
      where
        go : (x : Bool) → ltb (length K) lim ≡ x → LegRoom lim (pick x (g [] (pc + 2) (open' f ∷ K)) (ends [] run_end.Astray))
        go true e = ok [] (pc + 2) (open' f ∷ K) (ltb-true (length K) lim e)
        go false e = tt
    step_room (END e) pc K h = tt
    step_room (CASE c t d) pc K h = jump_room (unwind K t d) (unwind_room lim K t d h)

  leg_room : (b pc : ℕ) (K : List Frame) → length K ≤ lim → LegRoom lim (leg lim C b pc K)
  unfolding leg
  leg_room zero pc K h = step_room (λ es t J. ends [] run_end.Astray) (λ es t J u. tt) (fetch C pc) pc K h
  leg_room (suc b) pc K h =
      step_room (λ es t J. before es (leg lim C b t J)) (λ es t J u. before_room es (leg lim C b t J) (leg_room b t J u)) (fetch C pc) pc K h

  after_room : (es : List Entry) (s : Stop) → StopRoom lim s → StopRoom lim (after es s)
  after_room es (held fs p r) h = h
  after_room es (over r) h = tt

  -- From a place with room for its pending ends a mark with room for its own is set: 512 places are enough for every mark.
  pub stops_room : (n b pc : ℕ) (K : List Frame) (qs : List ℕ) → length K ≤ lim → StopRoom lim (stops lim C n b pc K qs)
  unfolding stops
  stops_room zero b pc K qs h = h
  stops_room (suc n) b pc K qs h = go (leg lim C b pc K) (leg_room b pc K h) qs (λ t J u p. stops_room n (length C) t J u p)
    where
      go : (l : Leg) → LegRoom lim l → (u : List ℕ) → ((t : ℕ) (J : List Frame) (v : List ℕ) → length J ≤ lim → StopRoom lim (stops lim C n (length C) t J v))
          → StopRoom lim (behind (stops lim C n (length C)) l u)
      go (ends es e) m u ih = tt
      go (waits es k f J) m [] ih = tt
      go (waits es k f J) m (a ∷ u) ih =
          after_room es (after (asked k ∷ []) (stops lim C n (length C) (f a) J u)) (after_room (asked k ∷ []) (stops lim C n (length C) (f a) J u) (ih (f a) J u m))
