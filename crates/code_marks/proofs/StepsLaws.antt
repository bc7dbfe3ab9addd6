-- A stopped run goes from step to step, as Machine.step says of the run: what a loop over the code is proved by.
use Rattle.std.specs.Prelude.{ℕ, zero, suc, ◌+◌, ◌≡◌, refl, Bool, true, false, List, [], ◌∷◌, ◌++◌, length, ltb}
use Rattle.std.proofs.Common.{◌∙◌, ap, append_assoc}
use Rattle.route_completion.specs.Sem.{Entry, plain, asked, pick, is_yes}
use Rattle.route_completion.specs.Ends as run_end
use Rattle.code_flat.specs.Machine.{res, Instr, NONE, LIST, LEAVE, ASK, SELECT, OPEN, END, CASE, fetch, Frame, open', Pos, is_zero, unwind, chase}
use Rattle.code_flat.specs.Leg.{Leg, ends, waits, before, leg_jump, leg_step, leg}
use Rattle.code_marks.specs.Stop.{Stop, held, over, after, behind, stops}
use Rattle.code_marks.specs.Steps.{pass, jump, step}

pub after_none : (s : Stop) → after [] s ≡ s
after_none (held es p r) = refl
after_none (over r) = refl

pub after_twice : (es fs : List Entry) (s : Stop) → after (es ++ fs) s ≡ after es (after fs s)
after_twice es fs (held gs p r) = ap (λ l. held l p r) (append_assoc es fs gs)
after_twice es fs (over r) = ap (λ l. over (res l r.end r.rest)) (append_assoc es fs r.nodes)

module _ (lim : ℕ) (C : List ℕ) (j : ℕ → List Frame → List ℕ → Stop) where
  behind_before : (es : List Entry) (l : Leg) (qs : List ℕ) → behind j (before es l) qs ≡ after es (behind j l qs)
  behind_before es (ends fs e) qs = refl
  behind_before es (waits fs n f K) [] = refl
  behind_before es (waits fs n f K) (a ∷ qs) = after_twice es fs (after (asked n ∷ []) (j (f a) K qs))

  pick_behind : (t : Bool) (x y : Stop) (l m : Leg) (qs : List ℕ) → behind j l qs ≡ x → behind j m qs ≡ y → behind j (pick t l m) qs ≡ pick t x y
  pick_behind true x y l m qs p q = p
  pick_behind false x y l m qs p q = q

  module _ (b : ℕ) (k : ℕ → ℕ → List Frame → List ℕ → Stop) (g : List Entry → ℕ → List Frame → Leg)
      (h : (es : List Entry) (t : ℕ) (J : List Frame) (qs : List ℕ) → behind j (g es t J) qs ≡ pass b (λ r. after es (k r t J qs)) qs) where
    bare : (t : ℕ) (J : List Frame) (qs : List ℕ) → behind j (g [] t J) qs ≡ pass b (λ r. k r t J qs) qs
    bare t J qs = h [] t J qs ∙ go b
      where
        go : (x : ℕ) → pass x (λ r. after [] (k r t J qs)) qs ≡ pass x (λ r. k r t J qs) qs
        go zero = refl
        go (suc x) = after_none (k x t J qs)

    jump_behind : (p : Pos) (qs : List ℕ) → behind j (leg_jump g p) qs ≡ jump k b p qs
    jump_behind p qs =
        pick_behind (is_zero p.pc) (over (res [] run_end.Astray qs)) (pass b (λ r. k r p.pc p.stack qs) qs) (ends [] run_end.Astray) (g [] p.pc p.stack) qs refl (bare p.pc p.stack qs)

    step_behind : (i : Instr) (pc : ℕ) (K : List Frame) (qs : List ℕ) → behind j (leg_step lim C g i pc K) qs ≡ step lim C k j i b pc K qs
    step_behind NONE pc K qs = refl
    step_behind (LIST n) pc K qs = h (plain n ∷ []) (pc + 2) K qs
    step_behind (LEAVE t d) pc K qs = jump_behind (unwind K t d) qs
    step_behind (ASK n y z) pc K [] = refl
    step_behind (ASK n y z) pc K (a ∷ qs) = after_none (after (asked n ∷ []) (j (pick (is_yes a) y z) K qs))
    step_behind (SELECT n c e) pc K [] = refl
    step_behind (SELECT n c e) pc K (a ∷ qs) = after_none (after (asked n ∷ []) (j (chase C pc c e a) K qs))
    step_behind (OPEN f) pc K qs =
        pick_behind (ltb (length K) lim) (pass b (λ r. k r (pc + 2) (open' f ∷ K) qs) qs) (over (res [] run_end.Astray qs)) (g [] (pc + 2) (open' f ∷ K)) (ends [] run_end.Astray) qs
        (bare (pc + 2) (open' f ∷ K) qs) refl
    step_behind (END e) pc K qs = refl
    step_behind (CASE c t d) pc K qs = jump_behind (unwind K t d) qs

-- Where n more answers are to be taken before the stop and one.
pub stops_step : (lim : ℕ) (C : List ℕ) (n b pc : ℕ) (K : List Frame) (qs : List ℕ)
    → stops lim C (suc n) b pc K qs ≡ step lim C (stops lim C (suc n)) (stops lim C n (length C)) (fetch C pc) b pc K qs
unfolding stops leg
stops_step lim C n zero pc K qs =
    step_behind lim C (stops lim C n (length C)) zero (stops lim C (suc n)) (λ es t J. ends [] run_end.Astray) (λ es t J u. refl) (fetch C pc) pc K qs
stops_step lim C n (suc b) pc K qs =
    step_behind lim C (stops lim C n (length C)) (suc b) (stops lim C (suc n)) (λ es t J. before es (leg lim C b t J))
    (λ es t J u. behind_before lim C (stops lim C n (length C)) es (leg lim C b t J) u) (fetch C pc) pc K qs
