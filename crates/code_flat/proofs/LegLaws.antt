-- A run is its first leg and what follows: for every list of numbers as code. And a leg takes no answer.
use Prim.Native.Nat.{ℕ, zero, suc, ◌+◌}
use Rattle.std.specs.Prelude.{◌≡◌, Bool, true, false, length, ltb}
use Rattle.std.proofs.Math.Path.{refl, ap}
use Rattle.std.proofs.Common.{sym, ◌∙◌, arith}
use mathlib.Core.List.{List, [], ◌∷◌, append_assoc}
use Rattle.route_completion.specs.Sem.{Entry, plain, asked, pick}
use Rattle.route_completion.specs.Route.{asks}
use Rattle.route_completion.proofs.TakenLaws.{asks_append}
use Rattle.route_completion.specs.Ends as run_end
use Rattle.code_flat.specs.Machine.{Res, res, pre, Instr, NONE, LIST, LEAVE, ASK, SELECT, OPEN, END, CASE, fetch, Frame, open', Pos, is_zero, unwind, pass, jump, step, run}
use Rattle.code_flat.proofs.Runs.{run_step}
use Rattle.code_flat.specs.Leg.{Leg, ends, waits, listed, before, leg_jump, leg_step, leg, onward}

module _ (lim : ℕ) (C : List ℕ) where
  before_onward : (es : List Entry) (l : Leg) (qs : List ℕ) → pre es (onward lim C l qs) ≡ onward lim C (before es l) qs
  before_onward es (ends fs e) qs = refl
  before_onward es (waits fs n f K) [] = refl
  before_onward es (waits fs n f K) (a ∷ qs) =
      ap (λ l. res l (run lim C (length C) (f a) K qs).end (run lim C (length C) (f a) K qs).rest)
      (sym (append_assoc es fs (asked n ∷ (run lim C (length C) (f a) K qs).nodes)))

  pick_onward : (t : Bool) (x y : Res) (l m : Leg) (qs : List ℕ) → x ≡ onward lim C l qs → y ≡ onward lim C m qs → pick t x y ≡ onward lim C (pick t l m) qs
  pick_onward true x y l m qs p q = p
  pick_onward false x y l m qs p q = q

  -- One instruction, where k goes on as the run does.
  module _ (b : ℕ) (k : List Entry → ℕ → List Frame → Leg)
      (h : (es : List Entry) (t : ℕ) (J : List Frame) (qs : List ℕ) → pass b (λ r. pre es (run lim C r t J qs)) qs ≡ onward lim C (k es t J) qs) where
    jump_leg : (p : Pos) (qs : List ℕ) → jump (run lim C) b p qs ≡ onward lim C (leg_jump k p) qs
    jump_leg p qs =
        pick_onward (is_zero p.pc) (res [] run_end.Astray qs) (pass b (λ r. run lim C r p.pc p.stack qs) qs) (ends [] run_end.Astray) (k [] p.pc p.stack) qs refl
        (h [] p.pc p.stack qs)

    step_leg : (i : Instr) (pc : ℕ) (K : List Frame) (qs : List ℕ) → step lim C (run lim C) i b pc K qs ≡ onward lim C (leg_step lim C k i pc K) qs
    step_leg NONE pc K qs = refl
    step_leg (LIST n) pc K qs = h (plain n ∷ []) (pc + 2) K qs
    step_leg (LEAVE t d) pc K qs = jump_leg (unwind K t d) qs
    step_leg (ASK n y z) pc K [] = refl
    step_leg (ASK n y z) pc K (a ∷ qs) = refl
    step_leg (SELECT n c e) pc K [] = refl
    step_leg (SELECT n c e) pc K (a ∷ qs) = refl
    step_leg (OPEN f) pc K qs =
        pick_onward (ltb (length K) lim) (pass b (λ r. run lim C r (pc + 2) (open' f ∷ K) qs) qs) (res [] run_end.Astray qs) (k [] (pc + 2) (open' f ∷ K)) (ends [] run_end.Astray) qs
        (h [] (pc + 2) (open' f ∷ K) qs) refl
    step_leg (END e) pc K qs = refl
    step_leg (CASE c t d) pc K qs = jump_leg (unwind K t d) qs

  -- A run is its first leg and what follows.
  pub run_leg : (b pc : ℕ) (K : List Frame) (qs : List ℕ) → run lim C b pc K qs ≡ onward lim C (leg lim C b pc K) qs
  unfolding leg
  run_leg zero pc K qs = run_step lim C zero pc K qs ∙ step_leg zero (λ es t J. ends [] run_end.Astray) (λ es t J u. refl) (fetch C pc) pc K qs
  run_leg (suc b) pc K qs =
      run_step lim C (suc b) pc K qs
      ∙ step_leg (suc b) (λ es t J. before es (leg lim C b t J)) (λ es t J u. ap (pre es) (run_leg b t J u) ∙ before_onward es (leg lim C b t J) u) (fetch C pc) pc K qs

  -- A leg takes no answer.
  before_plain : (es : List Entry) (l : Leg) → asks es ≡ 0 → asks (listed l) ≡ 0 → asks (listed (before es l)) ≡ 0
  before_plain es (ends fs e) p q = omega (arith, asks_append es fs)
  before_plain es (waits fs n f K) p q = omega (arith, asks_append es fs)

  pick_plain : (t : Bool) (l m : Leg) → asks (listed l) ≡ 0 → asks (listed m) ≡ 0 → asks (listed (pick t l m)) ≡ 0
  pick_plain true l m p q = p
  pick_plain false l m p q = q

  module _ (k : List Entry → ℕ → List Frame → Leg) (h : (es : List Entry) (t : ℕ) (J : List Frame) → asks es ≡ 0 → asks (listed (k es t J)) ≡ 0) where
    step_plain : (i : Instr) (pc : ℕ) (K : List Frame) → asks (listed (leg_step lim C k i pc K)) ≡ 0
    unfolding asks
    step_plain NONE pc K = refl
    step_plain (LIST n) pc K = h (plain n ∷ []) (pc + 2) K refl
    step_plain (LEAVE t d) pc K = pick_plain (is_zero (unwind K t d).pc) (ends [] run_end.Astray) (k [] (unwind K t d).pc (unwind K t d).stack) refl (h [] (unwind K t d).pc (unwind K t d).stack refl)
    step_plain (ASK n y z) pc K = refl
    step_plain (SELECT n c e) pc K = refl
    step_plain (OPEN f) pc K = pick_plain (ltb (length K) lim) (k [] (pc + 2) (open' f ∷ K)) (ends [] run_end.Astray) (h [] (pc + 2) (open' f ∷ K) refl) refl
    step_plain (END e) pc K = refl
    step_plain (CASE c t d) pc K = pick_plain (is_zero (unwind K t d).pc) (ends [] run_end.Astray) (k [] (unwind K t d).pc (unwind K t d).stack) refl (h [] (unwind K t d).pc (unwind K t d).stack refl)

  pub leg_plain : (b pc : ℕ) (K : List Frame) → asks (listed (leg lim C b pc K)) ≡ 0
  unfolding leg asks
  leg_plain zero pc K = step_plain (λ es t J. ends [] run_end.Astray) (λ es t J p. refl) (fetch C pc) pc K
  leg_plain (suc b) pc K =
      step_plain (λ es t J. before es (leg lim C b t J)) (λ es t J p. before_plain es (leg lim C b t J) p (leg_plain b t J)) (fetch C pc) pc K
