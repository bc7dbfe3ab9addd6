-- The forward machine goes from step to step, for every list of numbers as code: its bound on the steps is never met.
use Rattle.std.specs.Prelude.{ℕ, zero, suc, ◌+◌, ◌<◌, ◌≡◌, refl, Bool, true, false, List, [], ◌∷◌, length, ltb}
use Rattle.std.proofs.Common.{ap, ltb-true, arith}
use Rattle.route_completion.specs.Sem.{plain, asked, pick}
use Rattle.route_completion.specs.Ends as run_end
use Rattle.code_flat.specs.Code.{Stat, at, ended}
use Rattle.code_flat.specs.Machine.{Res, res, pre, Instr, NONE, LIST, LEAVE, ASK, SELECT, OPEN, END, CASE, fetch, Frame, open', Pos, unwind}
use Rattle.code_flat.proofs.Runs.{inside}
use Rattle.code_flat.specs.Machine.{is_none}
use Rattle.code_flat.specs.Forward.{ask_now, behind, forward, step, runs, measure, run}

module _ (C : List ℕ) (k k' : ℕ → List Frame → List ℕ → Res) (pc : ℕ) (qs : List ℕ)
    (ih : (pc' : ℕ) (K' : List Frame) (qs' : List ℕ) → measure C pc' qs' < measure C pc qs → k pc' K' qs' ≡ k' pc' K' qs') where
  ask_cong : (i : Instr) (K : List Frame) → ask_now i k K qs ≡ ask_now i k' K qs
  ask_cong NONE K = refl
  ask_cong (LIST n) K = refl
  ask_cong (LEAVE t d) K = refl
  ask_cong (ASK n y z) K = go qs ih
    where
      go : (u : List ℕ) → ((pc' : ℕ) (K' : List Frame) (qs' : List ℕ) → measure C pc' qs' < measure C pc u → k pc' K' qs' ≡ k' pc' K' qs') → ask_now (ASK n y z) k K u ≡ ask_now (ASK n y z) k' K u
      go [] f = refl
      go (a ∷ u) f = ap (pre (asked n ∷ [])) (f _ K u (omega arith))
  ask_cong (SELECT n c e) K = refl
  ask_cong (OPEN f) K = refl
  ask_cong (END e) K = refl
  ask_cong (CASE c t d) K = refl

  forward_cong : pc < length C → (p : Pos) → forward C pc k p qs ≡ forward C pc k' p qs
  forward_cong h p = go (ltb pc p.pc) refl
    where
      go : (b : Bool) → ltb pc p.pc ≡ b
          → pick b (k p.pc p.stack qs) (ask_now (behind C p.pc) k p.stack qs) ≡ pick b (k' p.pc p.stack qs) (ask_now (behind C p.pc) k' p.stack qs)
      go true e =
          let q : pc < p.pc = ltb-true pc p.pc e in
          ih p.pc p.stack qs (omega arith)
      go false e = ask_cong (behind C p.pc) p.stack

step_cong : (lim : ℕ) (C : List ℕ) (k k' : ℕ → List Frame → List ℕ → Res) (pc : ℕ) (K : List Frame) (qs : List ℕ)
    → ((pc' : ℕ) (K' : List Frame) (qs' : List ℕ) → measure C pc' qs' < measure C pc qs → k pc' K' qs' ≡ k' pc' K' qs')
    → (i : Instr) → fetch C pc ≡ i → step lim C k i pc K qs ≡ step lim C k' i pc K qs
step_cong lim C k k' pc K qs ih NONE h = refl
step_cong lim C k k' pc K qs ih (LIST n) h =
    let p : pc < length C = inside C pc (ap is_none h) in
    ap (pre (plain n ∷ [])) (ih (pc + 2) K qs (omega arith))
step_cong lim C k k' pc K qs ih (LEAVE t d) h = forward_cong C k k' pc qs ih (inside C pc (ap is_none h)) (unwind K t d)
step_cong lim C k k' pc K qs ih (ASK n y z) h = ask_cong C k k' pc qs ih (ASK n y z) K
step_cong lim C k k' pc K [] ih (SELECT n m d) h = refl
step_cong lim C k k' pc K (a ∷ qs) ih (SELECT n m d) h = ap (pre (asked n ∷ [])) (ih _ K qs (omega arith))
step_cong lim C k k' pc K qs ih (OPEN f) h =
    let p : pc < length C = inside C pc (ap is_none h) in
    ap (λ r. pick (ltb (length K) lim) r (res [] run_end.Astray qs)) (ih (pc + 2) (open' f ∷ K) qs (omega arith))
step_cong lim C k k' pc K qs ih (END e) h = refl
step_cong lim C k k' pc K qs ih (CASE c t d) h = forward_cong C k k' pc qs ih (inside C pc (ap is_none h)) (unwind K t d)

same : (lim f g : ℕ) (C : List ℕ) (pc : ℕ) (K : List Frame) (qs : List ℕ) → measure C pc qs < f → measure C pc qs < g → runs lim f C pc K qs ≡ runs lim g C pc K qs
unfolding runs
same lim zero g C pc K qs p q = absurd (omega arith)
same lim (suc f) zero C pc K qs p q = absurd (omega arith)
same lim (suc f) (suc g) C pc K qs p q =
    step_cong lim C (runs lim f C) (runs lim g C) pc K qs (λ pc' K' qs' h. same lim f g C pc' K' qs' (omega arith) (omega arith)) (fetch C pc) refl

-- The run goes on from step to step.
pub run_step : (lim : ℕ) (C : List ℕ) (pc : ℕ) (K : List Frame) (qs : List ℕ) → run lim C pc K qs ≡ step lim C (run lim C) (fetch C pc) pc K qs
unfolding run runs
run_step lim C pc K qs =
    step_cong lim C (runs lim (measure C pc qs) C) (run lim C) pc K qs
    (λ pc' K' qs' h. same lim (measure C pc qs) (suc (measure C pc' qs')) C pc' K' qs' h (omega arith))
    (fetch C pc) refl

abbrev pub run_pos : ℕ → List ℕ → Pos → List ℕ → Res
run_pos lim C p qs = run lim C p.pc p.stack qs

unfoldable pub resume : ℕ → List ℕ → Stat → List Frame → List ℕ → Res
resume lim C (at t d) K qs = run_pos lim C (unwind K t d) qs
resume lim C (ended e) K qs = res [] e qs
