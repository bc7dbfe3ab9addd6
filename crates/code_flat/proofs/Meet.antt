-- Whatever the forward machine runs without giving up, the machine runs alike: control goes forward between answers, so that the instructions that
-- pass are fewer than the code's numbers.
use Rattle.std.specs.Prelude.{ℕ, zero, suc, ◌+◌, ◌-◌, ◌≤◌, ◌<◌, ◌≡◌, refl, Bool, true, false, List, [], ◌∷◌, ◌≢◌, length, ltb}
use Rattle.std.proofs.Common.{sym, ◌∙◌, ap, ltb-true, arith}
use Rattle.route_completion.specs.Sem.{plain, asked, pick, is_yes}
use Rattle.route_completion.specs.Ends as run_end
use Rattle.code_flat.specs.Machine.{Res, res, pre, Instr, NONE, LIST, LEAVE, ASK, SELECT, OPEN, END, CASE, fetch, Frame, open', Pos, is_zero, unwind, chase, pass, jump, step, run}
use Rattle.code_flat.proofs.Runs.{inside, run_step}
use Rattle.code_flat.specs.Machine.{is_none}
use Rattle.code_flat.specs.Forward.{gave_up, ask_now, behind, forward, measure, step as stepF, run as runF}
use Rattle.code_flat.proofs.Steps.{run_step as runStepF}

-- The forward machine has not given up.
abbrev Kept : Res → Type 0
Kept r = r.end ≢ gave_up

module _ (lim : ℕ) (C : List ℕ) (pc : ℕ) (qs : List ℕ)
    (ih : (b' pc' : ℕ) (K' : List Frame) (qs' : List ℕ) → measure C pc' qs' < measure C pc qs → length C - pc' ≤ b' → Kept (runF lim C pc' K' qs')
    → run lim C b' pc' K' qs' ≡ runF lim C pc' K' qs') where
  -- One instruction passes.
  passes : (b : ℕ) → length C - pc ≤ b → pc < length C → (g : ℕ → Res) (z : Res) → ((r : ℕ) → length C - pc ≤ suc r → g r ≡ z) → pass b g qs ≡ z
  passes zero h l g z f = absurd (omega arith)
  passes (suc b) h l g z f = f b h

  -- An ASK at t is taken.
  takes : (b t n y z : ℕ) (K : List Frame) → fetch C t ≡ ASK n y z → Kept (ask_now (ASK n y z) (runF lim C) K qs) → run lim C b t K qs ≡ ask_now (ASK n y z) (runF lim C) K qs
  takes b t n y z K h w = run_step lim C b t K qs ∙ ap (λ i. step lim C (run lim C) i b t K qs) h ∙ go qs ih w
    where
      go : (u : List ℕ)
          → ((b' pc' : ℕ) (K' : List Frame) (qs' : List ℕ) → measure C pc' qs' < measure C pc u → length C - pc' ≤ b' → Kept (runF lim C pc' K' qs')
          → run lim C b' pc' K' qs' ≡ runF lim C pc' K' qs')
          → Kept (ask_now (ASK n y z) (runF lim C) K u) → step lim C (run lim C) (ASK n y z) b t K u ≡ ask_now (ASK n y z) (runF lim C) K u
      go [] f v = refl
      go (a ∷ u) f v = ap (pre (asked n ∷ [])) (f (length C) (pick (is_yes a) y z) K u (omega arith) (omega arith) v)

  -- A way back leads to an ASK.
  back_to : (b t : ℕ) (K : List Frame) → Kept (ask_now (behind C t) (runF lim C) K qs)
      → pick (is_zero t) (res [] run_end.Astray qs) (run lim C b t K qs) ≡ ask_now (behind C t) (runF lim C) K qs
  back_to b zero K w = absurd (w refl)
  back_to b (suc t) K w = go (fetch C (suc t)) refl w
    where
      go : (i : Instr) → fetch C (suc t) ≡ i → Kept (ask_now (fetch C (suc t)) (runF lim C) K qs) → run lim C b (suc t) K qs ≡ ask_now (fetch C (suc t)) (runF lim C) K qs
      go NONE h v = absurd (v (ap (λ i. (ask_now i (runF lim C) K qs).end) h))
      go (LIST n) h v = absurd (v (ap (λ i. (ask_now i (runF lim C) K qs).end) h))
      go (LEAVE u d) h v = absurd (v (ap (λ i. (ask_now i (runF lim C) K qs).end) h))
      go (ASK n y z) h v =
          takes b (suc t) n y z K h (λ e. v (ap (λ i. (ask_now i (runF lim C) K qs).end) h ∙ e)) ∙ ap (λ i. ask_now i (runF lim C) K qs) (sym h)
      go (SELECT n c e) h v = absurd (v (ap (λ i. (ask_now i (runF lim C) K qs).end) h))
      go (OPEN f) h v = absurd (v (ap (λ i. (ask_now i (runF lim C) K qs).end) h))
      go (END e) h v = absurd (v (ap (λ i. (ask_now i (runF lim C) K qs).end) h))
      go (CASE c u d) h v = absurd (v (ap (λ i. (ask_now i (runF lim C) K qs).end) h))

  jumps : (b : ℕ) → length C - pc ≤ b → pc < length C → (p : Pos) → Kept (forward C pc (runF lim C) p qs) → jump (run lim C) b p qs ≡ forward C pc (runF lim C) p qs
  jumps b h l p w = go (ltb pc p.pc) refl w
    where
      out : ℕ → Res
      out r = run lim C r p.pc p.stack qs

      back : Res
      back = ask_now (behind C p.pc) (runF lim C) p.stack qs

      -- The place is not 0.
      some : (t : ℕ) (r : Res) → pc < t → pick (is_zero t) (res [] run_end.Astray qs) r ≡ r
      some zero r q = absurd (omega arith)
      some (suc t) r q = refl

      go : (x : Bool) → ltb pc p.pc ≡ x → Kept (pick x (runF lim C p.pc p.stack qs) back) → jump (run lim C) b p qs ≡ pick x (runF lim C p.pc p.stack qs) back
      go true e v =
          let q : pc < p.pc = ltb-true pc p.pc e in
          some p.pc (pass b out qs) q ∙ passes b h l out (runF lim C p.pc p.stack qs) (λ r m. ih r p.pc p.stack qs (omega arith) (omega arith) v)
      go false e v = leads b h
        where
          leads : (x : ℕ) → length C - pc ≤ x → pick (is_zero p.pc) (res [] run_end.Astray qs) (pass x out qs) ≡ back
          leads zero m = absurd (omega arith)
          leads (suc x) m = back_to x p.pc p.stack v

  steps : (b : ℕ) → length C - pc ≤ b → (K : List Frame) (i : Instr) → fetch C pc ≡ i → Kept (stepF lim C (runF lim C) i pc K qs)
      → step lim C (run lim C) i b pc K qs ≡ stepF lim C (runF lim C) i pc K qs
  steps b h K NONE e w = refl
  steps b h K (LIST n) e w =
      let l : pc < length C = inside C pc (ap is_none e) in
      passes b h l (λ r. pre (plain n ∷ []) (run lim C r (pc + 2) K qs)) (pre (plain n ∷ []) (runF lim C (pc + 2) K qs))
      (λ r m. ap (pre (plain n ∷ [])) (ih r (pc + 2) K qs (omega arith) (omega arith) w))
  steps b h K (LEAVE t d) e w = jumps b h (inside C pc (ap is_none e)) (unwind K t d) w
  steps b h K (ASK n y z) e w = sym (run_step lim C b pc K qs ∙ ap (λ i. step lim C (run lim C) i b pc K qs) e) ∙ takes b pc n y z K e w
  steps b h K (SELECT n c d) e w = go qs ih w
    where
      go : (u : List ℕ)
          → ((b' pc' : ℕ) (K' : List Frame) (qs' : List ℕ) → measure C pc' qs' < measure C pc u → length C - pc' ≤ b' → Kept (runF lim C pc' K' qs')
          → run lim C b' pc' K' qs' ≡ runF lim C pc' K' qs')
          → Kept (stepF lim C (runF lim C) (SELECT n c d) pc K u) → step lim C (run lim C) (SELECT n c d) b pc K u ≡ stepF lim C (runF lim C) (SELECT n c d) pc K u
      go [] f v = refl
      go (a ∷ u) f v = ap (pre (asked n ∷ [])) (f (length C) (chase C pc c d a) K u (omega arith) (omega arith) v)
  steps b h K (OPEN f) e w = go (ltb (length K) lim) w
    where
      l : pc < length C
      l = inside C pc (ap is_none e)

      go : (x : Bool) → Kept (pick x (runF lim C (pc + 2) (open' f ∷ K) qs) (res [] run_end.Astray qs))
          → pick x (pass b (λ r. run lim C r (pc + 2) (open' f ∷ K) qs) qs) (res [] run_end.Astray qs) ≡ pick x (runF lim C (pc + 2) (open' f ∷ K) qs) (res [] run_end.Astray qs)
      go true v =
          passes b h l (λ r. run lim C r (pc + 2) (open' f ∷ K) qs) (runF lim C (pc + 2) (open' f ∷ K) qs)
          (λ r m. ih r (pc + 2) (open' f ∷ K) qs (omega (arith, l)) (omega (arith, l)) v)
      go false v = refl
  steps b h K (END x) e w = refl
  steps b h K (CASE c t d) e w = jumps b h (inside C pc (ap is_none e)) (unwind K t d) w

meets : (lim f : ℕ) (C : List ℕ) (b pc : ℕ) (K : List Frame) (qs : List ℕ) → measure C pc qs < f → length C - pc ≤ b → Kept (runF lim C pc K qs)
    → run lim C b pc K qs ≡ runF lim C pc K qs
meets lim zero C b pc K qs m h w = absurd (omega arith)
meets lim (suc f) C b pc K qs m h w =
    run_step lim C b pc K qs
    ∙ steps lim C pc qs (λ b' pc' K' qs' l h' w'. meets lim f C b' pc' K' qs' (omega arith) h' w') b h K (fetch C pc) refl (λ e. w (ap (λ r. r.end) (runStepF lim C pc K qs) ∙ e))
    ∙ sym (runStepF lim C pc K qs)

pub meet : (lim : ℕ) (C : List ℕ) (qs : List ℕ) → (runF lim C 0 [] qs).end ≢ gave_up → run lim C (length C) 0 [] qs ≡ runF lim C 0 [] qs
meet lim C qs w = meets lim (suc (measure C 0 qs)) C (length C) 0 [] qs (omega arith) (omega arith) w
