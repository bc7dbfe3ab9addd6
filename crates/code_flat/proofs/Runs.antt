-- The machine goes from step to step, for every list of numbers as code: its bound on the steps is never met. And it ends with 0, 1, 2, 3 or 5.
use Rattle.std.specs.Prelude.{ℕ, zero, suc, ◌+◌, ◌≤◌, ◌<◌, ◌≡◌, refl, Bool, true, false, List, [], ◌∷◌, ◌⊎◌, length, get_or, ltb}
use Rattle.std.proofs.Common.{sym, ◌∙◌, ap, true≢false, inl, inr, ltb-true, arith}
use Rattle.std.proofs.Math.ListN.{get_or-eq_default}
use Rattle.std.proofs.Math.Decide.{dec_lt}
use Rattle.route_completion.specs.Sem.{plain, asked, pick, is_yes}
use Rattle.route_completion.specs.Ends as run_end
use Rattle.code_flat.specs.Machine.{Res, res, pre, Instr, NONE, LIST, LEAVE, ASK, SELECT, OPEN, END, CASE, decode, fetch, Frame, open', Pos, is_zero, unwind, chase, pass, jump, step, runs, measure, run}
use Rattle.code_flat.specs.Machine.{is_none}

-- Past the code stands no instruction.
pub past : (C : List ℕ) (pc : ℕ) → length C ≤ pc → fetch C pc ≡ NONE
unfolding fetch
past C pc h = ap (λ x. decode x (get_or C (suc pc) 0) (get_or C (suc (suc pc)) 0) (get_or C (suc (suc (suc pc))) 0)) (get_or-eq_default C 0 h)

pub inside : (C : List ℕ) (pc : ℕ) → is_none (fetch C pc) ≡ false → pc < length C
inside C pc h = go (dec_lt pc (length C))
  where
    go : Dec (pc < length C) → pc < length C
    go (yes p) = p
    go (no p) = absurd (true≢false (sym (ap is_none (past C pc (omega arith))) ∙ h))

-- Two ways to go on that agree on all that is left agree on a step.
module _ (C : List ℕ) (k k' : ℕ → ℕ → List Frame → List ℕ → Res) (b : ℕ) (qs : List ℕ)
    (ih : (b' pc' : ℕ) (K' : List Frame) (qs' : List ℕ) → measure C b' qs' < measure C b qs → k b' pc' K' qs' ≡ k' b' pc' K' qs') where
  pass_cong : (g g' : ℕ → Res) → ((r : ℕ) → r < b → g r ≡ g' r) → pass b g qs ≡ pass b g' qs
  pass_cong g g' h = go b h
    where
      go : (x : ℕ) → ((r : ℕ) → r < x → g r ≡ g' r) → pass x g qs ≡ pass x g' qs
      go zero u = refl
      go (suc x) u = u x (omega arith)

  jump_cong : (p : Pos) → jump k b p qs ≡ jump k' b p qs
  jump_cong p =
      ap (λ r. pick (is_zero p.pc) (res [] run_end.Astray qs) r)
      (pass_cong (λ r. k r p.pc p.stack qs) (λ r. k' r p.pc p.stack qs) (λ r h. ih r p.pc p.stack qs (omega arith)))

step_cong : (lim : ℕ) (C : List ℕ) (k k' : ℕ → ℕ → List Frame → List ℕ → Res) (b pc : ℕ) (K : List Frame) (qs : List ℕ)
    → ((b' pc' : ℕ) (K' : List Frame) (qs' : List ℕ) → measure C b' qs' < measure C b qs → k b' pc' K' qs' ≡ k' b' pc' K' qs')
    → (i : Instr) → step lim C k i b pc K qs ≡ step lim C k' i b pc K qs
step_cong lim C k k' b pc K qs ih NONE = refl
step_cong lim C k k' b pc K qs ih (LIST n) =
    pass_cong C k k' b qs ih (λ r. pre (plain n ∷ []) (k r (pc + 2) K qs)) (λ r. pre (plain n ∷ []) (k' r (pc + 2) K qs))
    (λ r h. ap (pre (plain n ∷ [])) (ih r (pc + 2) K qs (omega arith)))
step_cong lim C k k' b pc K qs ih (LEAVE t d) = jump_cong C k k' b qs ih (unwind K t d)
step_cong lim C k k' b pc K [] ih (ASK n y z) = refl
step_cong lim C k k' b pc K (a ∷ qs) ih (ASK n y z) = ap (pre (asked n ∷ [])) (ih (length C) (pick (is_yes a) y z) K qs (omega arith))
step_cong lim C k k' b pc K [] ih (SELECT n c e) = refl
step_cong lim C k k' b pc K (a ∷ qs) ih (SELECT n c e) = ap (pre (asked n ∷ [])) (ih (length C) (chase C pc c e a) K qs (omega arith))
step_cong lim C k k' b pc K qs ih (OPEN f) =
    ap (λ r. pick (ltb (length K) lim) r (res [] run_end.Astray qs))
    (pass_cong C k k' b qs ih (λ r. k r (pc + 2) (open' f ∷ K) qs) (λ r. k' r (pc + 2) (open' f ∷ K) qs) (λ r h. ih r (pc + 2) (open' f ∷ K) qs (omega arith)))
step_cong lim C k k' b pc K qs ih (END e) = refl
step_cong lim C k k' b pc K qs ih (CASE c t d) = jump_cong C k k' b qs ih (unwind K t d)

same : (lim f g : ℕ) (C : List ℕ) (b pc : ℕ) (K : List Frame) (qs : List ℕ) → measure C b qs < f → measure C b qs < g → runs lim f C b pc K qs ≡ runs lim g C b pc K qs
unfolding runs
same lim zero g C b pc K qs p q = absurd (omega arith)
same lim (suc f) zero C b pc K qs p q = absurd (omega arith)
same lim (suc f) (suc g) C b pc K qs p q =
    step_cong lim C (runs lim f C) (runs lim g C) b pc K qs (λ b' pc' K' qs' h. same lim f g C b' pc' K' qs' (omega arith) (omega arith)) (fetch C pc)

-- The run goes on from step to step.
pub run_step : (lim : ℕ) (C : List ℕ) (b pc : ℕ) (K : List Frame) (qs : List ℕ) → run lim C b pc K qs ≡ step lim C (run lim C) (fetch C pc) b pc K qs
unfolding run runs
run_step lim C b pc K qs =
    step_cong lim C (runs lim (measure C b qs) C) (run lim C) b pc K qs
    (λ b' pc' K' qs' h. same lim (measure C b qs) (suc (measure C b' qs')) C b' pc' K' qs' h (omega arith)) (fetch C pc)

-- Every run ends with 0, 1, 2, 3 or 5.
abbrev pub Ends : ℕ → Type 0
Ends e = (e ≤ run_end.Spent) ⊎ (e ≡ run_end.Astray)

module _ (lim : ℕ) (C : List ℕ) (k : ℕ → ℕ → List Frame → List ℕ → Res) (ih : (b pc : ℕ) (K : List Frame) (qs : List ℕ) → Ends (k b pc K qs).end) where
  pass_ends : (b : ℕ) (g : ℕ → Res) (qs : List ℕ) → ((r : ℕ) → Ends (g r).end) → Ends (pass b g qs).end
  pass_ends zero g qs h = inr refl
  pass_ends (suc b) g qs h = h b

  pick_ends : (t : Bool) (r r' : Res) → Ends r.end → Ends r'.end → Ends (pick t r r').end
  pick_ends true r r' p q = p
  pick_ends false r r' p q = q

  jump_ends : (b : ℕ) (p : Pos) (qs : List ℕ) → Ends (jump k b p qs).end
  jump_ends b p qs =
      pick_ends (is_zero p.pc) (res [] run_end.Astray qs) (pass b (λ r. k r p.pc p.stack qs) qs) (inr refl)
      (pass_ends b (λ r. k r p.pc p.stack qs) qs (λ r. ih r p.pc p.stack qs))

  step_ends : (i : Instr) (b pc : ℕ) (K : List Frame) (qs : List ℕ) → Ends (step lim C k i b pc K qs).end
  step_ends NONE b pc K qs = inr refl
  step_ends (LIST n) b pc K qs = pass_ends b (λ r. pre (plain n ∷ []) (k r (pc + 2) K qs)) qs (λ r. ih r (pc + 2) K qs)
  step_ends (LEAVE t d) b pc K qs = jump_ends b (unwind K t d) qs
  step_ends (ASK n y z) b pc K [] = inl (omega arith)
  step_ends (ASK n y z) b pc K (a ∷ qs) = ih (length C) (pick (is_yes a) y z) K qs
  step_ends (SELECT n c e) b pc K [] = inl (omega arith)
  step_ends (SELECT n c e) b pc K (a ∷ qs) = ih (length C) (chase C pc c e a) K qs
  step_ends (OPEN f) b pc K qs =
      pick_ends (ltb (length K) lim) (pass b (λ r. k r (pc + 2) (open' f ∷ K) qs) qs) (res [] run_end.Astray qs)
      (pass_ends b (λ r. k r (pc + 2) (open' f ∷ K) qs) qs (λ r. ih r (pc + 2) (open' f ∷ K) qs)) (inr refl)
  step_ends (END e) b pc K qs = go (ltb e 3) refl
    where
      go : (t : Bool) → ltb e run_end.Spent ≡ t → Ends (pick t e run_end.Astray)
      go true h = let p : e < 3 = ltb-true e 3 h in inl (omega arith)
      go false h = inr refl
  step_ends (CASE c t d) b pc K qs = jump_ends b (unwind K t d) qs

runs_ends : (lim f : ℕ) (C : List ℕ) (b pc : ℕ) (K : List Frame) (qs : List ℕ) → Ends (runs lim f C b pc K qs).end
unfolding runs
runs_ends lim zero C b pc K qs = inr refl
runs_ends lim (suc f) C b pc K qs = step_ends lim C (runs lim f C) (λ b' pc' K' qs'. runs_ends lim f C b' pc' K' qs') (fetch C pc) b pc K qs

pub run_ends : (lim : ℕ) (C : List ℕ) (b pc : ℕ) (K : List Frame) (qs : List ℕ) → Ends (run lim C b pc K qs).end
unfolding run
run_ends lim C b pc K qs = runs_ends lim (suc (measure C b qs)) C b pc K qs
