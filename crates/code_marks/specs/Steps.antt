-- A stopped run goes from step to step, as Machine.step says of the run: what a loop over the code is proved by.
use Rattle.std.specs.Prelude.{ℕ, zero, suc, ◌+◌, List, [], ◌∷◌, length, ltb}
use Rattle.route_completion.specs.Sem.{plain, asked, pick, is_yes}
use Rattle.route_completion.specs.Ends as run_end
use Rattle.code_flat.specs.Machine.{res, Instr, NONE, LIST, LEAVE, ASK, SELECT, OPEN, END, CASE, Frame, open', Pos, is_zero, unwind, chase, end_as}
use Rattle.code_marks.specs.Stop.{Stop, over, after}

abbrev pub pass : ℕ → (ℕ → Stop) → List ℕ → Stop
pass zero k qs = over (res [] run_end.Astray qs)
pass (suc b) k qs = k b

abbrev pub jump : (ℕ → ℕ → List Frame → List ℕ → Stop) → ℕ → Pos → List ℕ → Stop
jump k b p qs = pick (is_zero p.pc) (over (res [] run_end.Astray qs)) (pass b (λ r. k r p.pc p.stack qs) qs)

-- One instruction; k goes on where it takes no answer, j where it takes one.
abbrev pub step : ℕ → List ℕ → (ℕ → ℕ → List Frame → List ℕ → Stop) → (ℕ → List Frame → List ℕ → Stop) → Instr → ℕ → ℕ → List Frame → List ℕ → Stop
step lim C k j NONE b pc K qs = over (res [] run_end.Astray qs)
step lim C k j (LIST n) b pc K qs = pass b (λ r. after (plain n ∷ []) (k r (pc + 2) K qs)) qs
step lim C k j (LEAVE t d) b pc K qs = jump k b (unwind K t d) qs
step lim C k j (ASK n y z) b pc K [] = over (res [] run_end.Spent [])
step lim C k j (ASK n y z) b pc K (a ∷ qs) = after (asked n ∷ []) (j (pick (is_yes a) y z) K qs)
step lim C k j (SELECT n c e) b pc K [] = over (res [] run_end.Spent [])
step lim C k j (SELECT n c e) b pc K (a ∷ qs) = after (asked n ∷ []) (j (chase C pc c e a) K qs)
step lim C k j (OPEN f) b pc K qs = pick (ltb (length K) lim) (pass b (λ r. k r (pc + 2) (open' f ∷ K) qs) qs) (over (res [] run_end.Astray qs))
step lim C k j (END e) b pc K qs = over (res [] (end_as e) qs)
step lim C k j (CASE c t d) b pc K qs = jump k b (unwind K t d) qs
