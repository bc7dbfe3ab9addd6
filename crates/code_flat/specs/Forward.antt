-- A machine that goes forward, or back to an ASK, which it takes at once, and gives up at any other way back: a device of the proof. Whatever
-- it runs without giving up, the machine of Machine.antt runs alike (Meet.antt).
use Rattle.std.specs.Prelude.{ℕ, zero, suc, ◌+◌, ◌*◌, ◌-◌, List, [], ◌∷◌, length, ltb}
use Rattle.route_completion.specs.Sem.{plain, asked, pick, is_yes}
use Rattle.route_completion.specs.Ends as run_end
use Rattle.code_flat.specs.Machine.{Res, res, pre, Instr, NONE, LIST, LEAVE, ASK, SELECT, OPEN, END, CASE, fetch, Frame, open', Pos, is_zero, unwind, chase, end_as}

-- No end of a run: the machine gave up.
abbrev pub gave_up : ℕ
gave_up = 6

-- An ASK is taken; anything else gives up.
abbrev pub ask_now : Instr → (ℕ → List Frame → List ℕ → Res) → List Frame → List ℕ → Res
ask_now NONE k K qs = res [] gave_up qs
ask_now (LIST n) k K qs = res [] gave_up qs
ask_now (LEAVE t d) k K qs = res [] gave_up qs
ask_now (ASK n y z) k K [] = res [] run_end.Spent []
ask_now (ASK n y z) k K (a ∷ qs) = pre (asked n ∷ []) (k (pick (is_yes a) y z) K qs)
ask_now (SELECT n c e) k K qs = res [] gave_up qs
ask_now (OPEN f) k K qs = res [] gave_up qs
ask_now (END e) k K qs = res [] gave_up qs
ask_now (CASE c t d) k K qs = res [] gave_up qs

-- What stands at a place to go back to. The place 0, for what is pending where nothing is, is none.
abbrev pub behind : List ℕ → ℕ → Instr
behind C t = pick (is_zero t) NONE (fetch C t)

-- Control goes forward, or back to an ASK, which is then taken.
abbrev pub forward : List ℕ → ℕ → (ℕ → List Frame → List ℕ → Res) → Pos → List ℕ → Res
forward C pc k p qs = pick (ltb pc p.pc) (k p.pc p.stack qs) (ask_now (behind C p.pc) k p.stack qs)

-- One instruction; k goes on. At most lim ends are pending.
abbrev pub step : ℕ → List ℕ → (ℕ → List Frame → List ℕ → Res) → Instr → ℕ → List Frame → List ℕ → Res
step lim C k NONE pc K qs = res [] run_end.Astray qs
step lim C k (LIST n) pc K qs = pre (plain n ∷ []) (k (pc + 2) K qs)
step lim C k (LEAVE t d) pc K qs = forward C pc k (unwind K t d) qs
step lim C k (ASK n y z) pc K qs = ask_now (ASK n y z) k K qs
step lim C k (SELECT n c e) pc K [] = res [] run_end.Spent []
step lim C k (SELECT n c e) pc K (a ∷ qs) = pre (asked n ∷ []) (k (chase C pc c e a) K qs)
step lim C k (OPEN f) pc K qs = pick (ltb (length K) lim) (k (pc + 2) (open' f ∷ K) qs) (res [] run_end.Astray qs)
step lim C k (END e) pc K qs = res [] (end_as e) qs
step lim C k (CASE c t d) pc K qs = forward C pc k (unwind K t d) qs

-- The second number bounds the steps.
unfoldable pub runs : ℕ → ℕ → List ℕ → ℕ → List Frame → List ℕ → Res
runs lim zero C pc K qs = res [] gave_up qs
runs lim (suc f) C pc K qs = step lim C (runs lim f C) (fetch C pc) pc K qs

-- What is left of a run at most, in steps: the bound is never met (Steps.run_step).
abbrev pub measure : List ℕ → ℕ → List ℕ → ℕ
measure C pc qs = length qs * suc (length C) + (length C - pc)

-- The run from pc on, with room for lim pending ends, K of them pending.
unfoldable pub run : ℕ → List ℕ → ℕ → List Frame → List ℕ → Res
run lim C pc K qs = runs lim (suc (measure C pc qs)) C pc K qs
