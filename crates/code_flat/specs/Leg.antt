-- The way of the machine from a place to the next answer: a leg. It does not depend on the answers.
use Rattle.std.specs.Prelude.{ℕ, zero, suc, ◌+◌, List, [], ◌∷◌, ◌++◌, length, ltb}
use Rattle.route_completion.specs.Sem.{Entry, plain, asked, pick, is_yes}
use Rattle.route_completion.specs.Ends as run_end
use Rattle.code_flat.specs.Machine.{Res, res, pre, Instr, NONE, LIST, LEAVE, ASK, SELECT, OPEN, END, CASE, fetch, Frame, open', Pos, is_zero, unwind, chase, end_as, run}

-- A leg lists some nodes, and then ends the run; or then an answer is due: the node that takes it, where control goes with each answer, and
-- the pending ends there.
pub data Leg : Type 0 where
  ends : List Entry → ℕ → Leg
  waits : List Entry → ℕ → (ℕ → ℕ) → List Frame → Leg

abbrev pub listed : Leg → List Entry
listed (ends es e) = es
listed (waits es n f K) = es

-- More entries in front.
abbrev pub before : List Entry → Leg → Leg
before es (ends fs e) = ends (es ++ fs) e
before es (waits fs n f K) = waits (es ++ fs) n f K

abbrev pub leg_jump : (List Entry → ℕ → List Frame → Leg) → Pos → Leg
leg_jump k p = pick (is_zero p.pc) (ends [] run_end.Astray) (k [] p.pc p.stack)

-- One instruction, as Machine.step; k goes on behind one that passes without an answer.
abbrev pub leg_step : ℕ → List ℕ → (List Entry → ℕ → List Frame → Leg) → Instr → ℕ → List Frame → Leg
leg_step lim C k NONE pc K = ends [] run_end.Astray
leg_step lim C k (LIST n) pc K = k (plain n ∷ []) (pc + 2) K
leg_step lim C k (LEAVE t d) pc K = leg_jump k (unwind K t d)
leg_step lim C k (ASK n y z) pc K = waits [] n (λ a. pick (is_yes a) y z) K
leg_step lim C k (SELECT n c e) pc K = waits [] n (chase C pc c e) K
leg_step lim C k (OPEN f) pc K = pick (ltb (length K) lim) (k [] (pc + 2) (open' f ∷ K)) (ends [] run_end.Astray)
leg_step lim C k (END e) pc K = ends [] (end_as e)
leg_step lim C k (CASE c t d) pc K = leg_jump k (unwind K t d)

-- The leg from pc on, with K pending; b instructions may pass.
unfoldable pub leg : ℕ → List ℕ → ℕ → ℕ → List Frame → Leg
leg lim C zero pc K = leg_step lim C (λ es t J. ends [] run_end.Astray) (fetch C pc) pc K
leg lim C (suc b) pc K = leg_step lim C (λ es t J. before es (leg lim C b t J)) (fetch C pc) pc K

-- The run behind a leg. Behind an answer as many instructions may pass as the code has numbers.
abbrev pub onward : ℕ → List ℕ → Leg → List ℕ → Res
onward lim C (ends es e) qs = res es e qs
onward lim C (waits es n f K) [] = res es run_end.Spent []
onward lim C (waits es n f K) (a ∷ qs) = pre es (pre (asked n ∷ []) (run lim C (length C) (f a) K qs))
