-- The machine: the run of a flat code over a list of answers. It is defined for every list of numbers as code, and ends with 0, 1, 2 or 3, or with
-- 5 at what the code of a unit never comes to: no instruction, an END that says no such number, more instructions without an answer than the code
-- has numbers, or pending ends that run below none or above their room.
use Rattle.std.specs.Prelude.{ℕ, zero, suc, ◌+◌, ◌*◌, Bool, true, false, ◌&&◌, List, [], ◌∷◌, ◌++◌, length, get_or, eqb, ltb}
use Rattle.route_completion.specs.Sem.{Entry, plain, asked, pick, is_yes, Out}
use Rattle.route_completion.specs.Route.{Route, route_of, end_of}
use Rattle.route_completion.specs.Ends as run_end
use Rattle.code_flat.specs.Opcodes as op

-- What a run lists, its end, and the answers that are left.
pub record Res : Type 0 where
  pub nodes : List Entry
  pub end : ℕ
  pub rest : List ℕ

abbrev pub res : List Entry → ℕ → List ℕ → Res
res es e r = record { nodes = es; end = e; rest = r }

abbrev pub pre : List Entry → Res → Res
pre es r = res (es ++ r.nodes) r.end r.rest

-- The instructions of Opcodes.antt; NONE is no instruction.
pub data Instr : Type 0 where
  NONE : Instr
  LIST : ℕ → Instr
  LEAVE : ℕ → ℕ → Instr
  ASK : ℕ → ℕ → ℕ → Instr
  SELECT : ℕ → ℕ → ℕ → Instr
  OPEN : ℕ → Instr
  END : ℕ → Instr
  CASE : ℕ → ℕ → ℕ → Instr

abbrev pub is_none : Instr → Bool
is_none NONE = true
is_none (LIST n) = false
is_none (LEAVE t d) = false
is_none (ASK n y z) = false
is_none (SELECT n m d) = false
is_none (OPEN f) = false
is_none (END e) = false
is_none (CASE c t d) = false

-- What a number and its operands say.
abbrev pub decode : ℕ → ℕ → ℕ → ℕ → Instr
decode x a b c =
    pick (eqb x op.List) (LIST a) (pick (eqb x op.Leave) (LEAVE a b) (pick (eqb x op.Ask) (ASK a b c) (pick (eqb x op.Select) (SELECT a b c)
    (pick (eqb x op.Open) (OPEN a) (pick (eqb x op.End) (END a) (pick (eqb x op.Case) (CASE a b c) NONE))))))

-- Past the code 0 is read, which is no instruction.
unfoldable pub fetch : List ℕ → ℕ → Instr
fetch C pc = decode (get_or C pc 0) (get_or C (suc pc) 0) (get_or C (suc (suc pc)) 0) (get_or C (suc (suc (suc pc))) 0)

-- The pending ends: the finally blocks that are open, and those that run, each with where it goes on behind it.
pub data Frame : Type 0 where
  open' : ℕ → Frame
  pend : ℕ → ℕ → Frame

pub record Pos : Type 0 where
  pub pc : ℕ
  pub stack : List Frame

abbrev pub pos : ℕ → List Frame → Pos
pos t K = record { pc = t; stack = K }

abbrev pub is_zero : ℕ → Bool
is_zero zero = true
is_zero (suc n) = false

-- The way to the place t at the depth d: the next open finally block, if one stands between, with that way pending.
-- The place 0 stands for what is pending at that depth. With none pending, d says nothing.
unfoldable pub unwind : List Frame → ℕ → ℕ → Pos
unwind [] t d = pos t []
unwind (open' f ∷ K) t d = pick (ltb (length K) d) (pos t (open' f ∷ K)) (pos f (pend t d ∷ K))
unwind (pend u v ∷ K) t d = pick (ltb (length K) d) (pick (is_zero t) (unwind K u v) (pos t (pend u v ∷ K))) (unwind K t d)

-- A case that is named at p stands at c, further on.
abbrev pub is_case : List ℕ → ℕ → ℕ → Bool
is_case C p c = ltb p c && eqb (get_or C c 0) op.Case

-- The a-th case of the chain that begins at c and is named at p; e where there is none.
unfoldable pub chase : List ℕ → ℕ → ℕ → ℕ → ℕ → ℕ
chase C p c e zero = pick (is_case C p c) c e
chase C p c e (suc a) = pick (is_case C p c) (chase C c (get_or C (suc c) 0) e a) e

-- An END can say that the run fell through, returned or has thrown.
abbrev pub end_as : ℕ → ℕ
end_as e = pick (ltb e run_end.Spent) e run_end.Astray

-- One more instruction passes without an answer, if one of b is left.
abbrev pub pass : ℕ → (ℕ → Res) → List ℕ → Res
pass zero k qs = res [] run_end.Astray qs
pass (suc b) k qs = k b

-- Control goes on at p. The place 0 is what is pending where nothing is.
abbrev pub jump : (ℕ → ℕ → List Frame → List ℕ → Res) → ℕ → Pos → List ℕ → Res
jump k b p qs = pick (is_zero p.pc) (res [] run_end.Astray qs) (pass b (λ r. k r p.pc p.stack qs) qs)

-- One instruction; k goes on. At most lim ends are pending, and b instructions more may pass before the next answer.
abbrev pub step : ℕ → List ℕ → (ℕ → ℕ → List Frame → List ℕ → Res) → Instr → ℕ → ℕ → List Frame → List ℕ → Res
step lim C k NONE b pc K qs = res [] run_end.Astray qs
step lim C k (LIST n) b pc K qs = pass b (λ r. pre (plain n ∷ []) (k r (pc + 2) K qs)) qs
step lim C k (LEAVE t d) b pc K qs = jump k b (unwind K t d) qs
step lim C k (ASK n y z) b pc K [] = res [] run_end.Spent []
step lim C k (ASK n y z) b pc K (a ∷ qs) = pre (asked n ∷ []) (k (length C) (pick (is_yes a) y z) K qs)
step lim C k (SELECT n c e) b pc K [] = res [] run_end.Spent []
step lim C k (SELECT n c e) b pc K (a ∷ qs) = pre (asked n ∷ []) (k (length C) (chase C pc c e a) K qs)
step lim C k (OPEN f) b pc K qs = pick (ltb (length K) lim) (pass b (λ r. k r (pc + 2) (open' f ∷ K) qs) qs) (res [] run_end.Astray qs)
step lim C k (END e) b pc K qs = res [] (end_as e) qs
step lim C k (CASE c t d) b pc K qs = jump k b (unwind K t d) qs

-- The second number bounds the steps. It is never met (Runs.run_step).
unfoldable pub runs : ℕ → ℕ → List ℕ → ℕ → ℕ → List Frame → List ℕ → Res
runs lim zero C b pc K qs = res [] run_end.Astray qs
runs lim (suc f) C b pc K qs = step lim C (runs lim f C) (fetch C pc) b pc K qs

-- What is left of a run at most, in steps.
abbrev pub measure : List ℕ → ℕ → List ℕ → ℕ
measure C b qs = length qs * suc (length C) + b

-- The run from pc on, with room for lim pending ends, K of them pending, and for b instructions before the next answer.
unfoldable pub run : ℕ → List ℕ → ℕ → ℕ → List Frame → List ℕ → Res
run lim C b pc K qs = runs lim (suc (measure C b qs)) C b pc K qs

-- "keep a pending end for each finally that is open, nested up to the depth limit": refusal 3's, "depth above 512".
abbrev pub room : ℕ
room = 512

-- The whole run of a code.
abbrev pub started : List ℕ → List ℕ → Res
started C qs = run room C (length C) 0 [] qs

-- The route that the machine gives for a list of numbers as code: "A run reads the code and the answers, never the tables."
abbrev pub code_route : List ℕ → List ℕ → Route
code_route C qs = route_of (started C qs).nodes (started C qs).end

-- What a unit comes to by the completion rules, as the result of a run.
abbrev pub result : Out → Res
result o = res o.nodes (end_of o.comp) o.rest
