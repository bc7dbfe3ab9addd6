-- One instruction of the machine, as it is taken.
use Rattle.std.specs.Prelude.{ℕ, suc, ◌+◌, ◌≤◌, ◌<◌, ◌≡◌, List, [], ◌∷◌, map, drop, length, ltb, Result, Ok, Err}
use Rattle.route_completion.specs.Sem.{Entry, plain, pick}
use Rattle.route_completion.specs.Route.{asks, node_of}
use Rattle.route_completion.specs.Ends as run_end
use Rattle.code_flat.specs.Machine.{room, Res, res, open', Pos, unwind, pos, measure, run}
use Rattle.code_marks.specs.Stop.{Stop, over, after, stops}
use Rattle.code_marks.specs.Steps.{pass, jump}
use Rattle.code_machine.specs.Pending.{half, stack}
use Rattle.code_machine.specs.declared.Place.{Place}
use Rattle.code_machine.specs.declared.Target.{Target}
use Rattle.code_machine.specs.declared.Landing.{Landing}
use Rattle.code_machine.specs.declared.Step.{Step}
use Rattle.code_machine.specs.declared.Step.TheVariants.{Over, On, Listed}
use Rattle.code_machine.specs.declared.Next.{Next}

-- Where the whole run of a code begins.
abbrev pub start_of : List ℕ → Place
start_of C = record { pc = 0; at = 0; budget = length C; pending = 0 }

-- The node n is listed as it takes an answer, and the run goes on at t.
abbrev pub answered : List ℕ → Place → ℕ → ℕ → Next
answered C p n t = record { node = n; then = record { pc = t; at = p.at + 1; budget = length C; pending = p.pending } }

-- The run from p on, with the pending ends that the array holds.
abbrev pub from : List ℕ → List ℕ → List ℕ → Place → Res
from C qs ends p = run room C p.budget p.pc (stack ends p.pending) (drop p.at qs)

-- .. stopped behind m more answers.
abbrev pub up_to : List ℕ → List ℕ → List ℕ → Place → ℕ → Stop
up_to C qs ends p m = stops room C m p.budget p.pc (stack ends p.pending) (drop p.at qs)

-- That one instruction passes, and the run goes on at t, with the first n numbers of the array pending. However many answers it is stopped behind.
abbrev pub Passes : List ℕ → List ℕ → List ℕ → List ℕ → Place → ℕ → ℕ → Type 0
Passes C qs ends ends' p t n =
    (m : ℕ) → up_to C qs ends p (suc m) ≡ pass p.budget (λ b. stops room C (suc m) b t (stack ends' n) (drop p.at qs)) (drop p.at qs)

-- That control goes on at x.
abbrev pub Jumps : List ℕ → List ℕ → List ℕ → Place → Pos → Type 0
Jumps C qs ends p x = (m : ℕ) → up_to C qs ends p (suc m) ≡ jump (stops room C (suc m)) p.budget x (drop p.at qs)

abbrev pub Lands : List ℕ → List ℕ → List ℕ → List ℕ → Place → Landing → Type 0
Lands C qs ends ends' p to = Jumps C qs ends p (pos to.place (stack ends' to.pending))

abbrev pub Leaves : List ℕ → List ℕ → List ℕ → Place → Target → Type 0
Leaves C qs ends p target = Jumps C qs ends p (unwind (stack ends p.pending) target.place target.depth)

-- That n is listed, and the run goes on at t.
abbrev pub Lists : List ℕ → List ℕ → List ℕ → Place → ℕ → ℕ → Type 0
Lists C qs ends p n t =
    (m : ℕ) → up_to C qs ends p (suc m)
    ≡ pass p.budget (λ b. after (plain n ∷ []) (stops room C (suc m) b t (stack ends p.pending) (drop p.at qs))) (drop p.at qs)

-- That the finally block at f is opened, where there is room, and the run goes on at t.
abbrev pub Opens : List ℕ → List ℕ → List ℕ → Place → ℕ → ℕ → Type 0
Opens C qs ends p f t =
    (m : ℕ) → up_to C qs ends p (suc m)
    ≡ pick (ltb (length (stack ends p.pending)) room)
    (pass p.budget (λ b. stops room C (suc m) b t (open' f ∷ stack ends p.pending) (drop p.at qs)) (drop p.at qs))
    (over (res [] run_end.Astray (drop p.at qs)))

-- That the run ends there, with e.
abbrev pub Ends : List ℕ → List ℕ → List ℕ → Place → ℕ → Type 0
Ends C qs ends p e = (m : ℕ) → up_to C qs ends p (suc m) ≡ over (res [] e (drop p.at qs))

-- The run goes on from p at q, with l listed; the array is then ends'.
pub record Going (C qs ends ends' : List ℕ) (p : Place) (l : List ℕ) (q : Place) : Type 0 where
  pub less : measure C q.budget (drop q.at qs) < measure C p.budget (drop p.at qs)
  pub most : q.pending ≤ room
  -- Behind an answer control is at a place that a word of the code names.
  pub named : (p.at ≡ q.at → ⊥) → q.pc < half
  pub shown : List Entry
  pub nodes : map node_of shown ≡ l
  pub takes : p.at + asks shown ≡ q.at
  pub halts : (m n : ℕ) → m ≡ asks shown + n → 0 < m → up_to C qs ends p m ≡ after shown (up_to C qs ends' q n)

-- What a step says of the run from p.
abbrev pub Turned : List ℕ → List ℕ → List ℕ → List ℕ → Place → Step → Type 0
Turned C qs ends ends' p (Over e) = Ends C qs ends p e
Turned C qs ends ends' p (On q) = Going C qs ends ends' p [] q
Turned C qs ends ends' p (Listed e) = Going C qs ends ends' p (e.node ∷ []) e.then

-- What the next entry, or the end, says of the run from p.
abbrev pub Coming : List ℕ → List ℕ → List ℕ → List ℕ → Place → Result Next ℕ → Type 0
Coming C qs ends ends' p (Err e) = Ends C qs ends p e
Coming C qs ends ends' p (Ok e) = Going C qs ends ends' p (e.node ∷ []) e.then
