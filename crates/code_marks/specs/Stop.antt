-- A run that is stopped "right after the entry that takes the last of a named number of answers (for 0, at its start)", and taken up again.
-- Behind an answer and at the start as many instructions may pass as the code has numbers, so that a place and the pending ends are all that a
-- mark has to hold: Machine.Pos.
use Rattle.std.specs.Prelude.{ℕ, zero, suc, List, [], ◌∷◌, ◌++◌, length, take}
use Rattle.route_completion.specs.Sem.{Entry, asked}
use Rattle.route_completion.specs.Ends as run_end
use Rattle.code_flat.specs.Machine.{Res, res, pre, Frame, Pos, pos, run}
use Rattle.code_flat.specs.Leg.{Leg, ends, waits, leg}

-- The run was stopped: what it has listed, where it stands, and the answers that are left. Or it had ended before.
pub data Stop : Type 0 where
  held : List Entry → Pos → List ℕ → Stop
  over : Res → Stop

-- More entries in front.
abbrev pub after : List Entry → Stop → Stop
after es (held fs p r) = held (es ++ fs) p r
after es (over r) = over (pre es r)

-- Behind a leg; k goes on behind its answer.
abbrev pub behind : (ℕ → List Frame → List ℕ → Stop) → Leg → List ℕ → Stop
behind k (ends es e) qs = over (res es e qs)
behind k (waits es n f K) [] = over (res es run_end.Spent [])
behind k (waits es n f K) (a ∷ qs) = after es (after (asked n ∷ []) (k (f a) K qs))

-- The run from pc on, with K pending, stopped behind n answers; b instructions may pass before the next.
unfoldable pub stops : ℕ → List ℕ → ℕ → ℕ → ℕ → List Frame → List ℕ → Stop
stops lim C zero b pc K qs = held [] (pos pc K) qs
stops lim C (suc n) b pc K qs = behind (stops lim C n (length C)) (leg lim C b pc K) qs

-- .. and from the start, or from a mark.
abbrev pub stopped : ℕ → List ℕ → ℕ → Pos → List ℕ → Stop
stopped lim C n p qs = stops lim C n (length C) p.pc p.stack qs

-- Taken up, and not stopped again.
abbrev pub taken_up : ℕ → List ℕ → Pos → List ℕ → Res
taken_up lim C p qs = run lim C (length C) p.pc p.stack qs

-- A call that takes up a mark and stops again: the number named, and the answers given.
pub record Call : Type 0 where
  pub number : ℕ
  pub answers : List ℕ

abbrev pub goes_on : Stop → (Pos → Stop) → Stop
goes_on (held es p r) k = after es (k p)
goes_on (over r) k = over r

-- One call after another, each from the mark that the one before has set; behind the last no answer is left. It ends with the first call that
-- sets no mark.
unfoldable pub calls : ℕ → List ℕ → Pos → List Call → Stop
calls lim C p [] = held [] p []
calls lim C p (c ∷ cs) = goes_on (stopped lim C c.number p c.answers) (λ q. calls lim C q cs)

-- "the answers taken so far".
unfoldable pub so_far : List Call → List ℕ
so_far [] = []
so_far (c ∷ cs) = take c.number c.answers ++ so_far cs
