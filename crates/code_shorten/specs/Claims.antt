-- Document 02, 10/13, in one place: what is proved of the pass.
use Rattle.std.specs.Prelude.{ℕ, ◌-◌, ◌≤◌, ◌≡◌, false, List, length}
use Rattle.std.proofs.Common.{sym, ◌∙◌, ap, arith}
use Rattle.route_completion.specs.Tree.{Stmts}
use Rattle.route_completion.specs.Sem.{Comp, normal, breaks, continues, returns, throws, spent, execs}
use Rattle.route_completion.specs.Route.{end_of, route_of, route}
use Rattle.code_flat.specs.Code.{unit, RoomAll}
use Rattle.code_flat.specs.Forward.{gave_up}
use Rattle.code_flat.specs.Machine.{Instr, room, started, code_route, result}
use Rattle.code_flat.specs.Machine.{is_none}
use Rattle.code_flat.proofs.Correct.{unit_correct}
use Rattle.code_flat.proofs.ClaimsLaws.{unit_runs}
use Rattle.code_valid.specs.Instrs.{parse, find}
use Rattle.code_valid.specs.Valid.{Valid}
use Rattle.code_shorten.specs.Short.{to, aim_of, threaded, reached, moved, relocate, closed_up, shorter}
use Rattle.code_shorten.specs.Longer.{never_longer}
use Rattle.code_shorten.specs.Sound.{Sound, valid_sound}
use Rattle.code_shorten.specs.Threads.{thread_none, threaded_find, threaded_sound, aim_some}
use Rattle.code_shorten.specs.Closes.{In}
use Rattle.code_shorten.specs.Reaches.{reached_zero, reached_closed}
use Rattle.code_shorten.specs.Rings.{Ring}
use Rattle.code_shorten.specs.Stands.{new_find}
use Rattle.code_shorten.specs.Same.{Forward, same_run}
use Rattle.code_shorten.specs.Units.{unit_valid}
use Rattle.code_shorten.specs.Twice.{second_pass, shorter_valid, ring_stays}

-- "Room that it frees is reported as old length less new length."
abbrev pub freed : ℕ → ℕ → ℕ
freed old new = old - new

-- Where the instruction at o comes to stand.
abbrev pub new_place : List ℕ → ℕ → ℕ
new_place C = moved (reached (threaded (parse C))) (threaded (parse C)) 0 0

-- "Reached jumps that form or lead into a ring stay": such a jump stands in the shorter code, and names its own target, where that stands now.
abbrev pub RingStays : List ℕ → Type 0
RingStays C =
    (o t d : ℕ) → aim_of (find (parse C) 0 o) ≡ to t d → Ring (parse C) t → In (reached (threaded (parse C))) o
    → find (closed_up (threaded (parse C))) 0 (new_place C o) ≡ relocate (new_place C) (find (parse C) 0 o)

-- For every slice that 18 does not turn down.
pub record Pass (C : List ℕ) : Type 0 where
  -- What it makes is not turned down either.
  pub valid : Valid (shorter C)
  -- "The pass never lengthens code, and a second pass changes nothing."
  pub longer : length (shorter C) ≤ length C
  pub twice : shorter (shorter C) ≡ shorter C
  pub rings : RingStays C
  -- The whole run is the old one, entries, end and answers left, where control goes forward between answers, or back to an ASK.
  pub same : (qs : List ℕ) → Forward room C qs → started (shorter C) qs ≡ started C qs

rings_stay : (C : List ℕ) → Valid C → RingStays C
rings_stay C v o t d a r i =
    new_find (threaded is) u (reached (threaded is)) (reached_zero (threaded is) u) (reached_closed (threaded is) u) o (begun, i)
    ∙ ap (relocate (new_place C)) (threaded_find is o ∙ ring_stays is (find is 0 o) t d a r)
  where
    is : List Instr
    is = parse C

    u : Sound (threaded is)
    u = threaded_sound is (valid_sound C v)

    begun : is_none (find (threaded is) 0 o) ≡ false
    begun = ap is_none (threaded_find is o) ∙ thread_none is (find is 0 o) ∙ aim_some (find is 0 o) t d a

pub pass : (C : List ℕ) → Valid C → Pass C
pass C v =
    record { valid = shorter_valid C v; longer = never_longer C; twice = second_pass C v; rings = rings_stay C v; same = λ qs w. same_run room C v qs w }

-- For every code that a unit can have, `try` included, and every list of answers.
pub record Shortened (ss : Stmts) (qs : List ℕ) : Type 0 where
  -- The code of a unit is never refused.
  pub valid : Valid (unit ss)
  -- "The route of the shorter code is the old route for all answers": entries, end and answers left, and by the completion rules.
  pub same : started (shorter (unit ss)) qs ≡ started (unit ss) qs
  pub rules : started (shorter (unit ss)) qs ≡ result (execs ss qs)
  pub routes : code_route (shorter (unit ss)) qs ≡ route ss qs

ended : (x : Comp) → end_of x ≡ gave_up → ⊥
ended normal e = omega arith
ended (breaks l) e = omega arith
ended (continues l) e = omega arith
ended returns e = omega arith
ended throws e = omega arith
ended spent e = omega arith

unit_forward : (ss : Stmts) → RoomAll ss room → (qs : List ℕ) → Forward room (unit ss) qs
unit_forward ss w qs e = ended (execs ss qs).comp (sym (ap (λ r. r.end) (unit_correct room ss w qs)) ∙ e)

-- THE THEOREM
pub claims : (ss : Stmts) → RoomAll ss room → (qs : List ℕ) → Shortened ss qs
claims ss w qs =
    let s : started (shorter (unit ss)) qs ≡ started (unit ss) qs = same_run room (unit ss) (unit_valid ss) qs (unit_forward ss w qs) in
    let r : started (shorter (unit ss)) qs ≡ result (execs ss qs) = s ∙ unit_runs room ss w qs in
    record { valid = unit_valid ss; same = s; rules = r; routes = ap (λ x. route_of x.nodes x.end) r }
