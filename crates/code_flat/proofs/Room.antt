-- Room for pending ends: a tree without try needs none, and every tree finds room somewhere.
use Rattle.std.specs.Prelude.{ℕ, zero, suc, ◌≤◌}
use Rattle.std.proofs.Common.{arith}
use Rattle.route_completion.specs.Tree.{Stmt, Stmts, Cases, leaf, if1, if2, if3, withs, block, label, loop, switch, try_c, try_f, nil, cons, none, case, NoTry, NoTryAll, NoTryCases}
use Rattle.code_flat.specs.Code.{size, sizes, size_cases, Room, RoomAll, RoomCases}

mutual
  no_try_one : (s : Stmt) (r : ℕ) → NoTry s → Room s r
  no_try_one (leaf n l) r h = tt
  no_try_one (if1 n s) r h = no_try_one s r h
  no_try_one (if2 n s t) r h = (no_try_one s r h.0, no_try_one t r h.1)
  no_try_one (if3 n t s) r h = (no_try_one t r h.0, no_try_one s r h.1)
  no_try_one (withs n s) r h = no_try_one s r h
  no_try_one (block ss) r h = no_try_room ss r h
  no_try_one (label l s) r h = no_try_one s r h
  no_try_one (loop n before test s) r h = no_try_one s r h
  no_try_one (switch n cs) r h = no_try_cases cs r h
  no_try_one (try_c b c) r h = absurd h
  no_try_one (try_f b f) r h = absurd h

  pub no_try_room : (ss : Stmts) (r : ℕ) → NoTryAll ss → RoomAll ss r
  no_try_room nil r h = tt
  no_try_room (cons s ss) r h = (no_try_one s r h.0, no_try_room ss r h.1)

  no_try_cases : (cs : Cases) (r : ℕ) → NoTryCases cs → RoomCases cs r
  no_try_cases none r h = tt
  no_try_cases (case d ss cs) r h = (no_try_room ss r h.0, no_try_cases cs r h.1)

mutual
  unfolding size

  enough_one : (s : Stmt) (r : ℕ) → size s ≤ r → Room s r
  enough_one (leaf n l) r h = tt
  enough_one (if1 n s) r h = enough_one s r (omega arith)
  enough_one (if2 n s t) r h = (enough_one s r (omega arith), enough_one t r (omega arith))
  enough_one (if3 n t s) r h = (enough_one t r (omega arith), enough_one s r (omega arith))
  enough_one (withs n s) r h = enough_one s r (omega arith)
  enough_one (block ss) r h = room_enough ss r (omega arith)
  enough_one (label l s) r h = enough_one s r h
  enough_one (loop n before test s) r h = enough_one s r (omega arith)
  enough_one (switch n cs) r h = enough_cases cs r (omega arith)
  enough_one (try_c b c) r h = (enough_one b r (omega arith), enough_one c r (omega arith))
  enough_one (try_f b f) zero h = absurd (omega arith)
  enough_one (try_f b f) (suc r) h = (enough_one b r (omega arith), enough_one f r (omega arith))

  pub room_enough : (ss : Stmts) (r : ℕ) → sizes ss ≤ r → RoomAll ss r
  room_enough nil r h = tt
  room_enough (cons s ss) r h = (enough_one s r (omega arith), room_enough ss r (omega arith))

  enough_cases : (cs : Cases) (r : ℕ) → size_cases cs ≤ r → RoomCases cs r
  enough_cases none r h = tt
  enough_cases (case d ss cs) r h = (room_enough ss r (omega arith), enough_cases cs r (omega arith))
