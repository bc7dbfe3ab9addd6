-- The pass by a copy: jumps read off the numbers, and sent on where they stand, one instruction after another.
use Rattle.std.specs.Prelude.{ℕ, zero, suc, ◌+◌, ◌≡◌, List, ◌++◌, map, length, get_or, eqb, Option, None}
use Rattle.route_completion.specs.Sem.{pick}
use Rattle.code_flat.specs.Opcodes as op
use Rattle.code_flat.specs.Machine.{Instr, fetch, is_zero}
use Rattle.code_valid.specs.Instrs.{flat}
use Rattle.code_machine.specs.declared.Target.{Target}
use Rattle.code_shorten.specs.Short.{aim_of, further, thread}
use Rattle.code_shorten.specs.Longer.{total}
use Rattle.code_shorten.specs.Threading.{written}

-- The jump that is read at t.
unfoldable pub hop_at : List ℕ → ℕ → Option Target
hop_at C t = pick (is_zero t) None (aim_of (fetch C t))

-- The last target from t on, with the least depth on the way, after at most f jumps.
unfoldable pub last_at : List ℕ → ℕ → ℕ → ℕ → Option Target
last_at C zero t d = None
last_at C (suc f) t d = further (last_at C f) (hop_at C t) t d

-- The jump sent on whose place and depth stand at q.
unfoldable pub sent : List ℕ → ℕ → List ℕ
sent C q = written C q (last_at C (length C + 1) (get_or C q 0) (get_or C (q + 1) 0))

-- The instruction at p, if it is a jump, sent on.
unfoldable pub threaded_at : List ℕ → ℕ → List ℕ
threaded_at C p = pick (eqb (get_or C p 0) op.Leave) (sent C (p + 1)) (pick (eqb (get_or C p 0) op.Case) (sent C (p + 2)) C)

-- Of the instructions `is` those before p are sent on.
pub record Threading (is : List Instr) (C : List ℕ) (p : ℕ) : Type 0 where
  pub done : List Instr
  pub rest : List Instr
  pub all : done ++ rest ≡ is
  pub code : C ≡ flat (map (thread is) done ++ rest)
  pub place : p ≡ total done
