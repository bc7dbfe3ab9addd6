-- A slice whose numbers that begin instructions may be raised by multiples of 8: what is read there, without what they are raised by.
use Rattle.std.specs.Prelude.{ℕ, zero, suc, ◌+◌, ◌%◌, List, length, get_or, leb, eqb, Option, None}
use Rattle.route_completion.specs.Sem.{pick}
use Rattle.code_flat.specs.Opcodes as op
use Rattle.code_flat.specs.Machine.{Instr, NONE, LIST, LEAVE, ASK, SELECT, OPEN, END, CASE, decode, is_zero}
use Rattle.code_machine.specs.declared.Target.{Target}
use Rattle.code_shorten.specs.Short.{aim_of, further, aimed}
use Rattle.code_valid.specs.Instrs.{len}
use Rattle.code_pass.specs.Stages.{mark}
use Rattle.code_shorten.specs.Threading.{written}

-- The instruction that is read at o.
unfoldable pub read_at : List ℕ → ℕ → Instr
read_at f o = decode (get_or f o 0 % mark) (get_or f (o + 1) 0) (get_or f (o + 2) 0) (get_or f (o + 3) 0)

-- NONE also where the end cuts it off.
unfoldable pub standing_in : List ℕ → ℕ → Instr
standing_in f o = pick (leb (o + len (read_at f o)) (length f)) (read_at f o) NONE

-- The jump that is read at t.
unfoldable pub hop_in : List ℕ → ℕ → Option Target
hop_in f t = pick (is_zero t) None (aim_of (read_at f t))

-- The last target from t on, with the least depth on the way, after at most n jumps.
unfoldable pub last_in : List ℕ → ℕ → ℕ → ℕ → Option Target
last_in f zero t d = None
last_in f (suc n) t d = further (last_in f n) (hop_in f t) t d

-- An instruction, sent on by a rule that tells last targets.
abbrev pub sent_by : (ℕ → ℕ → Option Target) → Instr → Instr
sent_by rule NONE = NONE
sent_by rule (LIST n) = LIST n
sent_by rule (LEAVE t d) = aimed (rule t d) LEAVE (LEAVE t d)
sent_by rule (ASK n y z) = ASK n y z
sent_by rule (SELECT n c e) = SELECT n c e
sent_by rule (OPEN k) = OPEN k
sent_by rule (END e) = END e
sent_by rule (CASE c t d) = aimed (rule t d) (CASE c) (CASE c t d)

-- More jumps than the slice has numbers come to no end.
abbrev pub rule_in : List ℕ → ℕ → ℕ → Option Target
rule_in f = last_in f (length f + 1)

-- The numbers with the jump sent on whose place and depth stand at q.
unfoldable pub sent_in : List ℕ → ℕ → List ℕ
sent_in f q = written f q (rule_in f (get_or f q 0) (get_or f (q + 1) 0))

-- .. with the instruction at p, if it is a jump, sent on.
unfoldable pub threaded_in : List ℕ → ℕ → List ℕ
threaded_in f p = pick (eqb (get_or f p 0 % mark) op.Leave) (sent_in f (p + 1)) (pick (eqb (get_or f p 0 % mark) op.Case) (sent_in f (p + 2)) f)
