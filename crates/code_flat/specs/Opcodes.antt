-- The instructions of the flat code, by number: an instruction is its number, and then its operands. Document 01: "An instruction lists a node,
-- takes an answer and branches, jumps, or ends." Every other number is no instruction.
use Rattle.std.specs.Prelude.{ℕ}

-- List n: lists n and runs on.
abbrev pub List : ℕ
List = 1

-- Leave t d: jumps to t at the depth d of the pending ends (0 where no finally is open); t = 0: to what is pending there.
abbrev pub Leave : ℕ
Leave = 2

-- Ask n yes no: takes an answer, lists n, and goes to `yes` or `no`; the run ends with 3 where no answer is left.
abbrev pub Ask : ℕ
Ask = 3

-- Select n c e: takes an answer as Ask does, lists n, and goes to that case of the chain that begins at c (0: none), or else to e.
abbrev pub Select : ℕ
Select = 4

-- Open f: opens the finally block at f and runs on.
abbrev pub Open : ℕ
Open = 5

-- End e: ends the run with e.
abbrev pub End : ℕ
End = 6

-- Case c t d: jumps as Leave t d does; the next case stands at c (0: none).
abbrev pub Case : ℕ
Case = 7
