use Rattle.std.proofs.Common.{◌-◌, ◌≡◌, List, length}
use Rattle.code_flat.specs.Machine.{Instr}
use Rattle.code_shorten.specs.Sound.{AreInstrs}
use Rattle.code_close.specs.Closing.{Starts, Raised}
use Rattle.code_close.proofs.ClosingLaws.{Plaining}
use Rattle.code_close.proofs.make_plain.Given as goal

abbrev pub invariant-loop-p : goal.invariant-loop-p
invariant-loop-p l = record {
  same : length l.code ≡ length l.initial.code;
  plaining : (is : List Instr) → AreInstrs is → Starts is l.from l.to → Raised is l.initial.code l.from l.to → Plaining is l.initial.code l.code l.from l.to l.p;
}

abbrev pub decreases-loop-p : goal.decreases-loop-p
decreases-loop-p l = l.to - l.p
