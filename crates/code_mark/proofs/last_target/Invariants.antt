use Rattle.code_mark.specs.Read.{last_in}
use lib.ListN.{length}
use mathlib.Core.Path.{◌≡◌}
use Prim.Native.Nat.{◌+◌, ◌-◌}
use Rattle.code_mark.proofs.last_target.Given as goal

abbrev pub invariant-loop-jump : goal.invariant-loop-jump
invariant-loop-jump l = last_in l.code (length l.code + 1 - l._jump) l.aim.place l.aim.depth ≡ last_in l.code (length l.code + 1) l.initial.aim.place l.initial.aim.depth
