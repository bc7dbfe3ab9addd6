use Rattle.code_gather.specs.Gather.{way, hop_read}
use lib.ListN.{length}
use mathlib.Core.Path.{◌≡◌}
use Prim.Native.Nat.{◌+◌, ◌-◌}
use Rattle.code_gather.proofs.last_behind.Given as goal

abbrev pub invariant-loop-jump : goal.invariant-loop-jump
invariant-loop-jump l = way (hop_read l.code l.split) (length l.code + 1 - l._jump) l.aim.place l.aim.depth ≡ way (hop_read l.code l.split) (length l.code + 1) l.initial.aim.place l.initial.aim.depth
