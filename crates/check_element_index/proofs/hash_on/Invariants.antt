use mathlib.Core.Path.{◌≡◌}
use Rattle.std.specs.Prelude.{take}
use Rattle.std.specs.List.{fold}
use Rattle.check_element_index.specs.Index.{hash_step}
use Rattle.check_element_index.proofs.hash_on.Given as goal

abbrev pub invariant-loop-byte : goal.invariant-loop-byte
invariant-loop-byte l = l.h ≡ fold hash_step l.hashed (take l.byte-index l.bytes)
