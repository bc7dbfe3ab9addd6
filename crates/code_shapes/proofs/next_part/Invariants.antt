use mathlib.Core.Path.{◌≡◌}
use Prim.Native.Nat.{◌<◌}
use Rattle.code_tree.specs.Parts.{parts}
use Rattle.code_tree.specs.First.{first_of}
use Rattle.code_shapes.proofs.next_part.Given as goal

abbrev pub invariant-loop-i : goal.invariant-loop-i
invariant-loop-i l = (0 < l.i-iterator.start) × (first_of (parts l.nodes l.p.0 l.i-iterator.start) ≡ first_of (parts l.nodes l.p.0 l.from))
