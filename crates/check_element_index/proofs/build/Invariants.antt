use Rattle.std.specs.Prelude.{length}
use Rattle.check_element_index.specs.Index.{Entered}
use Rattle.check_element_index.proofs.build.Given as goal

abbrev pub invariant-loop-i : goal.invariant-loop-i
invariant-loop-i l = Entered l.source_type l.named.nodes l.named.names (length l.initial.last) l.last l.entries l.i
