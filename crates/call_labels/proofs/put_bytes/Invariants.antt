use Rattle.std.specs.Prelude.{◌+◌, ◌++◌, take, drop}
use Rattle.base_common.specs.Wrote.{Wrote}
use Rattle.call_labels.proofs.put_bytes.Given as goal

abbrev pub invariant-loop-i : goal.invariant-loop-i
invariant-loop-i l = Wrote l.initial.out l.out (l.w + l.i) (drop l.i l.bytes) (take l.w l.initial.out ++ l.bytes)
