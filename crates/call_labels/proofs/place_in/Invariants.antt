use Rattle.call_labels.specs.Firsts.{kept_from}
use Rattle.call_labels.specs.Order.{place_in}
use Rattle.table_names.specs.Name.{name_of}
use mathlib.Core.Path.{◌≡◌}
use Prim.Native.Nat.{◌+◌}
use Rattle.call_labels.proofs.place_in.Given as goal

abbrev pub invariant-loop-k : goal.invariant-loop-k
invariant-loop-k l =
    (l.k + place_in (kept_from l.named.nodes l.named.names l.kept.nodes l.kept.size l.k) (name_of l.named.nodes l.named.names l.n.0) ≡ place_in (kept_from l.named.nodes l.named.names l.kept.nodes l.kept.size 0) (name_of l.named.nodes l.named.names l.n.0))
