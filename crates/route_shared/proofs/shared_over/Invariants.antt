use Rattle.route_shared.proofs.InStepLaws.{InStep}
use Rattle.code_flat.specs.Machine.{room, measure}
use lib.ListN.{drop}
use Prim.Native.Nat.{◌≤◌}
use Rattle.route_shared.proofs.shared_over.Given as goal

abbrev pub invariant-loop-one : goal.invariant-loop-one
invariant-loop-one l = (l.p.pending ≤ room) × ((l.q.pending ≤ room) × InStep l.code l.first l.second l.ends l.others l.p l.q l.entries)

abbrev pub decreases-loop-one : goal.decreases-loop-one
decreases-loop-one l = measure l.code l.p.budget (drop l.p.at l.first)
