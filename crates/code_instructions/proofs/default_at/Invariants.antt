use Rattle.code_instructions.proofs.PartLaws.{default_of, rest_of, IsFound, left_of}
use Prim.Native.Nat.{◌+◌}
use mathlib.Core.Path.{◌≡◌}
use Rattle.code_tree.specs.Parts.{parts}
use Rattle.code_layout.specs.Context.{offset_at}
use Rattle.code_instructions.proofs.default_at.Given as goal

abbrev pub invariant-loop-next : goal.invariant-loop-next
invariant-loop-next l =
    let y = l.laid in
    let ns = y.nodes in
    let z = offset_at ns y.names y.body l.n.0 + 4 in
    record { found : IsFound ns l.n.0 l.next; same : default_of ns y.names y.body (rest_of ns l.n.0 l.next) z ≡ default_of ns y.names y.body (parts ns l.n.0 (l.n.0 + 1)) z }

abbrev pub decreases-loop-next : goal.decreases-loop-next
decreases-loop-next l = left_of l.laid.nodes l.n.0 l.next
