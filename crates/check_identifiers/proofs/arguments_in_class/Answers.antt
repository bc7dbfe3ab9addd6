use native.Mathlib.Omega.{arith}
use mathlib.Core.Path.{◌≡◌}
use mathlib.Core.Bool.{false, ◌||◌}
use lib.Dec.{eqb}
use Rattle.std.proofs.lemmas.Bool.Decides.{nat_tests}
use Rattle.table_records.specs.Kinds as k
use Rattle.table_records.specs.Table.{kind_of}
use Rattle.check_identifiers.specs.Identifiers.{is_field_value}
use Rattle.check_identifiers.proofs.IdentifierLaws.{arguments_on}
use Rattle.check_identifiers.proofs.arguments_in_class.Goals as goal

pub loop-previous-preserved : goal.loop-previous-preserved
loop-previous-preserved c = let a = c.args in
    let e : c.kind-k.result ≡ kind_of a.nodes.now c.up-at.result.0 = cc in
    let q : kind_of a.nodes.now c.up-at.result.0 ≡ k.Function → ⊥ = omega (arith, e) in
    let w : (is_field_value a.nodes.now c.up-at.result.0 c.loop-previous.previous.0 || eqb (kind_of a.nodes.now c.up-at.result.0) k.StaticBlock) ≡ false = grind (arith, nat_tests, e) in
    (omega arith, cc (arguments_on a.nodes.now c.up-at.ensures.tree a.n.0 c.loop-previous.previous.0 c.up-at.result.0 (omega arith) (omega arith) c.up-at.ensures.result_value q w))
