use native.Mathlib.Omega.{arith}
use mathlib.Core.Path.{◌≡◌}
use mathlib.Core.Bool.{false}
use Rattle.base_common.specs.Tests.{within}
use Rattle.std.proofs.lemmas.Bool.Decides.{nat_tests}
use Rattle.table_records.specs.Kinds as k
use Rattle.table_records.specs.Table.{kind_of}
use Rattle.check_identifiers.proofs.IdentifierLaws.{let_on}
use Rattle.check_identifiers.proofs.let_declared.Goals as goal

pub loop-at-preserved : goal.loop-at-preserved
loop-at-preserved c = let a = c.args in
    let e : c.kind.result ≡ kind_of a.nodes.now c.up-at.result.0 = cc in
    let q : kind_of a.nodes.now c.up-at.result.0 ≡ k.VariableDeclaration → ⊥ = omega (arith, e) in
    let w : within (kind_of a.nodes.now c.up-at.result.0) k.Function k.Arrow ≡ false = grind (arith, nat_tests, e) in
    (omega arith, cc (let_on a.nodes.now c.up-at.ensures.tree a.n.0 c.loop-at.at.0 c.up-at.result.0 (omega arith) (omega arith) c.up-at.ensures.result_value q w))
