use Rattle.code_assemble.proofs.WrittenLaws.{write_start, write_end}
use Prim.Native.Nat.{◌+◌}
use native.Mathlib.Omega.{arith}
use mathlib.Core.Path.{subst, ap, ◌∙◌}
use lib.ListN.{get_or}
use Rattle.table_records.specs.Table.{count}
use Rattle.code_layout.proofs.LayoutLaws.{in_root}
use Rattle.code_branch.specs.Branch.{Plan, Laid}
use Rattle.code_branch.proofs.JumpLaws as array
use Rattle.code_assemble.proofs.write_code.Goals as goal

pub loop-j-init : goal.loop-j-init
loop-j-init c =
    let v = c.laid.view_is in
    write_start (subst Laid v c.laid.invariant).ready (c.laid.inside.body.0 + 1) (ap (λ (p : Plan). p.body + 1) v) c.args.code.now

pub returns : goal.returns
returns c =
    let l = c.args.laid.now in
    let v = c.laid.view_is in
    let A = subst Laid v c.laid.invariant in
    let w = ap (λ (p : Plan). get_or p.widths p.body 0) v in
    write_end A.ready c.loop-j.j (omega (arith, ap count c.deref.ensures.same, ap (λ (p : Plan). count p.nodes) v)) c.args.code.now c.loop-j.code _ c.requires.b_in_bounds c.loop-j.invariant _ (w ∙ array.width_is_lem A l.body A.ready.held.root (in_root l.nodes l.body)) c.put_ends.ensures
