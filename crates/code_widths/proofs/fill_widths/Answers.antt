use Rattle.code_widths.proofs.WidthsLaws.{counts_end}
use native.Mathlib.Omega.{arith}
use Rattle.code_widths.proofs.fill_widths.Goals as goal

pub returns : goal.returns
returns c =
    let a = c.args in
    counts_end a.nodes.now a.names.now a.b.0 c.requires.held c.loop-j.j (omega arith) c.loop-j.widths c.loop-j.behinds c.loop-j.invariant.counts
