use native.Mathlib.Omega.{arith}
use Prim.Native.Nat.{◌+◌}
use mathlib.Core.Path.{sym, ◌∙◌}
use Rattle.table_children.proofs.ChildrenLaws.{found_child}
use Rattle.check_expressions.proofs.get_inner_expression.Goals as goal

pub loop-at-smaller : goal.loop-at-smaller
loop-at-smaller c = let a = c.args in let g = found_child a.nodes.now c.loop-at.at.0 0 55 0 7 (c.loop-at.at.0 + 1) c.in-Some.m.0 (sym c.inner_of.ensures.value ∙ c.in-Some.is) in let x = g.from in let y = g.below in omega arith
