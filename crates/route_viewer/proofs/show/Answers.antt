use mathlib.Core.Path.{sym, ◌∙◌}
use native.Mathlib.Omega.{arith}
use Rattle.route_viewer.proofs.ShownLaws.{short_answer, short_slice, whole_answer, whole_slice}
use Rattle.code_flat.specs.Machine.{code_route}
use Rattle.route_viewer.proofs.show.Goals as goal

pub returns-then-out-counted : goal.returns-then-out-counted
returns-then-out-counted c = let a = c.args in record { value = sym (short_answer (code_route a.code.now a.answers.now) a.out.now (omega arith) c.run-counted.result.entries c.run-counted.ensures.entries (omega arith)); out_after = sym (short_slice (code_route a.code.now a.answers.now) a.out.now (omega arith) c.run-counted.result.entries c.run-counted.ensures.entries (omega arith)) }

pub returns : goal.returns
returns c = let a = c.args in record { value = sym (whole_answer (code_route a.code.now a.answers.now) a.out.now (omega arith) c.run-ran.result.entries c.run-ran.ensures.entries (omega arith) c.run-ran.result.end c.run-ran.result.taken c.run-ran.ensures.end c.run-ran.ensures.taken); out_after = c.run-ran.ensures.list ∙ sym (whole_slice (code_route a.code.now a.answers.now) a.out.now (omega arith) c.run-ran.result.entries c.run-ran.ensures.entries (omega arith)) }
