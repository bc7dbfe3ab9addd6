-- `lines::read_scopes` meets its contract. The loop keeps: what is left of the work, with what is done, is the whole.
use Rattle.line_input.proofs.ReadLaws.{Scoping}
use Rattle.line_input.specs.Format.{scope_lines}
use Rattle.line_fields.specs.Split.{lines_of}
use Rattle.line_input.proofs.read_scopes.Given as goal

abbrev pub invariant-loop-i : goal.invariant-loop-i
invariant-loop-i l = Scoping l.initial.scopes l.scopes l.n (scope_lines l.n (lines_of l.b)) l.i (lines_of l.t)
