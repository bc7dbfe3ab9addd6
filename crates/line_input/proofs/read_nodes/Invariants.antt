-- `lines::read_nodes` meets its contract. The loop keeps: what is left of the work, with what is done, is the whole.
use Rattle.line_input.proofs.ReadLaws.{Noding}
use Rattle.line_input.specs.Format.{node_lines}
use Rattle.line_fields.specs.Split.{lines_of}
use Rattle.line_input.proofs.read_nodes.Given as goal

abbrev pub invariant-loop-lines : goal.invariant-loop-lines
invariant-loop-lines l = Noding l.initial.nodes l.nodes l.initial.names l.names l.room l.n (node_lines l.room l.n (lines_of l.b)) l.lines l.bytes (lines_of l.t)
