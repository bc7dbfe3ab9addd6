use Rattle.std.proofs.Common.{◌≡◌}
use Rattle.table_records.specs.Table.{count}
use Rattle.refusal_verdict.specs.First.{first}
use Rattle.refusal_scopes.specs.Scopes.{misscoped_at}
use Rattle.refusal_scopes.proofs.misscoped_by.Given as goal

abbrev pub invariant-loop-i : goal.invariant-loop-i
invariant-loop-i l = (first (misscoped_at l.nodes l.scopes) l.i (count l.nodes) ≡ first (misscoped_at l.nodes l.scopes) 0 (count l.nodes))
