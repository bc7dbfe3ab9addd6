use Rattle.refusal_scopes.specs.OwnScopes.{Deep}
use Rattle.refusal_scopes.proofs.deepest.Given as goal

abbrev pub invariant-loop-s : goal.invariant-loop-s
invariant-loop-s l = Deep l.nodes l.scopes l.deep l.s
