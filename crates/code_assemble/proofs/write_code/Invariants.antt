use Rattle.code_assemble.specs.Written.{Written}
use Rattle.code_assemble.proofs.write_code.Given as goal

abbrev pub invariant-loop-j : goal.invariant-loop-j
invariant-loop-j l = Written l.laid.nodes l.laid.names l.laid.body l.j l.initial.code l.code
