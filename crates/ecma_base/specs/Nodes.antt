-- The nodes at which one check raises findings with a code.
use Rattle.check_diagnostics.specs.declared.Finding.{Finding}
use Rattle.std.specs.Prelude.{ℕ, List, [], eqb, Option, Some, None}
use Rattle.ecma_trees.specs.Walk.{only}

abbrev pub of_check : ℕ → Option Finding → List ℕ
of_check c (Some f) = only (eqb f.code c) f.node.0
of_check c None = []
