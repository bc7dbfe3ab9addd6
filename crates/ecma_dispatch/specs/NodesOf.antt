-- The nodes that findings are raised at, one for each finding.
use Rattle.std.specs.Prelude.{ℕ, List, [], ◌∷◌}
use Rattle.check_diagnostics.specs.declared.Finding.{Finding}
use Rattle.ecma_dispatch.specs.WithCode.{with_code}

unfoldable pub nodes_of : List Finding → List ℕ
nodes_of [] = []
nodes_of (f ∷ fs) = f.node.0 ∷ nodes_of fs

-- The nodes at which findings with a code are raised.
abbrev pub raised : ℕ → List Finding → List ℕ
raised c fs = nodes_of (with_code c fs)
