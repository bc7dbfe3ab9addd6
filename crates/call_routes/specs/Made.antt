-- What the calls make of a unit that is not refused, by whether the code slice has room for its code: as the functions come to it.
use Rattle.std.specs.Prelude.{ℕ, List, cond, leb, length}
use Rattle.route_completion.specs.Tree.{Stmts}
use Rattle.route_completion.specs.Route.{route}
use Rattle.code_flat.specs.Code.{unit}
use Rattle.code_assemble.specs.Assembled.{short as code_short}
use Rattle.route_viewer.specs.Shown.{Routed, shown_answer, shown_slice}

unfoldable pub made_answer : Stmts → List ℕ → ℕ → ℕ → Routed
made_answer ss answers codeLen len = cond (leb (length (unit ss)) codeLen) (shown_answer (route ss answers) len) (code_short (length (unit ss)))

unfoldable pub made_slice : Stmts → List ℕ → ℕ → List ℕ → List ℕ
made_slice ss answers codeLen s = cond (leb (length (unit ss)) codeLen) (shown_slice (route ss answers) s) s
