-- What `walk` answers and leaves, for every input and all slices.
use Rattle.std.specs.Prelude.{ℕ, List, Err}
use Rattle.route_completion.specs.Route.{route}
use Rattle.route_viewer.specs.Shown.{Routed, shown_answer, shown_slice}
use Rattle.refusal_verdict.specs.Verdict.{unless}
use Rattle.code_tree.specs.Statements.{unit_of}
use Rattle.check_dispatch.specs.Rule.{Rule}
use Rattle.call_routes.specs.Calls.{code_refusal}

-- "It gives the refusals of the route call except 11", 12 among them; and else the route, "by completion rules".
unfoldable pub walk_answer : Rule → ℕ → List ℕ → ℕ → Routed
walk_answer r u answers len = unless (code_refusal r u) Err (shown_answer (route (unit_of r.nodes r.names u) answers) len)

-- the list, where it fits; a refusal leaves the slice as it was
unfoldable pub walk_slice : Rule → ℕ → List ℕ → List ℕ → List ℕ
walk_slice r u answers s = unless (code_refusal r u) (λ e. s) (shown_slice (route (unit_of r.nodes r.names u) answers) s)
