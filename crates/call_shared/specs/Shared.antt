-- What `shared` answers, for every input and all slices.
use Rattle.std.specs.Prelude.{ℕ, List, Result, Ok, Err}
use Rattle.route_completion.specs.Route.{route}
use Rattle.route_list.specs.Listing.{saturated}
use Rattle.route_laws.specs.Shared.{shared}
use Rattle.check_dispatch.specs.Rule.{Rule}
use Rattle.code_tree.specs.Statements.{unit_of}
use Rattle.code_length.specs.Length.{code_length}
use Rattle.refusal_verdict.specs.declared.Refused.{Refused}
use Rattle.refusal_verdict.specs.Verdict.{unless}
use Rattle.code_assemble.specs.Assembled.{short as code_short}
use Rattle.call_routes.specs.Calls.{code_refusal, if_room}

-- "for two answer lists of any kind, the length of the longest beginning that their routes share": the routes are the unit's by the completion rules.
-- "A length above 18,446,744,073,709,551,615 is given as that number."
abbrev pub shared_length : Rule → ℕ → List ℕ → List ℕ → ℕ
shared_length r u first second =
    saturated (shared (route (unit_of r.nodes r.names u) first).list (route (unit_of r.nodes r.names u) second).list)

-- "it writes the code alone and gives the code call's refusals": of the code slice it leaves what the code call does, `code_slice`.
unfoldable pub shared_answer : Rule → ℕ → List ℕ → List ℕ → ℕ → Result ℕ Refused
shared_answer r u first second codeLen =
    unless (code_refusal r u) Err (if_room r u codeLen (Ok (shared_length r u first second)) (code_short (code_length r.nodes u)))
