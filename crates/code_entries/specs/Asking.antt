-- Which entries of a route take an answer.
use Rattle.std.specs.Prelude.{ℕ, ◌≡◌, Bool, ◌||◌, List, eqb}
use Rattle.base_common.specs.Tests.{within}
use Rattle.table_records.specs.Table.{kind_of}
use Rattle.table_records.specs.Kinds as k
use Rattle.route_completion.specs.Sem.{Entry}
use Rattle.route_completion.specs.Route.{node_of}
use Rattle.route_completion.specs.Entries.{takes_answer}

-- "If, Switch and each loop turn take one answer": kinds 7 to 12 and 14.
unfoldable pub answer_kind : ℕ → Bool
answer_kind kind = within kind k.For k.If || eqb kind k.Switch

-- An entry takes an answer exactly if its node is of such a kind.
abbrev pub ByKind : List ℕ → Entry → Type 0
ByKind ns e = takes_answer e ≡ answer_kind (kind_of ns (node_of e))
