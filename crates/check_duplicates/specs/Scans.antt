-- Duplicate elements node by node, as contracts say it: the two places of a name after a node, and what a node raises.
use Rattle.std.specs.Prelude.{ℕ, ◌-◌, Bool, not, ◌&&◌, get_or, set, Option, None}
use mathlib.Core.List.{List, []}
use Rattle.std.proofs.Math.Bool.{cond}
use Rattle.check_diagnostics.specs.declared.Finding.{Finding}
use Rattle.check_class_table.specs.Classes.{is_class_body}
use Rattle.check_class_table.specs.Elements.{is_named, is_compared_element}
use Rattle.check_duplicates.specs.declared.Place.{Place}
use Rattle.check_duplicates.specs.Duplicates.{nowhere, here, there, side_of, or_else, duplicate_at, duplicates_in}

-- The two places after node d, which is one of the nodes before an element with this key. They are met from the last to the first: what is there stays.
unfoldable pub seen : ℕ → List ℕ → List ℕ → ℕ → Bool → List ℕ → List Place → ℕ → List Place
seen t ns names c private name ps d = cond (is_named t ns names c private name d && not (there (get_or ps (side_of ns d) nowhere))) (set ps (side_of ns d) (here d)) ps

-- the place to go by, of the two
abbrev pub prev_of : List Place → ℕ → Place
prev_of ps side = or_else (get_or ps side nowhere) (get_or ps (1 - side) nowhere)

-- what node i raises as an element of class c, and the findings of class c from node i on
unfoldable pub raised_at : ℕ → List ℕ → List ℕ → ℕ → ℕ → Option Finding
raised_at t ns names c i = cond (is_compared_element t ns c i) (duplicate_at t ns names c i) None

-- the findings of node i as a class, and of all classes from node i on
unfoldable pub class_at : ℕ → List ℕ → List ℕ → ℕ → List Finding
class_at t ns names i = cond (is_class_body ns i) (duplicates_in t ns names i) []
