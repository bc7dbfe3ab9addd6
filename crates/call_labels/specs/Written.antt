-- What the renaming call writes. Document 02, request 12: "It writes a node table and a names slice of its own, each node's name in node order; a nameless node, label or not,
-- keeps length 0 and starts where the next name would."
use Rattle.std.specs.Prelude.{ℕ, cond, length}
use mathlib.Core.List.{List, [], ◌∷◌, flat_map}
use Rattle.base_common.specs.Upto.{upto}
use Rattle.table_records.specs.Table.{count, kind_of, parent_of, role_of, span_start_of, span_end_of, scope_of, flags_of, extra_of}
use Rattle.table_names.specs.Name.{name_of}
use Rattle.code_tree.specs.Labels.{is_label}
use Rattle.call_labels.specs.Order.{label_names, new_name}

-- the most bytes that names may have, before (refusal 1) and after (refusal 20)
abbrev pub most_bytes : ℕ
most_bytes = 1048576

-- a label's new name, or the name as it was
unfoldable pub new_name_of : List ℕ → List ℕ → ℕ → List ℕ
new_name_of ns names i = cond (is_label ns i) (new_name (label_names ns names) (name_of ns names i)) (name_of ns names i)

-- the names of the nodes before n, one after the other
abbrev pub names_to : List ℕ → List ℕ → ℕ → List ℕ
names_to ns names n = flat_map (new_name_of ns names) (upto 0 n)

-- a node as it was, with another name
abbrev pub record_with : List ℕ → ℕ → ℕ → ℕ → List ℕ
record_with ns i start len =
    kind_of ns i
    ∷ parent_of ns i
    ∷ role_of ns i
    ∷ span_start_of ns i
    ∷ span_end_of ns i
    ∷ scope_of ns i
    ∷ flags_of ns i
    ∷ extra_of ns i
    ∷ start
    ∷ len
    ∷ []

-- a name starts where those before it end
abbrev pub record_of : List ℕ → List ℕ → ℕ → List ℕ
record_of ns names i = record_with ns i (length (names_to ns names i)) (length (new_name_of ns names i))

unfoldable pub nodes_renamed : List ℕ → List ℕ → List ℕ
nodes_renamed ns names = flat_map (record_of ns names) (upto 0 (count ns))

unfoldable pub names_renamed : List ℕ → List ℕ → List ℕ
names_renamed ns names = names_to ns names (count ns)
