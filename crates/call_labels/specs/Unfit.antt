-- Document 02, request 12: "19 (a label that the reserved-word check looks for, or a 700th different label), place the first such node".
use Rattle.std.specs.Prelude.{ℕ, List, [], ◌∷◌, Bool, false, not, ◌&&◌, ◌||◌, leb, length}
use Rattle.table_names.specs.Name.{name_of, has}
use Rattle.code_tree.specs.Labels.{is_label}
use Rattle.call_labels.specs.Reserved.{is_reserved}
use Rattle.call_labels.specs.Short.{most}
use Rattle.call_labels.specs.Order.{seen_before}

-- a name that is new after these
abbrev pub is_new : List (List ℕ) → List ℕ → Bool
is_new seen [] = false
is_new seen (b ∷ bs) = not (has seen (b ∷ bs))

unfoldable pub unfit_at : List ℕ → List ℕ → ℕ → Bool
unfit_at ns names i =
    is_label ns i && (is_reserved (name_of ns names i) || (is_new (seen_before ns names i) (name_of ns names i) && leb most (length (seen_before ns names i))))
