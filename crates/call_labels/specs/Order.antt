-- The new name of a label. Document 02, request 12: labels become the short names "in order of first appearance. .. a nameless node, label or not, keeps length 0".
use Rattle.std.specs.Prelude.{ℕ, suc, List, [], ◌∷◌, ◌++◌, cond}
use Rattle.base_common.specs.Upto.{upto}
use Rattle.table_records.specs.Table.{count}
use Rattle.table_names.specs.Name.{same, name_of, has}
use Rattle.code_tree.specs.Labels.{is_label}
use Rattle.call_labels.specs.Short.{short_name}

-- a name that was not seen yet goes to the end; no name is none
abbrev pub add : List (List ℕ) → List ℕ → List (List ℕ)
add seen [] = seen
add seen (b ∷ bs) = cond (has seen (b ∷ bs)) seen (seen ++ (b ∷ bs) ∷ [])

unfoldable pub seeing : List ℕ → List ℕ → List (List ℕ) → List ℕ → List (List ℕ)
seeing ns names seen [] = seen
seeing ns names seen (i ∷ l) = seeing ns names (cond (is_label ns i) (add seen (name_of ns names i)) seen) l

-- the different names of labels before node i, in order of first appearance
abbrev pub seen_before : List ℕ → List ℕ → ℕ → List (List ℕ)
seen_before ns names i = seeing ns names [] (upto 0 i)

-- .. and of all labels
abbrev pub label_names : List ℕ → List ℕ → List (List ℕ)
label_names ns names = seen_before ns names (count ns)

-- where a name stands among them; their number where it is none of them
unfoldable pub place_in : List (List ℕ) → List ℕ → ℕ
place_in [] x = 0
place_in (y ∷ l) x = cond (same y x) 0 (suc (place_in l x))

abbrev pub new_name : List (List ℕ) → List ℕ → List ℕ
new_name seen [] = []
new_name seen (b ∷ bs) = short_name (place_in seen (b ∷ bs))
