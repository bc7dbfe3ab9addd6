-- The statement of a node, and the label set of what a Labeled holds.
use Rattle.std.specs.Prelude.{ℕ, cond}
use mathlib.Core.List.{List, [], ◌∷◌, foldr}
use Rattle.base_walk.specs.Above.{above}
use Rattle.table_records.specs.Table.{count}
use Rattle.route_completion.specs.Tree.{Stmt}
use Rattle.code_tree.specs.Labels.{id_at}
use Rattle.code_tree.specs.Parts.{up_of, shape_at, is_labeled}
use Rattle.code_tree.specs.Statements.{stmt_at}

-- 14.13.4 LabelledEvaluation: the label set of what p holds, by names: p and the Labeled right above it.
unfoldable pub labels_of : List ℕ → List ℕ → ℕ → List ℕ
labels_of ns names p = foldr (λ a r. cond (is_labeled (shape_at ns a)) (id_at ns names a ∷ r) []) [] (p ∷ above (up_of ns) p)

-- The statement of a node.
unfoldable pub statement : List ℕ → List ℕ → ℕ → Stmt
statement ns names j = stmt_at ns names (count ns) j
