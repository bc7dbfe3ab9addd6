-- The words of each node, and all of them in code order. b is the node that holds the unit's statements.
use Rattle.std.specs.Prelude.{ℕ, zero, suc, ◌+◌, List, [], ◌∷◌, ◌++◌, cond, eqb}
use Rattle.table_records.specs.Table.{role_of, count}
use Rattle.table_records.specs.Roles as role
use Rattle.route_completion.specs.Sem.{normal, pick, comp_of}
use Rattle.code_flat.specs.Code.{at, goto, case_to}
use Rattle.code_flat.specs.Opcodes as op
use Rattle.code_tree.specs.Parts.{up_of, shape_at, order}
use Rattle.code_tree.specs.Statements.{leaf_at, before_at, test_at, default_at}
use Rattle.code_tree.specs.declared.Shape.{Shape}
use Rattle.code_tree.specs.declared.Shape.TheVariants.{Leaf, Class, If, With, Block, Label, Loop, Switch, Case, Try, Catch}
use Rattle.code_layout.specs.Widths.{has_role, width_at}
use Rattle.code_layout.specs.Context.{ifz, head0, behind, Context, context_at}

module _ (ns : List ℕ) (b : ℕ) where
  -- The offset of the last of a list of nodes that begins at o; of its first `default`, or z.
  abbrev pub last_from : List ℕ → ℕ → ℕ
  last_from [] o = o
  last_from (c ∷ []) o = o
  last_from (c ∷ d ∷ ds) o = last_from (d ∷ ds) (o + width_at ns b c)

  unfoldable pub default_from : List ℕ → ℕ → ℕ → ℕ
  default_from [] o z = z
  default_from (c ∷ cs) o z = cond (default_at ns c) o (default_from cs (o + width_at ns b c) z)

  -- The branches of an If at o. Without an alternate, no goes to the jump in the If's own words.
  abbrev pub if_yes : List ℕ → ℕ → ℕ
  if_yes [] o = o + 7
  if_yes (c ∷ []) o = o + 7
  if_yes (c ∷ d ∷ ds) o = cond (eqb (role_of ns c) role.Alternate) (o + 7 + width_at ns b c) (o + 7)

  abbrev pub if_no : List ℕ → ℕ → ℕ
  if_no [] o = o + 4
  if_no (c ∷ []) o = o + 4
  if_no (c ∷ d ∷ ds) o = cond (eqb (role_of ns c) role.Alternate) (o + 7) (o + 7 + width_at ns b c)

module _ (ns names : List ℕ) (b : ℕ) where
  -- The words of j, with the parts ps and the context a; m is the next part of its holder (0: none).
  abbrev pub words_by : Shape → ℕ → List ℕ → Context → ℕ → List ℕ
  words_by Leaf j ps a m = op.List ∷ j ∷ goto (a.env (comp_of (leaf_at ns names j)))
  words_by Class j ps a m = op.List ∷ j ∷ goto (ifz (head0 ps) (a.env normal) (at (a.offset + 5) a.depth))
  words_by If j ps a m = op.Ask ∷ j ∷ if_yes ns b ps a.offset ∷ if_no ns b ps a.offset ∷ goto (a.env normal)
  words_by With j ps a m = op.List ∷ j ∷ []
  words_by Block j ps a m = goto (ifz (head0 ps) (a.env normal) (at (a.offset + 3) a.depth))
  words_by Label j ps a m = []
  words_by Loop j ps a m =
      op.Leave ∷ pick (before_at ns j) (a.offset + 3) (a.offset + 10) ∷ a.depth ∷ op.Ask ∷ j ∷ (a.offset + 10) ∷ pick (test_at ns j) (a.offset + 7) (a.offset + 10) ∷ goto (a.env normal)
  words_by Switch j ps a m = op.Select ∷ j ∷ ifz (head0 ps) 0 (a.offset + 7) ∷ default_from ns b ps (a.offset + 7) (a.offset + 4) ∷ goto (a.env normal)
  words_by Case j ps a m = case_to (ifz m 0 (a.offset + width_at ns b j)) (ifz (head0 ps) (a.env normal) (at (a.offset + 4) a.depth))
  words_by Try j ps a m = cond (has_role ns role.Finally ps) (op.Open ∷ last_from ns b ps (a.offset + 2) ∷ []) []
  words_by Catch j ps a m = []

  unfoldable pub words_at : ℕ → List ℕ
  words_at j = cond (eqb j b) [] (words_by (shape_at ns j) j (order ns j) (context_at ns names b j) (behind (order ns (up_of ns j)) j))

  -- The words of a list of nodes, each with what is below it.
  unfoldable pub flat : (ℕ → List ℕ) → List ℕ → List ℕ
  flat P [] = []
  flat P (j ∷ js) = P j ++ flat P js

  -- The words of j and of all below it, in code order.
  unfoldable pub code_by : ℕ → ℕ → List ℕ
  code_by zero j = []
  code_by (suc f) j = words_at j ++ flat (code_by f) (order ns j)

  unfoldable pub code_at : ℕ → List ℕ
  code_at j = code_by (count ns) j
