-- THE STATEMENTS OF A UNIT ARE THE SAME TERM in two tables that differ in labels alone.
use Rattle.table_records.specs.declared.NodeId.{NodeId}
use Prim.Native.Nat.{ℕ, zero, suc, ◌+◌}
use Rattle.std.specs.Prelude.{◌≡◌, true, Option, Some, None}
use Rattle.std.proofs.Math.Path.{refl, ap, fun_ext}
use Rattle.std.proofs.Common.{◌∙◌}
use mathlib.Core.List.{List, [], ◌∷◌, foldr}
use Rattle.std.proofs.Math.Bool.{cond}
use Rattle.base_common.specs.Upto.{upto}
use Rattle.table_records.specs.Table.{count}
use Rattle.table_names.specs.Name.{same_name}
use Rattle.route_completion.specs.Tree.{Stmt, named}
use Rattle.code_tree.specs.declared.Shape.{Shape}
use Rattle.code_tree.specs.declared.Shape.TheVariants.{Leaf as Single, Class, If, With, Block, Label, Loop, Switch, Case, Try, Catch}
use Rattle.code_tree.specs.Labels.{is_label, name_id, lab_by, lab_at, id_by, id_at}
use Rattle.code_tree.specs.Parts.{shape_at, up_of, is_part, parts, order_by, order}
use Rattle.code_tree.specs.Statements.{leaf_at, if_of, try_of, cases_of, build, stmt_at, body_of, holder_of, unit_by, unit_of}
use Rattle.table_renamed.specs.Alike.{Alike}
use Rattle.table_renamed.proofs.TableLaws.{tables}
use Rattle.table_renamed.proofs.NameLaws.{and_both_lem, at_label_lem, two_labels_lem}

module _ (ns names ms mnames : List ℕ) (r : Alike ns names ms mnames) where
  -- PARTS, which ask for no name
  up_of_lem : (j : ℕ) → up_of ns j ≡ up_of ms j
  unfolding up_of
  up_of_lem j = simp (tables, r.fields)

  is_part_lem : (j : ℕ) → is_part ns j ≡ is_part ms j
  unfolding is_part
  is_part_lem j = simp (up_of_lem, tables, r.fields)

  its_parts : (p i : ℕ) → parts ns p i ≡ parts ms p i
  unfolding parts
  its_parts p i = simp (up_of_lem, is_part_lem, tables, r.fields)

  order_by_lem : (s : Shape) (ps : List ℕ) → order_by ns s ps ≡ order_by ms s ps
  order_by_lem Single ps = refl
  order_by_lem Class ps = refl
  order_by_lem If ps = refl
  order_by_lem With ps = refl
  order_by_lem Block ps = refl
  order_by_lem Label ps = refl
  order_by_lem Loop ps = refl
  order_by_lem Switch ps = refl
  order_by_lem Case ps = refl
  order_by_lem Try ps = simp (tables, r.fields)
  order_by_lem Catch ps = refl

  its_order : (j : ℕ) → order ns j ≡ order ms j
  unfolding order
  its_order j = order_by_lem (shape_at ns j) (parts ns j (j + 1)) ∙ simp (its_parts, tables, r.fields)

  -- LABELS: the first label of a name
  name_id_lem : (l : ℕ) → is_label ns l ≡ true → name_id ns names l ≡ name_id ms mnames l
  unfolding name_id
  name_id_lem l h =
      ap (λ g. foldr g l (upto 0 (count ns)))
      (fun_ext (λ j. fun_ext (λ s. ap (λ b. cond b j s)
      (and_both_lem (is_label ns j) (is_label ms j) (same_name ns names j l) (same_name ms mnames j l) (simp (tables, r.fields)) (λ e. two_labels_lem ns names ms mnames r j l e h)))))
      ∙ simp (tables, r.fields)

  lab_at_lem : (j : ℕ) → lab_at ns names j ≡ lab_at ms mnames j
  lab_at_lem j = at_label_lem ns names ms mnames r (lab_by ns names) (lab_by ms mnames) j (λ m h. ap named (name_id_lem m h)) refl

  id_at_lem : (j : ℕ) → id_at ns names j ≡ id_at ms mnames j
  id_at_lem j = at_label_lem ns names ms mnames r (id_by ns names) (id_by ms mnames) j name_id_lem (simp (tables, r.fields))

  -- STATEMENTS
  leaf_at_lem : (j : ℕ) → leaf_at ns names j ≡ leaf_at ms mnames j
  unfolding leaf_at
  leaf_at_lem j = rw (lab_at_lem j) (simp (tables, r.fields))

  if_of_lem : (S : ℕ → Stmt) (i : ℕ) (l : List ℕ) → if_of ns S i l ≡ if_of ms S i l
  if_of_lem S i [] = refl
  if_of_lem S i (j ∷ []) = refl
  if_of_lem S i (j ∷ k ∷ l) = simp (tables, r.fields)

  try_of_lem : (S : ℕ → Stmt) (l : List ℕ) → try_of ns S l ≡ try_of ms S l
  try_of_lem S [] = refl
  try_of_lem S (b ∷ []) = refl
  try_of_lem S (b ∷ c ∷ []) = simp (tables, r.fields)
  try_of_lem S (b ∷ c ∷ d ∷ l) = refl

  cases_of_lem : (S : ℕ → Stmt) (l : List ℕ) → cases_of ns S l ≡ cases_of ms S l
  cases_of_lem S [] = refl
  cases_of_lem S (j ∷ l) = simp (tables, its_order, cases_of_lem S l, r.fields)

  built : (S : ℕ → Stmt) (j : ℕ) (ps : List ℕ) (s : Shape) → build ns names S j ps s ≡ build ms mnames S j ps s
  built S j ps Single = rw (leaf_at_lem j)
  built S j ps Class = refl
  built S j ps If = if_of_lem S j ps
  built S j ps With = refl
  built S j ps Block = refl
  built S j ps Label = rw (id_at_lem j)
  built S j ps Loop = simp (tables, r.fields)
  built S j ps Switch = simp (cases_of_lem)
  built S j ps Case = refl
  built S j ps Try = try_of_lem S ps
  built S j ps Catch = refl

  stmt_at_lem : (f : ℕ) → stmt_at ns names f ≡ stmt_at ms mnames f
  unfolding stmt_at
  stmt_at_lem zero = refl
  stmt_at_lem (suc f) = fun_ext (λ j. built (stmt_at ns names f) j (order ns j) (shape_at ns j) ∙ rw (stmt_at_lem f) (simp (tables, its_order, r.fields)))

  body_of_lem : (b : ℕ) → body_of ns names b ≡ body_of ms mnames b
  unfolding body_of
  body_of_lem b = rw (stmt_at_lem (count ns)) (simp (tables, its_order, r.fields))

  unit_by_lem : (f : Option NodeId) → unit_by ns names f ≡ unit_by ms mnames f
  unit_by_lem (Some b) = body_of_lem b.0
  unit_by_lem None = refl

  pub same_unit_lem : (u : ℕ) → unit_of ns names u ≡ unit_of ms mnames u
  unfolding unit_of holder_of
  same_unit_lem u = simp (tables, unit_by_lem, r.fields)
