-- The entries that a unit can list, with `try` and static blocks, take an answer by their nodes' kinds.
use Rattle.table_records.specs.declared.NodeId.{NodeId}
use Prim.Native.Nat.{ℕ, zero, suc}
use Rattle.std.specs.Prelude.{◌≡◌, List, [], ◌∷◌, Bool, cond, ◌||◌, Option, Some, None}
use Rattle.std.proofs.Math.Path.{refl, sym, ap}
use Rattle.std.proofs.Common.{◌∙◌, arith}
use Rattle.std.proofs.Math.Bool.{true, false}
use Rattle.std.proofs.Math.Dec.{eqb}
use borrow.Author.Tests.{eqb-true, eqb-false}
use Rattle.base_common.specs.Tests.{within}
use Rattle.base_common.proofs.Bools.{never, in_range_lem, range_of}
use Rattle.table_records.specs.Table.{kind_of, role_of, count}
use Rattle.table_records.specs.Kinds as k
use Rattle.table_records.specs.Roles as role
use Rattle.route_completion.specs.Tree.{Stmt, Stmts, if2, if3, try_c, try_f, nil, cons}
use Rattle.route_completion.specs.Entries.{Lists, ListsAll, ListsCases}
use Rattle.code_tree.specs.Parts.{is_class, shape_by, shape_at, order}
use Rattle.code_tree.specs.Statements.{list_of, one_of, if_of, try_of, class_of, cases_of, build, stmt_at, body_of, holder_of, unit_by, unit_of}
use Rattle.code_tree.specs.declared.Shape.{Shape}
use Rattle.code_tree.specs.declared.Shape.TheVariants.{Leaf as Single, Class, If, With, Block, Label, Loop, Switch, Case, Try, Catch}
use Rattle.code_entries.specs.Asking.{answer_kind, ByKind}

abbrev asks_by : Shape → Bool
asks_by Single = false
asks_by Class = false
asks_by If = true
asks_by With = false
asks_by Block = false
asks_by Label = false
asks_by Loop = true
asks_by Switch = true
asks_by Case = false
asks_by Try = false
asks_by Catch = false

-- A test gives one shape or the other; one part of a test or the other says true.
by : (x : Bool) (a r : Shape) (v : Bool) → (x ≡ true → asks_by a ≡ v) → (x ≡ false → asks_by r ≡ v) → asks_by (cond x a r) ≡ v
by true a r v p q = p refl
by false a r v p q = q refl

some : (x y : Bool) (P : Type 0) → (x ≡ true → P) → (y ≡ true → P) → (x || y) ≡ true → P
some true y P p q e = p refl
some false y P p q e = q e

module _ (kind : ℕ) where
  -- At the kind n.
  is : (n : ℕ) → eqb kind n ≡ true → answer_kind n ≡ answer_kind kind
  is n e = ap answer_kind (sym (eqb-true kind n e))

  holds : (eqb kind k.Program || (eqb kind k.StaticBlock || (eqb kind k.FunctionBody || eqb kind k.Block))) ≡ true → false ≡ answer_kind kind
  unfolding answer_kind
  holds =
      some (eqb kind k.Program) _ (false ≡ answer_kind kind) (is k.Program)
      (some (eqb kind k.StaticBlock) _ (false ≡ answer_kind kind) (is k.StaticBlock)
      (some (eqb kind k.FunctionBody) (eqb kind k.Block) (false ≡ answer_kind kind) (is k.FunctionBody) (is k.Block)))

  classes : is_class kind ≡ true → false ≡ answer_kind kind
  unfolding answer_kind
  classes =
      some (eqb kind k.Class) _ (false ≡ answer_kind kind) (is k.Class)
      (some (eqb kind k.ExportDefault) (eqb kind k.ExportNamed) (false ≡ answer_kind kind) (is k.ExportDefault) (is k.ExportNamed))

  loops : within kind k.For k.DoWhile ≡ true → true ≡ answer_kind kind
  unfolding answer_kind
  loops e =
      let r = range_of kind k.For k.DoWhile e in
      ap (λ x. x || eqb kind k.Switch) (sym (in_range_lem kind k.For k.If r.0 (omega (arith, r.1))))

  others : within kind k.For k.DoWhile ≡ false → eqb kind k.If ≡ false → eqb kind k.Switch ≡ false → false ≡ answer_kind kind
  unfolding answer_kind
  others l i w = go (within kind k.For k.If) refl
    where
      go : (x : Bool) → within kind k.For k.If ≡ x → false ≡ (x || eqb kind k.Switch)
      go true e =
          let r = range_of kind k.For k.If e in
          never (sym (in_range_lem kind k.For k.DoWhile r.0 (omega (arith, r.1, eqb-false kind k.If i))) ∙ l)
      go false e = sym w

  asks_shape : asks_by (shape_by kind) ≡ answer_kind kind
  unfolding shape_by answer_kind
  asks_shape =
      by (eqb kind k.Program || (eqb kind k.StaticBlock || (eqb kind k.FunctionBody || eqb kind k.Block))) Block _ (answer_kind kind) holds (λ n0.
      by (eqb kind k.Labeled) Label _ (answer_kind kind) (is k.Labeled) (λ n1.
      by (within kind k.For k.DoWhile) Loop _ (answer_kind kind) loops (λ l.
      by (eqb kind k.If) If _ (answer_kind kind) (is k.If) (λ i.
      by (eqb kind k.With) With _ (answer_kind kind) (is k.With) (λ n2.
      by (eqb kind k.Switch) Switch _ (answer_kind kind) (is k.Switch) (λ w.
      by (eqb kind k.SwitchCase) Case _ (answer_kind kind) (is k.SwitchCase) (λ n3.
      by (eqb kind k.Try) Try _ (answer_kind kind) (is k.Try) (λ n4.
      by (eqb kind k.CatchClause) Catch _ (answer_kind kind) (is k.CatchClause) (λ n5.
      by (is_class kind) Class Single (answer_kind kind) classes (λ n6. others l i w))))))))))

module _ (ns names : List ℕ) where
  module _ (S : ℕ → Stmt) (ih : (j : ℕ) → Lists (ByKind ns) (S j)) where
    list_of_lem : (js : List ℕ) → ListsAll (ByKind ns) (list_of S js)
    list_of_lem [] = tt
    list_of_lem (j ∷ js) = (ih j, list_of_lem js)

    one_of_lem : (js : List ℕ) → Lists (ByKind ns) (one_of S js)
    one_of_lem [] = tt
    one_of_lem (j ∷ js) = ih j

    if_of_lem : (i : ℕ) → true ≡ answer_kind (kind_of ns i) → (js : List ℕ) → Lists (ByKind ns) (if_of ns S i js)
    if_of_lem i h [] = tt
    if_of_lem i h (j ∷ []) = (h, ih j)
    if_of_lem i h (j ∷ l ∷ ls) = go (eqb (role_of ns j) role.Alternate)
      where
        go : (x : Bool) → Lists (ByKind ns) (cond x (if3 i (S j) (S l)) (if2 i (S j) (S l)))
        go true = (h, (ih j, ih l))
        go false = (h, (ih j, ih l))

    try_of_lem : (js : List ℕ) → Lists (ByKind ns) (try_of ns S js)
    try_of_lem [] = tt
    try_of_lem (b ∷ []) = ih b
    try_of_lem (b ∷ c ∷ []) = go (eqb (role_of ns c) role.Finally)
      where
        go : (x : Bool) → Lists (ByKind ns) (cond x (try_f (S b) (S c)) (try_c (S b) (S c)))
        go true = (ih b, ih c)
        go false = (ih b, ih c)
    try_of_lem (b ∷ c ∷ d ∷ ds) = ((ih b, ih c), ih d)

    class_of_lem : (j : ℕ) → false ≡ answer_kind (kind_of ns j) → (ss : Stmts) → ListsAll (ByKind ns) ss → Lists (ByKind ns) (class_of j ss)
    class_of_lem j h nil a = h
    class_of_lem j h (cons s ss) a = (h, a)

    cases_of_lem : (js : List ℕ) → ListsCases (ByKind ns) (cases_of ns S js)
    cases_of_lem [] = tt
    cases_of_lem (j ∷ js) = (list_of_lem (order ns j), cases_of_lem js)

    built : (j : ℕ) (ps : List ℕ) (s : Shape) → asks_by s ≡ answer_kind (kind_of ns j) → Lists (ByKind ns) (build ns names S j ps s)
    built j ps Single h = h
    built j ps Class h = class_of_lem j h (list_of S ps) (list_of_lem ps)
    built j ps If h = if_of_lem j h ps
    built j ps With h = (h, one_of_lem ps)
    built j ps Block h = list_of_lem ps
    built j ps Label h = one_of_lem ps
    built j ps Loop h = (h, one_of_lem ps)
    built j ps Switch h = (h, cases_of_lem ps)
    built j ps Case h = list_of_lem ps
    built j ps Try h = try_of_lem ps
    built j ps Catch h = one_of_lem ps

  statement : (f j : ℕ) → Lists (ByKind ns) (stmt_at ns names f j)
  unfolding stmt_at
  statement zero j = tt
  statement (suc f) j = built (stmt_at ns names f) (statement f) j (order ns j) (shape_at ns j) (asks_shape (kind_of ns j))

  body_by_kind : (b : ℕ) → ListsAll (ByKind ns) (body_of ns names b)
  unfolding body_of
  body_by_kind b = list_of_lem (stmt_at ns names (count ns)) (statement (count ns)) (order ns b)

  -- THE LAW
  pub unit_by_kind : (u : ℕ) → ListsAll (ByKind ns) (unit_of ns names u)
  unfolding unit_of
  unit_by_kind u = go (holder_of ns u)
    where
      go : (f : Option NodeId) → ListsAll (ByKind ns) (unit_by ns names f)
      go (Some b) = body_by_kind b.0
      go None = tt
