-- Whatever a unit can list is one of its nodes in the table.
use Rattle.table_records.specs.declared.NodeId.{NodeId}
use Prim.Native.Nat.{ℕ, zero, suc, ◌+◌, ◌≤◌, ◌<◌}
use Rattle.std.specs.Prelude.{◌≡◌, Bool, true, false, cond, eqb, Option, Some, None}
use Rattle.std.proofs.Math.Path.{refl}
use Rattle.std.proofs.Common.{sym, subst, ◌∙◌, inl, inr, ⊎_elim, eq-or-lt_of_le, arith}
use mathlib.Core.List.{List, [], ◌∷◌}
use Rattle.base_common.proofs.Bools.{never}
use Rattle.base_common.specs.Upto.{upto}
use Rattle.base_common.proofs.UptoLaws.{fold_turn}
use Rattle.table_records.specs.Table.{kind_of, role_of, count}
use Rattle.table_records.specs.Facts.{Tree}
use Rattle.table_records.specs.Roles as role
use Rattle.check_jumps.specs.Jumps.{is_unit}
use Rattle.refusal_fields.specs.Fields.{Listed}
use Rattle.refusal_standing.specs.Standing.{Placed}
use Rattle.refusal_counts.specs.Counts.{Counted}
use Rattle.route_completion.specs.Tree.{Stmt, Stmts, if2, if3, try_c, try_f, nil, cons}
use Rattle.route_completion.specs.Sem.{Entry}
use Rattle.route_completion.specs.Route.{node_of, Mem}
use Rattle.route_completion.specs.Entries.{Lists, ListsAll, ListsCases}
use Rattle.route_completion.proofs.EntriesLaws.{lists_all_as}
use Rattle.code_tree.specs.Parts.{shape_at, order}
use Rattle.code_tree.proofs.PartsLaws.{All, order_all_lem}
use Rattle.code_tree.specs.Parts.{Part}
use Rattle.code_tree.proofs.BoundLaws.{all_map}
use Rattle.code_tree.proofs.UpLaws.{up_falls}
use Rattle.code_tree.specs.Statements.{list_of, one_of, if_of, try_of, class_of, cases_of, build, stmt_at, body_of, holder_of, unit_by, unit_of}
use Rattle.code_tree.specs.declared.Shape.{Shape}
use Rattle.code_tree.specs.declared.Shape.TheVariants.{Leaf as Single, Class, If, With, Block, Label, Loop, Switch, Case, Try, Catch}
use Rattle.code_layout.specs.Widths.{in_unit}
use Rattle.code_layout.proofs.LayoutLaws.{in_root, in_down}
use Rattle.code_length.specs.Length.{of_unit}
use Rattle.code_length.proofs.LengthLaws.{inside}
use Rattle.code_length.specs.UnitNodes.{chosen, unit_nodes}

-- A number that passes the test is chosen.
module _ (q : ℕ → Bool) (n x : ℕ) (l : x < n) (e : q x ≡ true) where
  abbrev rest : ℕ → List ℕ
  rest i = chosen q (upto (i + 1) n)

  turned : (i : ℕ) → i < n → Mem x (cond (q i) (i ∷ rest i) (rest i)) → Mem x (chosen q (upto i n))
  turned i h m = subst (Mem x) (sym (fold_turn (λ n r. cond (q n) (n ∷ r) r) [] i n h)) m

  here : (i : ℕ) → i ≡ x → Mem x (cond (q i) (i ∷ rest i) (rest i))
  here i z = go (q i) refl
    where
      go : (b : Bool) → q i ≡ b → Mem x (cond b (i ∷ rest i) (rest i))
      go true d = inl (sym z)
      go false d = never (sym (subst (λ y. q y ≡ true) (sym z) e) ∙ d)

  behind : (i : ℕ) → Mem x (rest i) → Mem x (cond (q i) (i ∷ rest i) (rest i))
  behind i m = go (q i)
    where
      go : (b : Bool) → Mem x (cond b (i ∷ rest i) (rest i))
      go true = inr m
      go false = m

  pub chosen_from : (f i : ℕ) → x ≤ i + f → i ≤ x → Mem x (chosen q (upto i n))
  chosen_from zero i h a = turned i (omega arith) (here i (omega arith))
  chosen_from (suc f) i h a =
      turned i (omega arith)
      (⊎_elim (λ (z : i ≡ x). here i z) (λ (z : i < x). behind i (chosen_from f (i + 1) (omega arith) (omega arith))) (eq-or-lt_of_le a))

-- What holds of a node of the unit and so of its parts holds of each entry that its statement can list.
module _ (ns names : List ℕ) (Q : ℕ → Type 0) (down : (j c : ℕ) → Q j → Part ns j c → Q c) where
  abbrev Of : Entry → Type 0
  Of e = Q (node_of e)

  parts_of_lem : (j : ℕ) → Q j → All Q (order ns j)
  parts_of_lem j h = all_map (Part ns j) Q (λ c p. down j c h p) (order ns j) (order_all_lem ns j)

  module _ (S : ℕ → Stmt) (ih : (j : ℕ) → Q j → Lists Of (S j)) where
    list_of_lem : (js : List ℕ) → All Q js → ListsAll Of (list_of S js)
    list_of_lem [] a = tt
    list_of_lem (j ∷ js) a = (ih j a.0, list_of_lem js a.1)

    one_of_lem : (js : List ℕ) → All Q js → Lists Of (one_of S js)
    one_of_lem [] a = tt
    one_of_lem (j ∷ js) a = ih j a.0

    if_of_lem : (i : ℕ) → Q i → (js : List ℕ) → All Q js → Lists Of (if_of ns S i js)
    if_of_lem i h [] a = tt
    if_of_lem i h (j ∷ []) a = (h, ih j a.0)
    if_of_lem i h (j ∷ l ∷ ls) a = go (eqb (role_of ns j) role.Alternate)
      where
        go : (x : Bool) → Lists Of (cond x (if3 i (S j) (S l)) (if2 i (S j) (S l)))
        go true = (h, (ih j a.0, ih l a.1.0))
        go false = (h, (ih j a.0, ih l a.1.0))

    try_of_lem : (js : List ℕ) → All Q js → Lists Of (try_of ns S js)
    try_of_lem [] a = tt
    try_of_lem (b ∷ []) a = ih b a.0
    try_of_lem (b ∷ c ∷ []) a = go (eqb (role_of ns c) role.Finally)
      where
        go : (x : Bool) → Lists Of (cond x (try_f (S b) (S c)) (try_c (S b) (S c)))
        go true = (ih b a.0, ih c a.1.0)
        go false = (ih b a.0, ih c a.1.0)
    try_of_lem (b ∷ c ∷ d ∷ ds) a = ((ih b a.0, ih c a.1.0), ih d a.1.1.0)

    class_of_lem : (j : ℕ) → Q j → (ss : Stmts) → ListsAll Of ss → Lists Of (class_of j ss)
    class_of_lem j h nil a = h
    class_of_lem j h (cons s ss) a = (h, a)

    cases_of_lem : (js : List ℕ) → All Q js → ListsCases Of (cases_of ns S js)
    cases_of_lem [] a = tt
    cases_of_lem (j ∷ js) a = (list_of_lem (order ns j) (parts_of_lem j a.0), cases_of_lem js a.1)

    built : (j : ℕ) → Q j → (ps : List ℕ) → All Q ps → (s : Shape) → Lists Of (build ns names S j ps s)
    built j h ps a Single = h
    built j h ps a Class = class_of_lem j h (list_of S ps) (list_of_lem ps a)
    built j h ps a If = if_of_lem j h ps a
    built j h ps a With = (h, one_of_lem ps a)
    built j h ps a Block = list_of_lem ps a
    built j h ps a Label = one_of_lem ps a
    built j h ps a Loop = (h, one_of_lem ps a)
    built j h ps a Switch = (h, cases_of_lem ps a)
    built j h ps a Case = list_of_lem ps a
    built j h ps a Try = try_of_lem ps a
    built j h ps a Catch = one_of_lem ps a

  statement : (f j : ℕ) → Q j → Lists Of (stmt_at ns names f j)
  unfolding stmt_at
  statement zero j h = tt
  statement (suc f) j h = built (stmt_at ns names f) (statement f) j h (order ns j) (parts_of_lem j h) (shape_at ns j)

  pub body_of_lem : (b : ℕ) → All Q (order ns b) → ListsAll Of (body_of ns names b)
  unfolding body_of
  body_of_lem b a = list_of_lem (stmt_at ns names (count ns)) (statement (count ns)) (order ns b) a

module _ (ns : List ℕ) (t : Tree ns) (li : Listed ns) (pl : Placed ns) (co : Counted ns) (u : ℕ) (lu : u < count ns) (eu : is_unit (kind_of ns u) ≡ true) (names : List ℕ) where
  -- c stands in the table behind b, and is in b's code.
  record Inner (b c : ℕ) : Type 0 where
    behind : b < c
    below : c < count ns
    within : in_unit ns b c ≡ true

  inner_first : (b c : ℕ) → Part ns b c → Inner b c
  inner_first b c p = record { behind = p.behind; below = p.inside; within = in_down ns b (up_falls ns t) b c (omega arith) (in_root ns b) p }

  inner_down : (b j c : ℕ) → Inner b j → Part ns j c → Inner b c
  inner_down b j c h p =
      record {
        behind = omega (arith, h.behind, p.behind);
        below = p.inside;
        within = in_down ns b (up_falls ns t) j c (omega (arith, h.behind)) h.within p;
      }

  -- .. so that it is one of the unit's nodes.
  counted : (b : ℕ) → holder_of ns u ≡ Some (record { 0 = b }) → (c : ℕ) → Inner b c → Mem c (unit_nodes ns u)
  unfolding unit_nodes
  counted b q c i =
      chosen_from (of_unit ns u) (count ns) c i.below (inside ns t li pl co u lu eu b q c c (omega arith) i.behind i.below i.within) c 0 (omega arith) (omega arith)

  -- THE LAW
  pub unit_nodes_lem : ListsAll (λ e. Mem (node_of e) (unit_nodes ns u)) (unit_of ns names u)
  unfolding unit_of
  unit_nodes_lem = go (holder_of ns u) refl
    where
      go : (f : Option NodeId) → holder_of ns u ≡ f → ListsAll (λ e. Mem (node_of e) (unit_nodes ns u)) (unit_by ns names f)
      go None q = tt
      go (Some m) q =
          lists_all_as (λ e. Inner m.0 (node_of e)) (λ e. Mem (node_of e) (unit_nodes ns u)) (λ e i. counted m.0 q (node_of e) i) (body_of ns names m.0)
          (body_of_lem ns names (Inner m.0) (λ j c h p. inner_down m.0 j c h p) m.0 (all_map (Part ns m.0) (Inner m.0) (λ c p. inner_first m.0 c p) (order ns m.0) (order_all_lem ns m.0)))
