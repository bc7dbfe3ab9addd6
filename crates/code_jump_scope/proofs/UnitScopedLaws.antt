-- THE LAW: where each break and continue has its target, the statements of every unit are scoped, with `try` in any child order and static blocks. The search for a target
-- stops at the nearest unit, so that no jump leaves a static block that is entered.
use Rattle.table_records.specs.declared.NodeId.{NodeId}
use Prim.Native.Nat.{ℕ, zero, suc, ◌<◌}
use Rattle.std.specs.Prelude.{◌≡◌, ◌⊎◌, Bool, cond, eqb, Option, Some, None}
use Rattle.std.proofs.Math.Path.{refl, ap}
use Rattle.std.proofs.Common.{sym, subst, ◌∙◌, inl, inr, ⊎_elim, arith, eqb-true}
use mathlib.Core.List.{List, [], ◌∷◌}
use Rattle.std.proofs.Math.Bool.{true, false}
use Rattle.base_common.proofs.Bools.{range_of}
use Rattle.table_records.specs.Table.{kind_of, role_of, count}
use Rattle.table_records.specs.Facts.{Tree}
use Rattle.table_records.specs.Kinds as k
use Rattle.table_records.specs.Roles as role
use Rattle.check_jumps.specs.Jumps.{is_unit}
use Rattle.refusal_fields.specs.Fields.{Listed}
use Rattle.refusal_standing.specs.Standing.{Placed}
use Rattle.refusal_counts.specs.Counts.{Counted}
use Rattle.route_completion.specs.Tree.{simple, brk, con, ret, thr, Stmt, Stmts, if2, if3, try_c, try_f, nil, cons}
use Rattle.route_completion.specs.Sem.{Comp, comp_of, no_break}
use Rattle.route_completion.specs.Route.{Scoped, ScopedAll, ScopedCases, top_scope, loop_scope, label_scope}
use Rattle.code_tree.specs.Labels.{id_at, lab_at}
use Rattle.code_tree.specs.Parts.{shape_at, order}
use Rattle.code_tree.specs.Statements.{leaf_at, list_of, one_of, if_of, try_of, class_of, cases_of, build, stmt_at, body_of, holder_of, unit_by, unit_of}
use Rattle.code_tree.proofs.PartsLaws.{All, order_all_lem}
use Rattle.code_tree.specs.Parts.{Part}
use Rattle.code_tree.specs.declared.Shape.{Shape}
use Rattle.code_tree.specs.declared.Shape.TheVariants.{Leaf as Single, Class, If, With, Block, Label, Loop, Switch, Case, Try, Catch}
use Rattle.code_layout.specs.Shaped.{is_switch, Two, Three, Good}
use Rattle.code_wellformed.proofs.KindsLaws.{case_kind, case_shape}
use Rattle.code_wellformed.proofs.Parts.{good}
use Rattle.code_wellformed.proofs.ReadyLaws.{block_shape}
use Rattle.code_wellformed.proofs.Holder.{holder_root, holder_in_lem, holder_holds}
use Rattle.code_jump_scope.proofs.ScopeAt.{Scope, scope_of, part_scope, scope_at, scope_root, scope_up, Member, member_root, member_down}
use Rattle.code_jump_scope.proofs.Reach.{Root, at_normal, at_returns, at_throws, reach_break, reach_continue}
use Rattle.code_jump_scope.specs.UnitScoped.{Targeted}

module _ (ns names : List ℕ) (b : ℕ) (g : Good ns) (pl : Placed ns) (root : Root ns b) (targets : Targeted ns names) where
  abbrev at : ℕ → Scope
  at j = scope_at ns names b j

  abbrev In : ℕ → Type 0
  In j = Member ns names b g.falls j

  abbrev Fits : (ℕ → Stmt) → Type 0
  Fits S = (j : ℕ) → b < j → In j → Scoped (S j) (at j).labels (at j).scope

  module _ (S : ℕ → Stmt) (fits : Fits S) (i : ℕ) (l : In i) where
    -- The parts of i, whose scope is a.
    module _ (a : Scope) (e : part_scope ns names b (shape_at ns i) i (at i) ≡ a) where
      part_at_lem : (j : ℕ) → Part ns i j → at j ≡ a
      part_at_lem j w =
          let f = l.from in
          let h = w.behind in
          scope_up ns names b g.falls j (omega arith) w.inside ∙ ap (λ (p : ℕ). part_scope ns names b (shape_at ns p) p (at p)) w.parent ∙ e

      part_fits : (j : ℕ) → Part ns i j → Scoped (S j) a.labels a.scope
      part_fits j w =
          let f = l.from in
          let h = w.behind in
          subst (λ (x : Scope). Scoped (S j) x.labels x.scope) (part_at_lem j w) (fits j (omega arith) (member_down ns names b g.falls i j l w))

      one_fits : (ps : List ℕ) → All (Part ns i) ps → Scoped (one_of S ps) a.labels a.scope
      one_fits [] m = tt
      one_fits (j ∷ js) m = part_fits j m.0

    module _ (σ : Comp → Bool) (e : part_scope ns names b (shape_at ns i) i (at i) ≡ scope_of [] σ) where
      list_fits : (ps : List ℕ) → All (Part ns i) ps → ScopedAll (list_of S ps) σ
      list_fits [] m = tt
      list_fits (j ∷ js) m = (part_fits (scope_of [] σ) e j m.0, list_fits js m.1)

      if_fits : (ls : List ℕ) (ps : List ℕ) → All (Part ns i) ps → Scoped (if_of ns S i ps) ls σ
      if_fits ls [] m = tt
      if_fits ls (j ∷ []) m = part_fits (scope_of [] σ) e j m.0
      if_fits ls (j ∷ d ∷ ds) m = go (eqb (role_of ns j) role.Alternate) (part_fits (scope_of [] σ) e j m.0) (part_fits (scope_of [] σ) e d m.1.0)
        where
          go : (x : Bool) → Scoped (S j) [] σ → Scoped (S d) [] σ → Scoped (cond x (if3 i (S j) (S d)) (if2 i (S j) (S d))) ls σ
          go true p q = (p, q)
          go false p q = (p, q)

      class_fits : (ls : List ℕ) (ss : Stmts) → ScopedAll ss σ → σ (comp_of simple) ≡ true → Scoped (class_of i ss) ls σ
      class_fits ls nil m n = n
      class_fits ls (cons s ss) m n = m

      -- A Try has two parts or three.
      two_fits : (ls : List ℕ) (r s : ℕ) → Two ns i r s → Scoped (try_of ns S (order ns i)) ls σ
      two_fits ls r s w =
          let (c, d, q, y, z) = w in
          let m = subst (All (Part ns i)) q (order_all_lem ns i) in
          subst (λ ps. Scoped (try_of ns S ps) ls σ) (sym q) (go c d (eqb (role_of ns d) role.Finally) (part_fits (scope_of [] σ) e c m.0) (part_fits (scope_of [] σ) e d m.1.0))
        where
          go : (c d : ℕ) (x : Bool) → Scoped (S c) [] σ → Scoped (S d) [] σ → Scoped (cond x (try_f (S c) (S d)) (try_c (S c) (S d))) ls σ
          go c d true p q = (p, q)
          go c d false p q = (p, q)

      try_fits : (ls : List ℕ) → Two ns i 3 4 ⊎ (Two ns i 3 5 ⊎ Three ns i) → Scoped (try_of ns S (order ns i)) ls σ
      try_fits ls (inl w) = two_fits ls 3 4 w
      try_fits ls (inr (inl w)) = two_fits ls 3 5 w
      try_fits ls (inr (inr w)) =
          let (c, d, f, q, x, y, z) = w in
          let m = subst (All (Part ns i)) q (order_all_lem ns i) in
          subst (λ ps. Scoped (try_of ns S ps) ls σ) (sym q)
          ((part_fits (scope_of [] σ) e c m.0, part_fits (scope_of [] σ) e d m.1.0), part_fits (scope_of [] σ) e f m.1.1.0)

  module _ (S : ℕ → Stmt) (fits : Fits S) (i : ℕ) (l : In i) (q : shape_at ns i ≡ Switch) where
    -- The cases of a Switch.
    case_fits : (ps : List ℕ) → All (Part ns i) ps → ScopedCases (cases_of ns S ps) (λ c. (at i).scope (no_break c))
    case_fits [] m = tt
    case_fits (j ∷ js) m =
        let h = m.0.behind in
        let e : part_scope ns names b (shape_at ns i) i (at i) ≡ scope_of [] (λ c. (at i).scope (no_break c)) = ap (λ (s : Shape). part_scope ns names b s i (at i)) q in
        let z : at j ≡ scope_of [] (λ c. (at i).scope (no_break c)) = part_at_lem S fits i l (scope_of [] (λ c. (at i).scope (no_break c))) e j m.0 in
        let y : shape_at ns j ≡ Case =
        case_shape (kind_of ns j) (case_kind (kind_of ns j)
        (g.shaped.cases j (omega arith) m.0.inside m.0.part ∙ ap (λ (p : ℕ). is_switch (shape_at ns p)) m.0.parent ∙ ap is_switch q)) in
        let w : part_scope ns names b (shape_at ns j) j (at j) ≡ scope_of [] (λ c. (at i).scope (no_break c)) =
        ap (λ (s : Shape). part_scope ns names b s j (at j)) y ∙ ap (λ (x : Scope). scope_of [] x.scope) z in (
          list_fits S fits j (member_down ns names b g.falls i j l m.0) (λ c. (at i).scope (no_break c)) w (order ns j) (order_all_lem ns j),
          case_fits js m.1,
        )

  module _ (j : ℕ) (h : b < j) (l : In j) where
    -- A statement without parts.
    leaf_fits : (at j).scope (comp_of (leaf_at ns names j)) ≡ true
    unfolding leaf_at
    leaf_fits = breaks (eqb (kind_of ns j) k.Break) refl
      where
        throws : (x : Bool) → (at j).scope (comp_of (cond x thr simple)) ≡ true
        throws true = at_throws ns names b g pl root j l
        throws false = at_normal ns names b g pl root j l

        returns : (x : Bool) → (at j).scope (comp_of (cond x ret (cond (eqb (kind_of ns j) k.Throw) thr simple))) ≡ true
        returns true = at_returns ns names b g pl root j l
        returns false = throws (eqb (kind_of ns j) k.Throw)

        continues : (x : Bool) → eqb (kind_of ns j) k.Continue ≡ x
            → (at j).scope (comp_of (cond x (con (lab_at ns names j)) (cond (eqb (kind_of ns j) k.Return) ret (cond (eqb (kind_of ns j) k.Throw) thr simple)))) ≡ true
        continues true q =
            let w = eqb-true (kind_of ns j) k.Continue q in
            reach_continue ns names b g pl root j h l (targets j l.below (omega arith) (omega arith)) w
        continues false q = returns (eqb (kind_of ns j) k.Return)

        breaks : (x : Bool) → eqb (kind_of ns j) k.Break ≡ x
            → (at j).scope (comp_of (cond x (brk (lab_at ns names j)) (cond (eqb (kind_of ns j) k.Continue) (con (lab_at ns names j))
            (cond (eqb (kind_of ns j) k.Return) ret (cond (eqb (kind_of ns j) k.Throw) thr simple))))) ≡ true
        breaks true q =
            let w = eqb-true (kind_of ns j) k.Break q in
            reach_break ns names b g pl root j h l (targets j l.below (omega arith) (omega arith)) w
        breaks false q = continues (eqb (kind_of ns j) k.Continue) refl

    module _ (S : ℕ → Stmt) (fits : Fits S) where
      by_shape : (s : Shape) → shape_at ns j ≡ s → part_scope ns names b (shape_at ns j) j (at j) ≡ part_scope ns names b s j (at j)
      by_shape s q = ap (λ (s : Shape). part_scope ns names b s j (at j)) q

      build_fits : (s : Shape) → shape_at ns j ≡ s → Scoped (build ns names S j (order ns j) s) (at j).labels (at j).scope
      build_fits Single q = leaf_fits
      build_fits Class q =
          class_fits S fits j l (at j).scope (by_shape Class q) (at j).labels (list_of S (order ns j)) (list_fits S fits j l (at j).scope (by_shape Class q) (order ns j) (order_all_lem ns j))
          (at_normal ns names b g pl root j l)
      build_fits If q = if_fits S fits j l (at j).scope (by_shape If q) (at j).labels (order ns j) (order_all_lem ns j)
      build_fits With q = one_fits S fits j l (scope_of [] (at j).scope) (by_shape With q) (order ns j) (order_all_lem ns j)
      build_fits Block q = list_fits S fits j l (at j).scope (by_shape Block q) (order ns j) (order_all_lem ns j)
      build_fits Label q = one_fits S fits j l (scope_of (id_at ns names j ∷ (at j).labels) (label_scope (id_at ns names j) (at j).scope)) (by_shape Label q) (order ns j) (order_all_lem ns j)
      build_fits Loop q = one_fits S fits j l (scope_of [] (loop_scope (at j).labels (at j).scope)) (by_shape Loop q) (order ns j) (order_all_lem ns j)
      build_fits Switch q = case_fits S fits j l q (order ns j) (order_all_lem ns j)
      build_fits Case q = list_fits S fits j l (at j).scope (by_shape Case q) (order ns j) (order_all_lem ns j)
      build_fits Try q = try_fits S fits j l (at j).scope (by_shape Try q) (at j).labels (g.shaped.tries j l.below q)
      build_fits Catch q = one_fits S fits j l (scope_of (at j).labels (at j).scope) (by_shape Catch q) (order ns j) (order_all_lem ns j)

  -- A statement of the unit, in the scope at its node.
  stmt_fits : (f : ℕ) → Fits (stmt_at ns names f)
  unfolding stmt_at
  stmt_fits zero j h l = tt
  stmt_fits (suc f) j h l = build_fits j h l (stmt_at ns names f) (stmt_fits f) (shape_at ns j) refl

  pub body_scoped : ScopedAll (body_of ns names b) top_scope
  unfolding body_of
  body_scoped =
      list_fits (stmt_at ns names (count ns)) (stmt_fits (count ns)) b (member_root ns names b g.falls root.below) top_scope
      (ap (λ (s : Shape). part_scope ns names b s b (at b)) root.block ∙ ap (λ (x : Scope). scope_of [] x.scope) (scope_root ns names b))
      (order ns b) (order_all_lem ns b)

-- The holder of a unit's statements.
root_of : (ns : List ℕ) (u : ℕ) → u < count ns → is_unit (kind_of ns u) ≡ true → (b : ℕ) → holder_of ns u ≡ Some (record { 0 = b }) → Root ns b
root_of ns u lu e b h =
    let low = (range_of (kind_of ns u) k.Program k.StaticBlock e).1 in
    record {
      below = holder_in_lem ns u lu low b h;
      block = block_shape (kind_of ns b) (holder_holds ns u lu low b h);
      unit =
          ⊎_elim (λ w. inl (ap (λ (p : ℕ). is_unit (kind_of ns p)) w.0 ∙ e))
          (λ w. let x = w.1 in inr (w.0, omega arith, ap (λ (p : ℕ). is_unit (kind_of ns p)) w.3 ∙ e)) (holder_root ns u lu low b h);
    }

module _ (ns names : List ℕ) (t : Tree ns) (li : Listed ns) (pl : Placed ns) (co : Counted ns) (targets : Targeted ns names) (u : ℕ) (lu : u < count ns) (e : is_unit (kind_of ns u) ≡ true) where
  pub unit_scoped : ScopedAll (unit_of ns names u) top_scope
  unfolding unit_of
  unit_scoped = go (holder_of ns u) refl
    where
      go : (x : Option NodeId) → holder_of ns u ≡ x → ScopedAll (unit_by ns names x) top_scope
      go (Some m) h = body_scoped ns names m.0 (good ns t li pl co) pl (root_of ns u lu e m.0 h) targets
      go None h = tt
